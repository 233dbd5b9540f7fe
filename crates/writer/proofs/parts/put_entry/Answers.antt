-- The eleven, then zeros.
-- Assumes nothing.
use Prim.Native.Nat.{ℕ, ◌-◌}
use mathlib.Core.Path.{ap, ◌∙◌}
use mathlib.Core.List.{◌++◌}
use lib.ListN.{replicate}
use Rattle.wire.specs.Reader.{all_tests}
use Rattle.layout.specs.LayoutOf.{D, D-is}
use Rattle.layout.specs.PrintLaws.{entry-print}
use Rattle.rows_check.specs.Tree.{entry_with_zeros}
use Rattle.put.specs.OutputLaws.{left-start, left_stored, left-last}
use Rattle.writer.proofs.parts.put_entry.Goals as goal

pub returns : goal.returns
returns c =
    let e = c.args.e in
    let print = entry-print all_tests D (entry_with_zeros e) ∙ ap (λ (d : ℕ). e ++ replicate (d - 11) 0) D-is in
    left-last (left_stored (left-start c.requires) _ print c.put_bytes-a.ensures) c.put_zeros.ensures
