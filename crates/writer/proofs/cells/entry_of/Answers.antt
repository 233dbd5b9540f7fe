-- The row's bytes are those of its part alone.
-- Assumes nothing.
use Prim.Native.Nat.{◌+◌, ◌-◌, ◌*◌}
use native.Mathlib.Omega.{arith}
use mathlib.Core.Path.{◌≡◌, ◌∙◌}
use Rattle.entry.specs.EntryLaws.{row-bytes-alone}
use Rattle.writer.proofs.cells.entry_of.Goals as goal

pub returns : goal.returns
returns c =
    let a = 9 * c.args.q in
    let n : a + 9 - a ≡ 9 = omega arith in
    c.row_bytes.ensures ∙ rw n (row-bytes-alone c.args.rows.now a)
