-- The eleven bytes, which are all there or are read one by one.
-- Assumes nothing.
use native.Mathlib.Nat.{add-zero}
use mathlib.Core.Path.{ap, ◌∙◌}
use lib.ListN.{get_or}
use borrow.Author.Rules.{rules}
use Rattle.entry.proofs.entry_bytes.Goals as goal

pub returns : goal.returns
returns c =
    let args = c.args in
    rw (
      c.byte.ensures ∙ ap (λ n. get_or args.s.now n 0) (add-zero args.at),
      c.byte-2.ensures,
      c.byte-3.ensures,
      c.byte-4.ensures,
      c.byte-5.ensures,
      c.byte-6.ensures,
      c.byte-7.ensures,
      c.byte-8.ensures,
      c.byte-9.ensures,
      c.byte-10.ensures,
      c.byte-11.ensures,
    )
