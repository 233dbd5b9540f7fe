-- `eight` meets its contract: what was looked at, and what is left of the eight, tell the same.
-- Assumes nothing.
use mathlib.Core.Path.{sym, ◌∙◌}
use native.Mathlib.Nat.{add-zero, sub-zero}
use Rattle.plain_text.proofs.Eights.{eight_one, eight_none}
use borrow.Author.Rules.{rules}
use Rattle.plain_text.proofs.eight.Goals as goal

pub loop-j-init : goal.loop-j-init
loop-j-init c = (search rules, simp (add-zero, sub-zero))

pub loop-j-preserved : goal.loop-j-preserved
loop-j-preserved c =
    let args = c.args in (
      search rules,
      rw c.plain_byte-all.ensures (c.loop-j.invariant.1 ∙ eight_one args.s.now args.a c.loop-j.j c.loop-j.all (search rules) (search rules)),
    )

pub returns : goal.returns
returns c =
    let args = c.args in
    sym (c.loop-j.invariant.1 ∙ eight_none c.loop-j.all args.s.now args.a c.loop-j.j (search rules))
