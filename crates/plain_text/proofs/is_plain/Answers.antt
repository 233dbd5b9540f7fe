-- `is_plain` meets its contract: what is left tells the same; the last eight bytes tell of what is left, if anything.
-- Assumes nothing.
use mathlib.Core.Path.{refl, sym, ◌∙◌}
use native.Mathlib.Omega.{arith}
use Rattle.text.specs.AllLaws.{scan_end}
use Rattle.plain_text.proofs.Eights.{eight_miss, eight_next, last_eight}
use borrow.Author.Rules.{rules}
use Rattle.plain_text.proofs.is_plain.Goals as goal

pub loop-i-init : goal.loop-i-init
loop-i-init c = record { bound = omega arith; same = refl }

pub returns-then-not-eight : goal.returns-then-not-eight
returns-then-not-eight c = eight_miss c.loop-i.invariant (sym (c.if-not-eight.true) ∙ c.eight.ensures)

pub loop-i-preserved : goal.loop-i-preserved
loop-i-preserved c = eight_next c.loop-i.invariant (sym (c.if-not-eight.false) ∙ c.eight.ensures) (search rules)

pub returns-then-i-s : goal.returns-then-i-s
returns-then-i-s c = scan_end c.loop-i.invariant (omega arith)

pub returns : goal.returns
returns c = c.eight-2.ensures ∙ last_eight c.loop-i.invariant (search rules) (search rules)
