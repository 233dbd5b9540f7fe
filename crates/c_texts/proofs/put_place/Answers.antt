-- A number with a place has it stored at 13, which is past an `out` of 13 or fewer; any other stores nothing.
-- Assumes nothing.
use mathlib.Core.Path.{sym, ◌∙◌}
use lib.Seq.{set_out}
use borrow.Author.Rules.{rules}
use Rattle.c_texts.proofs.put_place.Goals as goal

pub returns-then-out-gt13 : goal.returns-then-out-gt13
returns-then-out-gt13 c = rw (sym c.has_place.ensures ∙ c.if-has_place.true)

pub returns-else-out-gt13 : goal.returns-else-out-gt13
returns-else-out-gt13 c = rw (sym c.has_place.ensures ∙ c.if-has_place.true) (sym (set_out _ 13 _ c.if-out-gt13.false))

pub returns-else-has_place : goal.returns-else-has_place
returns-else-has_place c = rw (sym c.has_place.ensures ∙ c.if-has_place.false)
