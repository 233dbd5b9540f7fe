-- By whether the number has a place. Assumes nothing.
use native.Mathlib.Omega.{arith}
use mathlib.Core.Path.{refl, sym, ◌∙◌}
use borrow.Author.Rules.{rules}
use Rattle.block.proofs.parts.in_block.Goals as goal

pub overflow_add-result : goal.overflow_add-result
overflow_add-result c = omega (arith, c.requires)

pub returns-then-has_place : goal.returns-then-has_place
returns-then-has_place c = rw (sym c.has_place.ensures ∙ c.if-has_place.true)

pub returns : goal.returns
returns c = rw (sym c.has_place.ensures ∙ c.if-has_place.false)
