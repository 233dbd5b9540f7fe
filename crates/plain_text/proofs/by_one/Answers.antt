-- What is left to test tells the same as the whole. Assumes nothing.
use mathlib.Core.Path.{refl, sym, ◌∙◌}
use native.Mathlib.Omega.{arith}
use Rattle.text.specs.AllLaws.{scan_miss, scan_next, scan_end}
use borrow.Author.Rules.{rules}
use Rattle.plain_text.proofs.by_one.Goals as goal

pub loop-b-init : goal.loop-b-init
loop-b-init c = record { bound = omega arith; same = refl }

pub returns-then-not-plain_byte : goal.returns-then-not-plain_byte
returns-then-not-plain_byte c = scan_miss c.loop-b.invariant (search rules) (sym (c.if-not-plain_byte.true) ∙ c.plain_byte.ensures)

pub loop-b-preserved : goal.loop-b-preserved
loop-b-preserved c = scan_next c.loop-b.invariant (search rules) (sym (c.if-not-plain_byte.false) ∙ c.plain_byte.ensures)

pub returns : goal.returns
returns c = scan_end c.loop-b.invariant (search rules)
