-- The records are there, and the count after them; then the structs and the rules. Assumes nothing.
use native.Mathlib.Omega.{arith}
use mathlib.Core.Path.{refl, sym, ap, ◌∙◌}
use Rattle.codec.specs.Telling.{passed, all_passed}
use Rattle.item_rules.proofs.Verdicts.{sections-none, sections-out, sections-done}
use Rattle.item_rules.proofs.section_rules.Goals as goal

pub overflow_add-structs : goal.overflow_add-structs
overflow_add-structs c = omega (arith, c.left.ensures, c.if-left-lt2.false)

pub counted_rules-requires : goal.counted_rules-requires
counted_rules-requires c = record { records_stand = c.in-Some.ensures.0; left_bound = c.u16_of-2.ensures.1 }

pub returns-in_default : goal.returns-in_default
returns-in_default c = all_passed _ (sym (sections-none _ _ _ _ c.u16_of.ensures.0 c.in_default.ensures))

pub returns-then-left-lt2 : goal.returns-then-left-lt2
returns-then-left-lt2 c = all_passed _ (sym (sections-out _ _ _ _ c.u16_of.ensures.0 c.in-Some.ensures (rw c.left.ensures at c.if-left-lt2.true)))

pub returns : goal.returns
returns c = c.counted_rules.ensures ∙ ap passed (sections-done _ _ _ _ c.u16_of.ensures.0 c.in-Some.ensures (rw c.left.ensures at c.if-left-lt2.false) c.u16_of-2.ensures.0 refl)
