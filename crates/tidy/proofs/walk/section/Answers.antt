-- The count after the name, as many items, and the section's end. Assumes nothing.
use native.Mathlib.Omega.{arith}
use mathlib.Core.Path.{sym, ◌∙◌}
use Rattle.std.proofs.lemmas.Result.{err_from_is_err_and}
use Rattle.tidy.specs.Walk.{nowhere}
use Rattle.tidy.proofs.Laws.{closing-near, section-is}
use Rattle.tidy.proofs.walk.section.Goals as goal

pub overflow_add-name : goal.overflow_add-name
overflow_add-name c = omega (arith, c.requires, c.own_bytes.ensures.1)

pub overflow_add-count_at : goal.overflow_add-count_at
overflow_add-count_at c = omega (arith, c.requires, c.own_bytes.ensures.1, c.u8_of.ensures.1)

pub overflow_add-count_at-2 : goal.overflow_add-count_at-2
overflow_add-count_at-2 c = omega (arith, c.requires, c.own_bytes.ensures.1, c.u8_of.ensures.1)

pub overflow_add-count_at-3 : goal.overflow_add-count_at-3
overflow_add-count_at-3 c = omega (arith, c.requires, c.own_bytes.ensures.1, c.u8_of.ensures.1)

pub items-requires : goal.items-requires
items-requires c = (omega (arith, c.requires, c.own_bytes.ensures.1, c.u8_of.ensures.1), c.u16_of-count.ensures.1)

pub overflow_add-at : goal.overflow_add-at
overflow_add-at c = omega (arith, c.requires, c.u16_of-len.ensures.1)

pub returns : goal.returns
returns c = (
  c.closing.ensures ∙ rw c.u16_of-len.ensures.0 (sym (section-is _ _ _ c.own_bytes.ensures.0 c.u8_of.ensures.0 c.u16_of-count.ensures.0 (sym c.items.ensures ∙ c.in_ok-p.was))),
  closing-near _ _ _ c.closing.ensures (omega (arith, c.u16_of-len.ensures.1)),
)

pub returns-in_err-p : goal.returns-in_err-p
returns-in_err-p c =
    let p = err_from_is_err_and c.from_residual.result c.from_residual.ensures.1 in
    rw (p.1, p.2) (sym (section-is _ _ _ c.own_bytes.ensures.0 c.u8_of.ensures.0 c.u16_of-count.ensures.0 (sym c.items.ensures ∙ c.in_err-p.was)), nowhere)
