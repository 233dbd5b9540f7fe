-- The section is handed on as its own part. Assumes nothing.
use mathlib.Core.Path.{sym, ◌∙◌}
use native.Mathlib.Omega.{arith}
use Rattle.codec.specs.Telling.{handed_on}
use Rattle.numbers.specs.NumberLaws.{part-place}
use Rattle.symbology.specs.RefusalLaws.{section-refuses-within}
use Rattle.block.proofs.PartLaws.{within-at, symbology-cut, symbology-reads}
use borrow.Author.Rules.{rules}
use Rattle.block.proofs.parts.symbology_part.Goals as goal

pub overflow_add-end : goal.overflow_add-end
overflow_add-end c = omega (arith, (within-at c.section_at.ensures.1 c.in_ok-start.was))

pub slice_bounds-part-count : goal.slice_bounds-part-count
slice_bounds-part-count c = omega (arith, (within-at c.section_at.ensures.1 c.in_ok-start.was))

pub slice_bounds-part-start : goal.slice_bounds-part-start
slice_bounds-part-start c = omega (arith, (within-at c.section_at.ensures.1 c.in_ok-start.was))

pub slice_bounds-part-end : goal.slice_bounds-part-end
slice_bounds-part-end c = omega (arith, (within-at c.section_at.ensures.1 c.in_ok-start.was))

pub overflow_add-start : goal.overflow_add-start
overflow_add-start c =
    let w = within-at c.section_at.ensures.1 c.in_ok-start.was in
    omega (arith, part-place c.args.block.now _ _ (section-refuses-within _ _ _ _ c.read_section_rows.ensures c.in-Err.is) (omega arith) w.1, c.requires.1)

pub returns-in-Ok : goal.returns-in-Ok
returns-in-Ok c = symbology-reads _ c.args.block.now _ c.requires.1 _ (sym c.section_at.ensures.0 ∙ c.in_ok-start.was) (within-at c.section_at.ensures.1 c.in_ok-start.was) c.read_section_rows.ensures c.in-Ok.is

pub returns-in-Err : goal.returns-in-Err
returns-in-Err c = rw c.refuse.ensures (symbology-reads _ c.args.block.now _ c.requires.1 _ (sym c.section_at.ensures.0 ∙ c.in_ok-start.was) (within-at c.section_at.ensures.1 c.in_ok-start.was) c.read_section_rows.ensures c.in-Err.is)

pub returns-in_err-start : goal.returns-in_err-start
returns-in_err-start c = rw (handed_on c.from_residual.ensures) (symbology-cut _ c.args.block.now _ _ (sym c.section_at.ensures.0 ∙ c.in_err-start.was))
