-- The sum, and the sections that are left, give the same.
-- Assumes nothing.
use Rattle.std.proofs.Common.{◌≡◌, ◌+◌, ◌-◌, ◌<◌, refl, sym, ◌∙◌, arith}
use lib.Dec.{leb}
use Rattle.rows_check.specs.SectionLaws.{own-row-inside, sections-next, skip-next, skip-none}
use Rattle.rows_check.proofs.SizeLaws.{section-step, section-done, size-le}
use Rattle.rows_check.proofs.sizes.sections_size.Goals as goal

pub loop-init : goal.loop-init
loop-init c = let z : c.args.k - 0 ≡ c.args.k = omega arith in rw z (c.requires.sections, refl, c.requires.sum_bound, refl)

pub body_size-requires : goal.body_size-requires
body_size-requires c =
    let args = c.args in
    let s = sections-next args.kind args.rows.now args.text.now c.loop.p (args.k - c.loop.counter) (omega arith) c.loop.invariant.0 in
    record { q_in_bounds = own-row-inside _ _ _ _ s.0; section_rows = s.0 }

pub add_section-s-requires : goal.add_section-s-requires
add_section-s-requires c = omega arith

pub next_section-p-requires : goal.next_section-p-requires
next_section-p-requires c =
    let args = c.args in
    let s = sections-next args.kind args.rows.now args.text.now c.loop.p (args.k - c.loop.counter) (omega arith) c.loop.invariant.0 in
    own-row-inside _ _ _ _ s.0

pub loop-preserved : goal.loop-preserved
loop-preserved c =
    let args = c.args in
    let loop = c.loop in
    let z : args.k - loop.counter - 1 ≡ args.k - (loop.counter + 1) = omega arith in
    let h : 0 < args.k - loop.counter = omega arith in
    let s = sections-next args.kind args.rows.now args.text.now loop.p (args.k - loop.counter) h loop.invariant.0 in
    rw (c.next_section-p.ensures, ← z) (
      s.1,
      sym (skip-next args.kind args.rows.now loop.p (args.k - loop.counter) h) ∙ loop.invariant.1,
      rw c.add_section-s.ensures (size-le (leb (c.body_size.result + 2) 65535) (loop.s + (c.body_size.result + 2))),
      section-step args.kind args.rows.now args.text.now loop.p (args.k - loop.counter) loop.s c.body_size.result c.add_section-s.result h c.body_size.ensures c.add_section-s.ensures ∙ loop.invariant.3,
    )

pub returns : goal.returns
returns c =
    let args = c.args in
    let loop = c.loop in (
      section-done args.kind args.rows.now args.text.now loop.p (args.k - loop.counter) _ (omega arith) loop.invariant.2 ∙ loop.invariant.3,
      sym (skip-none args.kind args.rows.now loop.p (args.k - loop.counter) (omega arith)) ∙ loop.invariant.1,
    )
