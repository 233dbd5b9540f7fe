-- The invariant: what is left to write.
-- Assumes nothing.
use Prim.Native.Nat.{◌+◌, ◌-◌, ◌<◌, ◌≤◌}
use native.Mathlib.Omega.{arith}
use mathlib.Core.Path.{◌≡◌, refl, sym, ◌∙◌}
use Rattle.rows_check.specs.SectionLaws.{own-row-inside, sections-next, skip-next, skip-none}
use Rattle.put.specs.OutputLaws.{left-start}
use Rattle.writer.proofs.ManyLaws.{many-room, many-step, many-done}
use Rattle.writer.proofs.sections.put_sections.Goals as goal

pub loop-init : goal.loop-init
loop-init c = let z : c.args.k - 0 ≡ c.args.k = omega arith in rw z (c.requires.sections, refl, left-start c.requires.room_for)

pub put_section-a-requires : goal.put_section-a-requires
put_section-a-requires c =
    let args = c.args in
    let h : 0 < args.k - c.loop.counter = omega arith in
    let s = sections-next args.kind args.rows.now args.text.now c.loop.p (args.k - c.loop.counter) h c.loop.invariant.0 in
    record { q_in_bounds = own-row-inside _ _ _ _ s.0; section_rows = s.0; room_for = many-room _ _ _ _ c.loop.invariant.2 h }

pub next_row-p-requires : goal.next_row-p-requires
next_row-p-requires c =
    let args = c.args in
    let loop = c.loop in
    let s = sections-next args.kind args.rows.now args.text.now loop.p (args.k - loop.counter) (omega arith) loop.invariant.0 in
    own-row-inside _ _ _ _ s.0

pub loop-preserved : goal.loop-preserved
loop-preserved c =
    let args = c.args in
    let loop = c.loop in
    let z : args.k - loop.counter - 1 ≡ args.k - (loop.counter + 1) = omega arith in
    let h : 0 < args.k - loop.counter = omega arith in
    let s = sections-next args.kind args.rows.now args.text.now loop.p (args.k - loop.counter) h loop.invariant.0 in
    rw (c.next_row-p.ensures, ← z)
    (s.1, sym (skip-next args.kind args.rows.now loop.p (args.k - loop.counter) h) ∙ loop.invariant.1, many-step _ _ _ _ loop.invariant.2 h c.put_section-a.ensures)

pub shape_of-out : goal.shape_of-out
shape_of-out c = c.loop.invariant.2.long

pub returns : goal.returns
returns c =
    let args = c.args in
    let loop = c.loop in
    let h : args.k - loop.counter ≤ 0 = omega arith in
    record { wrote = many-done _ _ _ _ loop.invariant.2 h; row = sym (skip-none args.kind args.rows.now loop.p (args.k - loop.counter) h) ∙ loop.invariant.1 }
