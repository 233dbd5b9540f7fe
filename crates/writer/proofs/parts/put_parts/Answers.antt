-- The invariant: what is left to write.
-- Assumes nothing.
use Prim.Native.Nat.{◌+◌, ◌-◌, ◌<◌, ◌≤◌}
use native.Mathlib.Omega.{arith}
use mathlib.Core.Path.{◌≡◌}
use Rattle.put.specs.OutputLaws.{left-start}
use Rattle.writer.proofs.ManyLaws.{many-room, many-step, many-done}
use Rattle.writer.proofs.parts.put_parts.Goals as goal

pub loop-p-init : goal.loop-p-init
loop-p-init c = let z : c.args.q + c.args.n - c.args.q ≡ c.args.n = omega arith in rw z (left-start c.requires.room_for)

pub put_part-a-requires : goal.put_part-a-requires
put_part-a-requires c =
    let h : 0 < c.args.q + c.args.n - c.loop-p.p = omega arith in
    record { q_in_bounds = omega arith; texts_inside = record { spans = λ f k g h. c.requires.texts_inside.spans f k (omega arith) (omega arith) }; room_for = many-room _ _ _ _ c.loop-p.invariant h }

pub loop-p-preserved : goal.loop-p-preserved
loop-p-preserved c =
    let z : c.args.q + c.args.n - c.loop-p.p - 1 ≡ c.args.q + c.args.n - (c.loop-p.p + 1) = omega arith in
    let h : 0 < c.args.q + c.args.n - c.loop-p.p = omega arith in
    rw (← z) (many-step _ _ _ _ c.loop-p.invariant h c.put_part-a.ensures)

pub shape_of-out : goal.shape_of-out
shape_of-out c = c.loop-p.invariant.long

pub returns : goal.returns
returns c = let h : c.args.q + c.args.n - c.loop-p.p ≤ 0 = omega arith in many-done _ _ _ _ c.loop-p.invariant h
