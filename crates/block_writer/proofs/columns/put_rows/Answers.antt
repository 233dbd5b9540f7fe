-- The invariant: the rows that are left can be stored, and what is left to write is theirs.
-- Assumes nothing.
use Prim.Native.Nat.{◌+◌, ◌-◌, ◌<◌}
use native.Mathlib.Omega.{arith}
use mathlib.Core.Path.{◌≡◌}
use Rattle.put.specs.OutputLaws.{left-start, left_stored, left-done}
use Rattle.row_bytes.specs.RowLaws.{good-stands, row_stored}
use Rattle.block_writer.specs.PutLaws.{rows_none, rows_next, next-ready}
use Rattle.block_writer.proofs.columns.put_rows.Goals as goal

pub loop-r-init : goal.loop-r-init
loop-r-init c = let z : c.args.from + c.args.n - c.args.from ≡ c.args.n = omega arith in rw z (c.requires.rows_ready, left-start c.requires.room_for)

pub overflow_add-r-end : goal.overflow_add-r-end
overflow_add-r-end c = omega (arith, c.requires.rows_ready.few)

pub loop-r-preserved : goal.loop-r-preserved
loop-r-preserved c =
    let args = c.args in
    let loop = c.loop-r in
    let taken : 0 < args.from + args.n - loop.r = omega (arith, c.loop-r-test.true) in
    let z : args.from + args.n - loop.r - 1 ≡ args.from + args.n - (loop.r + 1) = omega arith in
    let (first, rest) = next-ready args.width args.table.now args.text.now loop.r (args.from + args.n - loop.r) taken loop.invariant.0 in
    let stands = good-stands args.width args.table.now args.text.now loop.r first.good first.kind in
    rw (← z)
    (rest, left_stored loop.invariant.1 _ (rows_next args.width args.table.now args.text.now loop.r (args.from + args.n - loop.r) taken) (row_stored args.width args.table.now args.text.now loop.r stands c.put_row-a.ensures))

pub shape_of-out : goal.shape_of-out
shape_of-out c = c.loop-r.invariant.1.long

pub returns : goal.returns
returns c =
    let args = c.args in
    let loop = c.loop-r in
    left-done loop.invariant.1 (rows_none args.width args.table.now args.text.now loop.r (args.from + args.n - loop.r) (omega (arith, c.loop-r-test.false)))
