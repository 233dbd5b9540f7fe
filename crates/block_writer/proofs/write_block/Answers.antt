-- A number, too little room, or all that was planned.
-- Assumes nothing.
use native.Mathlib.Omega.{arith}
use Rattle.put.specs.OutputLaws.{wrote-length}
use Rattle.block_writer.proofs.StartLaws.{refused-by, too_short, roomy, written_out_lem}
use Rattle.std.proofs.lemmas.Result.{err_from_is_err_and}
use Rattle.block_writer.proofs.write_block.Goals as goal

pub returns-in_err-plan : goal.returns-in_err-plan
returns-in_err-plan c =
    let p = err_from_is_err_and c.from_residual.result c.from_residual.ensures.1 in
    rw (p.1, p.2) (refused-by c.args.sheet.now c.args.version c.args.fields.now c.args.table.now c.args.count c.args.rows.now c.args.text.now c.in_err-plan.ensures c.args.out.now)

pub overflow_add-whole : goal.overflow_add-whole
overflow_add-whole c = omega (arith, c.in_ok-plan.ensures.told.1.few)

pub returns-then-out-whole : goal.returns-then-out-whole
returns-then-out-whole c = rw c.refused.ensures (too_short c.args.sheet.now c.args.version c.args.fields.now c.args.table.now c.args.count c.args.rows.now c.args.text.now c.in_ok-plan.ensures c.args.out.now c.if-out-whole.true)

pub put_start-requires : goal.put_start-requires
put_start-requires c = record { sizes = c.in_ok-plan.ensures.told.1; room_for = roomy c.args.sheet.now c.args.version c.args.fields.now c.args.table.now c.args.count c.args.rows.now c.args.text.now c.in_ok-plan.ensures c.args.out.now c.if-out-whole.false }

pub shape_of-out : goal.shape_of-out
shape_of-out c = wrote-length c.put_start.ensures

pub returns : goal.returns
returns c = written_out_lem c.args.sheet.now c.args.version c.args.fields.now c.args.table.now c.args.count c.args.rows.now c.args.text.now c.in_ok-plan.ensures c.args.out.now c.if-out-whole.false c.put_start.ensures
