-- Three walks, one after the other.
-- Assumes nothing.
use Rattle.rows_check.proofs.OrderLaws.{counted, no_first, no-second, no-third, no-end}
use Rattle.rows_check.proofs.order.in_order.Goals as goal

pub returns-in_err-a : goal.returns-in_err-a
returns-in_err-a c = rw c.from_residual.ensures (no_first _ _ c.in_err-a.ensures)

pub returns-in_err-b : goal.returns-in_err-b
returns-in_err-b c = rw c.from_residual-in_err-b.ensures (no-second _ _ c.in_ok-a.ensures c.in_err-b.ensures)

pub returns-in_err-d : goal.returns-in_err-d
returns-in_err-d c = rw c.from_residual-in_err-d.ensures (no-third _ _ c.in_ok-a.ensures c.in_ok-b.ensures c.in_err-d.ensures)

pub returns-then-d-rows : goal.returns-then-d-rows
returns-then-d-rows c = no-end _ _ c.in_ok-a.ensures c.in_ok-b.ensures c.in_ok-d.ensures c.if-d-rows.true

pub returns : goal.returns
returns c =
    let k = counted _ _ _ _ _ _ _ _ c.in_ok-a.ensures c.in_ok-b.ensures c.in_ok-d.ensures c.if-d-rows.false in
    (k.0, record { records = k.1.0; structs = k.1.1.0; labels = k.1.1.1 })
