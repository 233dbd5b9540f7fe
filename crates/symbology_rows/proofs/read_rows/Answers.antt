-- The verdict first; then the rows, without the tests that it made. Assumes nothing.
use Rattle.std.proofs.Common.{sym, ◌∙◌, arith}
use Rattle.codec.specs.Telling.{handed_on}
use Rattle.symbology_rows.proofs.Public.{finds, rows-read, rows_short, rows_early, rows_unasked, rows-refused}
use Rattle.symbology_rows.proofs.read_rows.Goals as goal
use Rattle.symbology_rows.proofs.read_rows.Goals.{else-write-via-then-write+then-least-next+else-rows-table, else-write-via-then-write+else-least-next, else-write-via-else-write}

pub symbology-requires : goal.symbology-requires
symbology-requires c = let a = (finds _ _ _ (sym c.in_ok-rows.was ∙ c.symbology_verdict.ensures)) in record { room = omega (arith, a.small); width_bound = omega arith }

pub returns-then-rows-table : goal.returns-then-rows-table
returns-then-rows-table c = rows-read (finds _ _ _ (sym c.in_ok-rows.was ∙ c.symbology_verdict.ensures)) c.if-write.true c.if-least-next.true c.if-rows-table.true c.symbology.ensures

pub returns : goal.returns
returns c =
    let found = finds _ _ _ (sym c.in_ok-rows.was ∙ c.symbology_verdict.ensures) in
    elim c.else-write.branch [
      | else-write-via-then-write+then-least-next+else-rows-table w ↦ rows_short found w.if-write.true w.if-least-next.true w.if-rows-table.false
      | else-write-via-then-write+else-least-next w ↦ rows_early found w.if-write.true w.if-least-next.false
      | else-write-via-else-write w ↦ rows_unasked found w.if-write.false
    ]

pub returns-in_err-rows : goal.returns-in_err-rows
returns-in_err-rows c = rw (handed_on c.from_residual.ensures) (rows-refused _ _ _ _ (sym c.in_err-rows.was ∙ c.symbology_verdict.ensures))
