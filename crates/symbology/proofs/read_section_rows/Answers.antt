-- What the symbology's reader answered; 28 where it leaves bytes of the section over. Assumes nothing.
use Rattle.codec.specs.Telling.{handed_on}
use Rattle.symbology.proofs.Public.{said_read, said_28, said-counted, said-refused}
use Rattle.symbology.proofs.read_section_rows.Goals as goal

pub returns-then-next-least : goal.returns-then-next-least
returns-then-next-least c = said_28 _ _ _ _ c.least_end-least.ensures c.read_rows.ensures (rw c.in-Counted.is at (c.in_ok-rows.was)) c.if-next-least.true

pub returns-in-Read : goal.returns-in-Read
returns-in-Read c = said_read _ _ _ _ c.least_end-least.ensures c.read_rows.ensures (rw c.in-Read.is at (c.in_ok-rows.was))

pub returns-else-next-least : goal.returns-else-next-least
returns-else-next-least c = said-counted _ _ _ _ c.least_end-least.ensures c.read_rows.ensures (rw c.in-Counted.is at (c.in_ok-rows.was)) c.if-next-least.false

pub returns-in_err-rows : goal.returns-in_err-rows
returns-in_err-rows c = rw (handed_on c.from_residual.ensures) (said-refused _ _ _ _ c.least_end-least.ensures c.read_rows.ensures c.in_err-rows.was)
