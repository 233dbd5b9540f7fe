-- Case by case on what storing answers; the output is as it left it.
-- Assumes nothing.
use Rattle.std.proofs.Common.{refl}
use Rattle.c_house.specs.Laws.{stored_c}
use Rattle.c_house.proofs.dbn_house_store.Goals as goal

pub returns-in-Ok : goal.returns-in-Ok
returns-in-Ok c = stored_c c.store_start.ensures c.in-Ok.is refl refl

pub returns-in-Err : goal.returns-in-Err
returns-in-Err c = stored_c c.store_start.ensures c.in-Err.is refl c.put_place.ensures
