-- Case by case on what loading answers; store and tables are as it left them.
-- Assumes nothing.
use Rattle.std.proofs.Common.{refl}
use Rattle.c_house.specs.Laws.{loaded_c}
use Rattle.c_house.proofs.dbn_house_load.Goals as goal

pub returns-in-Err : goal.returns-in-Err
returns-in-Err c = loaded_c c.load_start.ensures c.in-Err.is refl refl

pub returns-in-Ok : goal.returns-in-Ok
returns-in-Ok c = loaded_c c.load_start.ensures c.in-Ok.is c.put_held.ensures.0 c.put_held.ensures.1
