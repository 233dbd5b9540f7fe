-- What refuses the stream, then the file. Assumes nothing.
use Rattle.house_file.specs.LengthLaws.{pack_length}
use Rattle.house.specs.StartLaws.{store-refused, store_packed}
use Rattle.house.proofs.store_start.Goals as goal

pub returns-then-fault-ne0 : goal.returns-then-fault-ne0
returns-then-fault-ne0 c = store-refused c.args.stream.now c.args.sheet.now c.fault_of-fault.ensures c.if-fault-ne0.true

pub shape_of-output : goal.shape_of-output
shape_of-output c = pack_length c.pack.ensures

pub returns : goal.returns
returns c = store_packed c.args.stream.now c.args.sheet.now c.fault_of-fault.ensures c.if-fault-ne0.false c.pack.ensures
