-- The file, then a feed of nothing after what it held. Assumes nothing.
use Rattle.std.proofs.Common.{arith}
use Rattle.codec.specs.Telling.{handed_on}
use Rattle.house.specs.StartLaws.{load_refused, load_held}
use Rattle.house_file.specs.LengthLaws.{unpack_length}
use Rattle.house.proofs.load_start.Goals as goal

pub shape_of-store-in_err-len : goal.shape_of-store-in_err-len
shape_of-store-in_err-len c = unpack_length c.unpack.ensures

pub returns-in_err-len : goal.returns-in_err-len
returns-in_err-len c = rw (handed_on c.from_residual.ensures) (load_refused c.unpack.ensures c.in_err-len.was)

pub returns : goal.returns
returns c = load_held c.unpack.ensures c.in_ok-len.was (omega arith) c.feed-fed.ensures
