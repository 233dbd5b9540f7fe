-- The length, then the blocks. Assumes nothing.
use mathlib.Core.Path.{sym, ◌∙◌}
use Rattle.house_file.specs.BlockLaws.{length-refused}
use Rattle.house_file.proofs.Laws.{unpack_refused}
use Rattle.house_file.specs.LengthLaws.{unpack_length}
use Rattle.house_file.proofs.unpack.Goals as goal

pub unpack_blocks-requires : goal.unpack_blocks-requires
unpack_blocks-requires c = sym c.is_length.ensures ∙ c.if-is_length.true

pub shape_of-store-then-is_length : goal.shape_of-store-then-is_length
shape_of-store-then-is_length c = unpack_length c.unpack_blocks.ensures

pub returns-then-is_length : goal.returns-then-is_length
returns-then-is_length c = c.unpack_blocks.ensures

pub returns : goal.returns
returns c = rw c.refuse.ensures (unpack_refused (length-refused c.args.file.now (sym c.is_length.ensures ∙ c.if-is_length.false)))
