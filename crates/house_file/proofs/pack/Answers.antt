-- Refused, or stored. Assumes nothing.
use native.Mathlib.Omega.{arith}
use Rattle.put.specs.OutputLaws.{wrote-length}
use Rattle.house_file.proofs.Laws.{pack_none, pack_over, pack_short, pack_done}
use Rattle.house_file.proofs.pack.Goals as goal

pub returns-then-len-lt1 : goal.returns-then-len-lt1
returns-then-len-lt1 c = rw c.refuse.ensures (pack_none c.args.s.now c.if-len-lt1.true)

pub returns-then-len-gt33030144 : goal.returns-then-len-gt33030144
returns-then-len-gt33030144 c = rw c.refuse-then-len-gt33030144.ensures (pack_over c.args.s.now c.if-len-gt33030144.true)

pub returns-then-output-n : goal.returns-then-output-n
returns-then-output-n c = rw c.refuse-then-output-n.ensures (pack_short c.args.s.now (omega (arith, c.if-len-lt1.false)) (omega (arith, c.if-len-gt33030144.false)) c.if-output-n.true)

pub put_blocks-requires : goal.put_blocks-requires
put_blocks-requires c = record { blocks = (omega (arith, c.if-len-lt1.false), omega arith, omega (arith, c.if-len-gt33030144.false)); room = omega (arith, c.if-output-n.false) }

pub shape_of-output : goal.shape_of-output
shape_of-output c = wrote-length c.put_blocks.ensures

pub returns : goal.returns
returns c = pack_done c.args.s.now (omega (arith, c.if-len-lt1.false)) (omega (arith, c.if-len-gt33030144.false)) c.put_blocks.ensures
