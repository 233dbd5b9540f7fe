-- The check words, one after the other. Assumes nothing.
use Rattle.std.proofs.Common.{arith}
use borrow.Author.Tests.{ne_eqb}
use Rattle.house_file.proofs.Laws.{sound_second, sound-not}
use Rattle.house_file.proofs.read.is_sound.Goals as goal

pub returns-then-u16_of-t : goal.returns-then-u16_of-t
returns-then-u16_of-t c = sound_second c.args.file.now c.args.at (λ i. omega (arith, c.type_inv.file i)) (omega arith) c.sums_of-t.ensures c.u16_of.ensures.0 c.u16_of-then-u16_of-t.ensures.0 c.if-u16_of-t.true

pub returns-else-u16_of-t : goal.returns-else-u16_of-t
returns-else-u16_of-t c = rw (ne_eqb _ _ c.if-u16_of-t.false) (sound-not c.args.file.now c.args.at (λ i. omega (arith, c.type_inv.file i)) (omega arith) c.sums_of-t.ensures c.u16_of.ensures.0 c.if-u16_of-t.false)
