-- The used count, then the filler. Assumes nothing.
use Rattle.std.proofs.Common.{◌+◌, ◌-◌, take, drop}
use native.Mathlib.Omega.{arith}
use mathlib.Core.Path.{◌∙◌}
use Rattle.house_file.proofs.Laws.{all-zeros, filled-full, filled_none, filled-over, filled-last}
use Rattle.house_file.proofs.read.is_filled.Goals as goal

pub returns-then-used-lt1 : goal.returns-then-used-lt1
returns-then-used-lt1 c = rw c.if-last.true (filled_none c.args.file.now c.args.at c.requires c.u16_of-used.ensures.0 c.if-used-lt1.true)

pub returns-then-used-gt504 : goal.returns-then-used-gt504
returns-then-used-gt504 c = rw c.if-last.true (filled-over c.args.file.now c.args.at c.requires c.u16_of-used.ensures.0 c.if-used-gt504.true)

pub returns-then-last : goal.returns-then-last
returns-then-last c = rw c.if-last.true (c.is_zeros.ensures ∙ all-zeros (take (c.args.at + 508 - (c.args.at + 4 + c.u16_of-used.result)) (drop (c.args.at + 4 + c.u16_of-used.result) c.args.file.now)) ∙ filled-last c.args.file.now c.args.at c.requires c.u16_of-used.ensures.0 (omega (arith, c.if-used-lt1.false)) (omega (arith, c.if-used-gt504.false)))

pub returns : goal.returns
returns c = rw c.if-last.false (filled-full c.args.file.now c.args.at c.requires c.u16_of-used.ensures.0)
