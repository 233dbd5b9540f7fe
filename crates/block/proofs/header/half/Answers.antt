-- The u16 at a place, in the words of the format. Assumes nothing.
use mathlib.Core.Path.{sym, ◌∙◌}
use Rattle.numbers.specs.NumberLaws.{u16-is}
use borrow.Author.Rules.{rules}
use Rattle.block.proofs.header.half.Goals as goal

pub returns : goal.returns
returns c = (c.u16_of.ensures.0 ∙ sym (u16-is c.args.s.now c.args.at), c.u16_of.ensures.1)
