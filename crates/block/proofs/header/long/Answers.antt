-- The u64 at a place, in the words of the format. Assumes nothing.
use mathlib.Core.Path.{sym, ◌∙◌}
use Rattle.numbers.specs.NumberLaws.{u64-is}
use borrow.Author.Rules.{rules}
use Rattle.block.proofs.header.long.Goals as goal

pub returns : goal.returns
returns c = c.u64_of.ensures ∙ sym (u64-is c.args.s.now c.args.at)
