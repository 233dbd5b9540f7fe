-- The part of the block that the span says.
-- Assumes nothing.
use mathlib.Core.Path.{ap, ◌∙◌}
use Rattle.names.specs.Names.{part_in}
use borrow.Author.Rules.{rules}
use Rattle.names.proofs.symbology_name.Goals as goal

pub returns : goal.returns
returns c = c.part.ensures ∙ ap (part_in c.args.block.now) c.symbology_span.ensures
