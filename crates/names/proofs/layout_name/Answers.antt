-- The part of the layout that the span says.
-- Assumes nothing.
use mathlib.Core.Path.{ap, ◌∙◌}
use Rattle.names.specs.Names.{part_in}
use borrow.Author.Rules.{rules}
use Rattle.names.proofs.layout_name.Goals as goal

pub returns : goal.returns
returns c = c.part.ensures ∙ ap (part_in c.args.layout.now) c.layout_span.ensures
