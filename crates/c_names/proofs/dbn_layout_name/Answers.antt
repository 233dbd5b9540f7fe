-- What the span below it gives.
-- Assumes nothing.
use mathlib.Core.Path.{ap, ◌∙◌}
use Rattle.names.specs.Names.{span_number}
use Rattle.c_names.specs.Numbers.{span_out}
use borrow.Author.Rules.{rules}
use Rattle.c_names.proofs.dbn_layout_name.Goals as goal

pub returns : goal.returns
returns c = (c.put_span.ensures.0 ∙ ap span_number c.layout_span.ensures, c.put_span.ensures.1 ∙ ap span_out c.layout_span.ensures)
