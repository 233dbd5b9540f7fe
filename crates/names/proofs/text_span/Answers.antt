-- Whether there is a text, then whether its span lies within.
-- Assumes nothing.
use mathlib.Core.Path.{◌∙◌}
use Rattle.names.proofs.NameLaws.{span_none, span_in, span-out}
use borrow.Author.Rules.{rules}
use Rattle.names.proofs.text_span.Goals as goal

pub returns-then-start-len : goal.returns-then-start-len
returns-then-start-len c = span_in _ _ _ c.if-has.true c.wide-start.ensures.0 c.wide-len.ensures.0 c.if-start-len.true

pub returns-then-has : goal.returns-then-has
returns-then-has c = c.no_text.ensures ∙ span-out _ _ _ c.if-has.true c.wide-start.ensures.0 c.wide-len.ensures.0 c.if-start-len.false

pub returns : goal.returns
returns c = c.no_text-2.ensures ∙ span_none _ _ _ c.if-has.false
