-- `dbn_text` says what the check below it says.
-- Assumes nothing.
use mathlib.Core.Path.{sym, ap, ◌∙◌}
use Rattle.c_texts.specs.Numbers.{bit}
use borrow.Author.Rules.{rules}
use Rattle.c_texts.proofs.dbn_text.Goals as goal

pub returns-then-is_utf8 : goal.returns-then-is_utf8
returns-then-is_utf8 c = sym (ap bit (sym c.is_utf8.ensures ∙ c.if-is_utf8.true))

pub returns-else-is_utf8 : goal.returns-else-is_utf8
returns-else-is_utf8 c = sym (ap bit (sym c.is_utf8.ensures ∙ c.if-is_utf8.false))
