-- Padding, a struct, and all else, in this order. Assumes nothing.
use mathlib.Core.Path.{refl, sym, ◌∙◌}
use Rattle.fields.proofs.Outcomes.{member_padding, member_struct, member_natural}
use borrow.Author.Rules.{rules}
use Rattle.fields.proofs.member_align.Goals as goal

pub returns-then-is_padding : goal.returns-then-is_padding
returns-then-is_padding c = member_padding _ _ _ (sym c.is_padding.ensures ∙ c.if-is_padding.true) refl

pub returns-then-is_struct : goal.returns-then-is_struct
returns-then-is_struct c = member_struct _ _ _ (sym c.is_padding.ensures ∙ c.if-is_padding.false) (sym c.is_struct.ensures ∙ c.if-is_struct.true) refl

pub returns : goal.returns
returns c = member_natural _ _ _ (sym c.is_padding.ensures ∙ c.if-is_padding.false) (sym c.is_struct.ensures ∙ c.if-is_struct.false) (rw c.type_of-t.ensures.0)
