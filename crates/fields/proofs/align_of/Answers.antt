-- Padding, a struct, and all else, in this order. Assumes nothing.
use borrow.Author.Rules.{rules}
use Rattle.fields.proofs.Outcomes.{align-padding, align_struct, align-missing, align_natural}
use mathlib.Core.Path.{refl, sym, ◌∙◌}
use Rattle.fields.proofs.align_of.Goals as goal

pub returns-then-is_padding : goal.returns-then-is_padding
returns-then-is_padding c = align-padding _ _ _ _ (sym c.is_padding.ensures ∙ c.if-is_padding.true) refl

pub returns-then-d-aligns : goal.returns-then-d-aligns
returns-then-d-aligns c = align_struct _ _ _ _ (sym c.is_padding.ensures ∙ c.if-is_padding.false) (sym c.is_struct.ensures ∙ c.if-is_struct.true) (rw (← c.def_of-d.ensures.0) c.wide16.ensures.0)

pub returns-then-is_struct : goal.returns-then-is_struct
returns-then-is_struct c = align-missing _ _ _ _ (sym c.is_padding.ensures ∙ c.if-is_padding.false) (sym c.is_struct.ensures ∙ c.if-is_struct.true) refl (rw (← c.def_of-d.ensures.0) c.if-d-aligns.false)

pub returns : goal.returns
returns c = align_natural _ _ _ _ (sym c.is_padding.ensures ∙ c.if-is_padding.false) (sym c.is_struct.ensures ∙ c.if-is_struct.false) (rw (← c.type_of-t.ensures.0) c.wide16-2.ensures.0)
