-- Each way out is the first rule that is broken, since those before it hold. Assumes nothing.
use borrow.Author.Rules.{rules}
use mathlib.Core.Path.{sym, ◌∙◌}
use Rattle.fields.proofs.Outcomes.{fault71, fault72, fault73, fault74, fault75, fault76, fault77, fault78, fault79, fault80, fault-none}
use Rattle.fields.proofs.check_field.Goals as goal

pub returns-then-breaks_71 : goal.returns-then-breaks_71
returns-then-breaks_71 c =
    fault71 _ _ _ _ _ _ _ _
    (sym c.breaks_71.ensures ∙ c.if-breaks_71.true)

pub returns-then-breaks_72 : goal.returns-then-breaks_72
returns-then-breaks_72 c =
    fault72 _ _ _ _ _ _ _ _
    (sym c.breaks_71.ensures ∙ c.if-breaks_71.false)
    (sym c.breaks_72.ensures ∙ c.if-breaks_72.true)

pub returns-then-breaks_73 : goal.returns-then-breaks_73
returns-then-breaks_73 c =
    fault73 _ _ _ _ _ _ _ _
    (sym c.breaks_71.ensures ∙ c.if-breaks_71.false)
    (sym c.breaks_72.ensures ∙ c.if-breaks_72.false)
    (sym c.breaks_73.ensures ∙ c.if-breaks_73.true)

pub returns-then-breaks_74 : goal.returns-then-breaks_74
returns-then-breaks_74 c =
    fault74 _ _ _ _ _ _ _ _
    (sym c.breaks_71.ensures ∙ c.if-breaks_71.false)
    (sym c.breaks_72.ensures ∙ c.if-breaks_72.false)
    (sym c.breaks_73.ensures ∙ c.if-breaks_73.false)
    (sym c.breaks_74.ensures ∙ c.if-breaks_74.true)

pub returns-then-size_of-eq0 : goal.returns-then-size_of-eq0
returns-then-size_of-eq0 c =
    fault75 _ _ _ _ _ _ _ _
    (sym c.breaks_71.ensures ∙ c.if-breaks_71.false)
    (sym c.breaks_72.ensures ∙ c.if-breaks_72.false)
    (sym c.breaks_73.ensures ∙ c.if-breaks_73.false)
    (sym c.breaks_74.ensures ∙ c.if-breaks_74.false)
    (sym c.size_of.ensures.0 ∙ c.if-size_of-eq0.true)

pub returns-then-breaks_76 : goal.returns-then-breaks_76
returns-then-breaks_76 c =
    fault76 _ _ _ _ _ _ _ _
    (sym c.breaks_71.ensures ∙ c.if-breaks_71.false)
    (sym c.breaks_72.ensures ∙ c.if-breaks_72.false)
    (sym c.breaks_73.ensures ∙ c.if-breaks_73.false)
    (sym c.breaks_74.ensures ∙ c.if-breaks_74.false)
    (λ q. c.if-size_of-eq0.false (c.size_of.ensures.0 ∙ q))
    (sym c.breaks_76.ensures ∙ c.if-breaks_76.true)

pub returns-then-breaks_77 : goal.returns-then-breaks_77
returns-then-breaks_77 c =
    fault77 _ _ _ _ _ _ _ _
    (sym c.breaks_71.ensures ∙ c.if-breaks_71.false)
    (sym c.breaks_72.ensures ∙ c.if-breaks_72.false)
    (sym c.breaks_73.ensures ∙ c.if-breaks_73.false)
    (sym c.breaks_74.ensures ∙ c.if-breaks_74.false)
    (λ q. c.if-size_of-eq0.false (c.size_of.ensures.0 ∙ q))
    (sym c.breaks_76.ensures ∙ c.if-breaks_76.false)
    (sym c.breaks_77.ensures ∙ c.if-breaks_77.true)

pub returns-then-end_of-gt65535 : goal.returns-then-end_of-gt65535
returns-then-end_of-gt65535 c =
    fault78 _ _ _ _ _ _ _ _
    (sym c.breaks_71.ensures ∙ c.if-breaks_71.false)
    (sym c.breaks_72.ensures ∙ c.if-breaks_72.false)
    (sym c.breaks_73.ensures ∙ c.if-breaks_73.false)
    (sym c.breaks_74.ensures ∙ c.if-breaks_74.false)
    (λ q. c.if-size_of-eq0.false (c.size_of.ensures.0 ∙ q))
    (sym c.breaks_76.ensures ∙ c.if-breaks_76.false)
    (sym c.breaks_77.ensures ∙ c.if-breaks_77.false)
    (rw c.end_of.ensures.0 at c.if-end_of-gt65535.true)

pub returns-then-breaks_79 : goal.returns-then-breaks_79
returns-then-breaks_79 c =
    fault79 _ _ _ _ _ _ _ _
    (sym c.breaks_71.ensures ∙ c.if-breaks_71.false)
    (sym c.breaks_72.ensures ∙ c.if-breaks_72.false)
    (sym c.breaks_73.ensures ∙ c.if-breaks_73.false)
    (sym c.breaks_74.ensures ∙ c.if-breaks_74.false)
    (λ q. c.if-size_of-eq0.false (c.size_of.ensures.0 ∙ q))
    (sym c.breaks_76.ensures ∙ c.if-breaks_76.false)
    (sym c.breaks_77.ensures ∙ c.if-breaks_77.false)
    (rw c.end_of.ensures.0 at c.if-end_of-gt65535.false)
    (sym c.breaks_79.ensures ∙ c.if-breaks_79.true)

pub returns-then-breaks_80 : goal.returns-then-breaks_80
returns-then-breaks_80 c =
    fault80 _ _ _ _ _ _ _ _
    (sym c.breaks_71.ensures ∙ c.if-breaks_71.false)
    (sym c.breaks_72.ensures ∙ c.if-breaks_72.false)
    (sym c.breaks_73.ensures ∙ c.if-breaks_73.false)
    (sym c.breaks_74.ensures ∙ c.if-breaks_74.false)
    (λ q. c.if-size_of-eq0.false (c.size_of.ensures.0 ∙ q))
    (sym c.breaks_76.ensures ∙ c.if-breaks_76.false)
    (sym c.breaks_77.ensures ∙ c.if-breaks_77.false)
    (rw c.end_of.ensures.0 at c.if-end_of-gt65535.false)
    (sym c.breaks_79.ensures ∙ c.if-breaks_79.false)
    (sym c.breaks_80.ensures ∙ c.if-breaks_80.true)

pub returns-else-breaks_80 : goal.returns-else-breaks_80
returns-else-breaks_80 c =
    fault-none _ _ _ _ _ _ _ _
    (sym c.breaks_71.ensures ∙ c.if-breaks_71.false)
    (sym c.breaks_72.ensures ∙ c.if-breaks_72.false)
    (sym c.breaks_73.ensures ∙ c.if-breaks_73.false)
    (sym c.breaks_74.ensures ∙ c.if-breaks_74.false)
    (λ q. c.if-size_of-eq0.false (c.size_of.ensures.0 ∙ q))
    (sym c.breaks_76.ensures ∙ c.if-breaks_76.false)
    (sym c.breaks_77.ensures ∙ c.if-breaks_77.false)
    (rw c.end_of.ensures.0 at c.if-end_of-gt65535.false)
    (sym c.breaks_79.ensures ∙ c.if-breaks_79.false)
    (sym c.breaks_80.ensures ∙ c.if-breaks_80.false)
