-- 83 by the chase. Assumes nothing.
use mathlib.Core.Path.{refl}
use native.Mathlib.Omega.{arith}
use Rattle.item_rules.specs.Tried.{answered, gave_up}
use Rattle.item_rules.proofs.Loops.{ext_none, ext_gap, ext_fine}
use Rattle.item_rules.proofs.by_search.ext_fault.Goals as goal

pub returns-then-k-eq0 : goal.returns-then-k-eq0
returns-then-k-eq0 c = answered (ext_none _ _ _ c.requires.proper c.requires.count c.if-k-eq0.true)

pub chase-requires : goal.chase-requires
chase-requires c = record { in_slice = c.requires.in_slice; proper = c.requires.proper; start_bound = omega (arith, c.requires.base_bound); none = λ h. absurd (let y : ⊥ = omega arith in y) }

pub returns-in_default : goal.returns-in_default
returns-in_default c = gave_up refl (λ h. let y : ⊥ = omega arith in y)

pub returns-then-c-k : goal.returns-then-c-k
returns-then-c-k c =
    let pre = c.requires in
    answered (ext_gap _ _ _ pre.proper c.in-Some.ensures pre.count c.if-c-k.true)

pub returns : goal.returns
returns c =
    let pre = c.requires in
    answered (ext_fine _ _ _ pre.proper c.in-Some.ensures pre.count c.if-c-k.false)
