-- 81 and 82 by the chase. Assumes nothing.
use mathlib.Core.Path.{refl}
use native.Mathlib.Omega.{arith}
use Rattle.item_rules.specs.Tried.{answered, gave_up}
use Rattle.item_rules.proofs.Loops.{base_gap, base_short, base-fine}
use Rattle.item_rules.proofs.by_search.base_fault.Goals as goal

pub chase-requires : goal.chase-requires
chase-requires c = record { in_slice = c.requires.in_slice; proper = c.requires.proper; start_bound = lib.Dec.lit< tt; none = λ _. c.requires.none }

pub returns-in_default : goal.returns-in_default
returns-in_default c = gave_up refl (λ h. let y : ⊥ = omega arith in y)

pub returns-then-c-k : goal.returns-then-c-k
returns-then-c-k c =
    let pre = c.requires in
    answered (base_gap _ _ _ pre.proper c.in-Some.ensures pre.count c.if-c-k.true)

pub returns-then-c-frame : goal.returns-then-c-frame
returns-then-c-frame c =
    let pre = c.requires in
    answered (base_short _ _ _ pre.proper c.in-Some.ensures pre.count c.if-c-k.false c.if-c-frame.true)

pub returns : goal.returns
returns c =
    let pre = c.requires in
    answered (base-fine _ _ _ pre.proper c.in-Some.ensures pre.count c.if-c-k.false c.if-c-frame.false)
