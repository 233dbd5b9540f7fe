-- The invariant: the records to come give the same number, and the owners are as they were lent. Assumes nothing.
use mathlib.Core.Path.{refl, ap, ◌∙◌}
use mathlib.Core.List.{[]}
use lib.ListN.{length}
use borrow.Author.Rules.{rules}
use Rattle.marks.specs.MarkLaws.{marks-none}
use Rattle.item_rules.specs.Tried.{answered}
use Rattle.item_rules.specs.TriedLaws.{tried_as, tried-by, tried_0}
use Rattle.item_rules.proofs.Turns.{step-found, step_end, step_less, records-stop, records-on, records-end}
use Rattle.item_rules.proofs.items.records_fault.Goals as goal

pub loop-item-init : goal.loop-item-init
loop-item-init c =
    let pre = c.requires in
    (record { good = pre.good; marks = pre.marks; seen = []; rtypes = marks-none; same = refl }, refl)

pub next_item-requires : goal.next_item-requires
next_item-requires c = c.loop-item.invariant.0.good

pub record_fault-v-requires : goal.record_fault-v-requires
record_fault-v-requires c =
    let inv = c.loop-item.invariant in
    let s = step-found c.next_item.ensures c.in-Some.is in
    record { in_slice = s.room; marks = inv.0.marks; base_bound = s.base; unowned = rw inv.1 c.requires.unowned }

pub shape_of-owners-then-v-ne0 : goal.shape_of-owners-then-v-ne0
shape_of-owners-then-v-ne0 c = ap length (c.record_fault-v.ensures.owners_unchanged ∙ c.loop-item.invariant.1)

pub returns-then-v-ne0 : goal.returns-then-v-ne0
returns-then-v-ne0 c =
    let inv = c.loop-item.invariant in
    tried_as (λ e. records-stop _ _ _ _ _ _ inv.0 (step-found c.next_item.ensures c.in-Some.is) (search rules) c.is_marked-seen.ensures e c.if-v-ne0.true) (tried-by inv.1 c.record_fault-v.ensures.tried)

pub loop-item-smaller : goal.loop-item-smaller
loop-item-smaller c = step_less (step-found c.next_item.ensures c.in-Some.is)

pub loop-item-preserved : goal.loop-item-preserved
loop-item-preserved c =
    let inv = c.loop-item.invariant in
    let record_fault_lem = c.record_fault-v.ensures in
    (records-on _ _ _ _ _ _ inv.0 (step-found c.next_item.ensures c.in-Some.is) (search rules) c.is_marked-seen.ensures (tried_0 record_fault_lem.tried c.if-v-ne0.false) c.if-v-ne0.false record_fault_lem.clean c.mark.ensures, record_fault_lem.owners_unchanged ∙ inv.1)

pub shape_of-owners : goal.shape_of-owners
shape_of-owners c = ap length c.loop-item.invariant.1

pub returns : goal.returns
returns c = answered (records-end _ _ _ _ _ _ c.loop-item.invariant.0 (step_end c.next_item.ensures c.in_default.is))
