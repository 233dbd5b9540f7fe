-- The alignments, then the structs, then the records. Assumes nothing.
use Rattle.marks.specs.MarkLaws.{marks-none}
use Rattle.item_rules.specs.TriedLaws.{tried_as, tried-by, tried_0}
use Rattle.item_rules.proofs.Turns.{all-structs, all-records}
use Rattle.item_rules.proofs.items.rules_in.Goals as goal

pub fill_aligns-requires : goal.fill_aligns-requires
fill_aligns-requires c = let pre = c.requires in record { good = pre.good; aligns_len = pre.aligns_len }

pub structs_fault-v-requires : goal.structs_fault-v-requires
structs_fault-v-requires c =
    let pre = c.requires in
    record { good = pre.good; marks = marks-none; unowned = pre.unowned }

pub returns-then-v-ne0 : goal.returns-then-v-ne0
returns-then-v-ne0 c = tried_as (λ e. all-structs _ _ _ _ _ c.fill_aligns.ensures e c.if-v-ne0.true) c.structs_fault-v.ensures.tried

pub records_fault-requires : goal.records_fault-requires
records_fault-requires c =
    let pre = c.requires in
    let structs-fault = c.structs_fault-v.ensures in
    record { good = pre.good_records; marks = structs-fault.clean c.if-v-ne0.false; unowned = rw structs-fault.owners_unchanged pre.unowned }

pub returns : goal.returns
returns c =
    let structs-fault = c.structs_fault-v.ensures in
    let if1 = c.if-v-ne0 in
    tried_as (λ e. all-records _ _ _ _ _ c.fill_aligns.ensures (tried_0 structs-fault.tried if1.false) if1.false e) (tried-by structs-fault.owners_unchanged c.records_fault.ensures)
