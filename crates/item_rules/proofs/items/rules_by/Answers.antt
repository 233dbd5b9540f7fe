-- The first numbers of the table are as many as there are structs. Assumes nothing.
use native.Mathlib.Omega.{arith}
use mathlib.Core.Path.{sym}
use lib.ListN.{length-take}
use lib.Seq.{length-take-le}
use Rattle.item_rules.proofs.items.rules_by.Goals as goal

pub slice_bounds-rules_in-end-2 : goal.slice_bounds-rules_in-end-2
slice_bounds-rules_in-end-2 c = sym (length-take-le c.smaller-n.result c.args.table.now (rw (← c.smaller-n.ensures) at c.requires.left_in_bounds))

pub rules_in-requires : goal.rules_in-requires
rules_in-requires c =
    let pre = c.requires in
    record { good = pre.ready.structs-good; good_records = pre.ready.records-good; aligns_len = simp length-take (omega (arith, pre.left_in_bounds, c.smaller-n.ensures)); unowned = pre.unowned }

pub returns : goal.returns
returns c = c.rules_in.ensures
