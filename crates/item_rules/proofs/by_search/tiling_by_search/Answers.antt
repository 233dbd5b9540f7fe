-- 81 or 82, else 83, by search. Assumes nothing.
use native.Mathlib.Omega.{arith}
use Rattle.item_rules.specs.TriedLaws.{tried_as, tried_0}
use Rattle.item_rules.specs.Entries.{entries_of}
use Rattle.item_rules.specs.EntryLaws.{entries-length}
use Rattle.item_rules.proofs.Loops.{sides, low_proper, low-none, high_proper, tiling_base, tiling_ext}
use Rattle.item_rules.proofs.by_search.tiling_by_search.Goals as goal

pub base_fault-b-requires : goal.base_fault-b-requires
base_fault-b-requires c = record { in_slice = c.requires.in_slice; proper = low_proper c.requires.passed; none = low-none c.requires.passed; count = c.count-k.ensures }

pub returns-then-b-ne0 : goal.returns-then-b-ne0
returns-then-b-ne0 c = tried_as (λ e. tiling_base _ _ _ e c.if-b-ne0.true) c.base_fault-b.ensures

pub overflow_sub-src : goal.overflow_sub-src
overflow_sub-src c =
    let args = c.args in
    omega (arith, sides args.frame.is_record args.frame.base (entries_of args.layout.now args.rows.now args.src), entries-length args.layout.now args.rows.now args.src, c.count-k.ensures)

pub ext_fault-requires : goal.ext_fault-requires
ext_fault-requires c =
    let args = c.args in
    record { in_slice = c.requires.in_slice; proper = high_proper c.requires.passed; base_bound = omega (arith, c.requires.passed.small); count = omega (arith, sides args.frame.is_record args.frame.base (entries_of args.layout.now args.rows.now args.src), entries-length args.layout.now args.rows.now args.src, c.count-k.ensures) }

pub returns : goal.returns
returns c = tried_as (λ e. tiling_ext _ _ _ (tried_0 c.base_fault-b.ensures c.if-b-ne0.false) c.if-b-ne0.false e) c.ext_fault.ensures
