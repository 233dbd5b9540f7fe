-- 61 to 64 in order, then the fields. Assumes nothing.
use native.Mathlib.Omega.{arith}
use mathlib.Core.Path.{refl, ap}
use lib.ListN.{length}
use Rattle.item_rules.specs.Tried.{answered}
use Rattle.item_rules.specs.TriedLaws.{tried_as}
use Rattle.item_rules.proofs.Turns.{record_61, record_62, record_63, record_64, record_is}
use Rattle.item_rules.proofs.items.record_fault.Goals as goal

pub returns-then-twice : goal.returns-then-twice
returns-then-twice c = record { tried = answered (record_61 _ _ _ _ _ _ c.args.item c.if-twice.true); clean = λ z. absurd (let y : ⊥ = omega arith in y); owners_unchanged = refl }

pub returns-then-item-eq78 : goal.returns-then-item-eq78
returns-then-item-eq78 c = record { tried = answered (record_62 _ _ _ _ _ _ c.args.item c.if-twice.false c.if-item-eq78.true); clean = λ z. absurd (let y : ⊥ = omega arith in y); owners_unchanged = refl }

pub returns-then-item-wide : goal.returns-then-item-wide
returns-then-item-wide c = record { tried = answered (record_63 _ _ _ _ _ _ c.args.item c.if-twice.false c.if-item-eq78.false (rw c.wide.ensures at c.if-item-wide.true)); clean = λ z. absurd (let y : ⊥ = omega arith in y); owners_unchanged = refl }

pub returns-then-item-ne0 : goal.returns-then-item-ne0
returns-then-item-ne0 c = record { tried = answered (record_64 _ _ _ _ _ _ c.args.item c.if-twice.false c.if-item-eq78.false (rw c.wide.ensures at c.if-item-wide.false) c.if-item-ne0.true); clean = λ z. absurd (let y : ⊥ = omega arith in y); owners_unchanged = refl }

pub seq_fault-requires : goal.seq_fault-requires
seq_fault-requires c = c.requires

pub shape_of-owners : goal.shape_of-owners
shape_of-owners c = ap length c.seq_fault.ensures.owners_unchanged

pub returns : goal.returns
returns c = record { tried = tried_as (λ e. record_is _ _ _ _ _ _ c.args.item c.if-twice.false c.if-item-eq78.false (rw c.wide.ensures at c.if-item-wide.false) c.if-item-ne0.false e) c.seq_fault.ensures.tried; clean = c.seq_fault.ensures.clean; owners_unchanged = c.seq_fault.ensures.owners_unchanged }
