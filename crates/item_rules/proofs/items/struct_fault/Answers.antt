-- 60, then the fields. Assumes nothing.
use native.Mathlib.Omega.{arith}
use mathlib.Core.Path.{refl, ap}
use lib.ListN.{length}
use Rattle.item_rules.specs.Tried.{answered}
use Rattle.item_rules.specs.TriedLaws.{tried_as}
use Rattle.item_rules.proofs.Turns.{struct_60, struct_is}
use Rattle.item_rules.proofs.items.struct_fault.Goals as goal

pub returns-then-item-a-ne0 : goal.returns-then-item-a-ne0
returns-then-item-a-ne0 c = record { tried = answered (struct_60 _ _ _ _ _ _ c.args.item c.struct_align-a.ensures.0 c.if-item-a-ne0.true); clean = λ z. absurd (let y : ⊥ = omega arith in y); owners_unchanged = refl }

pub seq_fault-requires : goal.seq_fault-requires
seq_fault-requires c = c.requires

pub shape_of-owners : goal.shape_of-owners
shape_of-owners c = ap length c.seq_fault.ensures.owners_unchanged

pub returns : goal.returns
returns c = record { tried = tried_as (λ e. struct_is _ _ _ _ _ _ c.args.item c.struct_align-a.ensures.0 c.if-item-a-ne0.false e) c.seq_fault.ensures.tried; clean = c.seq_fault.ensures.clean; owners_unchanged = c.seq_fault.ensures.owners_unchanged }
