-- The alignments so far and those to come are the alignments of all structs. Assumes nothing.
use mathlib.Core.Path.{refl}
use native.Mathlib.Omega.{arith}
use Rattle.std.proofs.lemmas.List.{set-get_or}
use Rattle.item_rules.proofs.Turns.{step-found, step_end, filling, fill_on, fill_done, fill_end}
use Rattle.item_rules.proofs.items.fill_aligns.Goals as goal

pub loop-a-init : goal.loop-a-init
loop-a-init c = filling _ _ _ _ _ c.requires.good c.requires.aligns_len

pub next_item-requires : goal.next_item-requires
next_item-requires c = c.loop-a.invariant.good

pub loop-a-preserved : goal.loop-a-preserved
loop-a-preserved c = fill_on _ _ _ c.loop-a.invariant (omega (arith, c.loop-a.auto.aligns, c.loop-a-test.true)) (step-found c.next_item.ensures c.in-Some.is) c.struct_align.ensures.0 refl

pub returns-in_default : goal.returns-in_default
returns-in_default c = rw set-get_or (fill_end _ _ _ c.loop-a.invariant (step_end c.next_item.ensures c.in_default.is))

pub returns : goal.returns
returns c = fill_done _ _ _ c.loop-a.invariant (omega (arith, c.loop-a.auto.aligns, c.loop-a-test.false))
