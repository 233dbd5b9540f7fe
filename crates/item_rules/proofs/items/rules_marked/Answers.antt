-- With 65,536 owners every answer is the number. Assumes nothing.
use native.Mathlib.Omega.{arith}
use Prim.Native.Nat.{ℕ}
use lib.ListN.{length-replicate}
use lib.Dec.{lit≤}
use mathlib.Core.Path.{sym}
use Rattle.plain_tiling.proofs.MarkingLaws.{unowned}
use Rattle.item_rules.specs.TriedLaws.{tried-all}
use Rattle.item_rules.proofs.items.rules_marked.Goals as goal

pub slice_bounds-rules_few-end : goal.slice_bounds-rules_few-end
slice_bounds-rules_few-end c = sym (length-replicate {A = ℕ} 65536 0)

pub rules_few-requires : goal.rules_few-requires
rules_few-requires c = record { ready = c.requires; left_bound = c.if-task-le4096.true; unowned = unowned 65536 (lit≤ tt) }

pub returns-then-task-le4096 : goal.returns-then-task-le4096
returns-then-task-le4096 c = tried-all c.rules_few.ensures (length-replicate {A = ℕ} 65536 0)

pub slice_bounds-rules_of-end : goal.slice_bounds-rules_of-end
slice_bounds-rules_of-end c = sym (length-replicate {A = ℕ} 65536 0)

pub rules_of-requires : goal.rules_of-requires
rules_of-requires c = record { ready = c.requires; left_bound = omega arith; small = omega arith; unowned = unowned 65536 (lit≤ tt) }

pub returns : goal.returns
returns c = tried-all c.rules_of.ensures (length-replicate {A = ℕ} 65536 0)
