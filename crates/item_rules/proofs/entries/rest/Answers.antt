-- One step further, one entry less. Assumes nothing.
use Rattle.item_rules.specs.EntryLaws.{mul-step}
use native.Mathlib.Omega.{arith}
use Rattle.item_rules.proofs.entries.rest.Goals as goal

pub overflow_add-result : goal.overflow_add-result
overflow_add-result c = omega (arith, mul-step c.args.src.step c.args.src.count c.requires.0)
