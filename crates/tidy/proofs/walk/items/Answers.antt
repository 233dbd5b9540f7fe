-- By kind: labels, or fields. Assumes nothing.
use native.Mathlib.Omega.{arith}
use Rattle.tidy.specs.Walk.{items_from}
use Rattle.tidy.proofs.walk.items.Goals as goal

pub labels-requires : goal.labels-requires
labels-requires c = (omega (arith, c.requires), c.requires.1)

pub returns-in-LabelDef : goal.returns-in-LabelDef
unfolding items_from
returns-in-LabelDef c = rw c.in-LabelDef.is c.labels.ensures

pub returns-in-Record : goal.returns-in-Record
unfolding items_from
returns-in-Record c = rw c.in-Record.is c.fields.ensures

pub returns-in-Struct : goal.returns-in-Struct
unfolding items_from
returns-in-Struct c = rw c.in-Struct.is c.fields-in-Struct.ensures
