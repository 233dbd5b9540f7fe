-- By kind. Assumes nothing.
use native.Mathlib.Omega.{arith}
use Rattle.tidy.specs.Walk.{own_bytes}
use Rattle.tidy.proofs.walk.own_bytes.Goals as goal

pub returns-in-Record : goal.returns-in-Record
unfolding own_bytes
returns-in-Record c = (rw c.in-Record.is, omega arith)

pub returns-in-Struct : goal.returns-in-Struct
unfolding own_bytes
returns-in-Struct c = (rw c.in-Struct.is, omega arith)

pub returns-in-LabelDef : goal.returns-in-LabelDef
unfolding own_bytes
returns-in-LabelDef c = (rw c.in-LabelDef.is, omega arith)
