-- By the kind of the section. Assumes nothing.
use Rattle.std.proofs.Common.{refl, arith}
use Rattle.table.specs.ReadingLaws.{ran_is}
use Rattle.layout.proofs.Laws.{kind_0, kind_1, kind_2}
use Rattle.layout.proofs.Labelling.{cleared_any}
use borrow.Author.Rules.{rules}
use Rattle.layout.proofs.sections.body.Goals as goal

pub returns-in-Record : goal.returns-in-Record
returns-in-Record c = rw c.in-Record.is (record { ran = ran_is (kind_0 _ _ _ _ refl) c.record_body.ensures; cleared = cleared_any c.record_body.result c.requires.marks })

pub returns-in-Struct : goal.returns-in-Struct
returns-in-Struct c = rw c.in-Struct.is (record { ran = ran_is (kind_1 _ _ _ _ (λ e. omega arith) refl) c.struct_body.ensures; cleared = cleared_any c.struct_body.result c.requires.marks })

pub returns-in-LabelDef : goal.returns-in-LabelDef
returns-in-LabelDef c = rw c.in-LabelDef.is (record { ran = ran_is (kind_2 _ _ _ _ (λ e. omega arith) (λ e. omega arith)) c.label_body.ensures.ran; cleared = c.label_body.ensures.cleared })
