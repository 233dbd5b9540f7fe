-- What a section has besides names, by its kind.
-- Assumes nothing.
use native.Mathlib.Omega.{arith}
use borrow.Author.Tests.{eq-eqb, ne_eqb}
use Rattle.layout.specs.LayoutOf.{D-is}
use Rattle.rows_check.specs.Answers.{nameless_size}
use Rattle.rows_check.proofs.sizes.nameless_size.Goals as goal

pub returns-then-kind-eq-RECORD : goal.returns-then-kind-eq-RECORD
unfolding nameless_size
returns-then-kind-eq-RECORD c = (rw D-is (simp (eq-eqb _ _ c.if-kind-eq-RECORD.true)), omega arith)

pub returns-then-kind-eq-STRUCT : goal.returns-then-kind-eq-STRUCT
unfolding nameless_size
returns-then-kind-eq-STRUCT c = (rw D-is (simp (ne_eqb _ _ c.if-kind-eq-RECORD.false, eq-eqb _ _ c.if-kind-eq-STRUCT.true)), omega arith)

pub returns : goal.returns
unfolding nameless_size
returns c = (simp (ne_eqb _ _ c.if-kind-eq-RECORD.false, ne_eqb _ _ c.if-kind-eq-STRUCT.false), omega arith)
