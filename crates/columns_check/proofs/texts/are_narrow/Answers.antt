-- The invariant: what is left to test gives the same answer.
-- Assumes nothing.
use native.Mathlib.Nat.{sub-zero}
use mathlib.Core.Path.{sym, ap, ◌∙◌}
use borrow.Author.Tests.{le-leb, lt-leb}
use lib.Dec.{leb}
use Rattle.columns_check.specs.Tree.{len_of}
use Rattle.columns_check.specs.Check.{every, narrow}
use Rattle.columns_check.proofs.WalkLaws.{every_yes, every-no, every-none}
use Rattle.columns_check.proofs.texts.are_narrow.Goals as goal

pub loop-r-init : goal.loop-r-init
unfolding narrow
loop-r-init c = let args = c.args in ap (every (λ j. leb (len_of args.table.now j) args.width) 0) (sub-zero args.n)

pub returns-then-width-number_at : goal.returns-then-width-number_at
returns-then-width-number_at c =
    let args = c.args in
    sym (every-no (λ j. leb (len_of args.table.now j) args.width) c.loop-r.r args.n c.loop-r-test.true (rw (← c.number_at.ensures) (lt-leb _ _ c.if-width-number_at.true))) ∙ c.loop-r.invariant

pub loop-r-preserved : goal.loop-r-preserved
loop-r-preserved c =
    let args = c.args in
    sym (every_yes (λ j. leb (len_of args.table.now j) args.width) c.loop-r.r args.n c.loop-r-test.true (rw (← c.number_at.ensures) (le-leb _ _ c.if-width-number_at.false))) ∙ c.loop-r.invariant

pub returns : goal.returns
returns c =
    let args = c.args in
    sym (every-none (λ j. leb (len_of args.table.now j) args.width) c.loop-r.r args.n c.loop-r-test.false) ∙ c.loop-r.invariant
