-- The sum, and what is left to add, give the same.
-- Assumes nothing.
use Rattle.std.proofs.Common.{◌≡◌, ◌+◌, ◌-◌, ◌∙◌, arith}
use Rattle.rows_check.specs.SectionLaws.{name-length}
use Rattle.rows_check.proofs.SizeLaws.{names-next, sizes-none}
use Rattle.rows_check.proofs.sizes.names_size.Goals as goal

pub loop-p-init : goal.loop-p-init
loop-p-init c = let z : c.args.q + c.args.n - c.args.q ≡ c.args.n = omega arith in (c.requires.sum_bound, rw z)

pub loop-p-preserved : goal.loop-p-preserved
loop-p-preserved c =
    let h = name-length c.args.rows.now c.args.text.now c.loop-p.p (c.requires.spans c.loop-p.p (omega arith) (omega arith)) in
    (omega arith, rw c.add_to-s.ensures (names-next _ _ _ _ _ c.loop-p-test.true (omega (arith, h))) ∙ c.loop-p.invariant.1)

pub returns : goal.returns
returns c = sizes-none _ _ _ _ _ (omega arith) c.loop-p.invariant.0 ∙ c.loop-p.invariant.1
