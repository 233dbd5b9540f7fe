-- Three comparisons.
-- Assumes nothing.
use Rattle.std.proofs.Common.{⊎_elim, arith}
use borrow.Author.Tests.{le-leb, lt-leb}
use Rattle.rows_check.specs.Check.{both, groups_fit}
use Rattle.rows_check.proofs.order.groups_fit.Goals as goal
use Rattle.rows_check.proofs.order.groups_fit.Goals.{then-groups-le65535, else-groups-le65535}

pub returns-then-groups-le65535-2 : goal.returns-then-groups-le65535-2
unfolding groups_fit both
returns-then-groups-le65535-2 c = let h = c.if-groups-le65535-2.true in simp (le-leb _ _ h.0, le-leb _ _ h.1)

pub returns-else-groups-le65535-2 : goal.returns-else-groups-le65535-2
unfolding groups_fit both
returns-else-groups-le65535-2 c =
    elim c.if-groups-le65535.branch [
      | then-groups-le65535 w ↦
          ⊎_elim
          (λ n. rw w.t-3-is (simp (le-leb _ _ n.0, lt-leb _ _ n.1)))
          (λ n. absurd (omega arith))
          c.if-groups-le65535-2.either
      | else-groups-le65535 w ↦ rw w.t-3-is (simp (lt-leb _ _ w.if-groups-le65535.false))
    ]
