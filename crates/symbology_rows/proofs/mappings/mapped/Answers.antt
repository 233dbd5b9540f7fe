-- A count, held to the bytes left, then the mappings. Assumes nothing.
use Rattle.std.proofs.Common.{sym, ◌∙◌, arith}
use Rattle.codec.specs.Telling.{handed_on}
use Rattle.numbers.specs.NumberLaws.{past-at}
use Rattle.table.specs.ReadingLaws.{ran_is, ran_no}
use Rattle.symbology_rows.proofs.ReaderLaws.{can_here, mapped-ok, mapped_34, mapped-no}
use Rattle.symbology_rows.proofs.mappings.mapped.Goals as goal

pub mappings-requires : goal.mappings-requires
mappings-requires c =
    let pre = c.requires in
    record { room = omega (arith, past-at c.u32_at.ensures.1 c.in_ok-count.was, pre.room); width_bound = pre.width_bound }

pub returns : goal.returns
returns c = ran_is (mapped-ok _ _ _ _ _ _ (sym c.u32_at.ensures.0 ∙ c.in_ok-count.was) (can_here _ _ c.left.ensures c.can_be.ensures c.if-not-can_be.false)) c.mappings.ensures

pub returns-then-not-can_be : goal.returns-then-not-can_be
returns-then-not-can_be c = ran_no (mapped_34 _ _ _ _ _ _ (sym c.u32_at.ensures.0 ∙ c.in_ok-count.was) (can_here _ _ c.left.ensures c.can_be.ensures c.if-not-can_be.true))

pub returns-in_err-count : goal.returns-in_err-count
returns-in_err-count c = rw (handed_on c.from_residual.ensures) (ran_no (mapped-no _ _ _ _ _ _ (sym c.u32_at.ensures.0 ∙ c.in_err-count.was)))
