-- Symbol and count fit, then the symbol, the count and the intervals. Assumes nothing.
use Rattle.std.proofs.Common.{refl, sym, ◌∙◌, arith}
use Rattle.codec.specs.Telling.{handed_on}
use Rattle.numbers.specs.NumberLaws.{past-at}
use Rattle.table.specs.ReadingLaws.{ran_is, ran_on, ran_on-no, ran_row, ran_yes, ran_else, ran_no}
use Rattle.symbology_rows.proofs.ReaderLaws.{symbol-wide, can_here, mapping_35, mapping-is}
use Rattle.symbology_rows.proofs.mappings.mapping.Goals as goal

pub returns-then-left-width : goal.returns-then-left-width
returns-then-left-width c = (ran_no (mapping_35 _ _ _ _ _ _ (omega (arith, c.left.ensures, c.requires.room))), c.requires.right)

pub put_symbol-requires : goal.put_symbol-requires
put_symbol-requires c =
    let symbol-at = c.raw_symbol_at.ensures in (
      omega (arith, past-at symbol-at.1 c.in_ok-p.was, past-at c.u32_at.ensures.1 c.in_ok-count.was, c.requires),
      omega (arith, symbol-wide _ c.args.width 35 36 42 c.args.s.now _ (sym symbol-at.0 ∙ c.in_ok-p.was) (past-at symbol-at.1 c.in_ok-p.was).1, c.requires.width_bound),
      omega (arith, c.requires.room),
    )

pub intervals-requires : goal.intervals-requires
intervals-requires c =
    let pre = c.requires in
    let at = past-at c.u32_at.ensures.1 c.in_ok-count.was in
    (omega (arith, past-at c.raw_symbol_at.ensures.1 c.in_ok-p.was, at, pre.room), pre.width_bound, pre.right, at.2)

pub returns : goal.returns
returns c = (
  ran_is (mapping-is _ _ _ _ _ _ (omega (arith, c.left.ensures, c.if-left-width.false))) (ran_on _ (sym c.raw_symbol_at.ensures.0 ∙ c.in_ok-p.was) (ran_on _ (sym c.u32_at.ensures.0 ∙ c.in_ok-count.was) (ran_yes _ _ (can_here _ _ c.left-2.ensures c.can_be.ensures c.if-not-can_be.false)
      (ran_row c.put_symbol.ensures c.intervals.ensures.0)))),
  c.intervals.ensures.1,
)

pub returns-then-not-can_be : goal.returns-then-not-can_be
returns-then-not-can_be c = (ran_is (mapping-is _ _ _ _ _ _ (omega (arith, c.left.ensures, c.if-left-width.false))) (ran_on _ (sym c.raw_symbol_at.ensures.0 ∙ c.in_ok-p.was) (ran_on _ (sym c.u32_at.ensures.0 ∙ c.in_ok-count.was) (ran_else _ _ (can_here _ _ c.left-2.ensures c.can_be.ensures c.if-not-can_be.true) (ran_no refl)))), c.requires.right)

pub returns-in_err-count : goal.returns-in_err-count
returns-in_err-count c = (rw (handed_on c.from_residual-in_err-count.ensures) (ran_is (mapping-is _ _ _ _ _ _ (omega (arith, c.left.ensures, c.if-left-width.false))) (ran_on _ (sym c.raw_symbol_at.ensures.0 ∙ c.in_ok-p.was) (ran_on-no _ (sym c.u32_at.ensures.0 ∙ c.in_err-count.was)))), c.requires.right)

pub returns-in_err-p : goal.returns-in_err-p
returns-in_err-p c = (rw (handed_on c.from_residual.ensures) (ran_is (mapping-is _ _ _ _ _ _ (omega (arith, c.left.ensures, c.if-left-width.false))) (ran_on-no _ (sym c.raw_symbol_at.ensures.0 ∙ c.in_err-p.was))), c.requires.right)
