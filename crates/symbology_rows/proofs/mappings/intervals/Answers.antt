-- The invariant: the intervals left, written from row k on, fill the table as all do. Assumes nothing.
use Rattle.std.proofs.Common.{◌≡◌, ◌+◌, ◌-◌, sym, ◌∙◌, arith}
use Rattle.codec.specs.Telling.{handed_on}
use Rattle.numbers.specs.NumberLaws.{past-at}
use Rattle.table.specs.ReadingLaws.{going, going-row, going-no, going_end}
use Rattle.symbology_rows.proofs.ReaderLaws.{symbol-wide, intervals-next, intervals_no1, intervals_no2, intervals_no3, intervals-end, passes-first, date-passes}
use Rattle.symbology_rows.proofs.mappings.intervals.Goals as goal

pub loop-k-init : goal.loop-k-init
loop-k-init c =
    let all : c.args.owner + 1 + c.args.count - (c.args.owner + 1) ≡ c.args.count = omega arith in
    (rw all (going _ c.requires.0), c.requires.2, passes-first c.args.light)

pub overflow_cast-a : goal.overflow_cast-a
overflow_cast-a c = omega (arith, past-at c.date_at.ensures.1 c.in_ok-a.was)

pub overflow_cast-b : goal.overflow_cast-b
overflow_cast-b c = omega (arith, past-at c.date_at-in-loop-k.ensures.1 c.in_ok-b.was)

pub put_interval-requires : goal.put_interval-requires
put_interval-requires c =
    let symbol-at = c.interval_name.ensures in
    record {
      start_bound = (
        omega (arith, past-at symbol-at.1 c.in_ok-e.was, c.requires.0),
        omega (arith, symbol-wide _ c.args.width 37 40 43 c.args.s.now _ (sym symbol-at.0 ∙ c.in_ok-e.was) (past-at symbol-at.1 c.in_ok-e.was).1, c.requires.1),
        omega (arith, c.requires.0, c.loop-k.invariant.0),
      );
      right = c.date_at-in-loop-k.ensures.2;
    }

pub loop-k-preserved : goal.loop-k-preserved
loop-k-preserved c =
    let inv = c.loop-k.invariant.0 in
    let first = c.date_at.ensures in
    let second = c.date_at-in-loop-k.ensures in
    let symbol-at = c.interval_name.ensures in (
      going-row inv (intervals-next _ _ _ _ _ _ _ (omega arith) (sym first.0 ∙ c.in_ok-a.was) (sym second.0 ∙ c.in_ok-b.was) (sym symbol-at.0 ∙ c.in_ok-e.was)) c.put_interval.ensures.0 c.put_interval.auto.table
          (omega (arith, past-at first.1 c.in_ok-a.was, past-at second.1 c.in_ok-b.was, past-at symbol-at.1 c.in_ok-e.was, inv)),
      c.put_interval.ensures.1,
      date-passes _ 39 _ _ (sym second.0 ∙ c.in_ok-b.was),
    )

pub returns-in_err-a : goal.returns-in_err-a
returns-in_err-a c = (rw (handed_on c.from_residual.ensures) (going-no c.loop-k.invariant.0 (intervals_no1 _ _ _ _ _ _ _ (omega arith) (sym c.date_at.ensures.0 ∙ c.in_err-a.was))), c.date_at.ensures.2)

pub returns-in_err-b : goal.returns-in_err-b
returns-in_err-b c = (rw (handed_on c.from_residual-in_err-b.ensures) (going-no c.loop-k.invariant.0 (intervals_no2 _ _ _ _ _ _ _ (omega arith) (sym c.date_at.ensures.0 ∙ c.in_ok-a.was) (sym c.date_at-in-loop-k.ensures.0 ∙ c.in_err-b.was))), c.date_at-in-loop-k.ensures.2)

pub returns-in_err-e : goal.returns-in_err-e
returns-in_err-e c = (rw (handed_on c.from_residual-in_err-e.ensures) (going-no c.loop-k.invariant.0 (intervals_no3 _ _ _ _ _ _ _ (omega arith) (sym c.date_at.ensures.0 ∙ c.in_ok-a.was) (sym c.date_at-in-loop-k.ensures.0 ∙ c.in_ok-b.was) (sym c.interval_name.ensures.0 ∙ c.in_err-e.was))), c.date_at-in-loop-k.ensures.2)

pub returns : goal.returns
returns c =
    let last : c.args.owner + 1 + c.args.count ≡ c.loop-k.k = omega arith in
    (rw last (going_end c.loop-k.invariant.0 (intervals-end _ _ _ _ _ _ _ (omega arith))), c.loop-k.invariant.1)
