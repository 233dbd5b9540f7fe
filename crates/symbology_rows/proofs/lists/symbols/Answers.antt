-- The invariant: the symbols left, written from row n on, fill the table as all do. Assumes nothing.
use Rattle.std.proofs.Common.{◌≡◌, ◌+◌, sym, ◌∙◌, arith}
use Rattle.codec.specs.Telling.{handed_on}
use Rattle.numbers.specs.NumberLaws.{past-at}
use Rattle.table.specs.ReadingLaws.{going-row, going-no, going_end}
use Rattle.symbology_rows.proofs.ReaderLaws.{symbol-wide, symbols-next, symbols_no, symbols-end}
use Rattle.symbology_rows.proofs.lists.symbols.Goals as goal

pub put_symbol-requires : goal.put_symbol-requires
put_symbol-requires c =
    let symbol-at = c.symbol_at.ensures in (
      omega (arith, past-at symbol-at.1 c.in_ok-next.was, c.requires, c.loop-k.invariant),
      omega (arith, symbol-wide _ c.args.width 31 32 41 c.args.s.now c.loop-k.p (sym symbol-at.0 ∙ c.in_ok-next.was) (past-at symbol-at.1 c.in_ok-next.was).1, c.requires.width_bound),
      omega (arith, c.requires.room, c.loop-k.invariant),
    )

pub loop-k-preserved : goal.loop-k-preserved
loop-k-preserved c =
    let inv = c.loop-k.invariant in
    let symbol-at = c.symbol_at.ensures in
    going-row inv (symbols-next _ _ _ _ _ _ _ _ (omega arith) (sym symbol-at.0 ∙ c.in_ok-next.was)) c.put_symbol.ensures c.put_symbol.auto.table
    (omega (arith, past-at symbol-at.1 c.in_ok-next.was, c.requires.width_bound, inv))

pub returns-in_err-next : goal.returns-in_err-next
returns-in_err-next c = rw (handed_on c.from_residual.ensures) (going-no c.loop-k.invariant (symbols_no _ _ _ _ _ _ _ _ (omega arith) (sym c.symbol_at.ensures.0 ∙ c.in_err-next.was)))

pub returns : goal.returns
returns c =
    let last : c.args.n + c.args.count ≡ c.loop-k.k = omega arith in
    rw last (going_end c.loop-k.invariant (symbols-end _ _ _ _ _ _ _ _ (omega arith)))
