-- A count, held to the bytes left, then the symbols. Assumes nothing.
use Rattle.std.proofs.Common.{sym, ◌∙◌, arith}
use Rattle.codec.specs.Telling.{handed_on}
use Rattle.numbers.specs.NumberLaws.{past-at}
use Rattle.table.specs.ReadingLaws.{ran_is, ran_no}
use Rattle.symbology_rows.proofs.ReaderLaws.{count-wide, count_fits_lem, can_here, easy_same, list-ok, list_31, list-no}
use Rattle.symbology_rows.proofs.lists.list.Goals as goal

pub overflow_mul-count : goal.overflow_mul-count
overflow_mul-count c =
    let at = past-at c.u32_at.ensures.1 c.in_ok-count.was in
    let fits = count_fits_lem _ _ _ (can_here _ _ c.left.ensures c.can_be.ensures c.if-not-can_be.false) in
    omega (arith, at, fits, c.requires.room)

pub overflow_add-next : goal.overflow_add-next
overflow_add-next c =
    let at = past-at c.u32_at.ensures.1 c.in_ok-count.was in
    let fits = count_fits_lem _ _ _ (can_here _ _ c.left.ensures c.can_be.ensures c.if-not-can_be.false) in
    omega (arith, at, fits, c.requires.room)

pub slice_bounds-are_easy-end : goal.slice_bounds-are_easy-end
slice_bounds-are_easy-end c =
    let at = past-at c.u32_at.ensures.1 c.in_ok-count.was in
    let fits = count_fits_lem _ _ _ (can_here _ _ c.left.ensures c.can_be.ensures c.if-not-can_be.false) in
    omega (arith, at, fits)

pub symbols-requires : goal.symbols-requires
symbols-requires c =
    let at = past-at c.u32_at.ensures.1 c.in_ok-count.was in
    record { room = omega (arith, at, c.requires.room); width_bound = (c.requires.width_bound, count-wide _ _ _ at.2 (can_here _ _ c.left.ensures c.can_be.ensures c.if-not-can_be.false)) }

pub returns : goal.returns
returns c =
    let u32-at = c.u32_at.ensures in
    let can = can_here _ _ c.left.ensures c.can_be.ensures c.if-not-can_be.false in
    ran_is (list-ok _ _ _ _ _ _ _ (sym u32-at.0 ∙ c.in_ok-count.was) can ∙ easy_same _ _ _ _ _ _ _ (past-at u32-at.1 c.in_ok-count.was).1 can _ _ c.are_easy-easy.ensures) c.symbols.ensures

pub returns-then-not-can_be : goal.returns-then-not-can_be
returns-then-not-can_be c = ran_no (list_31 _ _ _ _ _ _ _ (sym c.u32_at.ensures.0 ∙ c.in_ok-count.was) (can_here _ _ c.left.ensures c.can_be.ensures c.if-not-can_be.true))

pub returns-in_err-count : goal.returns-in_err-count
returns-in_err-count c = rw (handed_on c.from_residual.ensures) (ran_no (list-no _ _ _ _ _ _ _ (sym c.u32_at.ensures.0 ∙ c.in_err-count.was)))
