-- A count, the entries, then a name for each. Assumes nothing.
use Rattle.codec.specs.Telling.{handed_on}
use native.Mathlib.Omega.{arith}
use mathlib.Core.Path.{sym, ◌∙◌}
use Rattle.numbers.specs.NumberLaws.{past-at}
use Rattle.layout.proofs.Laws.{fields-ok, fields-no}
use Rattle.table.specs.ReadingLaws.{ran_seq, ran_stop, ran_is, ran_no, ran_at}
use borrow.Author.Rules.{rules}
use Rattle.layout.proofs.members.fields.Goals as goal

pub entries-requires : goal.entries-requires
entries-requires c =
    let u16-at = c.u16_at.ensures in
    record { small = c.requires.small; few = omega (arith, past-at u16-at.1 c.in_ok-count.was); inside = (past-at u16-at.1 c.in_ok-count.was).1 }

pub names-requires : goal.names-requires
names-requires c =
    let entries = c.entries.ensures in
    record { small = c.requires.small; few = (ran_at entries c.in_ok-m.was).0; inside = (ran_at entries c.in_ok-m.was).1 }

pub returns : goal.returns
returns c =
    ran_is (fields-ok _ _ _ _ (sym c.u16_at.ensures.0 ∙ c.in_ok-count.was))
    (ran_seq c.entries.ensures _ c.in_ok-m.was c.names.ensures)

pub returns-in_err-m : goal.returns-in_err-m
returns-in_err-m c =
    rw (handed_on c.from_residual-in_err-m.ensures) (ran_is (fields-ok _ _ _ _ (sym c.u16_at.ensures.0 ∙ c.in_ok-count.was))
    (ran_stop c.entries.ensures _ c.in_err-m.was))

pub returns-in_err-count : goal.returns-in_err-count
returns-in_err-count c = rw (handed_on c.from_residual.ensures) (ran_no (fields-no _ _ _ _ (sym c.u16_at.ensures.0 ∙ c.in_err-count.was)))
