-- Records, structs, label defs. Assumes nothing.
use Rattle.codec.specs.Telling.{handed_on}
use Rattle.table.specs.ReadingLaws.{ran_is, ran_at, ran_seq, ran_stop}
use Rattle.layout.proofs.Laws.{groups-is}
use Rattle.marks.specs.MarkLaws.{marks-none}
use Rattle.layout.proofs.Labelling.{cleared_at}
use borrow.Author.Rules.{rules}
use Rattle.layout.proofs.sections.groups.Goals as goal

pub group-requires : goal.group-requires
group-requires c = record { room = c.requires; marks = marks-none }

pub group-requires-2 : goal.group-requires-2
group-requires-2 c =
    let group = c.group.ensures in
    let w = ran_at group.ran c.in_ok-a.was in
    record { room = record { small = c.requires.small; few = w.0; inside = w.1 }; marks = cleared_at group.cleared c.in_ok-a.was }

pub group-requires-3 : goal.group-requires-3
group-requires-3 c =
    let group2 = c.group-2.ensures in
    let w = ran_at group2.ran c.in_ok-b.was in
    record { room = record { small = c.requires.small; few = w.0; inside = w.1 }; marks = cleared_at group2.cleared c.in_ok-b.was }

pub returns : goal.returns
returns c = ran_is (groups-is _ _ _) (ran_seq c.group.ensures.ran _ c.in_ok-a.was (ran_seq c.group-2.ensures.ran _ c.in_ok-b.was c.group-3.ensures.ran))

pub returns-in_err-b : goal.returns-in_err-b
returns-in_err-b c = rw (handed_on c.from_residual-in_err-b.ensures) (ran_is (groups-is _ _ _) (ran_seq c.group.ensures.ran _ c.in_ok-a.was (ran_stop c.group-2.ensures.ran _ c.in_err-b.was)))

pub returns-in_err-a : goal.returns-in_err-a
returns-in_err-a c = rw (handed_on c.from_residual.ensures) (ran_is (groups-is _ _ _) (ran_stop c.group.ensures.ran _ c.in_err-a.was))
