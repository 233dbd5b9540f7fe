-- The invariant: the labels left, after the codes that are marked, give what all give. Assumes nothing.
use Rattle.std.specs.Prelude.{◌-◌}
use native.Mathlib.Omega.{arith}
use borrow.Author.Rules.{rules}
use mathlib.Core.Path.{sym, ◌∙◌}
use mathlib.Core.List.{[]}
use Rattle.numbers.specs.NumberLaws.{past-at}
use Rattle.layout.proofs.Laws.{labels-row, labels-no, labels_no2, labels_55, labels-end}
use Rattle.table.specs.ReadingLaws.{put-row_as, going, going-row, going-no, going_end}
use Rattle.marks.specs.MarkLaws.{marks-more}
use Rattle.layout.proofs.Labelling.{Labelling, label-place, trail, trail-next, trail-end}
use Rattle.layout.proofs.labels.labels.Given as goal

abbrev pub invariant-loop : goal.invariant-loop
invariant-loop l = Labelling l.light l.base l.s l.at l.count l.n l.initial.table l.marks (l.count - l.counter) l.p l.k l.table
