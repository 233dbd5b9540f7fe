-- The invariant: the sections left give what all give; each body is its own part of the layout. Assumes nothing.
use Rattle.layout.specs.Kinds.{number_of}
use Rattle.std.specs.Prelude.{◌-◌}
use native.Mathlib.Omega.{arith}
use borrow.Author.Rules.{rules}
use mathlib.Core.Path.{refl, sym, ◌∙◌}
use mathlib.Core.List.{[]}
use Rattle.table.specs.Table.{put_row}
use Rattle.numbers.specs.NumberLaws.{part-place}
use Rattle.wire.specs.SectionLaws.{lies_at}
use Rattle.table.specs.PartLaws.{part_room, part-few}
use Rattle.layout.proofs.Laws.{sections-run, sections-no, sections-end, body-within}
use Rattle.table.specs.ReadingLaws.{Going, going, going-run, going_halt, going-no, going_end, ran_at, ran_refused, ran_shifted, ran_moved}
use Rattle.layout.proofs.Labelling.{cleared_at}
use Rattle.layout.specs.Reader.{sections_at}
use Rattle.marks.specs.Marks.{Marks}
use Rattle.layout.proofs.sections.sections.Given as goal

abbrev pub invariant-loop : goal.invariant-loop
invariant-loop l = Going (put_row 9) 0 l.s (sections_at l.light (number_of l.kind) l.count l.s l.at) l.n l.initial.table (sections_at l.light (number_of l.kind) (l.count - l.counter) l.s l.p) l.p l.k l.table × Marks l.marks []
