-- The invariant: the entries left, written from row n on, fill the table as all do. Assumes nothing.
use Rattle.std.specs.Prelude.{◌-◌}
use borrow.Author.Rules.{rules}
use native.Mathlib.Omega.{arith}
use Prim.Native.Nat.{ℕ}
use mathlib.Core.List.{List}
use Rattle.table.specs.Table.{put_row}
use Rattle.layout.specs.Rows.{head_row}
use Rattle.layout.specs.LayoutOf.{D-is}
use mathlib.Core.Path.{sym, ap, ◌∙◌}
use Rattle.layout.specs.Reader.{entries_at}
use Rattle.numbers.specs.NumberLaws.{past-at}
use Rattle.layout.proofs.Laws.{entries-row, entries-no, entries-end}
use Rattle.table.specs.ReadingLaws.{put-row_as, Going, going, going-row, going-no, going_end}
use Rattle.layout.proofs.members.entries.Given as goal

abbrev pub invariant-loop : goal.invariant-loop
invariant-loop l = Going (put_row 9) l.base l.s (entries_at l.light l.base l.count l.s l.at) l.n l.initial.table (entries_at l.light l.base (l.count - l.counter) l.s l.p) l.p l.k l.table
