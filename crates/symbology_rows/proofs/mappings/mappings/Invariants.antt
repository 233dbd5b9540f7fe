-- The invariant: the mappings left, written from row k on, fill the table as all do. Assumes nothing.
use Rattle.std.proofs.Common.{◌-◌}
use Rattle.dates.specs.Months.{Right}
use Rattle.table.specs.Table.{put_columns}
use Rattle.table.specs.ReadingLaws.{Going}
use Rattle.symbology_rows.specs.Reader.{mappings_at}
use Rattle.symbology_rows.proofs.mappings.mappings.Given as goal

abbrev pub invariant-loop : goal.invariant-loop
invariant-loop l = Going (put_columns 6) l.base l.s (mappings_at l.light l.width l.base l.n l.count l.s l.at) l.n l.initial.table (mappings_at l.light l.width l.base l.k (l.count - l.counter) l.s l.p) l.p l.k l.table × Right l.months
