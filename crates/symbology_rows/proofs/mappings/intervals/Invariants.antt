-- The invariant: the intervals left, written from row n on, fill the table as all do. Assumes nothing.
use Rattle.std.proofs.Common.{◌+◌, ◌-◌, ◌≡◌, true}
use Rattle.codec.specs.Lenient.{lax}
use Rattle.dates.specs.Date.{is_date}
use Rattle.dates.specs.Months.{Right}
use Rattle.table.specs.Table.{put_columns}
use Rattle.table.specs.ReadingLaws.{Going}
use Rattle.symbology_rows.specs.Reader.{intervals_at}
use Rattle.symbology_rows.proofs.mappings.intervals.Given as goal

abbrev pub invariant-loop-k : goal.invariant-loop-k
invariant-loop-k l = Going (put_columns 6) l.base l.s (intervals_at l.light l.width l.base l.owner l.count l.s l.at) l.first l.initial.table (intervals_at l.light l.width l.base l.owner (l.first + l.count - l.k) l.s l.p) l.p l.k l.table × Right l.months × (lax l.light is_date l.last ≡ true)
