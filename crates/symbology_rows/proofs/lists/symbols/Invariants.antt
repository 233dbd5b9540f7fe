-- The invariant: the symbols left, written from row n on, fill the table as all do. Assumes nothing.
use Rattle.std.proofs.Common.{◌+◌, ◌-◌}
use Rattle.table.specs.Table.{put_columns}
use Rattle.table.specs.ReadingLaws.{Going}
use Rattle.symbology_rows.specs.Reader.{symbols_at}
use Rattle.symbology_rows.proofs.lists.symbols.Given as goal

abbrev pub invariant-loop-k : goal.invariant-loop-k
invariant-loop-k l = Going (put_columns 6) l.base l.s (symbols_at l.light l.width l.kind l.base l.n l.count l.s l.at) l.n l.initial.table (symbols_at l.light l.width l.kind l.base l.k (l.n + l.count - l.k) l.s l.p) l.p l.k l.table
