-- A row of a symbol has the length without trailing NULs. Assumes nothing.
use native.Mathlib.Omega.{arith}
use mathlib.Core.Path.{ap}
use Rattle.text.specs.TrimLaws.{trimmed-le}
use Rattle.table.specs.ReadingLaws.{put_as, columns-not}
use Rattle.symbology_format.specs.SymbologyRows.{row6}
use Rattle.symbology_rows.proofs.lists.put_symbol.Goals as goal

pub overflow_cast-len : goal.overflow_cast-len
overflow_cast-len c =
    omega (arith, c.trimmed_len-len.ensures, trimmed-le c.args.symbol.now, c.requires)

pub returns-then-n-table : goal.returns-then-n-table
returns-then-n-table c =
    let args = c.args in
    put_as (ap (λ l. row6 args.kind args.start l args.x args.y args.owner) c.trimmed_len-len.ensures) c.put_six.ensures

pub returns-else-n-table : goal.returns-else-n-table
returns-else-n-table c = record { is = columns-not _ _ _ _ c.if-n-table.false }
