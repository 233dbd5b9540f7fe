-- The rows of a symbology, part by part. Assumes nothing.
use Rattle.std.specs.Prelude.{◌≡◌, refl}
use Rattle.table.specs.Table.{◌and_then◌, each_from}
use Rattle.symbology_format.specs.Symbology.{Symbology}
use Rattle.symbology_format.specs.SymbologyRows.{list_rows, mapping_rows, symbology_rows}

-- the lists symbols, partial, not found, then the mappings, from row 0 on
pub rows-parts : (t : Symbology) → symbology_rows t ≡ (list_rows 0 t.symbols and_then list_rows 1 t.partial and_then list_rows 2 t.not_found and_then each_from mapping_rows t.mappings) 0
unfolding symbology_rows
rows-parts t = refl
