-- The texts of a symbology's rows lie within the bytes that its symbols lie in. Assumes nothing.
use Rattle.std.specs.Prelude.{ℕ, ◌≡◌, Bool, true, ◌&&◌, List, leb}
use Rattle.std.proofs.Common.{zero-le, arith, ap₂, ◌∙◌, le-leb}
use Rattle.text.specs.TrimLaws.{trimmed-le}
use Rattle.table.specs.EachLaws.{Each, RowInside, PartInside}
use Rattle.symbology_format.specs.Symbology.{Symbology, symbology}
use Rattle.symbology_format.specs.SymbologyRows.{symbology_rows}
use Rattle.symbology_format.proofs.EachRowLaws.{each_row}

-- every row is of kind 0 to 4, and its text, the symbol without the NULs at its end, lies within the m bytes
pub symbology-lies : (utf8 nul_padded : List ℕ → Bool) (is_date : ℕ → Bool) (width m : ℕ) (t : Symbology) → (symbology utf8 nul_padded is_date width).codec.legal t → (symbology utf8 nul_padded is_date width).codec.each (PartInside m) t → Each (RowInside 0 4 m) (symbology_rows t)
symbology-lies utf8 nul_padded is_date width m =
    each_row utf8 nul_padded is_date width (PartInside m) (RowInside 0 4 m)
    (λ kind i x y owner s wide padded e. record { kind = ap₂ ◌&&◌ (le-leb 0 kind zero-le) (le-leb kind 4 i); inside = λ _. omega (arith, trimmed-le s.text) })
