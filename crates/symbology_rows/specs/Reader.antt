-- What each part of the symbology's reader answers, from the formats; where `light` holds, with the tests of texts and dates left out.
-- Assumes nothing.
use Rattle.std.specs.Prelude.{ℕ, ◌+◌, ◌/◌, List, map, Bool, cond, leb, length}
use Rattle.codec.specs.Codec.{Res, refuse, refusal, limited, times_parse, Codec}
use Rattle.codec.specs.Lenient.{lax}
use Rattle.text.specs.Utf8.{utf8}
use Rattle.padded.specs.Padded.{nul_padded}
use Rattle.dates.specs.Date.{is_date}
use Rattle.symbology_format.specs.Symbology
use Rattle.symbology_format.specs.Symbology.{Symbol, Interval, Mapping}
use Rattle.symbology_format.specs.SymbologyRows.{list_rows, interval_row, mapping_rows, symbology_rows}
use Rattle.table.specs.Table.{Out, said, each_from}
use Rattle.numbers.specs.Numbers.{got_of, num_at, Got}

-- a count; why where it is missing
abbrev pub u32_at : ℕ → List ℕ → ℕ → Got
u32_at why s at = num_at why 4 s at

-- a symbol of this width: why where it is cut short, not where it is no UTF-8, after where another byte follows a NUL
abbrev pub symbol : Bool → ℕ → ℕ → ℕ → ℕ → Codec Symbol
symbol light width why not after = (Symbology.symbol (lax light utf8) (lax light nul_padded) (lax light is_date) width why not after).codec

-- where the symbol starts, and the place after it
unfoldable pub symbol_at : Bool → ℕ → ℕ → ℕ → ℕ → List ℕ → ℕ → Got
symbol_at light width why not after s at = got_of (λ x. x.start) ((symbol light width why not after).parse 0 s at)

-- n symbols of a list, in the rows from m on
unfoldable pub symbols_at : Bool → ℕ → ℕ → ℕ → ℕ → ℕ → List ℕ → ℕ → Out
symbols_at light width kind base m n s at = said (λ xs. list_rows kind xs m) (times_parse (symbol light width 31 32 41) n base s at)

unfoldable pub list_at : Bool → ℕ → ℕ → ℕ → ℕ → List ℕ → ℕ → Out
list_at light width kind base m s at = said (λ xs. list_rows kind xs m) ((Symbology.list (lax light utf8) (lax light nul_padded) (lax light is_date) width).codec.parse base s at)

abbrev pub interval : Bool → ℕ → Codec Interval
interval light width = (Symbology.interval (lax light utf8) (lax light nul_padded) (lax light is_date) width).codec

abbrev pub mapping : Bool → ℕ → Codec Mapping
mapping light width = (Symbology.mapping (lax light utf8) (lax light nul_padded) (lax light is_date) width).codec

unfoldable pub date_at : Bool → ℕ → List ℕ → ℕ → Got
date_at light why s at = got_of (λ v. v) ((Symbology.date (lax light utf8) (lax light nul_padded) (lax light is_date) 0 why).codec.parse 0 s at)

-- n intervals of the mapping in row `owner`
unfoldable pub intervals_at : Bool → ℕ → ℕ → ℕ → ℕ → List ℕ → ℕ → Out
intervals_at light width base owner n s at = said (map (interval_row owner)) (times_parse (interval light width) n base s at)

-- mappings, in the rows from m on
unfoldable pub mapping_at : Bool → ℕ → ℕ → ℕ → List ℕ → ℕ → Out
mapping_at light width base m s at = said (λ x. mapping_rows x m) ((mapping light width).parse base s at)

unfoldable pub mappings_at : Bool → ℕ → ℕ → ℕ → ℕ → List ℕ → ℕ → Out
mappings_at light width base m n s at = said (λ xs. each_from mapping_rows xs m) (times_parse (mapping light width) n base s at)

unfoldable pub mapped_at : Bool → ℕ → ℕ → ℕ → List ℕ → ℕ → Out
mapped_at light width base m s at = said (λ xs. each_from mapping_rows xs m) ((limited (mapping light width) 33 34 4 (width + 4)).parse base s at)

unfoldable pub symbology_at : Bool → ℕ → ℕ → List ℕ → ℕ → Out
symbology_at light width base s at = said symbology_rows ((Symbology.symbology (lax light utf8) (lax light nul_padded) (lax light is_date) width).codec.parse base s at)

-- as many items of at least `least` bytes can be in `room` bytes
unfoldable pub can_be : ℕ → ℕ → ℕ → Bool
can_be count room least = leb count (room / least)

-- what a symbology at byte `base` of a block is read as
unfoldable pub symbology_of : ℕ → ℕ → List ℕ → Res Symbology.Symbology
symbology_of width base s = cond (leb (base + length s) 4294967295) ((Symbology.symbology utf8 nul_padded is_date width).codec.parse base s 0) (refuse (refusal 13 0))
