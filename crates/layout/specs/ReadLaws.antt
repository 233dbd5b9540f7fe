-- What a caller may use of a layout's definitions. Assumes nothing.
use Rattle.std.specs.Prelude.{ℕ, ◌*◌, ◌≤◌, ◌≡◌, refl, List, [], ◌++◌, map, length}
use Rattle.std.proofs.Common.{le-leb}
use Rattle.codec.specs.Codec.{ok, ◌>>=◌, whole}
use Rattle.wire.specs.Reader.{all_tests}
use Rattle.table.specs.Table.{flat, all_rows}
use Rattle.table.proofs.TableLaws.{Wide, wide-append, wide-map, wide-all, flat-length}
use Rattle.layout.specs.Layout
use Rattle.layout.specs.Layout.{Layout, Fields, to_layout}
use Rattle.layout.specs.LayoutOf.{D, layout_of, layout_by}
use Rattle.layout.specs.Rows.{rows, entry_row, name_row, field_rows, record_rows, struct_rows, label_row, label_def_rows}

-- a layout of a length that fits is read by its format
pub layout-whole : (s : List ℕ) → length s ≤ 4294967295 → layout_of s ≡ (whole (Layout.parts all_tests D).codec 0 s >>= λ z j. ok (to_layout z) j)
unfolding layout_by Layout.read_layout
layout-whole s h = rw (le-leb (length s) 4294967295 h)

-- a layout without items has no rows
pub no_rows : (version : ℕ) (rest : List ℕ) → rows (to_layout ((version, ([], ([], []))), rest)) ≡ []
unfolding rows
no_rows version rest = refl

fields-nine : (f : Fields) → Wide 9 (field_rows f)
fields-nine f = wide-append 9 (map entry_row f.entries) (map name_row f.names) (wide-map 9 entry_row (λ e. refl) f.entries) (wide-map 9 name_row (λ n. refl) f.names)

pub rows-nine : (t : Layout) → Wide 9 (rows t)
unfolding rows
rows-nine t =
    wide-append 9 (all_rows record_rows t.records ++ all_rows struct_rows t.structs) (all_rows label_def_rows t.labels)
    (wide-append 9 (all_rows record_rows t.records) (all_rows struct_rows t.structs)
    (wide-all 9 record_rows (λ r. (refl, fields-nine r.fields)) t.records) (wide-all 9 struct_rows (λ s. (refl, fields-nine s.fields)) t.structs))
    (wide-all 9 label_def_rows (λ d. (refl, wide-map 9 label_row (λ l. refl) d.labels)) t.labels)

-- the rows, one after the other, are nine numbers each
pub rows-flat : (t : Layout) → length (flat (rows t)) ≡ 9 * length (rows t)
rows-flat t = flat-length 9 (rows t) (rows-nine t)
