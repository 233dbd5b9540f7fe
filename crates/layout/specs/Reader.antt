-- What each part of the reader answers, from the formats: rows and the place after them, or the refusal.
-- Places are counted from `base` before the section. Where `light` holds the texts of names are not looked at.
-- Assumes nothing.
use Rattle.std.specs.Prelude.{Bool, cond, ℕ, List, [], ◌++◌, map, eqb}
use Rattle.codec.specs.Codec.{times_parse, distinct_parse}
use Rattle.codec.proofs.Format.{◌then◌}
use Rattle.wire.specs.Formats.{u16, u64}
use Rattle.wire.specs.Reader.{tests_of, name_by}
use Rattle.numbers.specs.Numbers.{got_of, u16_at, Got}
use Rattle.table.specs.Table.{Out, said, on_got, all_rows}
use Rattle.layout.specs.Layout
use Rattle.layout.specs.Layout.{to_record, to_struct, to_label_def}
use Rattle.layout.specs.LayoutOf.{D}
use Rattle.layout.specs.Rows.{entry_row, name_row, field_rows, record_rows, struct_rows, label_row, label_def_rows}

unfoldable pub entries_at : Bool → ℕ → ℕ → List ℕ → ℕ → Out
entries_at light base n s at = said (map entry_row) (times_parse (Layout.entry (tests_of light) D).codec n base s at)

unfoldable pub names_at : Bool → ℕ → ℕ → List ℕ → ℕ → Out
names_at light base n s at = said (map name_row) (times_parse (name_by (tests_of light)) n base s at)

unfoldable pub fields_at : Bool → ℕ → List ℕ → ℕ → Out
fields_at light base s at = said field_rows ((Layout.fields (tests_of light) D).codec.parse base s at)

-- labels, after labels of the codes `seen`
unfoldable pub labels_at : Bool → ℕ → List ℕ → ℕ → List ℕ → ℕ → Out
labels_at light base seen n s at = said (map label_row) (distinct_parse (Layout.label (tests_of light)).codec (λ l. l.code) 55 n seen base s at)

-- the place after a record's own numbers
unfoldable pub record_head : List ℕ → Got
record_head s = got_of (λ _. 14) ((u16 then u16 then u16 then u64).codec.parse 0 s 0)

-- a section's body by its kind: 0 a record, 1 a struct, else a label def
unfoldable pub record_body : Bool → ℕ → List ℕ → Out
record_body light base s = said (λ z. record_rows (to_record (z, []))) ((Layout.record_body (tests_of light) D).codec.parse base s 0)

unfoldable pub struct_body : Bool → ℕ → List ℕ → Out
struct_body light base s = said (λ z. struct_rows (to_struct (z, []))) ((Layout.struct_body (tests_of light) D).codec.parse base s 0)

unfoldable pub label_body : Bool → ℕ → List ℕ → Out
label_body light base s = said (λ z. label_def_rows (to_label_def (z, []))) ((Layout.label_body (tests_of light)).codec.parse base s 0)

unfoldable pub body_of : Bool → ℕ → ℕ → List ℕ → Out
body_of light kind base s = cond (eqb kind 0) (record_body light base s) (cond (eqb kind 1) (struct_body light base s) (label_body light base s))

-- n items, each in a section of its own, whose body is handed on as its own part of the layout
unfoldable pub sections_at : Bool → ℕ → ℕ → List ℕ → ℕ → Out
sections_at light kind n s at =
    cond (eqb kind 0) (said (all_rows record_rows) (times_parse (Layout.record_l (tests_of light) D).codec n 0 s at))
    (cond (eqb kind 1) (said (all_rows struct_rows) (times_parse (Layout.struct_l (tests_of light) D).codec n 0 s at)) (said (all_rows label_def_rows) (times_parse (Layout.label_def (tests_of light)).codec n 0 s at)))

-- a count and as many items
unfoldable pub group_at : Bool → ℕ → List ℕ → ℕ → Out
group_at light kind s at = on_got (u16_at s at) λ count p. sections_at light kind count s p

-- records, structs, label defs
unfoldable pub groups_at : Bool → List ℕ → ℕ → Out
groups_at light s at = said (λ z. all_rows record_rows z.0 ++ (all_rows struct_rows z.1.0 ++ all_rows label_def_rows z.1.1)) ((Layout.groups (tests_of light) D).codec.parse 0 s at)
