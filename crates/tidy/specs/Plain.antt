-- What it is for a layout to be in the plain form, part by part: nothing left over, label codes that rise, zeros where an entry is skipped.
-- Assumes nothing.
use Rattle.std.specs.Prelude.{◌-◌, ◌≡◌, [], replicate}
use Rattle.wire.specs.Reader.{all_tests}
use Rattle.layout.specs.Layout.{Entry, RecordL, StructL, LabelDef, Layout}
use Rattle.layout.specs.LayoutOf.{D}
use Rattle.layout.specs.NameCountLaws.{AllOf}
use Rattle.layout.specs.PrintLaws.{Rising}

abbrev pub PlainEntry : Entry → Type 0
PlainEntry e = e.skipped ≡ replicate (D - 11) 0

pub record PlainRecord (r : RecordL) : Type 0 where
  pub entries : AllOf PlainEntry r.fields.entries
  pub rest : r.rest ≡ []

pub record PlainStruct (s : StructL) : Type 0 where
  pub entries : AllOf PlainEntry s.fields.entries
  pub rest : s.rest ≡ []

pub record PlainLabelDef (d : LabelDef) : Type 0 where
  pub rising : Rising all_tests 0 d.labels
  pub rest : d.rest ≡ []

pub record Plain (t : Layout) : Type 0 where
  pub records : AllOf PlainRecord t.records
  pub structs : AllOf PlainStruct t.structs
  pub labels : AllOf PlainLabelDef t.labels
  pub rest : t.rest ≡ []
