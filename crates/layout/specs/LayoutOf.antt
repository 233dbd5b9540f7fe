-- The layout's formats with the text crate's UTF-8 and the entry length of the wire. Of D the proofs use 11 ≤ D only.
-- Assumes nothing.
use Rattle.std.specs.Prelude.{cond, ℕ, ◌≤◌, ◌≡◌, refl, List, length, leb}
use Rattle.std.proofs.Common.{arith}
use Rattle.codec.specs.Codec.{Res, refuse, refusal, Codec}
use Rattle.wire.specs.Reader.{all_tests}
use Rattle.wire.specs.Formats.{Tests}
use Rattle.layout.specs.Layout
use Rattle.layout.specs.Layout.{Entry, Fields, RecordL, StructL, Label, LabelDef}

unfoldable pub D : ℕ
D = 16

pub D-least : 11 ≤ D
unfolding D
D-least = omega arith

pub D-is : D ≡ 16
unfolding D
D-is = refl

abbrev pub entry : Codec Entry
entry = (Layout.entry all_tests D).codec

abbrev pub fields : Codec Fields
fields = (Layout.fields all_tests D).codec

abbrev pub label : Codec Label
label = (Layout.label all_tests).codec

abbrev pub record_l : Codec RecordL
record_l = (Layout.record_l all_tests D).codec

abbrev pub struct_l : Codec StructL
struct_l = (Layout.struct_l all_tests D).codec

abbrev pub label_def : Codec LabelDef
label_def = (Layout.label_def all_tests).codec

-- what a layout given whole is read as, where the names' texts pass these tests
unfoldable pub layout_by : Tests → List ℕ → Res Layout.Layout
layout_by tests s = cond (leb (length s) 4294967295) (Layout.read_layout tests D s) (refuse (refusal 13 0))

-- the same, with all of them
abbrev pub layout_of : List ℕ → Res Layout.Layout
layout_of s = layout_by all_tests s
