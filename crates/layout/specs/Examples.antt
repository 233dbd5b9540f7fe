-- Document 01's P6 to P9, computed. Assumes nothing.
use Rattle.std.specs.Prelude.{ℕ, ◌≡◌, refl, true, List, [], ◌∷◌}
use Rattle.codec.specs.Codec.{◌then◌, Res, ok, refuse, refusal, ◌>>=◌, raw, padded, num, fixed, named, checked, placed, sized, times, distinct, whole, boxed}
use Rattle.wire.specs.Formats.{Tests, no_nul, section, text, name}
use Rattle.layout.specs.Layout.{entry, fields, record_l, struct_l, label, label_def, parts, groups, read_layout}
use Rattle.layout.specs.Rows.{rows}

abbrev pub any : Tests
any = record { no_nul = no_nul; utf8 = λ _. true }

-- the version and the rows, or the refusal
abbrev pub answer : List ℕ → Res (ℕ × List (List ℕ))
answer b = read_layout any 16 b >>= λ t j. ok (t.version, rows t) j

abbrev pub p7 : List ℕ
p7 = 1 ∷ 0 ∷ 0 ∷ 0 ∷ 0 ∷ 0 ∷ 1 ∷ 0 ∷ 14 ∷ 0 ∷ 1 ∷ 83 ∷ 0 ∷ 1 ∷ 0 ∷ 66 ∷ 0 ∷ 3 ∷ 66 ∷ 105 ∷ 100 ∷ 0 ∷ []

abbrev pub p8 : List ℕ
p8 = 1 ∷ 0 ∷ 0 ∷ 0 ∷ 0 ∷ 0 ∷ 1 ∷ 0 ∷ 16 ∷ 0 ∷ 1 ∷ 83 ∷ 0 ∷ 1 ∷ 0 ∷ 66 ∷ 0 ∷ 3 ∷ 66 ∷ 105 ∷ 100 ∷ 0 ∷ 170 ∷ 170 ∷ []

abbrev pub p9 : List ℕ
p9 = 1 ∷ 0 ∷ 0 ∷ 0 ∷ 0 ∷ 0 ∷ 1 ∷ 0 ∷ 1 ∷ 0 ∷ 1 ∷ 83 ∷ 0 ∷ 1 ∷ 0 ∷ 66 ∷ 0 ∷ 3 ∷ 66 ∷ 105 ∷ 100 ∷ 0 ∷ []

abbrev pub p7rows : List (List ℕ)
p7rows = (14 ∷ 11 ∷ 1 ∷ 1 ∷ 0 ∷ 0 ∷ 0 ∷ 0 ∷ 0 ∷ []) ∷ (15 ∷ 18 ∷ 3 ∷ 66 ∷ 0 ∷ 0 ∷ 0 ∷ 0 ∷ 0 ∷ []) ∷ []

pub P6 : answer (1 ∷ 0 ∷ 0 ∷ 0 ∷ 0 ∷ 0 ∷ 0 ∷ 0 ∷ []) ≡ ok (1, []) 8
unfolding read_layout whole parts groups sized num raw fixed ◌then◌ times rows
P6 = refl

pub P7 : answer p7 ≡ ok (1, p7rows) 22
unfolding read_layout whole parts groups sized num raw fixed ◌then◌ times rows label_def label named section boxed name text checked placed distinct
P7 = refl

pub P8 : answer p8 ≡ ok (1, p7rows) 24
unfolding read_layout whole parts groups sized num raw fixed ◌then◌ times rows label_def label named section boxed name text checked placed distinct
P8 = refl

pub P9 : answer p9 ≡ refuse (refusal 51 8)
unfolding read_layout whole parts groups sized num raw fixed ◌then◌ times rows label_def label named section boxed name text checked placed distinct
P9 = refl

-- not of document 01: a record of one field, D = 16
abbrev q1 : List ℕ
q1 = 1 ∷ 0 ∷ 1 ∷ 0 ∷ 40 ∷ 0 ∷ 1 ∷ 0 ∷ 2 ∷ 0 ∷ 24 ∷ 0 ∷ 1 ∷ 2 ∷ 3 ∷ 4 ∷ 5 ∷ 6 ∷ 7 ∷ 8 ∷ 1 ∷ 82 ∷ 0 ∷ 1 ∷ 0 ∷ 5 ∷ 0 ∷ 8 ∷ 0 ∷ 4 ∷ 0 ∷ 7 ∷ 9 ∷ 11 ∷ 0 ∷ 255 ∷ 170 ∷ 170 ∷ 170 ∷ 170 ∷ 170 ∷ 1 ∷ 102 ∷ 0 ∷ 0 ∷ 0 ∷ 0 ∷ 0 ∷ []

pub Q1 : answer q1 ≡ ok (1, (10 ∷ 21 ∷ 1 ∷ 1 ∷ 2 ∷ 24 ∷ 1 ∷ 67305985 ∷ 134678021 ∷ []) ∷ (11 ∷ 5 ∷ 8 ∷ 4 ∷ 7 ∷ 9 ∷ 11 ∷ 255 ∷ 0 ∷ []) ∷ (12 ∷ 42 ∷ 1 ∷ 0 ∷ 0 ∷ 0 ∷ 0 ∷ 0 ∷ 0 ∷ []) ∷ []) 48
unfolding read_layout whole parts groups sized num raw fixed ◌then◌ times rows label_def label named section boxed name text checked placed distinct record_l struct_l fields entry padded
Q1 = refl
