-- The layout with tests of its names left out: what is accepted is read as the same. Assumes nothing.
use Rattle.std.specs.Prelude.{ℕ, ◌≡◌, refl, Bool, true, false, cond, List, leb}
use Rattle.std.proofs.Math.ListN.{length}
use Rattle.codec.specs.Codec.{Res, ok, refuse, refusal, ◌>>=◌, num, padded, whole}
use Rattle.codec.specs.CaseLaws.{by_bool}
use Rattle.codec.proofs.Laws.{bind_ok}
use Rattle.codec.specs.Lenient.{Lenient, lax}
use Rattle.codec.proofs.LenientLaws.{lenient_same, lenient_named, lenient_then, lenient_times, lenient_keys, lenient_sized, lenient_counted, lenient_whole}
use Rattle.wire.specs.Formats.{Tests}
use Rattle.wire.specs.Reader.{all_tests, tests_of}
use Rattle.wire.proofs.LenientLaws.{Looser, lenient_name, lenient_section}
use Rattle.layout.specs.Layout.{Layout, label, label_body, label_def, entry, fields, record_body, record_l, struct_body, struct_l, groups, parts, read_layout, to_layout}
use Rattle.layout.specs.LayoutOf.{D, layout_by, layout_of}

module _ {tests tests' : Tests} (l : Looser tests tests') where
  lenient_label : Lenient (label tests).codec (label tests').codec
  unfolding label
  lenient_label = lenient_named (lenient_then (lenient_same (num 50 2)) (lenient_name l)) _ _

  lenient_label_def : Lenient (label_def tests).codec (label_def tests').codec
  unfolding label_def
  lenient_label_def = lenient_named (lenient_section (label_body tests) (label_body tests') (lenient_then (lenient_name l) (lenient_sized 50 2 length (λ n. lenient_keys lenient_label (λ x. x.code) 55 n)))) _ _

  module _ (D : ℕ) where
    lenient_entry : Lenient (entry tests D).codec (entry tests' D).codec
    unfolding entry
    lenient_entry = lenient_named (lenient_same _) _ _

    lenient_fields : Lenient (fields tests D).codec (fields tests' D).codec
    unfolding fields
    lenient_fields = lenient_named (lenient_sized 50 2 _ (λ n. lenient_then (lenient_times lenient_entry n) (lenient_times (lenient_name l) n))) _ _

    lenient_record : Lenient (record_l tests D).codec (record_l tests' D).codec
    unfolding record_l
    lenient_record =
        lenient_named (lenient_section (record_body tests D) (record_body tests' D) (lenient_then (lenient_same (num 50 2)) (lenient_then (lenient_same (num 50 2)) (lenient_then (lenient_same (num 50 2))
        (lenient_then (lenient_same (num 50 8)) (lenient_then (lenient_name l) lenient_fields)))))) _ _

    lenient_struct : Lenient (struct_l tests D).codec (struct_l tests' D).codec
    unfolding struct_l
    lenient_struct = lenient_named (lenient_section (struct_body tests D) (struct_body tests' D) (lenient_then (lenient_same (num 50 2)) (lenient_then (lenient_name l) lenient_fields))) _ _

    lenient_parts : Lenient (parts tests D).codec (parts tests' D).codec
    unfolding parts groups
    lenient_parts =
        lenient_then (lenient_same (num 50 2)) (lenient_then (lenient_counted lenient_record 50) (lenient_then (lenient_counted lenient_struct 50) (lenient_counted lenient_label_def 50)))

-- all tests pass less than any that `light` leaves
fewer : (light : Bool) → Looser all_tests (tests_of light)
fewer true = record { no_nul = λ t e. refl; utf8 = λ t e. refl }
fewer false = record { no_nul = λ t e. e; utf8 = λ t e. e }

-- a layout that is accepted is read as the same without tests
pub light_same : (light : Bool) (s : List ℕ) {t : Layout} {j : ℕ} → layout_of s ≡ ok t j → layout_by (tests_of light) s ≡ ok t j
unfolding layout_by read_layout
light_same light s {t} {j} e = go (leb (length s) 4294967295) e
  where
    go : (b : Bool) → cond b (read_layout all_tests D s) (refuse (refusal 13 0)) ≡ ok t j → cond b (read_layout (tests_of light) D s) (refuse (refusal 13 0)) ≡ ok t j
    go true q =
        let (z, m, e1, e2) = bind_ok (whole (parts all_tests D).codec 0 s) _ t j q in
        rw (lenient_whole (lenient_parts (fewer light) D) 0 s z m e1) e2
    go false q = q
