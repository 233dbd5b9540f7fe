-- Which numbers a layout gives.
-- Assumes nothing.
use Rattle.std.specs.Prelude.{ℕ, ◌/◌, ◌≤◌, ◌≡◌, Bool, true, false, cond, List, length, leb, Ok, Err}
use Rattle.std.proofs.Common.{zero-le, arith, ap}
use Rattle.std.proofs.Math.Path.{refl}
use Rattle.refusal.specs.declared.Refusal.{Refusal}
use Rattle.codec.specs.Codec.{Res, ok, refuse, refusal, ◌>>=◌, whole}
use Rattle.codec.specs.Refusals.{Gives, In, Within, ends, tells}
use Rattle.codec.proofs.PlaceLaws.{within-is, within-then, within-whole}
use Rattle.codec.proofs.RefusalLaws.{in_more, gives_is, gives_then, gives_by, gives_whole}
use Rattle.wire.specs.Formats.{Tests}
use Rattle.wire.specs.Formats
use Rattle.wire.specs.Reader.{all_tests, tests_of, name_numbers, section_numbers}
use Rattle.wire.proofs.RefusalLaws.{name-numbers, section-numbers}
use Rattle.layout.specs.Layout.{Layout, label, label_body, label_def, entry, fields, record_body, record_l, struct_body, struct_l, groups, parts, to_layout, read_layout}
use Rattle.layout.specs.LayoutOf.{D, layout_of, layout_by}
use Rattle.layout.specs.Rows.{rows}
use Rattle.layout.specs.ReadLaws.{layout-whole}
use Rattle.layout.specs.Answers.{accepted, wire_numbers, layout_numbers, judge, Answers}
use Rattle.layout.specs.declared.ReadError.TheVariants.{Refused, Short}

module _ (P : ℕ → Type 0) (h : (k : ℕ) → In wire_numbers k → P k) (tests : Tests) (D : ℕ) where
  pub parts-numbers : (parts tests D).numbers P
  unfolding label label_def entry fields record_l struct_l groups parts
  parts-numbers =
      let name = name-numbers P tests (λ k i. h k (in_more name_numbers wire_numbers refl k i)) in
      let boxed : (k : ℕ) → In section_numbers k → P k = λ k i. h k (in_more section_numbers wire_numbers refl k i) in
      let cut = h 50 refl in
      let all : P 50 × ((n : ℕ) → P 50 × (Formats.name tests).numbers P) = (cut, λ n. (cut, name)) in
      let records = section-numbers P (record_body tests D) boxed (cut, (cut, (cut, (cut, (name, all))))) in
      let structs = section-numbers P (struct_body tests D) boxed (cut, (name, all)) in
      let defs = section-numbers P (label_body tests) boxed (name, (cut, λ n. ((cut, name), h 55 refl))) in
      (cut, ((cut, λ n. records), ((cut, λ n. structs), (cut, λ n. defs))))

-- a layout of a length that fits: a number of its bytes
pub layout_wire : (s : List ℕ) → length s ≤ 4294967295 → Gives (In wire_numbers) (layout_of s)
layout_wire s h =
    rw (layout-whole s h) (gives_then (In wire_numbers) (whole (parts all_tests D).codec 0 s) (λ z j. ok (to_layout z) j)
    (gives_whole (In wire_numbers) (parts all_tests D).codec ((parts all_tests D).refuses (In wire_numbers) (parts-numbers (In wire_numbers) (λ k i. i) all_tests D)) 0 s)
    (λ z j. tt))

-- any layout, whatever its names' texts are asked
pub layout_gives : (tests : Tests) (s : List ℕ) → Gives (In layout_numbers) (layout_by tests s)
unfolding layout_by read_layout
layout_gives tests s =
    gives_by (In layout_numbers) (leb (length s) 4294967295) (read_layout tests D s) (refuse (refusal 13 0))
    (gives_then (In layout_numbers) (whole (parts tests D).codec 0 s) (λ z j. ok (to_layout z) j)
    (gives_whole (In layout_numbers) (parts tests D).codec ((parts tests D).refuses (In layout_numbers) (parts-numbers (In layout_numbers) (in_more wire_numbers layout_numbers refl) tests D)) 0 s)
    (λ z j. tt))
    refl

-- the place of a layout's refusal is within the layout
pub layout-within : (s : List ℕ) {k : Refusal} → layout_of s ≡ refuse k → k.place ≤ length s
unfolding layout_by read_layout
layout-within s e = within-is (go (leb (length s) 4294967295)) e
  where
    go : (b : Bool) → Within 0 (length s) (cond b (whole (parts all_tests D).codec 0 s >>= λ z j. ok (to_layout z) j) (refuse (refusal 13 0)))
    go true = within-then (whole (parts all_tests D).codec 0 s) (λ z j. ok (to_layout z) j) (within-whole (parts all_tests D).codec (parts all_tests D).inside 0 s) (λ z j a b. ends a b)
    go false = tells zero-le

pub judge-refused : (cap : ℕ) (r : Res Layout) {k : Refusal} → Err (Refused k) ≡ judge cap r → r ≡ refuse k
unfolding judge
judge-refused cap (ok l j) {k} e = absurd (go (leb (length (rows l)) cap) e)
  where
    go : (b : Bool) → Err (Refused k) ≡ cond b (Ok (accepted l.version (length (rows l)))) (Err (Short (accepted l.version (length (rows l))))) → ⊥
    go true e = let z : ◌≡◌ {A = ℕ} 0 1 = cc in omega arith
    go false e = let z : ◌≡◌ {A = ℕ} 0 1 = cc in omega arith
judge-refused cap (refuse j) {k} e = let q : j ≡ k = cc in ap refuse q

-- what the reader's answer refuses with
pub layout-refuses : (light : Bool) (s t t' : List ℕ) (k : Refusal) → Answers light s t t' (Err (Refused k)) → In layout_numbers k.number
layout-refuses light s t t' k a = gives_is (In layout_numbers) (layout_gives (tests_of light) s) (judge-refused (length t / 9) (layout_by (tests_of light) s) a.is)
