-- The header of a block that has its 100 bytes: what it holds, and which of 20, 29 and 21 to 23 comes first. Assumes nothing.
use Rattle.std.specs.Prelude.{Option, Ok, Err}
use Prim.Native.Nat.{ℕ, ◌+◌, ◌-◌, ◌≤◌}
use native.Mathlib.Nat.{zero-add}
use native.Mathlib.Omega.{arith}
use mathlib.Core.Path.{◌≡◌, refl, sym, ap, ◌∙◌, subst}
use mathlib.Core.Bool.{Bool, true, false}
use mathlib.Core.List.{List}
use lib.ListN.{length, get_or, take, drop}
use Rattle.codec.specs.Codec.{Res, ok, refuse, refusal, ◌>>=◌, need, raw, skip, num, value, ◌then◌, named, checked, fault_of}
use Rattle.refusal.specs.declared.Refusal.{Refusal}
use Rattle.codec.specs.CaseLaws.{by_bool}
use Rattle.codec.proofs.StepLaws.{raw_got, num_got, byte_got}
use Rattle.text.specs.Utf8.{utf8}
use Rattle.padded.specs.Padded.{nul_padded}
use Rattle.padded.specs.PaddedAnswer.{padded_of}
use Rattle.padded.specs.declared.Fault.{Fault}
use Rattle.std.specs.Prelude.{Result}
use Rattle.text.specs.Trim.{trimmed_len}
use Rattle.block_format.specs.Block.{Header, header, is_schema, is_stype, is_stype_in, width_of}
use Rattle.block.specs.Parts.{Fixed, OfHeader, refusal_of}
use Rattle.block_format.specs.Fields.{fields_with, schema_of, end_of, limit_of, stype_in_of, ts_out_of}
use Rattle.metadata_lengths.specs.declared.MetadataLengths.{MetadataLengths}

-- a test of a number by another name
pub was : (p : ℕ → Bool) {x y : ℕ} {r t : Bool} → x ≡ y → r ≡ p x → r ≡ t → p y ≡ t
was p e f g = ap p (sym e) ∙ sym f ∙ g

-- what is told of the first d bytes
pub was_text : (d : ℕ) (b : List ℕ) {r t : Result Unit Fault} → r ≡ padded_of (take (d - 0) (drop 0 b)) → r ≡ t → t ≡ padded_of (take d (drop 0 b))
was_text d b f g = let z : d - 0 ≡ d = omega arith in sym g ∙ (rw z at f)

module _ (b : List ℕ) where
  raw-to : (k n i m : ℕ) → i + n ≡ m → m ≤ length b → (raw k n).parse 0 b i ≡ ok (take n (drop i b)) m
  raw-to k n i m e h = raw_got k n 0 b i (omega arith) ∙ ap (λ (j : ℕ). ok (take n (drop i b)) j) e

  num-to : (k n i m : ℕ) → i + n ≡ m → m ≤ length b → (num k n).parse 0 b i ≡ ok (value (take n (drop i b))) m
  num-to k n i m e h = num_got k n 0 b i (omega arith) ∙ ap (λ (j : ℕ). ok (value (take n (drop i b))) j) e

  byte-to : (k i m : ℕ) → i + 1 ≡ m → m ≤ length b → (num k 1).parse 0 b i ≡ ok (get_or b i 0) m
  byte-to k i m e h = byte_got k 0 b i (omega arith) ∙ ap (λ (j : ℕ). ok (get_or b i 0) j) e

-- what stands in the header's bytes
abbrev pub header_at : MetadataLengths → List ℕ → Header
header_at v b =
    let d : ℕ = v.dataset_cstr_len in
    let k : ℕ = v.record_count_len in
    let w : ℕ = v.symbol_cstr_len_len in record {
      dataset = take d (drop 0 b);
      schema = value (take 2 (drop d b));
      start = value (take 8 (drop (d + 2) b));
      end = value (take 8 (drop (d + 10) b));
      limit = value (take 8 (drop (d + 18) b));
      count = take k (drop (d + 26) b);
      stype_in = get_or b (d + 26 + k) 0;
      stype_out = get_or b (d + 26 + k + 1) 0;
      ts_out = get_or b (d + 26 + k + 2) 0;
      width = value (take w (drop (d + 29 + k) b));
      reserved = take v.reserved_len (drop (d + 29 + k + w) b);
    }

-- the tests in wire order, each at the first byte of what it tests; `d` is the dataset's length and `at` the place of stype_in
abbrev tests : ℕ → ℕ → Header → Res Header
tests d at h =
    need (utf8 h.dataset) 20 0 >>= λ _ _.
    need (nul_padded h.dataset) 29 0 >>= λ _ _.
    need (is_schema h.schema) 21 d >>= λ _ _.
    need (is_stype_in h.stype_in) 22 at >>= λ _ _.
    need (is_stype h.stype_out) 23 (at + 1) >>= λ _ _.
    ok h 100

module _ (v : MetadataLengths) (b : List ℕ) (f : Fixed v b) where
  pub header_is : (header v).codec.parse 0 b 0 ≡ tests v.dataset_cstr_len (v.dataset_cstr_len + 26 + v.record_count_len) (header_at v b)
  unfolding header named ◌then◌ checked skip
  header_is =
      let d : ℕ = v.dataset_cstr_len in
      let k : ℕ = v.record_count_len in
      let w : ℕ = v.symbol_cstr_len_len in
      let t = f.total in
      let l = f.long in
      let h : Header = header_at v b in
      rw (raw-to b 13 d 0 d (zero-add d) (omega arith))
      (by_bool (utf8 h.dataset)
      (λ e1. rw e1
      (by_bool (nul_padded h.dataset)
      (λ e0. rw (e0, num-to b 13 2 d (d + 2) refl (omega arith))
      (by_bool (is_schema h.schema)
      (λ e2. rw (
        e2,
        num-to b 13 8 (d + 2) (d + 10) (omega arith) (omega arith),
        num-to b 13 8 (d + 10) (d + 18) (omega arith) (omega arith),
        num-to b 13 8 (d + 18) (d + 26) (omega arith) (omega arith),
        raw-to b 13 k (d + 26) (d + 26 + k) refl (omega arith),
        byte-to b 13 (d + 26 + k) (d + 26 + k + 1) refl (omega arith),
      )
      (by_bool (is_stype_in h.stype_in)
      (λ e3. rw (e3, byte-to b 13 (d + 26 + k + 1) (d + 26 + k + 2) (omega arith) (omega arith))
      (by_bool (is_stype h.stype_out)
      (λ e4. rw (
        e4,
        byte-to b 13 (d + 26 + k + 2) (d + 29 + k) (omega arith) (omega arith),
        num-to b 13 w (d + 29 + k) (d + 29 + k + w) refl (omega arith),
        raw-to b 13 v.reserved_len (d + 29 + k + w) 100 (omega arith) l,
      ))
      (λ e4. rw e4)))
      (λ e3. rw e3)))
      (λ e2. rw e2)))
      (λ e0. rw e0)))
      (λ e1. rw e1))

-- what is accepted has no fault
pub accepted-no-fault : {A : Type 0} (r : Res A) → Ok tt ≡ refusal_of r → 0 ≡ fault_of r
accepted-no-fault (ok x j) e = refl
accepted-no-fault (refuse k) e = let z : ◌≡◌ {A = ℕ} 0 1 = cc in absurd (omega arith)

-- ---- the ways out

module _ (v : MetadataLengths) (b : List ℕ) (f : Fixed v b) where
  abbrev H : Header
  H = header_at v b

  abbrev D : ℕ
  D = v.dataset_cstr_len

  abbrev At : ℕ
  At = v.dataset_cstr_len + 26 + v.record_count_len

  pub fault_20 : utf8 H.dataset ≡ false → Err (refusal 20 0) ≡ refusal_of ((header v).codec.parse 0 b 0)
  fault_20 e = rw (header_is v b f, e)

  pub fault_29 : (utf8 H.dataset ≡ true) × (nul_padded H.dataset ≡ false) → Err (refusal 29 0) ≡ refusal_of ((header v).codec.parse 0 b 0)
  fault_29 (e, e1) = rw (header_is v b f, e, e1)

  -- the dataset passed
  module _ (t : (utf8 H.dataset ≡ true) × (nul_padded H.dataset ≡ true)) where
    pub fault_21 : is_schema H.schema ≡ false → Err (refusal 21 D) ≡ refusal_of ((header v).codec.parse 0 b 0)
    fault_21 e2 = rw (header_is v b f, t.0, t.1, e2)

    pub fault_22 : is_schema H.schema ≡ true → is_stype_in H.stype_in ≡ false → Err (refusal 22 At) ≡ refusal_of ((header v).codec.parse 0 b 0)
    fault_22 e2 e3 = rw (header_is v b f, t.0, t.1, e2, e3)

    pub fault_23 : is_schema H.schema ≡ true → is_stype_in H.stype_in ≡ true → is_stype H.stype_out ≡ false → Err (refusal 23 (At + 1)) ≡ refusal_of ((header v).codec.parse 0 b 0)
    fault_23 e2 e3 e4 = rw (header_is v b f, t.0, t.1, e2, e3, e4)

    pub fault_0 : is_schema H.schema ≡ true → is_stype_in H.stype_in ≡ true → is_stype H.stype_out ≡ true → Ok tt ≡ refusal_of ((header v).codec.parse 0 b 0)
    fault_0 e2 e3 e4 = rw (header_is v b f, t.0, t.1, e2, e3, e4)

  -- the tests by what each tells
  tried : Bool → Bool → Bool → Bool → Bool → Res Header
  tried a n c d e = need a 20 0 >>= λ _ _. need n 29 0 >>= λ _ _. need c 21 D >>= λ _ _. need d 22 At >>= λ _ _. need e 23 (At + 1) >>= λ _ _. ok H 100

  header-tried : (header v).codec.parse 0 b 0 ≡ tried (utf8 H.dataset) (nul_padded H.dataset) (is_schema H.schema) (is_stype_in H.stype_in) (is_stype H.stype_out)
  unfolding tried
  header-tried = header_is v b f

  -- they give the header that stands there, or a refusal that is not 0
  tests-ok : (a n c d e : Bool) → 0 ≡ fault_of (tried a n c d e) → tried a n c d e ≡ ok H 100
  unfolding tried
  tests-ok true true true true true z = refl
  tests-ok true true true true false z = absurd (omega arith)
  tests-ok true true true false e z = absurd (omega arith)
  tests-ok true true false d e z = absurd (omega arith)
  tests-ok true false c d e z = absurd (omega arith)
  tests-ok false n c d e z = absurd (omega arith)

  pub header_got : 0 ≡ fault_of ((header v).codec.parse 0 b 0) → (header v).codec.parse 0 b 0 ≡ ok H 100
  header_got z = header-tried ∙ tests-ok _ _ _ _ _ (z ∙ ap fault_of header-tried)

  tests-only : (a n c d e : Bool) (h : Header) (j : ℕ) → tried a n c d e ≡ ok h j → H ≡ h
  unfolding tried
  tests-only true true true true true h j q = cc
  tests-only true true true true false h j q = absurd (let z : ◌≡◌ {A = ℕ} 0 1 = cc in omega arith)
  tests-only true true true false e h j q = absurd (let z : ◌≡◌ {A = ℕ} 0 1 = cc in omega arith)
  tests-only true true false d e h j q = absurd (let z : ◌≡◌ {A = ℕ} 0 1 = cc in omega arith)
  tests-only true false c d e h j q = absurd (let z : ◌≡◌ {A = ℕ} 0 1 = cc in omega arith)
  tests-only false n c d e h j q = absurd (let z : ◌≡◌ {A = ℕ} 0 1 = cc in omega arith)

  -- so what holds of what stands there holds of the header
  pub of-header : (P : Header → Type 0) → P H → OfHeader v b P
  of-header P p h j q = subst P (tests-only _ _ _ _ _ h j (sym header-tried ∙ q)) p

  -- the fields, one by one
  pub fields-are : {a w st : ℕ} {sc en li si : Option ℕ} (version m n : ℕ) → a ≡ trimmed_len (take (v.dataset_cstr_len - 0) (drop 0 b)) → sc ≡ schema_of H.schema → st ≡ H.start
      → en ≡ end_of H.end → li ≡ limit_of H.limit → si ≡ stype_in_of H.stype_in → OfHeader v b (λ h. w ≡ width_of v h)
      → OfHeader v b (λ h. record {
        dataset_len = a;
        schema = sc;
        start = st;
        end = en;
        limit = li;
        stype_in = si;
        stype_out = H.stype_out;
        ts_out = ts_out_of H.ts_out;
        symbol_cstr_len = w;
        layout_version = version;
        symbology_rows = m;
        layout_rows = n;
      } ≡ fields_with v h version m n)
  unfolding fields_with
  fields-are {a} {w} {st} {sc} {en} {li} {si} version m n ea es et ee el ei ew h j q =
      let z : v.dataset_cstr_len - 0 ≡ v.dataset_cstr_len = omega arith in
      of-header (λ x. w ≡ width_of v x → record {
        dataset_len = a;
        schema = sc;
        start = st;
        end = en;
        limit = li;
        stype_in = si;
        stype_out = H.stype_out;
        ts_out = ts_out_of H.ts_out;
        symbol_cstr_len = w;
        layout_version = version;
        symbology_rows = m;
        layout_rows = n;
      } ≡ fields_with v x version m n) (λ e. rw (ea, z, es, et, ee, el, ei, e)) h j q (ew h j q)
