-- The layout part and the symbology part from the bytes that a u32 length announces. Assumes nothing.
use Rattle.std.specs.Prelude.{Ok, Err}
use Prim.Native.Nat.{ℕ, ◌+◌, ◌-◌, ◌/◌, ◌≤◌, ◌<◌, zero-le}
use native.Mathlib.Nat.{zero-add}
use native.Mathlib.Omega.{arith}
use mathlib.Core.Path.{◌≡◌, refl, sym, ap, ap₂, ◌∙◌, subst}
use mathlib.Core.Bool.{Bool, true, false, not}
use mathlib.Core.Logic.{◌⊎◌, inl, inr}
use mathlib.Core.List.{List, [], ◌∷◌}
use lib.ListN.{length, take, drop, length-take, length-drop}
use lib.Seq.{take_all}
use lib.Dec.{eqb}
use borrow.Author.Tests.{le-leb, lt-leb}
use Rattle.refusal.specs.declared.Refusal.{Refusal}
use Rattle.std.specs.Prelude.{Result, Err}
use Rattle.refusal.specs.Places.{has_place}
use Rattle.codec.specs.CaseLaws.{by_bool, by_le, no_true}
use Rattle.codec.specs.Refusals.{In, all_pass}
use Rattle.codec.proofs.RefusalLaws.{gives_is, in_pass}
use Rattle.codec.specs.Codec.{Res, ok, refuse, refusal, shifted, ◌>>=◌, need, Codec, raw, num, value, sized, named, checked, judged, whole, boxed, is_nil, full, remainder}
use Rattle.codec.proofs.Laws.{bind_ok, need-ok}
use Rattle.codec.proofs.StepLaws.{raw_got, raw-bad, num_got, num-bad}
use Rattle.text.specs.Utf8.{utf8}
use Rattle.wire.specs.Reader.{all_tests}
use Rattle.padded.specs.Padded.{nul_padded}
use Rattle.dates.specs.Date.{is_date}
use Rattle.layout.specs.Layout.{Layout, Parts, parts, to_layout, from_layout}
use Rattle.layout.specs.LenientLaws.{light_same}
use Rattle.layout.specs.LayoutOf.{D, layout_of}
use Rattle.symbology_format.specs.Symbology.{Symbology, symbology}
use Rattle.symbology.specs.Reader.{section_of}
use Rattle.layout.specs.Answers.{accepted, wire_numbers, leave, verdict}
use Rattle.layout.specs.RefusalLaws.{layout_wire}
use Rattle.symbology.specs.Answers.{SectionPromise}
use Rattle.layout.specs.ReadLaws.{layout-whole, no_rows}
use Rattle.symbology.specs.ReadLaws.{section-parse, rest-parse, refused-promise, moved_in, promise-moved}
use Rattle.symbology.specs.declared.Section.{Section}
use Rattle.symbology.specs.declared.Section.TheVariants as Section'
use Rattle.item_rules.specs.Rules.{rule_numbers}
use Rattle.rules.specs.Rules.{rules_of, ruled_of}
use Rattle.rules.proofs.RefusalLaws.{ruled_either}
use Rattle.rules.specs.RuleLaws.{ruled-is}
use Rattle.block_format.specs.Block.{no_items, layout_part, symbology_part}
use Rattle.block.specs.Parts.{in_block, span_of, span_at, SpanInside, within, outside, section_at, layout_table, LayoutReads, lays, lays-no, SymbologyReads, Span}
use Rattle.layout.specs.AnswerLaws.{verdict-ok, verdict-no, leave-ok, leave_anywhere}
use Rattle.engines.specs.VerdictLaws.{ruled-layout}

-- ---- spans

module _ (k k' : ℕ) (b : List ℕ) (at : ℕ) where
  pub span_none : length b < at + 4 → Err (refusal k at) ≡ span_at k k' b at
  unfolding span_at
  span_none h = rw (num-bad k 4 0 b at h)

  module _ (n : ℕ) (h : at + 4 ≤ length b) (e : n ≡ value (take 4 (drop at b))) where
    pub span-past : length b < at + 4 + n → Err (refusal k' (at + 4)) ≡ span_at k k' b at
    unfolding span_at
    span-past g = rw (num_got k 4 0 b at h, ← e, raw-bad k' n 0 b (at + 4) g)

    pub span-part : at + 4 + n ≤ length b → Ok ((at + 4), n) ≡ span_at k k' b at
    unfolding span_at
    span-part g = rw (num_got k 4 0 b at h, ← e, raw_got k' n 0 b (at + 4) g)

pub within-at : {b : List ℕ} {at p n : ℕ} {r : Span} → SpanInside b at r → r ≡ Ok (p, n) → (at ≤ p) × (p + n ≤ length b)
within-at {b} {at} {p} {n} h e = go (rw e at h)
  where
    go : SpanInside b at (Ok (p, n)) → (at ≤ p) × (p + n ≤ length b)
    go (within x y) = (x, y)

pub within-mk : {b : List ℕ} {at p n : ℕ} → at ≤ p → p + n ≤ length b → SpanInside b at (Ok (p, n))
within-mk {p = p} {n} x y = within {p = p} {n = n} x y

pub outside-mk : {b : List ℕ} {at : ℕ} {k : Refusal} → SpanInside b at (Err k)
outside-mk {k = k} = outside {k = k}

-- the bytes from p up to p + n
slice : (p n : ℕ) (b : List ℕ) → take (p + n - p) (drop p b) ≡ take n (drop p b)
slice p n b = let z : p + n - p ≡ n = omega arith in rw z

pub within-back : {b : List ℕ} {at : ℕ} {r : Span} → SpanInside b (at + 4) r → SpanInside b at r
within-back (within {p = p} {n = n} x y) = within {p = p} {n = n} (omega arith) y
within-back (outside {k = k}) = outside {k = k}

-- a span that was found, in the codec's words
pub record Spanned (k k' : ℕ) (b : List ℕ) (at p n : ℕ) : Type 0 where
  pub number : (num k 4).parse 0 b at ≡ ok n p
  pub bytes : (raw k' n).parse 0 b p ≡ ok (take n (drop p b)) (p + n)

-- and one that was not: the length is missing, or the bytes run past the end
data Cut (k k' : ℕ) (b : List ℕ) (at : ℕ) (r : Refusal) : Type 0 where
  missing : (num k 4).parse 0 b at ≡ refuse r → Cut k k' b at r
  past : {n p : ℕ} → 0 < n → (num k 4).parse 0 b at ≡ ok n p → (raw k' n).parse 0 b p ≡ refuse r → Cut k k' b at r

module _ (k k' : ℕ) (b : List ℕ) (at : ℕ) where
  pub spanned : {p n : ℕ} → span_at k k' b at ≡ Ok (p, n) → p + n ≤ length b → Spanned k k' b at p n
  unfolding span_at
  spanned {p} {n} e h =
      let (m, q, e1, e2) = bind_ok ((num k 4).parse 0 b at) _ n p (go ((num k 4).parse 0 b at >>= λ n p. (raw k' n).parse 0 b p >>= λ x j. ok n p) e) in
      let (x, j, e3, e4) = bind_ok ((raw k' m).parse 0 b q) _ n p e2 in
      let mn : m ≡ n = cc in
      let qp : q ≡ p = cc in
      record { number = e1 ∙ ap₂ (λ (a c : ℕ). ok a c) mn qp; bytes = raw_got k' n 0 b p h }
    where
      go : (r : Res ℕ) → span_of r ≡ Ok (p, n) → r ≡ ok n p
      go (ok m q) e = let z : ◌≡◌ {A = ℕ × ℕ} (q, m) (p, n) = cc in ap₂ (λ (a c : ℕ). ok a c) (ap (λ x. x.1) z) (ap (λ x. x.0) z)
      go (refuse k) e = absurd (let z : ◌≡◌ {A = ℕ} 0 1 = cc in omega arith)

  cut : {r : Refusal} → span_at k k' b at ≡ Err r → Cut k k' b at r
  cut {r} e =
      by_le (at + 4) (length b)
      (λ h.
      let n : ℕ = value (take 4 (drop at b)) in
      by_le (at + 4 + n) (length b)
      (λ g. absurd (let q = span-part k k' b at n h refl g ∙ e in let z : ◌≡◌ {A = ℕ} 0 1 = cc in omega arith))
      (λ g.
      let q = span-past k k' b at n h refl g ∙ e in
      let z : refusal k' (at + 4) ≡ r = cc in
      past {n = n} {p = at + 4} (omega arith) (num_got k 4 0 b at h) (raw-bad k' n 0 b (at + 4) g ∙ ap refuse z)))
      (λ h.
      let q = span_none k k' b at h ∙ e in
      let z : refusal k at ≡ r = cc in
      missing (num-bad k 4 0 b at h ∙ ap refuse z))

-- ---- a part with a length that counts no byte of its own, and is at least `least`, 0 or 1

module _ {A : Type 0} (k k'' k' least : ℕ) (few : least ≤ 1) (inner : ℕ → ℕ) (spot : (ℕ → List ℕ → Type 0) → A → Type 0) (c : Codec A) (b : List ℕ) (at : ℕ) where
  pub boxed-cut : {r : Refusal} → span_at k k' b at ≡ Err r → (boxed k k'' k' 4 0 least inner spot c).parse 0 b at ≡ refuse r
  unfolding boxed
  boxed-cut {r} e = go (cut k k' b at e)
    where
      go : Cut k k' b at r → (boxed k k'' k' 4 0 least inner spot c).parse 0 b at ≡ refuse r
      go (missing x) = rw x
      go (past {n} {p} h x y) = let z : n - 0 ≡ n = omega arith in rw (x, le-leb least n (omega arith), z, y)

  pub boxed-read : {p n : ℕ} → Spanned k k' b at p n → least ≤ n → (boxed k k'' k' 4 0 least inner spot c).parse 0 b at ≡ (shifted p (whole c (inner (0 + p)) (take n (drop p b))) >>= λ z _. ok z (p + n))
  unfolding boxed
  boxed-read {p} {n} s h = let z : n - 0 ≡ n = omega arith in rw (s.number, le-leb least n h, z, s.bytes)

  pub boxed_less : {p n : ℕ} → Spanned k k' b at p n → n < least → (boxed k k'' k' 4 0 least inner spot c).parse 0 b at ≡ refuse (refusal k'' at)
  unfolding boxed
  boxed_less {p} {n} s h = rw (s.number, lt-leb least n h)

-- ---- the layout part

-- what refuses a layout's bytes has a place, and what its rules refuse has none
wire_places : all_pass has_place wire_numbers ≡ true
wire_places = refl

rule_places : all_pass (λ m. not (has_place m)) rule_numbers ≡ true
rule_places = refl

not-place : (x : Bool) → not x ≡ true → x ≡ false
not-place true e = absurd (no_true (sym e))
not-place false e = refl

nil_not : (l : List ℕ) → 0 < length l → is_nil l ≡ false
nil_not [] h = absurd (omega arith)
nil_not (x ∷ l) h = refl

-- the layout's bytes as its reader and the rules see them
module _ (sheet : List ℕ) (width : ℕ) where
  abbrev Z : Type 0
  Z = Parts × List ℕ

  -- the rules, after a layout
  abbrev ruling : Layout → ℕ → Res Layout
  ruling l j = need (eqb 0 (rules_of sheet width (from_layout l).0)) (rules_of sheet width (from_layout l).0) 0 >>= λ _ _. ok l j

  -- wherever it ends
  ruling-no : (l : Layout) (i j : ℕ) {k : Refusal} → ruling l i ≡ refuse k → ruling l j ≡ refuse k
  ruling-no l i j {k} e = go (eqb 0 (rules_of sheet width (from_layout l).0)) (rules_of sheet width (from_layout l).0) e
    where
      go : (t : Bool) (n : ℕ) → (need t n 0 >>= λ _ _. ok l i) ≡ refuse k → (need t n 0 >>= λ _ _. ok l j) ≡ refuse k
      go true n e = absurd (let z : ◌≡◌ {A = ℕ} 0 1 = cc in omega arith)
      go false n e = let z : refusal n 0 ≡ k = cc in ap refuse z

  pub ruled-part : (part : List ℕ) → length part ≤ 4294967295 → (p e : ℕ)
      → ((◌>>=◌ {B = Z} (shifted p (whole (parts all_tests D).codec 0 part) >>= λ z _. ok z e) λ x j. need (eqb 0 (rules_of sheet width x.0)) (rules_of sheet width x.0) 0 >>= λ _ _. ok x j) >>= λ x j. ok (to_layout x) j)
      ≡ (shifted p (layout_of part) >>= λ l _. ruling l e)
  ruled-part part s p e = rw (layout-whole part s) (go (whole (parts all_tests D).codec 0 part))
    where
      by : (z : Z) (k : ℕ) (t : Bool) → (◌>>=◌ {B = Layout} (◌>>=◌ {B = Z} (need t k 0) λ _ _. ok z e) λ x j. ok (to_layout x) j) ≡ (need t k 0 >>= λ _ _. ok (to_layout z) e)
      by z k true = refl
      by z k false = refl

      go : (r : Res Z) → ((◌>>=◌ {B = Z} (◌>>=◌ {B = Z} (shifted p r) λ z _. ok z e) λ x j. need (eqb 0 (rules_of sheet width x.0)) (rules_of sheet width x.0) 0 >>= λ _ _. ok x j) >>= λ x j. ok (to_layout x) j)
          ≡ (shifted p (◌>>=◌ {B = Layout} r λ z j. ok (to_layout z) j) >>= λ l _. ruling l e)
      go (ok z j) = by z (rules_of sheet width z.0) (eqb 0 (rules_of sheet width z.0))
      go (refuse k) = refl

module _ (sheet : List ℕ) (width : ℕ) (b : List ℕ) where
  pub layout-cut : (has : Bool) {k : Refusal} → span_at 24 44 b 100 ≡ Err k → (layout_part has sheet width).codec.parse 0 b 100 ≡ refuse k
  unfolding layout_part named judged checked sized
  layout-cut true e = rw (boxed-cut 24 26 44 1 (omega arith) (λ p. 0) (λ P x. Unit {0}) (parts all_tests D).codec b 100 e)
  layout-cut false {k} e = rw (go (cut 24 44 b 100 e))
    where
      go : Cut 24 44 b 100 k → ((num 24 4).parse 0 b 100 >>= λ n j. (raw 44 n).parse 0 b j) ≡ refuse k
      go (missing x) = rw x
      go (past h x y) = rw (x, y)

  module _ {p n : ℕ} (s : Spanned 24 44 b 100 p n) (room : p + n ≤ length b) where
    size : length (take n (drop p b)) ≡ n
    size = simp (length-take, length-drop) (omega arith)

    pub layout_empty_26 : n ≡ 0 → (layout_part true sheet width).codec.parse 0 b 100 ≡ refuse (refusal 26 100)
    unfolding layout_part named judged
    layout_empty_26 e = rw (boxed_less 24 26 44 1 (omega arith) (λ p. 0) (λ P x. Unit {0}) (parts all_tests D).codec b 100 s (omega arith))

    pub layout-there_25 : 0 < n → (layout_part false sheet width).codec.parse 0 b 100 ≡ refuse (refusal 25 100)
    unfolding layout_part named checked sized
    layout-there_25 h = let z : 0 < length (take n (drop p b)) = omega (arith, size) in rw (s.number, s.bytes, nil_not (take n (drop p b)) z)

    pub layout_empty : n ≡ 0 → (layout_part false sheet width).codec.parse 0 b 100 ≡ ok (no_items []) (p + n)
    unfolding layout_part named checked sized
    layout_empty e = rw (s.number, s.bytes, e)

    pub layout-ruled : 0 < n → n ≤ 4294967295 → (layout_part true sheet width).codec.parse 0 b 100 ≡ (shifted p (layout_of (take n (drop p b))) >>= λ l _. ruling sheet width l (p + n))
    unfolding layout_part named judged
    layout-ruled h l = rw (boxed-read 24 26 44 1 (omega arith) (λ p. 0) (λ P x. Unit {0}) (parts all_tests D).codec b 100 s h)
        (ruled-part sheet width (take n (drop p b)) (omega (arith, size)) p (p + n))

module _ (sheet : List ℕ) (width : ℕ) (b : List ℕ) where
  start_is : {p n : ℕ} → 104 ≤ length b → Spanned 24 44 b 100 p n → p ≡ 104
  start_is {p} {n} h s =
      let e : ok n p ≡ ok (value (take 4 (drop 100 b))) 104 = sym s.number ∙ num_got 24 4 0 b 100 h in
      let z : p ≡ 104 = cc in z

  module _ (has : Bool) {p n : ℕ} (e : span_at 24 44 b 100 ≡ Ok (p, n)) (w : (104 ≤ p) × (p + n ≤ length b)) (small : length b ≤ 4294967295) where
    S : Spanned 24 44 b 100 p n
    S = spanned 24 44 b 100 e w.1

    pub lays_26 : has ≡ true → n ≡ 0 → LayoutReads has sheet width b (Err (refusal 26 100))
    lays_26 t z = rw t (lays-no (layout_empty_26 sheet width b S w.1 z))

    pub lays_25 : has ≡ false → 0 < n → LayoutReads has sheet width b (Err (refusal 25 100))
    lays_25 t z = rw t (lays-no (layout-there_25 sheet width b S w.1 z))

    pub lays-none : has ≡ false → n ≡ 0 → LayoutReads has sheet width b (Ok (record { version = 0; rows = 0; end = p + n }))
    lays-none t z = rw t (lays (record {
      tree = no_items [];
      is = layout_empty sheet width b S w.1 z;
      from = omega (arith, w.0);
      to = w.1;
      leaves = λ l. sym (leave-ok l (no_items []) (p + n) ∙ rw (no_rows 0 [], le-leb 0 (length l / 9) zero-le));
      version = refl;
      many = ap length (no_rows 0 []);
    }))

    module _ (t : has ≡ true) (some' : 0 < n) where
      abbrev part : List ℕ
      part = take n (drop p b)

      part_small : length part ≤ 4294967295
      part_small = omega (arith, size sheet width b S w.1, w.1)

      ruled : (layout_part true sheet width).codec.parse 0 b 100 ≡ (shifted p (layout_of part) >>= λ l _. ruling sheet width l (p + n))
      ruled = layout-ruled sheet width b S w.1 some' (omega (arith, w.1))

      pub lays-bad : {k : Refusal} → Err k ≡ verdict (ruled_of sheet width (take (p + n - p) (drop p b))) → LayoutReads has sheet width b (Err (in_block p k))
      lays-bad {k} q =
          let e = verdict-no (ruled_of sheet width part) (rw (slice p n b) at q) in
          rw t (lays-no {k = in_block p k} (go e (ruled_either sheet width part e)))
        where
          go : ruled_of sheet width part ≡ refuse k
              → (layout_of part ≡ refuse k) ⊎ ((l : Layout) × (j : ℕ) × (layout_of part ≡ ok l j) × (k ≡ refusal (rules_of sheet width (from_layout l).0) 0) × In rule_numbers k.number)
              → (layout_part true sheet width).codec.parse 0 b 100 ≡ refuse (in_block p k)
          go e (inl x) =
              let h = in_pass has_place wire_numbers wire_places k.number (gives_is (In wire_numbers) (layout_wire part part_small) x) in
              ruled ∙ rw (x, h)
          go e (inr (l, j, x, y, i)) =
              let h = not-place (has_place k.number) (in_pass (λ m. not (has_place m)) rule_numbers rule_places k.number i) in
              let z : ruling sheet width l j ≡ refuse k = sym (ruled-is sheet width part ∙ rw x) ∙ e in
              ruled ∙ rw (x, h) (ruling-no sheet width l j (p + n) z)

      leaves-is : (l : Layout) (i : ℕ) → layout_of (take n (drop p b)) ≡ ok l i → (x : List ℕ) → layout_table true (take (p + n - 104) (drop 104 b)) x ≡ leave x (ok l (p + n))
      leaves-is l i e x =
          let q : p ≡ 104 = start_is (omega (arith, w.0, w.1)) S in
          let z : p + n - 104 ≡ n = omega arith in
          rw (z, ← q, light_same true (take n (drop p b)) e) (leave_anywhere x l i (p + n))

      is_ok : (l : Layout) (i j : ℕ) → layout_of part ≡ ok l i → ruled_of sheet width part ≡ ok l j → (layout_part true sheet width).codec.parse 0 b 100 ≡ ok l (p + n)
      is_ok l i j x e =
          let z : ruling sheet width l i ≡ ok l j = sym (ruled-is sheet width part ∙ rw x) ∙ e in
          let (q, _) = need-ok (eqb 0 (rules_of sheet width (from_layout l).0)) (rules_of sheet width (from_layout l).0) 0 _ l j z in
          ruled ∙ rw (x, q)

      pub lays-ok : {v m : ℕ} → Ok (accepted v m) ≡ verdict (ruled_of sheet width (take (p + n - p) (drop p b))) → LayoutReads has sheet width b (Ok (record { version = v; rows = m; end = p + n }))
      lays-ok {v} {m} q =
          let (l, j, el, ev, em) = verdict-ok (ruled_of sheet width (take n (drop p b))) (rw (slice p n b) at q) in
          let (i, e1) = ruled-layout sheet width (take n (drop p b)) l j el in
          subst (λ (h : Bool). LayoutReads h sheet width b (Ok (record { version = v; rows = m; end = p + n }))) (sym t) (lays {v = v} {n = m} {e = p + n} (record {
            tree = l;
            is = is_ok l i j e1 el;
            from = omega (arith, w.0);
            to = w.1;
            leaves = leaves-is l i e1;
            version = ev;
            many = em;
          }))

-- ---- the symbology part

module _ (width : ℕ) (b : List ℕ) (at : ℕ) where
  pub symbology-cut : (has : Bool) {write : Bool} {t : List ℕ} {k : Refusal} → section_at has b at ≡ Err k → SymbologyReads has write width b at t t (Err k)
  unfolding symbology_part full
  symbology-cut true {k = k} e = record { part = refuse k; end = λ j. j; is = rw (boxed-cut 27 27 45 0 zero-le (λ p. p) (symbology utf8 nul_padded is_date width).codec.each (symbology utf8 nul_padded is_date width).codec b at e); sixes = refused-promise }
  symbology-cut false e = absurd (let z : ◌≡◌ {A = ℕ} 0 1 = cc in omega arith)

  module _ (small : length b ≤ 4294967295) where
    symbology-section : {p n : ℕ} → Spanned 27 45 b at p n → p + n ≤ length b → (symbology_part true width).codec.parse 0 b at ≡ (shifted p (section_of true width p (take n (drop p b))) >>= λ x _. ok x (p + n))
    unfolding symbology_part full whole
    symbology-section {p} {n} s h =
        let part : List ℕ = take n (drop p b) in
        let l : length part ≡ n = simp (length-take, length-drop) (omega arith) in
        rw (boxed-read 27 27 45 0 zero-le (λ p. p) (symbology utf8 nul_padded is_date width).codec.each (symbology utf8 nul_padded is_date width).codec b at s zero-le, zero-add p, section-parse width p part (omega arith))
        (go part l ((symbology utf8 nul_padded is_date width).codec.parse p part 0))
      where
        by : (x : Symbology) (j : ℕ) (rest : List ℕ) → length rest ≡ n - j → (need (is_nil rest) 28 (p + n - length rest) >>= λ _ _. ok x (p + n)) ≡ (shifted p (need (is_nil rest) 28 j >>= λ _ _. ok x j) >>= λ x _. ok x (p + n))
        by x j [] e = refl
        by x j (y ∷ rest) e = ap (λ (m : ℕ). refuse (refusal 28 m)) (omega arith)

        go : (part : List ℕ) → length part ≡ n → (r : Res Symbology)
            → ((◌>>=◌ {B = Symbology × List ℕ} (shifted p (◌>>=◌ {B = Symbology × List ℕ} r λ x j. ok (x, drop j part) (length part))) λ z _. ok z (p + n)) >>= λ z j. need (is_nil z.1) 28 (j - length z.1) >>= λ _ _. ok z.0 j)
            ≡ (shifted p (r >>= λ x j. need (is_nil (drop j part)) 28 j >>= λ _ _. ok x j) >>= λ x _. ok x (p + n))
        go part l (ok x j) = by x j (drop j part) (length-drop j part ∙ ap (λ (m : ℕ). m - j) l)
        go part l (refuse k) = refl

    symbology-rest : at ≤ length b → (symbology_part false width).codec.parse 0 b at ≡ (shifted at (section_of false width at (drop at b)) >>= λ x j. ok x (at + j))
    unfolding symbology_part remainder
    symbology-rest h = rw (zero-add at, rest-parse width at (drop at b) (simp length-drop (omega arith)))

    -- one law for both: the bytes from p up to p + n
    module _ (has : Bool) {p n : ℕ} (e : section_at has b at ≡ Ok (p, n)) (w : (at ≤ p) × (p + n ≤ length b)) where
      section-is : has ≡ true → (symbology_part has width).codec.parse 0 b at ≡ (shifted p (section_of has width p (take (p + n - p) (drop p b))) >>= λ x _. ok x (p + n))
      section-is y = rw (y, slice p n b) (symbology-section (spanned 27 45 b at (rw y at e) w.1) w.1)

      rest-is : has ≡ false → (symbology_part has width).codec.parse 0 b at ≡ (shifted p (section_of has width p (take (p + n - p) (drop p b))) >>= λ x j. ok x (at + j))
      rest-is y =
          let q : Ok (at, (length b - at)) ≡ Ok (p, n) = (rw y at e) in
          let z : ◌≡◌ {A = ℕ × ℕ} (at, length b - at) (p, n) = cc in
          let ap' : at ≡ p = ap (λ x. x.0) z in
          let an : length b - at ≡ n = ap (λ x. x.1) z in
          let l : length (drop at b) ≡ n = length-drop at b ∙ an in
          rw (y, slice p n b, ← ap', take_all n (drop at b) (omega (arith, l))) (symbology-rest (omega (arith, w.0, w.1)))

      pub symbology-reads : {write : Bool} {t t' : List ℕ} {r r' : Result Section Refusal} → SectionPromise write (section_of has width p (take (p + n - p) (drop p b))) t t' r → r ≡ r' → SymbologyReads has write width b at t t' (moved_in p r')
      symbology-reads {write} {t} {t'} f q = subst (λ (x : Result Section Refusal). SymbologyReads has write width b at t t' (moved_in p x)) q (by_bool has
          (λ y. record { part = shifted p (section_of has width p (take (p + n - p) (drop p b))); end = λ _. p + n; is = section-is y; sixes = promise-moved p f })
          (λ y. record { part = shifted p (section_of has width p (take (p + n - p) (drop p b))); end = λ j. at + j; is = rest-is y; sixes = promise-moved p f }))
