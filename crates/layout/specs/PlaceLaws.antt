-- Where the parts of an accepted layout stand in its bytes, and what is left of them without places and skipped bytes.
-- Assumes nothing.
use Prim.Native.Nat.{ℕ, zero, suc, ◌+◌, ◌-◌, ◌*◌, ◌≤◌, ◌<◌}
use Rattle.std.proofs.Common.{mul-zero, add-zero, arith, sym, ◌∙◌, subst, length-take, length-drop, take-take, drop-cons, get_or-take, get_or-drop, le-leb}
use Rattle.std.proofs.Math.Nat.{mul-suc}
use Rattle.std.specs.Prelude.{◌≡◌, false, length, get_or, take, drop, Ok, Err}
use Rattle.std.proofs.Math.Path.{refl, ap, ap₂}
use mathlib.Core.List.{List, [], ◌∷◌, ◌++◌, map, append_assoc}
use Rattle.std.proofs.lemmas.Bool.{lt-leb}
use Rattle.codec.specs.Codec.{Res, ok, refuse, refusal, shifted, ◌>>=◌, Codec, num, padded, named, ◌then◌, sized, times, times_parse, counted, whole, times_bare}
use Rattle.codec.proofs.Laws.{shifted-ok, bind_ok, length-bare}
use Rattle.codec.proofs.StepLaws.{raw_got, raw-bad, times-length}
use Rattle.codec.specs.CaseLaws.{by_le}
use Rattle.wire.specs.Reader.{all_tests}
use Rattle.codec.proofs.Format.{Format}
use Rattle.wire.specs.Formats
use Rattle.wire.specs.Formats.{Name, section}
use Rattle.wire.specs.FormatLaws.{section-bare}
use Rattle.numbers.specs.Numbers.{num_at, u16_at, part, le16, Got}
use Rattle.wire.specs.Reader.{name, name_at, section_at}
use Rattle.numbers.specs.NumberLaws.{num_of, num-is, num-value, u16-value}
use Rattle.wire.proofs.NameLaws.{name_of, name-is, name-place}
use Rattle.wire.specs.SectionLaws.{section_got, section-bad, section-of}
use Rattle.layout.specs.Layout
use Rattle.layout.specs.Layout.{Entry, Fields, RecordL, StructL, Layout, Parts, to_layout}
use Rattle.layout.specs.LayoutOf.{D, D-least, entry, fields, record_l, struct_l, label_def, layout_of, layout_by}
use Rattle.entry.specs.Entry.{entry_bytes}
use Rattle.layout.specs.Rows.{record_rows, struct_rows, label_def_rows, rows}
use Rattle.table.specs.Table.{all_rows}

-- the first eleven bytes of n entries from a on
unfoldable pub heads_at : List ℕ → ℕ → ℕ → List (List ℕ)
heads_at s a zero = []
heads_at s a (suc n) = entry_bytes s a ∷ heads_at s (a + D) n

pub heads-none : (s : List ℕ) (a : ℕ) → heads_at s a 0 ≡ []
unfolding heads_at
heads-none s a = refl

pub heads-more : (s : List ℕ) (a n : ℕ) → heads_at s a (suc n) ≡ entry_bytes s a ∷ heads_at s (a + D) n
unfolding heads_at
heads-more s a n = refl

-- the count of fields, after a name at h
abbrev pub count_at : List ℕ → ℕ → ℕ
count_at s h = h + get_or s h 0 + 2

-- fields whose count is after a name at h
pub record FieldsAt (s : List ℕ) (h : ℕ) (f : Fields) : Type 0 where
  pub heads : map (λ e. e.head) f.entries ≡ heads_at s (count_at s h + 2) (le16 s (count_at s h))
  pub names : length f.names ≡ le16 s (count_at s h)
  pub inside : count_at s h + 2 + D * le16 s (count_at s h) ≤ length s

-- ---- numbers, names, entries

got_of_lem : (g : Got) {v j : ℕ} → num_of g ≡ ok v j → g ≡ Ok (v, j)
got_of_lem (Ok (a, b)) {v} {j} e = let p : a ≡ v = cc in let q : b ≡ j = cc in ap₂ (λ x y. Ok (x, y)) p q
got_of_lem (Err k) e = absurd (let z : ◌≡◌ {A = ℕ} 0 1 = cc in omega arith)

u16-back : (base : ℕ) (s : List ℕ) (i : ℕ) {v j : ℕ} → (num 50 2).parse base s i ≡ ok v j → (v ≡ le16 s i) × (j ≡ i + 2) × (i + 2 ≤ length s)
u16-back base s i e = u16-value s i (got_of_lem (u16_at s i) (sym (num-is 50 2 s i base) ∙ e))

u64-back : (base : ℕ) (s : List ℕ) (i : ℕ) {v j : ℕ} → (num 50 8).parse base s i ≡ ok v j → j ≡ i + 8
u64-back base s i e = (num-value 50 8 s i (got_of_lem (num_at 50 8 s i) (sym (num-is 50 8 s i base) ∙ e))).1

name_back : (base : ℕ) (s : List ℕ) (i : ℕ) {x : Name} {j : ℕ} → name.parse base s i ≡ ok x j → j ≡ count_at s i
name_back base s i {x} {j} e = go (name_at all_tests s i) refl (sym (name-is all_tests s i base) ∙ e)
  where
    go : (g : Got) → name_at all_tests s i ≡ g → name_of base s i g ≡ ok x j → j ≡ count_at s i
    go (Ok (len, q)) f h = let p : q ≡ j = cc in let w = name-place all_tests s i f in omega arith
    go (Err k) f h = absurd (let z : ◌≡◌ {A = ℕ} 0 1 = cc in omega arith)

bytes_from : ℕ → List ℕ → ℕ → ℕ → List ℕ
bytes_from zero s at k = []
bytes_from (suc n) s at k = get_or s (at + k) 0 ∷ bytes_from n s at (suc k)

bytes-from : (n : ℕ) (s : List ℕ) (at k : ℕ) → at + k + n ≤ length s → bytes_from n s at k ≡ take n (drop (at + k) s)
unfolding bytes_from
bytes-from zero s at k h = refl
bytes-from (suc n) s at k h =
    let i : at + k < length s = omega arith in
    let j : at + suc k + n ≤ length s = omega arith in
    let e : suc (at + k) ≡ at + suc k = omega arith in
    rw (drop-cons s (at + k) 0 i, e, bytes-from n s at (suc k) j)

pub bytes_11 : (s : List ℕ) (at : ℕ) → at + 11 ≤ length s → entry_bytes s at ≡ take 11 (drop at s)
unfolding bytes_from
bytes_11 s at h =
    let j : at + 0 + 11 ≤ length s = omega arith in
    simp add-zero at (bytes-from 11 s at 0 j)

entry-back : (base : ℕ) (s : List ℕ) (i : ℕ) {x : Entry} {j : ℕ} → entry.parse base s i ≡ ok x j → (x.head ≡ entry_bytes s i) × (j ≡ i + D) × (i + D ≤ length s)
unfolding Layout.entry named padded
entry-back base s i {x} {j} e =
    let n : ℕ = 11 + (D - 11) in
    let d : 11 + (D - 11) ≡ D = omega (arith, D-least) in
    by_le (i + (11 + (D - 11))) (length s)
    (λ h.
    let q = (rw (raw_got 50 (11 + (D - 11)) base s i h) at e) in
    let p : take 11 (take (11 + (D - 11)) (drop i s)) ≡ x.head = ap head_of q in
    let r : i + (11 + (D - 11)) ≡ j = ap place_of q in
    let l : i + 11 ≤ length s = omega arith in
    let le : 11 ≤ 11 + (D - 11) = omega arith in
    (sym p ∙ take-take 11 (11 + (D - 11)) (drop i s) le ∙ sym (bytes_11 s i l), omega arith, omega arith))
    (λ h. let q = (rw (raw-bad 50 (11 + (D - 11)) base s i h) at e) in absurd (let z : ◌≡◌ {A = ℕ} 0 1 = cc in omega arith))
  where
    head_of : Res Entry → List ℕ
    head_of (ok y k) = y.head
    head_of (refuse k) = []

    place_of : Res Entry → ℕ
    place_of (ok y k) = k
    place_of (refuse k) = 0

entries-back : (base n : ℕ) (s : List ℕ) (i : ℕ) {es : List Entry} {j : ℕ} → times_parse entry n base s i ≡ ok es j
    → i ≤ length s → (map (λ e. e.head) es ≡ heads_at s i n) × (j ≡ i + D * n) × (i + D * n ≤ length s)
unfolding heads_at
entries-back base zero s i {es} {j} e b =
    let p : [] ≡ es = cc in
    let q : i ≡ j = cc in
    let m : D * 0 ≡ 0 = mul-zero D in
    (ap (map (λ y. y.head)) (sym p), omega arith, omega arith)
entries-back base (suc n) s i {es} {j} e b =
    let (x, k, ex, e1) = bind_ok (entry.parse base s i) _ es j e in
    let (ys, m, ey, e2) = bind_ok (times_parse entry n base s k) _ es j e1 in
    let p : x ∷ ys ≡ es = cc in
    let q : m ≡ j = cc in
    let w = entry-back base s i ex in
    let ek : k ≡ i + D = w.1 in
    let v = entries-back base n s k ey (omega (arith, w.2)) in
    let t : D * suc n ≡ D * n + D = mul-suc D n in
    (ap (map (λ y. y.head)) (sym p) ∙ ap₂ ◌∷◌ w.0 (v.0 ∙ ap (λ (a : ℕ). heads_at s a n) ek), omega (arith, v.1), omega (arith, v.1, v.2))

-- ---- one after the other

then-back : {A B : Type 0} (c : Codec A) (d : Codec B) (base : ℕ) (s : List ℕ) (i : ℕ) {z : A × B} {k : ℕ} → (c then d).parse base s i ≡ ok z k
    → (j : ℕ) × (c.parse base s i ≡ ok z.0 j) × (d.parse base s j ≡ ok z.1 k)
unfolding ◌then◌
then-back {A} {B} c d base s i {z} {k} e =
    let (x, j, ex, e1) = bind_ok (c.parse base s i) _ z k e in
    let (y, m, ey, e2) = bind_ok (d.parse base s j) _ z k e1 in
    let p : ◌≡◌ {A = A × B} (x, y) z = cc in
    let q : m ≡ k = cc in
    (j, ex ∙ ap (λ v. ok v j) (ap (λ (v : A × B). v.0) p), ey ∙ ap₂ ok (ap (λ (v : A × B). v.1) p) q)

named_back : {A B : Type 0} (to : A → B) (from : B → A) (c : Codec A) (base : ℕ) (s : List ℕ) (i : ℕ) {x : B} {k : ℕ} → (named to from c).parse base s i ≡ ok x k
    → (z : A) × (to z ≡ x) × (c.parse base s i ≡ ok z k)
unfolding named
named_back to from c base s i {x} {k} e =
    let (z, j, ez, e1) = bind_ok (c.parse base s i) _ x k e in
    let p : to z ≡ x = cc in
    let q : j ≡ k = cc in
    (z, p, ez ∙ ap (ok z) q)

fields_back : (base : ℕ) (s : List ℕ) (h q : ℕ) {f : Fields} {j : ℕ} → q ≡ count_at s h → fields.parse base s q ≡ ok f j → FieldsAt s h f
unfolding Layout.fields sized times
fields_back base s h q {f} {j} eq e =
    let (z, ez, e1) = named_back _ _ _ base s q e in
    let (n, p, en, e2) = bind_ok ((num 50 2).parse base s q) _ z j e1 in
    let (m, e3, e4) = then-back (times entry n) (times name n) base s p e2 in
    let w = u16-back base s q en in
    let c : n ≡ le16 s (count_at s h) = w.0 ∙ ap (le16 s) eq in
    let pl : p ≡ count_at s h + 2 = w.1 ∙ ap (λ (a : ℕ). a + 2) eq in
    let b : p ≤ length s = omega (arith, w.1, w.2) in
    let v = entries-back base n s p e3 b in
    subst (λ (g : Fields). FieldsAt s h g) ez (record {
      heads = v.0 ∙ ap₂ (heads_at s) pl c;
      names = times-length name base s n m z.1 j e4 ∙ c;
      inside = subst (λ (a : ℕ). count_at s h + 2 + D * a ≤ length s) c (omega (arith, v.2));
    })

-- ---- a struct's body, and a record's

pub struct_body_lem : (base : ℕ) (s : List ℕ) {z : ℕ × (Name × Fields)} {k : ℕ} → (Layout.struct_body all_tests D).codec.parse base s 0 ≡ ok z k → (z.0 ≡ le16 s 0) × FieldsAt s 2 z.1.1
struct_body_lem base s e =
    let (a, e1, r1) = then-back _ _ base s 0 e in
    let (b, e2, r2) = then-back _ _ base s a r1 in
    let w = u16-back base s 0 e1 in
    let at : a ≡ 2 = omega (arith, w.1) in
    (w.0, fields_back base s 2 b (name_back base s a e2 ∙ ap (count_at s) at) r2)

pub record_body_lem : (base : ℕ) (s : List ℕ) {z : ℕ × (ℕ × (ℕ × (ℕ × (Name × Fields))))} {k : ℕ} → (Layout.record_body all_tests D).codec.parse base s 0 ≡ ok z k
    → (z.0 ≡ le16 s 0) × (z.1.1.0 ≡ le16 s 4) × FieldsAt s 14 z.1.1.1.1.1
record_body_lem base s e =
    let (a, e1, r1) = then-back _ _ base s 0 e in
    let (b, e2, r2) = then-back _ _ base s a r1 in
    let (c, e3, r3) = then-back _ _ base s b r2 in
    let (d, e4, r4) = then-back _ _ base s c r3 in
    let (h, e5, r5) = then-back _ _ base s d r4 in
    let w = u16-back base s 0 e1 in
    let x = u16-back base s a e2 in
    let y = u16-back base s b e3 in
    let at : b ≡ 4 = omega (arith, w.1, x.1) in
    let end : d ≡ 14 = omega (arith, y.1, u64-back base s c e4) in
    (w.0, y.0 ∙ ap (le16 s) at, fields_back base s 14 h (name_back base s d e5 ∙ ap (count_at s) end) r5)

-- ---- a section

pub record Boxed {A : Type 0} (c : Codec A) (s : List ℕ) (at : ℕ) (x : A) (j : ℕ) : Type 0 where
  pub stop : ℕ
  pub body : c.parse (at + 2) (part s (at + 2) (at + le16 s at)) 0 ≡ ok x stop
  pub next : j ≡ at + le16 s at
  pub two : 2 ≤ le16 s at
  pub inside : at + le16 s at ≤ length s

pub section-back : {A : Type 0} (F : Format A false) (s : List ℕ) (at : ℕ) {z : A × List ℕ} {j : ℕ} → (section F).codec.parse 0 s at ≡ ok z j → Boxed F.codec s at z.0 j
section-back {A} F s at {z} {j} e = go (section_at s at) refl
  where
    go : (g : Got) → section_at s at ≡ g → Boxed F.codec s at z.0 j
    go (Err k) f = absurd (let q = sym (section-bad F s at f) ∙ e in let y : ◌≡◌ {A = ℕ} 0 1 = cc in omega arith)
    go (Ok (b, n)) f =
        let (x, m, es, e1) = bind_ok (shifted b (F.codec.parse b (part s b n) 0)) _ z j (sym (section_got F s at f) ∙ e) in
        let ex = shifted-ok b (F.codec.parse b (part s b n) 0) x m es in
        let w = section-of s at f in
        let v = u16-value s at w.number in
        let p : ◌≡◌ {A = A × List ℕ} (x, drop m (part s b n)) z = cc in
        let q : n ≡ j = cc in
        let eb : b ≡ at + 2 = v.1 in
        let en : n ≡ at + le16 s at = omega (arith, v.0, v.1, w.end, w.two) in
        record {
          stop = m;
          body = subst (λ (y : A). F.codec.parse (at + 2) (part s (at + 2) (at + le16 s at)) 0 ≡ ok y m) (ap (λ (y : A × List ℕ). y.0) p)
              (subst (λ (a : ℕ). F.codec.parse (at + 2) (part s (at + 2) a) 0 ≡ ok x m) en (subst (λ (a : ℕ). F.codec.parse a (part s a n) 0 ≡ ok x m) eb ex));
          next = sym q ∙ en;
          two = omega (arith, v.0, w.two);
          inside = omega (arith, w.inside);
        }

-- ---- a part of a slice

module _ (s : List ℕ) (b e : ℕ) where
  part-get : (k : ℕ) → k < e - b → get_or (part s b e) k 0 ≡ get_or s (b + k) 0
  part-get k h = get_or-take (e - b) (drop b s) k 0 h ∙ get_or-drop b s k 0

  part_16 : (k m : ℕ) → b + k ≡ m → k + 2 ≤ e - b → le16 (part s b e) k ≡ le16 s m
  part_16 k m q h =
      let x = part-get k (omega arith) in
      let y = part-get (k + 1) (omega arith) in
      let p : b + (k + 1) ≡ m + 1 = omega arith in
      rw (x, y, p, q)

  part-entry : (a m : ℕ) → b + a ≡ m → a + 11 ≤ e - b → entry_bytes (part s b e) a ≡ entry_bytes s m
  part-entry a m q h =
      let g : (k : ℕ) → k < 11 → get_or (part s b e) (a + k) 0 ≡ get_or s (m + k) 0 = λ k l. part-get (a + k) (omega arith) ∙ ap (λ (n : ℕ). get_or s n 0) (omega arith) in
      rw (
        simp add-zero at (g 0 (omega arith)),
        g 1 (omega arith),
        g 2 (omega arith),
        g 3 (omega arith),
        g 4 (omega arith),
        g 5 (omega arith),
        g 6 (omega arith),
        g 7 (omega arith),
        g 8 (omega arith),
        g 9 (omega arith),
        g 10 (omega arith),
      )

  part-heads : (n a m : ℕ) → b + a ≡ m → a + D * n ≤ e - b → heads_at (part s b e) a n ≡ heads_at s m n
  unfolding heads_at
  part-heads zero a m q h = refl
  part-heads (suc n) a m q h =
      let t : D * suc n ≡ D * n + D = mul-suc D n in
      ap₂ ◌∷◌ (part-entry a m q (omega (arith, D-least))) (part-heads n (a + D) (m + D) (omega arith) (omega arith))

-- fields of a section's body, in the whole
pub record Fielded (s : List ℕ) (h end : ℕ) (f : Fields) : Type 0 where
  pub heads : map (λ e. e.head) f.entries ≡ heads_at s (count_at s h + 2) (le16 s (count_at s h))
  pub names : length f.names ≡ le16 s (count_at s h)
  pub inside : count_at s h + 2 + D * le16 s (count_at s h) ≤ end

length_part : (s : List ℕ) (b e : ℕ) → e ≤ length s → length (part s b e) ≡ e - b
length_part s b e h = simp (length-take, length-drop) (omega arith)

fields-whole : (s : List ℕ) (b e h m : ℕ) (f : Fields) → b ≤ e → e ≤ length s → b + h ≡ m → FieldsAt (part s b e) h f → Fielded s m e f
fields-whole s b e h m f lo hi q v =
    let P : List ℕ = part s b e in
    let l : length P ≡ e - b = length_part s b e hi in
    let g : get_or P h 0 ≡ get_or s m 0 = part-get s b e h (omega (arith, v.inside)) ∙ ap (λ (n : ℕ). get_or s n 0) q in
    let c : b + count_at P h ≡ count_at s m = omega arith in
    let n : le16 P (count_at P h) ≡ le16 s (count_at s m) = part_16 s b e (count_at P h) (count_at s m) c (omega (arith, v.inside)) in
    let c2 : b + (count_at P h + 2) ≡ count_at s m + 2 = omega arith in
    record {
      heads = v.heads ∙ part-heads s b e (le16 P (count_at P h)) (count_at P h + 2) (count_at s m + 2) c2 (omega (arith, v.inside)) ∙ ap (heads_at s (count_at s m + 2)) n;
      names = v.names ∙ n;
      inside = subst (λ (k : ℕ). count_at s m + 2 + D * k ≤ e) n (omega (arith, v.inside));
    }

-- ---- structs and records

-- a struct in the section at `at`, or a record
pub record StructAt (s : List ℕ) (at : ℕ) (x : StructL) : Type 0 where
  pub size : x.size ≡ le16 s (at + 2)
  pub fields : Fielded s (at + 4) (at + le16 s at) x.fields
  pub inside : at + le16 s at ≤ length s

pub record RecordAt (s : List ℕ) (at : ℕ) (x : RecordL) : Type 0 where
  pub rtype : x.rtype ≡ le16 s (at + 2)
  pub base : x.base ≡ le16 s (at + 6)
  pub fields : Fielded s (at + 16) (at + le16 s at) x.fields
  pub inside : at + le16 s at ≤ length s

struct_at : (s : List ℕ) (at : ℕ) (x : StructL) (j : ℕ) → struct_l.parse 0 s at ≡ ok x j → StructAt s at x × (j ≡ at + le16 s at)
unfolding Layout.struct_l
struct_at s at x j e =
    let (z, ez, e1) = named_back _ _ _ 0 s at e in
    let v = section-back _ s at e1 in
    let w = struct_body_lem (at + 2) _ v.body in
    let b : at + 2 ≤ at + le16 s at = omega (arith, v.two) in
    let l = length_part s (at + 2) (at + le16 s at) v.inside in
    let f = fields-whole s (at + 2) (at + le16 s at) 2 (at + 4) z.0.1.1 b v.inside (omega arith) w.1 in
    let r = w.1.inside in (
      subst (λ (y : StructL). StructAt s at y) ez (record {
        size = w.0 ∙ part_16 s (at + 2) (at + le16 s at) 0 (at + 2) (omega arith) (omega arith);
        fields = f;
        inside = v.inside;
      }),
      v.next,
    )

record_at : (s : List ℕ) (at : ℕ) (x : RecordL) (j : ℕ) → record_l.parse 0 s at ≡ ok x j → RecordAt s at x × (j ≡ at + le16 s at)
unfolding Layout.record_l
record_at s at x j e =
    let (z, ez, e1) = named_back _ _ _ 0 s at e in
    let v = section-back _ s at e1 in
    let w = record_body_lem (at + 2) _ v.body in
    let b : at + 2 ≤ at + le16 s at = omega (arith, v.two) in
    let l = length_part s (at + 2) (at + le16 s at) v.inside in
    let f = fields-whole s (at + 2) (at + le16 s at) 14 (at + 16) z.0.1.1.1.1.1 b v.inside (omega arith) w.2 in
    let r = w.2.inside in (
      subst (λ (y : RecordL). RecordAt s at y) ez (record {
        rtype = w.0 ∙ part_16 s (at + 2) (at + le16 s at) 0 (at + 2) (omega arith) (omega arith);
        base = w.1 ∙ part_16 s (at + 2) (at + le16 s at) 4 (at + 6) (omega arith) (omega arith);
        fields = f;
        inside = v.inside;
      }),
      v.next,
    )

-- items in sections one after the other
module _ {A : Type 0} (At : List ℕ → ℕ → A → Type 0) where
  abbrev pub AllAt : List ℕ → ℕ → List A → Type 0
  AllAt s at [] = Unit {0}
  AllAt s at (x ∷ xs) = At s at x × AllAt s (at + le16 s at) xs

-- the place after n sections
abbrev pub skip_to : List ℕ → ℕ → ℕ → ℕ
skip_to s at zero = at
skip_to s at (suc n) = skip_to s (at + le16 s at) n

times-at : {A : Type 0} (c : Codec A) (At : List ℕ → ℕ → A → Type 0) (s : List ℕ) → ((at : ℕ) (x : A) (j : ℕ) → c.parse 0 s at ≡ ok x j → At s at x × (j ≡ at + le16 s at))
    → (n at : ℕ) {xs : List A} {j : ℕ} → times_parse c n 0 s at ≡ ok xs j → AllAt At s at xs × (j ≡ skip_to s at n) × (length xs ≡ n)
times-at {A} c At s law zero at {xs} {j} e =
    let p : ◌≡◌ {A = List A} [] xs = cc in
    let q : at ≡ j = cc in
    (subst (λ (ys : List A). AllAt At s at ys) p tt, sym q, ap length (sym p))
times-at {A} c At s law (suc n) at {xs} {j} e =
    let (x, k, ex, e1) = bind_ok (c.parse 0 s at) _ xs j e in
    let (ys, m, ey, e2) = bind_ok (times_parse c n 0 s k) _ xs j e1 in
    let p : ◌≡◌ {A = List A} (x ∷ ys) xs = cc in
    let q : m ≡ j = cc in
    let w = law at x k ex in
    let v = times-at c At s law n (at + le16 s at) (subst (λ (a : ℕ). times_parse c n 0 s a ≡ ok ys m) w.1 ey) in
    (subst (λ (zs : List A). AllAt At s at zs) p (w.0, v.0), sym q ∙ v.1, ap length (sym p) ∙ ap suc v.2)

counted-at : {A : Type 0} (c : Codec A) (s : List ℕ) (at : ℕ) {xs : List A} {j : ℕ} → (counted c 50).parse 0 s at ≡ ok xs j
    → (at + 2 ≤ length s) × (times_parse c (le16 s at) 0 s (at + 2) ≡ ok xs j)
unfolding sized times
counted-at c s at {xs} {j} e =
    let (n, p, en, e1) = bind_ok ((num 50 2).parse 0 s at) _ xs j e in
    let w = u16-back 0 s at en in
    (w.2, subst (λ (a : ℕ). times_parse c (le16 s at) 0 s a ≡ ok xs j) w.1 (subst (λ (m : ℕ). times_parse c m 0 s p ≡ ok xs j) w.0 e1))

-- the places of the struct count and of the label def count
abbrev pub structs_at : List ℕ → ℕ
structs_at s = skip_to s 4 (le16 s 2)

abbrev pub labels_at : List ℕ → ℕ
labels_at s = skip_to s (structs_at s + 2) (le16 s (structs_at s))

-- an accepted layout
pub record LayoutAt (s : List ℕ) (t : Layout) : Type 0 where
  pub small : length s ≤ 4294967295
  pub four : 4 ≤ length s
  pub records : AllAt RecordAt s 4 t.records
  pub records-count : length t.records ≡ le16 s 2
  pub two : structs_at s + 2 ≤ length s
  pub structs : AllAt StructAt s (structs_at s + 2) t.structs
  pub structs-count : length t.structs ≡ le16 s (structs_at s)
  pub last : labels_at s + 2 ≤ length s
  pub labels-count : length t.labels ≡ le16 s (labels_at s)

pub layout-at : (s : List ℕ) (t : Layout) (j : ℕ) → layout_of s ≡ ok t j → LayoutAt s t
unfolding layout_by Layout.read_layout Layout.parts Layout.groups whole
layout-at s t j e = by_le (length s) 4294967295 (λ h. go h (rw (le-leb (length s) 4294967295 h) at e)) (λ h. absurd (no (rw (lt-leb (length s) 4294967295 h) at e)))
  where
    no : ◌≡◌ {A = Res Layout} (refuse (refusal 13 0)) (ok t j) → ⊥
    no q = let y : ◌≡◌ {A = ℕ} 0 1 = cc in omega arith

    go : length s ≤ 4294967295 → (whole (Layout.parts all_tests D).codec 0 s >>= λ z k. ok (to_layout z) k) ≡ ok t j → LayoutAt s t
    go h q =
        let (z, k, ez, e1) = bind_ok (whole (Layout.parts all_tests D).codec 0 s) _ t j q in
        let (x, m, ex, e2) = bind_ok ((Layout.parts all_tests D).codec.parse 0 s 0) _ z k ez in
        let pz : ◌≡◌ {A = Parts × List ℕ} (x, drop m s) z = cc in
        let pt : to_layout z ≡ t = cc in
        let (a, e3, r3) = then-back _ _ 0 s 0 ex in
        let w = u16-back 0 s 0 e3 in
        let (b, e4, r4) = then-back _ _ 0 s a r3 in
        let (c, e5, e6) = then-back _ _ 0 s b r4 in
        let ea : a ≡ 2 = omega (arith, w.1) in
        let rc = counted-at record_l s 2 (subst (λ (i : ℕ). (counted record_l 50).parse 0 s i ≡ ok x.1.0 b) ea e4) in
        let rt = times-at record_l RecordAt s (record_at s) (le16 s 2) 4 rc.1 in
        let sc = counted-at struct_l s (structs_at s) (subst (λ (i : ℕ). (counted struct_l 50).parse 0 s i ≡ ok x.1.1.0 c) rt.1 e5) in
        let st = times-at struct_l StructAt s (struct_at s) (le16 s (structs_at s)) (structs_at s + 2) sc.1 in
        let lc = counted-at label_def s (labels_at s) (subst (λ (i : ℕ). (counted label_def 50).parse 0 s i ≡ ok x.1.1.1 m) st.1 e6) in
        subst (λ (y : Layout). LayoutAt s y) pt (subst (λ (y : Parts × List ℕ). LayoutAt s (to_layout y)) pz (record {
          small = h;
          four = omega (arith, rc.0);
          records = rt.0;
          records-count = rt.2;
          two = sc.0;
          structs = st.0;
          structs-count = st.2;
          last = lc.0;
          labels-count = times-length label_def 0 s (le16 s (labels_at s)) (labels_at s + 2) x.1.1.1 m lc.1;
        }))

-- ---- rows

-- the rows of a layout, group by group
pub rows-parts : (t : Parts) → rows (to_layout (t, [])) ≡ all_rows record_rows t.1.0 ++ (all_rows struct_rows t.1.1.0 ++ all_rows label_def_rows t.1.1.1)
unfolding rows
rows-parts t = append_assoc (all_rows record_rows t.1.0) (all_rows struct_rows t.1.1.0) (all_rows label_def_rows t.1.1.1)

-- ---- without places and skipped bytes

map-bare : {A B : Type 0} (c : Codec A) (f : A → B) → ((x : A) → f (c.bare x) ≡ f x) → (xs : List A) → map f (times_bare c xs) ≡ map f xs
map-bare c f h [] = refl
map-bare c f h (x ∷ xs) = ap₂ ◌∷◌ (h x) (map-bare c f h xs)

-- what a view of rtype, base and heads sees of the fields of a bare layout is what it sees of the layout
module _ {B : Type 0} (view : ℕ → ℕ → List (List ℕ) → B) where
  abbrev pub viewed : ℕ → ℕ → Fields → B
  viewed rtype base f = view rtype base (map (λ e. e.head) f.entries)

  fields-bare : (rtype base : ℕ) (f : Fields) → viewed rtype base (fields.bare f) ≡ viewed rtype base f
  unfolding Layout.fields named sized ◌then◌ times Layout.entry padded
  fields-bare rtype base f = ap (view rtype base) (map-bare entry (λ e. e.head) (λ e. refl) f.entries)

  struct_bare : (s : StructL) → viewed 0 (struct_l.bare s).size (struct_l.bare s).fields ≡ viewed 0 s.size s.fields
  unfolding Layout.struct_l named ◌then◌ num
  struct_bare s = rw section-bare (fields-bare 0 s.size s.fields)

  record_bare : (r : RecordL) → viewed (record_l.bare r).rtype (record_l.bare r).base (record_l.bare r).fields ≡ viewed r.rtype r.base r.fields
  unfolding Layout.record_l named ◌then◌ num
  record_bare r = rw section-bare (fields-bare r.rtype r.base r.fields)

  pub structs-bare : (x : Parts) → map (λ s. viewed 0 s.size s.fields) ((Layout.parts all_tests D).codec.bare x).1.1.0 ≡ map (λ s. viewed 0 s.size s.fields) x.1.1.0
  unfolding Layout.parts Layout.groups sized times ◌then◌ num
  structs-bare x = map-bare struct_l (λ s. viewed 0 s.size s.fields) struct_bare x.1.1.0

  pub records-bare : (x : Parts) → map (λ r. viewed r.rtype r.base r.fields) ((Layout.parts all_tests D).codec.bare x).1.0 ≡ map (λ r. viewed r.rtype r.base r.fields) x.1.0
  unfolding Layout.parts Layout.groups sized times ◌then◌ num
  records-bare x = map-bare record_l (λ r. viewed r.rtype r.base r.fields) record_bare x.1.0

pub labels-bare : (x : Parts) → length ((Layout.parts all_tests D).codec.bare x).1.1.1 ≡ length x.1.1.1
unfolding Layout.parts Layout.groups sized times ◌then◌ num
labels-bare x = length-bare _ (Layout.label_def all_tests).law x.1.1.1
