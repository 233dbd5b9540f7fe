-- What reading a number or some bytes at a place gives, where it reads and where it refuses. Assumes nothing.
use Rattle.std.specs.Prelude.{ℕ, zero, suc, ◌+◌, ◌-◌, ◌*◌, ◌^◌, ◌≤◌, ◌<◌, ◌≡◌, refl, List, [], ◌∷◌, length, get_or, take, drop, Ok, Err}
use Rattle.std.proofs.Common.{zero-le, sym, ap, ◌∙◌, add-zero, zero-add, suc-add, mul_comm, mul_assoc, pow-suc, add-one, arith, length-take, length-drop, take_all}
use Rattle.refusal.specs.declared.Refusal.{Refusal}
use Rattle.codec.specs.Codec.{Res, ok, refuse, refusal, raw, value, num}
use Rattle.codec.proofs.StepLaws.{raw_got, raw-bad, num_got, num-bad}
use Rattle.codec.specs.CaseLaws.{by_le}
use Rattle.numbers.specs.Numbers.{got_of, Past, past, take_at, num_at, u16_at, part, le16, le32, le64, Got}

-- equal answers have equal numbers and places
pub same_got : {v p w q : ℕ} → ◌≡◌ {A = Got} (Ok (v, p)) (Ok (w, q)) → (v ≡ w) × (p ≡ q)
same_got {v} {p} {w} {q} e = let y : ◌≡◌ {A = ℕ × ℕ} (v, p) (w, q) = cc in (ap (λ x. x.0) y, ap (λ x. x.1) y)

-- ---- bytes

module _ (why n : ℕ) (s : List ℕ) (at : ℕ) where
  pub take-ok : at + n ≤ length s → take_at why n s at ≡ Ok (n, at + n)
  unfolding take_at
  take-ok h = rw (raw_got why n 0 s at h)

  pub take_no : length s < at + n → take_at why n s at ≡ Err (refusal why at)
  unfolding take_at
  take_no h = rw (raw-bad why n 0 s at h)

  pub take-value : {v p : ℕ} → take_at why n s at ≡ Ok (v, p) → (p ≡ at + n) × (at + n ≤ length s)
  take-value {v} {p} e =
      by_le (at + n) (length s)
      (λ h. (sym (same_got (sym (take-ok h) ∙ e)).1, h))
      (λ h. let q = sym (take_no h) ∙ e in absurd (let z : ◌≡◌ {A = ℕ} 0 1 = cc in omega arith))

  pub take-refused : {k : Refusal} → take_at why n s at ≡ Err k → (k ≡ refusal why at) × (length s < at + n)
  take-refused {k} e =
      by_le (at + n) (length s)
      (λ h. let q = sym (take-ok h) ∙ e in absurd (let z : ◌≡◌ {A = ℕ} 0 1 = cc in omega arith))
      (λ h. (let q = sym (take_no h) ∙ e in let y : refusal why at ≡ k = cc in sym y, h))

-- ---- numbers

value-one : (n : ℕ) (s : List ℕ) (i : ℕ) → value (take (suc n) (drop i s)) ≡ get_or s i 0 + 256 * value (take n (drop (i + 1) s))
value-one n s i = rw add-one (go s i)
  where
    go : (s : List ℕ) (i : ℕ) → value (take (suc n) (drop i s)) ≡ get_or s i 0 + 256 * value (take n (drop (suc i) s))
    go [] zero = rw (take_all n [] zero-le)
    go [] (suc i) = rw (take_all n [] zero-le)
    go (x ∷ s) zero = refl
    go (x ∷ s) (suc i) = go s i

-- a number of m + n bytes, from the number of its first m bytes and that of the n after them
value_join : (m n : ℕ) (s : List ℕ) (i : ℕ) → value (take (m + n) (drop i s)) ≡ value (take m (drop i s)) + 256 ^ m * value (take n (drop (i + m) s))
value_join zero n s i = rw (zero-add n, add-zero i) (omega arith)
value_join (suc m) n s i =
    let p : i + 1 + m ≡ i + suc m = omega arith in
    let v = value (take n (drop (i + suc m) s)) in
    let tail = rw p at (value_join m n s (i + 1)) in
    let pow : 256 ^ suc m * v ≡ 256 * (256 ^ m * v) = rw (pow-suc, mul_comm (256 ^ m) 256, mul_assoc) in
    rw suc-add (omega (arith, value-one (m + n) s i, value-one m s i))

-- one, two, four and eight bytes as little-endian numbers
module _ (s : List ℕ) (i : ℕ) where
  pub u8_is : value (take 1 (drop i s)) ≡ get_or s i 0
  u8_is = value-one 0 s i ∙ add-zero (get_or s i 0)

  pub u16-is : value (take 2 (drop i s)) ≡ le16 s i
  u16-is = value-one 1 s i ∙ ap (λ v. get_or s i 0 + 256 * v) (value-one 0 s (i + 1) ∙ add-zero (get_or s (i + 1) 0))

pub u32_is : (s : List ℕ) (i : ℕ) → value (take 4 (drop i s)) ≡ le32 s i
u32_is s i = value_join 2 2 s i ∙ rw (u16-is s i, u16-is s (i + 2))

pub u64-is : (s : List ℕ) (i : ℕ) → value (take 8 (drop i s)) ≡ le64 s i
u64-is s i = value_join 4 4 s i ∙ rw (u32_is s i, u32_is s (i + 4))

-- a number that was read, in the words of the format
abbrev pub num_of : Got → Res ℕ
num_of (Ok (v, p)) = ok v p
num_of (Err k) = refuse k

num-of : (r : Res ℕ) → r ≡ num_of (got_of (λ v. v) r)
num-of (ok v p) = refl
num-of (refuse k) = refl

module _ (why w : ℕ) (s : List ℕ) (at : ℕ) where
  pub num-is : (base : ℕ) → (num why w).parse base s at ≡ num_of (num_at why w s at)
  unfolding num_at num raw
  num-is base = num-of ((num why w).parse 0 s at)

  pub num-ok : at + w ≤ length s → num_at why w s at ≡ Ok (value (take w (drop at s)), at + w)
  unfolding num_at
  num-ok h = rw (num_got why w 0 s at h)

  pub num-no : length s < at + w → num_at why w s at ≡ Err (refusal why at)
  unfolding num_at
  num-no h = rw (num-bad why w 0 s at h)

  -- the number that was read, and where
  pub num-value : {v p : ℕ} → num_at why w s at ≡ Ok (v, p) → (v ≡ value (take w (drop at s))) × (p ≡ at + w) × (at + w ≤ length s)
  num-value {v} {p} e =
      by_le (at + w) (length s)
      (λ h. let q = sym (num-ok h) ∙ e in (sym (same_got q).0, sym (same_got q).1, h))
      (λ h. let q = sym (num-no h) ∙ e in absurd (let z : ◌≡◌ {A = ℕ} 0 1 = cc in omega arith))

pub u16-ok : (why : ℕ) (s : List ℕ) (at : ℕ) → 2 ≤ length s - at → Ok (le16 s at, at + 2) ≡ num_at why 2 s at
u16-ok why s at h = sym (num-ok why 2 s at (omega arith) ∙ ap (λ v. Ok (v, at + 2)) (u16-is s at))

pub u32_ok : (why : ℕ) (s : List ℕ) (at : ℕ) → 4 ≤ length s - at → Ok (le32 s at, at + 4) ≡ num_at why 4 s at
u32_ok why s at h = sym (num-ok why 4 s at (omega arith) ∙ ap (λ v. Ok (v, at + 4)) (u32_is s at))

-- the u16 that was read, and where
pub u16-value : (s : List ℕ) (at : ℕ) {v p : ℕ} → u16_at s at ≡ Ok (v, p) → (v ≡ le16 s at) × (p ≡ at + 2) × (at + 2 ≤ length s)
u16-value s at e = let (x, y, z) = num-value 50 2 s at e in (x ∙ u16-is s at, y, z)

-- what a number that was read tells
pub past-at : {b m at v p : ℕ} {s : List ℕ} {r : Got} → Past b m s at r → r ≡ Ok (v, p) → (at + m ≤ p) × (p ≤ length s) × (v < b)
past-at {b} {m} {at} {v} {p} {s} {r} h e = go (rw e at h)
  where
    go : Past b m s at (Ok (v, p)) → (at + m ≤ p) × (p ≤ length s) × (v < b)
    go (past x y z) = (x, y, z)

pub past-mk : {b m at v p : ℕ} {s : List ℕ} → at + m ≤ p → p ≤ length s → v < b → Past b m s at (Ok (v, p))
past-mk x y z = past x y z

-- the part of a slice that a section's body is
pub part_length : (s : List ℕ) (b e : ℕ) → e ≤ length s → length (part s b e) ≡ e - b
part_length s b e h = simp (length-take, length-drop) (omega arith)

-- a place in it is a place of the slice
pub part-place : (s : List ℕ) (b e : ℕ) {n : ℕ} → n ≤ length (part s b e) → b ≤ e → e ≤ length s → b + n ≤ length s
part-place s b e l x y = omega (arith, part_length s b e y)
