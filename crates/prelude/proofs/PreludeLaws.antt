-- The verdict on a prelude step by step, as the code meets it.
-- Assumes nothing.
use Rattle.std.specs.Prelude.{ℕ, ◌+◌, ◌-◌, ◌*◌, ◌≤◌, ◌<◌, Bool, cond, ◌≡◌, refl, List, [], ◌∷◌, length, take, drop, get_or, leb, eqb, Result, Ok, Err}
use Rattle.std.proofs.Common.{arith, sym, ap, ◌∙◌, lt-ltb, le-ltb, eq-eqb, ne_eqb, length-take-le, get_or-take, take-take}
use Rattle.std.proofs.Math.Bool.{true, false}
use Rattle.refusal.specs.declared.Refusal.{Refusal}
use Rattle.std.specs.List.{starts_with}
use Rattle.std.proofs.lemmas.Bool.Decides.{Decides-eqb}
use Rattle.std.proofs.lemmas.Slice.Eq.{starts_is}
use Rattle.codec.specs.CaseLaws.{no_true}
use Rattle.codec.specs.Codec.{refusal, Bytes, value, fixed, named, checked, ◌then◌}
use Rattle.codec.proofs.StepLaws.{num_got, byte_got, value-step}
use Rattle.numbers.specs.Numbers.{le32}
use Rattle.numbers.specs.NumberLaws.{u32_is}
use Rattle.prelude.specs.Prelude.{magic, is_version, prelude, said, prelude_of}
use Rattle.prelude.specs.declared.Stage.{Stage}
use Rattle.prelude.specs.declared.Stage.TheVariants.{Needs, Whole}

-- the first three bytes, as one number, are the magic
abbrev pub is_magic : List ℕ → Bool
is_magic s = eqb (value (68 ∷ 66 ∷ 78 ∷ [])) (value (take 3 s))

-- and so byte by byte
abbrev pub Magic : List ℕ → Type 0
Magic s = (get_or s 0 0 ≡ 68) × (get_or s 1 0 ≡ 66) × (get_or s 2 0 ≡ 78)

-- the block length that a prelude states, at places 4 to 7
abbrev pub length_of : List ℕ → ℕ
length_of s = le32 s 4

-- the three tests on eight bytes, one after the other, each refused at the first byte of what it tests
abbrev pub tests : Bool → Bool → Bool → ℕ → ℕ → Result Stage Refusal
tests a b c v n = cond a (cond b (cond c (Ok (Whole v n)) (Err (refusal 12 4))) (Err (refusal 11 3))) (Err (refusal 10 0))

-- fewer than eight bytes
pub prelude-few : (s : List ℕ) → length s < 8 → prelude_of s ≡ Ok (Needs (8 - length s))
unfolding prelude_of
prelude-few s h = simp (lt-ltb _ _ h)

-- they are the bytes that it begins with
begins : (s : List ℕ) → 8 ≤ length s → Magic s → s ≡ 68 ∷ 66 ∷ 78 ∷ drop 3 s
begins (a ∷ b ∷ c ∷ t) h m = rw (m.0, m.1, m.2) refl
begins (a ∷ b ∷ []) h m = absurd (omega arith)
begins (a ∷ []) h m = absurd (omega arith)
begins [] h m = absurd (omega arith)

module _ (s : List ℕ) (h : 8 ≤ length s) where
  three : value (take 3 s) ≡ get_or s 0 0 + 256 * (get_or s 1 0 + 256 * get_or s 2 0)
  three = omega (arith, value-step 2 s 0 (omega arith), value-step 1 s 1 (omega arith), value-step 0 s 2 (omega arith))

  -- the number is the magic exactly if the three bytes are
  pub magic_yes : Magic s → is_magic s ≡ true
  magic_yes m = eq-eqb _ (value (take 3 s)) (omega (arith, three, m))

  pub magic-no : Bytes s → (Magic s → ⊥) → is_magic s ≡ false
  magic-no b m = ne_eqb _ (value (take 3 s)) (λ e. m (omega (arith, three, b 0, b 1, b 2), omega (arith, three, b 0, b 1, b 2), omega (arith, three, b 0, b 1, b 2)))

  -- and exactly if the bytes begin with it
  pub magic-starts : Bytes s → (r : Bool) → r ≡ starts_with eqb s (68 ∷ 66 ∷ 78 ∷ []) → is_magic s ≡ r
  magic-starts b true e =
      let q = (starts_is Decides-eqb s (68 ∷ 66 ∷ 78 ∷ []) true e).0 refl in
      magic_yes (ap (λ x. get_or x 0 0) q, ap (λ x. get_or x 1 0) q, ap (λ x. get_or x 2 0) q)
  magic-starts b false e = magic-no b (λ m. let q = (starts_is Decides-eqb s (68 ∷ 66 ∷ 78 ∷ []) false e).1 (drop 3 s) (begins s h m) in no_true (sym q))

  read_is : (a b c : Bool) → is_magic s ≡ a → is_version (get_or s 3 0) ≡ b → leb 100 (length_of s) ≡ c
      → said (prelude.codec.parse 0 s 0) ≡ tests a b c (get_or s 3 0) (length_of s)
  unfolding prelude magic named ◌then◌ checked fixed
  read_is false b c qa qb qc = simp (num_got 10 3 0 s 0 (omega arith), qa)
  read_is true false c qa qb qc = simp (num_got 10 3 0 s 0 (omega arith), qa, byte_got 11 0 s 3 (omega arith), qb)
  read_is true true false qa qb qc = simp (num_got 10 3 0 s 0 (omega arith), qa, byte_got 11 0 s 3 (omega arith), qb, num_got 12 4 0 s 4 (omega arith), u32_is s 4, qc)
  read_is true true true qa qb qc = simp (num_got 10 3 0 s 0 (omega arith), qa, byte_got 11 0 s 3 (omega arith), qb, num_got 12 4 0 s 4 (omega arith), u32_is s 4, qc)

  -- THE VERDICT ON EIGHT BYTES, or more, by the outcomes of the tests
  pub prelude-is : (a b c : Bool) → is_magic s ≡ a → is_version (get_or s 3 0) ≡ b → leb 100 (length_of s) ≡ c
      → prelude_of s ≡ tests a b c (get_or s 3 0) (length_of s)
  unfolding prelude_of
  prelude-is a b c qa qb qc = simp (le-ltb _ _ h) (read_is a b c qa qb qc)

-- a longer prelude is judged as its first eight bytes are
pub prelude-first : (s : List ℕ) → 8 ≤ length s → prelude_of s ≡ prelude_of (take 8 s)
prelude-first s h =
    let at : (i : ℕ) → i < 8 → get_or (take 8 s) i 0 ≡ get_or s i 0 = λ i g. get_or-take 8 s i 0 g in
    prelude-is s h _ _ _ refl refl refl
    ∙ sym (prelude-is (take 8 s) (omega (arith, length-take-le 8 s h)) _ _ _ refl refl refl
    ∙ simp (take-take 3 8 s (omega arith), at 3 (omega arith), at 4 (omega arith), at 5 (omega arith), at 6 (omega arith), at 7 (omega arith)))

tests-never : (a b c : Bool) (v m n : ℕ) → tests a b c v m ≡ Ok (Needs n) → ⊥
tests-never false b c v m n q = let z : ◌≡◌ {A = ℕ} 0 1 = cc in omega arith
tests-never true false c v m n q = let z : ◌≡◌ {A = ℕ} 0 1 = cc in omega arith
tests-never true true false v m n q = let z : ◌≡◌ {A = ℕ} 0 1 = cc in omega arith
tests-never true true true v m n q = let z : ◌≡◌ {A = ℕ} 0 1 = cc in omega arith

-- eight bytes never need more
pub prelude-never : (s : List ℕ) (n : ℕ) → 8 ≤ length s → prelude_of s ≡ Ok (Needs n) → ⊥
prelude-never s n h e =
    tests-never (is_magic s) (is_version (get_or s 3 0)) (leb 100 (length_of s)) (get_or s 3 0) (length_of s) n (sym (prelude-is s h _ _ _ refl refl refl) ∙ e)
