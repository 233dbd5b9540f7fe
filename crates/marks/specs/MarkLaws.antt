-- What setting and wiping marks makes of them. Assumes nothing.
use Rattle.std.specs.Prelude.{ℕ, zero, suc, ◌+◌, ◌-◌, ◌/◌, ◌%◌, ◌^◌, ◌<◌, ◌≡◌, refl, Bool, true, false, cond, ◌||◌, List, [], ◌∷◌, length, get_or, replicate, eqb}
use Rattle.std.proofs.Common.{sym, ap, ◌∙◌, subst, mod-lt, zero-lt-suc, arith, length-set, get_or-set_same, get_or-set_other, pow_pos, pow-add, eq-eqb, ne_eqb}
use Rattle.std.proofs.Math.Nat.{div_self, div-eq_of_lt, mul-mod_left, zero-div}
use Rattle.std.proofs.lemmas.List.{length-replicate, get_or-replicate}
use Rattle.std.proofs.Math.Pow.{pow-lt}
use Rattle.std.proofs.lemmas.Nat.{shl-shr, or_shr, or_mod}
use Rattle.std.specs.Int.Bits.{bit_or, or_zero_r}
use Rattle.codec.specs.Codec.{among}
use Rattle.codec.specs.CaseLaws.{by_eqb, by_order}
use Rattle.marks.specs.Marks.{marked, with_mark, wiped, Marks, Only}

-- bit j of a power of two
pow-bit-same : (k : ℕ) → 2 ^ k / 2 ^ k % 2 ≡ 1
pow-bit-same k = rw (div_self (pow_pos k))

pow_even : (d : ℕ) → 2 ^ (d + 1) % 2 ≡ 0
pow_even d = rw (pow-add 2 d 1) (mul-mod_left (2 ^ d) 2)

pow-bit_above : (k j : ℕ) → j < k → 2 ^ k / 2 ^ j % 2 ≡ 0
pow-bit_above k j h = subst (λ (n : ℕ). 2 ^ n / 2 ^ j % 2 ≡ 0) is (rw (pow-add 2 (k - suc j + 1) j, shl-shr) (pow_even (k - suc j)))
  where
    is : k - suc j + 1 + j ≡ k
    is = omega arith

pow-bit-below : (k j : ℕ) → k < j → 2 ^ k / 2 ^ j % 2 ≡ 0
pow-bit-below k j h = rw (div-eq_of_lt (pow-lt h))

or-one : (b : ℕ) → b < 2 → bit_or b 1 ≡ 1
or-one zero h = refl
or-one (suc zero) h = refl
or-one (suc (suc b)) h = absurd (no b h)
  where
    no : (n : ℕ) → suc (suc n) < 2 → ⊥
    no n p = omega arith

or-bit : (w b j : ℕ) → bit_or w b / 2 ^ j % 2 ≡ bit_or (w / 2 ^ j % 2) (b / 2 ^ j % 2)
or-bit w b j = rw or_shr (or_mod (w / 2 ^ j) (b / 2 ^ j) 1)

-- THE law: with bit k set, bit k is 1 and each other bit as it was
pub set-bit : (w k j : ℕ) → bit_or w (2 ^ k) / 2 ^ j % 2 ≡ cond (eqb j k) 1 (w / 2 ^ j % 2)
set-bit w k j =
    or-bit w (2 ^ k) j
    ∙ by_order j k
    (λ h. rw (pow-bit_above k j h, ne_eqb j k (λ e. absurd (below e h))) (or_zero_r (w / 2 ^ j % 2)))
    (λ e. subst (λ (n : ℕ). bit_or (w / 2 ^ j % 2) (2 ^ n / 2 ^ j % 2) ≡ cond (eqb j n) 1 (w / 2 ^ j % 2)) e
    (rw (pow-bit-same j, eq-eqb j j refl) (or-one (w / 2 ^ j % 2) (mod-lt (w / 2 ^ j) (zero-lt-suc 1)))))
    (λ h. rw (pow-bit-below k j h, ne_eqb j k (λ e. absurd (above e h))) (or_zero_r (w / 2 ^ j % 2)))
  where
    below : j ≡ k → j < k → ⊥
    below e h = omega arith

    above : j ≡ k → k < j → ⊥
    above e h = omega arith

bit_test : (b : Bool) (x : ℕ) → eqb (cond b 1 x) 1 ≡ (b || eqb x 1)
bit_test true x = refl
bit_test false x = refl

-- no mark is set at the start
pub marks-none : Marks (replicate 1024 0) []
marks-none = record { words = length-replicate {A = ℕ} 1024 0; right = λ k h. none k (slot k h) }
  where
    slot : (k : ℕ) → k < 65536 → k / 64 < 1024
    slot k h = omega arith

    none : (k : ℕ) → k / 64 < 1024 → marked (replicate 1024 0) k ≡ false
    none k h = rw (get_or-replicate {A = ℕ} 1024 (k / 64) 0 0 h, zero-div)

-- one more mark
pub marks-more : (ws ks : List ℕ) (k : ℕ) → k < 65536 → Marks ws ks → Marks (with_mark ws k) (k ∷ ks)
marks-more ws ks k hk m = record { words = length-set ws (k / 64) _ ∙ m.words; right = λ j hj. at j hj }
  where
    slot : k / 64 < length ws
    slot = omega (arith, m.words)

    new : ℕ
    new = bit_or (get_or ws (k / 64) 0) (2 ^ (k % 64))

    same : (j : ℕ) → j / 64 ≡ k / 64 → eqb (j % 64) (k % 64) ≡ eqb j k
    same j e = by_eqb (j % 64) (k % 64) (λ t h. t ∙ sym (eq-eqb j k (eqs h))) (λ t h. t ∙ sym (ne_eqb j k (λ q. h (ap (λ (n : ℕ). n % 64) q))))
      where
        eqs : j % 64 ≡ k % 64 → j ≡ k
        eqs h = omega arith

    at : (j : ℕ) → j < 65536 → marked (with_mark ws k) j ≡ (eqb j k || among j ks)
    at j hj =
        by_eqb (j / 64) (k / 64)
        (λ _ e. rw (e, get_or-set_same ws (k / 64) new 0 slot, set-bit (get_or ws (k / 64) 0) (k % 64) (j % 64), same j e, bit_test)
        (ap (λ (b : Bool). eqb j k || b) (rw e at (m.right j hj))))
        (λ _ n. rw (get_or-set_other ws (k / 64) (j / 64) new 0 n, ne_eqb j k (λ q. n (ap (λ (x : ℕ). x / 64) q))) (m.right j hj))

-- ---- the walk that clears the marks again

bool_no : (b : Bool) → (b ≡ true → ⊥) → b ≡ false
bool_no true h = absurd (h refl)
bool_no false h = refl

or_split : (a b : Bool) → (a || b) ≡ true → (a ≡ false) → b ≡ true
or_split a b h e = rw e at h

pub only_next : (ws ks : List ℕ) (c : ℕ) → c < 65536 → Only ws (c ∷ ks) → Only (wiped ws c) ks
only_next ws ks c hc m = record {
  words = length-set ws (c / 64) 0 ∙ m.words;
  only = λ k hk t.
      by_eqb (k / 64) (c / 64)
      (λ _ e.
      let slot : c / 64 < length ws = omega (arith, m.words) in
      let z : false ≡ true = (rw (e, get_or-set_same ws (c / 64) 0 0 slot, zero-div) at t) in
      absurd (let y : ◌≡◌ {A = ℕ} 0 1 = cc in omega arith))
      (λ _ n.
      let old : marked ws k ≡ true = (rw (get_or-set_other ws (c / 64) (k / 64) 0 0 n) at t) in
      or_split (eqb k c) (among k ks) (m.only k hk old) (ne_eqb k c (λ q. n (ap (λ (x : ℕ). x / 64) q))));
}

pub only_end : (ws : List ℕ) → Only ws [] → Marks ws []
only_end ws m = record {
  words = m.words;
  right = λ k hk. bool_no (marked ws k) (λ e. let z = m.only k hk e in absurd (let y : ◌≡◌ {A = ℕ} 0 1 = cc in omega arith));
}
