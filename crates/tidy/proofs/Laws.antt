-- The walk's definitions, as the code meets them. Assumes nothing.
use Prim.Native.Nat.{ℕ, suc, ◌+◌, ◌-◌, ◌≤◌, ◌<◌}
use native.Mathlib.Omega.{arith}
use mathlib.Core.Path.{◌≡◌, refl, sym, ap, ◌∙◌, subst}
use mathlib.Core.Bool.{Bool, true, false, cond}
use mathlib.Core.List.{List}
use Rattle.std.specs.Prelude.{Ok, Err}
use lib.ListN.{length, get_or}
use lib.Dec.{leb, eqb}
use borrow.Author.Tests.{eq-eqb, ne_eqb, le-leb, lt-leb}
use Rattle.refusal.specs.declared.Refusal.{Refusal}
use Rattle.codec.specs.Codec.{refusal}
use Rattle.numbers.specs.Numbers.{le16}
use Rattle.layout.specs.LayoutOf.{D}
use Rattle.tidy.specs.Walk.{Met, onwards, Near, near, nowhere, zeros_from, entries_from, names_from, labels_from, items_from, closing, own_bytes, section_from, sections_from, group_from, layout_met}

-- one less, and one more
less : (n : ℕ) → 0 < n → n ≡ suc (n - 1)
less n h = omega arith

-- one fewer is left after one more
pub one_fewer : (n i : ℕ) → n - i - 1 ≡ n - (i + 1)
one_fewer n i = omega arith

-- a step, by its parts
pub step_on : (p b n : ℕ) → p + b + n ≡ p + (b + n)
step_on p b n = omega arith

-- a clear part, by where it ends
pub near-at : {a n p : ℕ} → p ≤ a + n → Near a n (Ok p)
near-at h = near h

-- what was near is near, with more to spare
pub near-more : {a n b m : ℕ} {r : Met} → Near a n r → a + n ≤ b + m → Near b m r
near-more {b = b} {m = m} (near {p} x) h = let l : p ≤ b + m = omega arith in near l
near-more nowhere h = nowhere

pub near_clear : {a n p : ℕ} {r : Met} → Near a n r → r ≡ Ok p → p ≤ a + n
near_clear {p = p} (near {p = q} x) e = let z : q ≡ p = cc in omega arith
near_clear nowhere e = absurd (let z : ◌≡◌ {A = ℕ} 0 1 = cc in omega arith)

-- what is untidy ends nowhere
pub near-untidy : {a n : ℕ} {r : Met} {k : Refusal} → r ≡ Err k → Near a n r
near-untidy {a} {n} e = subst (Near a n) (sym e) nowhere

module _ (s : List ℕ) (a n : ℕ) where
  pub zeros-end : n ≤ 0 → zeros_from s a n ≡ Ok a
  unfolding zeros_from
  zeros-end h = let e : n ≡ 0 = omega arith in rw e

  zeros-is : 0 < n → zeros_from s a n ≡ cond (eqb (get_or s a 0) 0) (zeros_from s (a + 1) (n - 1)) (Err (refusal 122 a))
  unfolding zeros_from
  zeros-is h = ap (zeros_from s a) (less n h)

  pub zeros-on : 0 < n → get_or s a 0 ≡ 0 → zeros_from s a n ≡ zeros_from s (a + 1) (n - 1)
  zeros-on h e = zeros-is h ∙ rw (eq-eqb (get_or s a 0) 0 e)

  pub zeros-stop : 0 < n → (get_or s a 0 ≡ 0 → ⊥) → zeros_from s a n ≡ Err (refusal 122 a)
  zeros-stop h e = zeros-is h ∙ rw (ne_eqb (get_or s a 0) 0 e)

  pub entries-end : n ≤ 0 → entries_from s a n ≡ Ok a
  unfolding entries_from
  entries-end h = let e : n ≡ 0 = omega arith in rw e

  pub entries-on : {d : ℕ} {r : Met} → d ≡ D → 0 < n → zeros_from s (a + 11) (d - 11) ≡ r → entries_from s a n ≡ onwards r λ p. entries_from s p (n - 1)
  unfolding entries_from
  entries-on q h e = ap (entries_from s a) (less n h) ∙ rw (rw q at e)

  pub names-none : n ≤ 0 → names_from s a n ≡ a
  unfolding names_from
  names-none h = let e : n ≡ 0 = omega arith in rw e

  pub names-on : 0 < n → names_from s a n ≡ names_from s (a + get_or s a 0 + 2) (n - 1)
  unfolding names_from
  names-on h = ap (names_from s a) (less n h)

  module _ (least : ℕ) where
    pub labels-end : n ≤ 0 → labels_from s a least n ≡ Ok a
    unfolding labels_from
    labels-end h = let e : n ≡ 0 = omega arith in rw e

    labels-is : 0 < n → labels_from s a least n ≡ cond (leb least (le16 s a)) (labels_from s (a + 4 + get_or s (a + 2) 0) (le16 s a + 1) (n - 1)) (Err (refusal 121 a))
    unfolding labels_from
    labels-is h = ap (labels_from s a least) (less n h)

    pub labels-on : 0 < n → least ≤ le16 s a → labels_from s a least n ≡ labels_from s (a + 4 + get_or s (a + 2) 0) (le16 s a + 1) (n - 1)
    labels-on h e = labels-is h ∙ rw (le-leb least (le16 s a) e)

    pub labels-stop : 0 < n → le16 s a < least → labels_from s a least n ≡ Err (refusal 121 a)
    labels-stop h e = labels-is h ∙ rw (lt-leb least (le16 s a) e)

  module _ (kind : ℕ) where
    pub items_labels : kind ≡ 2 → items_from kind s a n ≡ labels_from s a 0 n
    unfolding items_from
    items_labels e = rw (eq-eqb kind 2 e)

    pub items_fields : {r : Met} → (kind ≡ 2 → ⊥) → entries_from s a n ≡ r → items_from kind s a n ≡ onwards r λ p. Ok (names_from s p n)
    unfolding items_from
    items_fields e q = rw (ne_eqb kind 2 e, q)

    pub sections-end : n ≤ 0 → sections_from kind s a n ≡ Ok a
    unfolding sections_from
    sections-end h = let e : n ≡ 0 = omega arith in rw e

    pub sections-on : {r : Met} → 0 < n → section_from kind s a ≡ r → sections_from kind s a n ≡ onwards r λ p. sections_from kind s p (n - 1)
    unfolding sections_from
    sections-on h e = ap (sections_from kind s a) (less n h) ∙ rw e

module _ (k p e : ℕ) where
  pub closing_clear : e ≤ p → closing k p e ≡ Ok e
  unfolding closing
  closing_clear h = rw (le-leb e p h)

  pub closing-left : p < e → closing k p e ≡ Err (refusal k p)
  unfolding closing
  closing-left h = rw (lt-leb e p h)

  -- it ends at e
  pub closing-near : {a n : ℕ} {r : Met} → r ≡ closing k p e → e ≤ a + n → Near a n r
  unfolding closing
  closing-near {a} {n} q h = subst (Near a n) (sym q) (go (leb e p))
    where
      go : (b : Bool) → Near a n (cond b (Ok e) (Err (refusal k p)))
      go true = near h
      go false = nowhere

module _ (kind : ℕ) (s : List ℕ) (a : ℕ) where
  pub section-is : {o b n : ℕ} {r : Met} → o ≡ own_bytes kind → b ≡ get_or s (a + o) 0 → n ≡ le16 s (a + o + b + 2) → items_from kind s (a + o + b + 2 + 2) n ≡ r → section_from kind s a ≡ onwards r λ p. closing 120 p (a + le16 s a)
  unfolding section_from
  section-is x y z e = rw (rw (z, y, x) at e)

  pub group_is : group_from kind s a ≡ sections_from kind s (a + 2) (le16 s a)
  unfolding group_from
  group_is = refl

pub layout_is : (s : List ℕ) {r : Met} → group_from 0 s 2 ≡ r → layout_met s ≡ onwards r λ p. onwards (group_from 1 s p) λ q. onwards (group_from 2 s q) λ e. closing 123 e (length s)
unfolding layout_met
layout_is s e = rw e
