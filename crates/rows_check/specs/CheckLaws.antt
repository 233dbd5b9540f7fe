-- What the tests of rows tell. Assumes nothing.
use Prim.Native.Nat.{ℕ, zero, suc, ◌+◌, ◌-◌, ◌*◌, ◌%◌, ◌≤◌, ◌<◌}
use Rattle.std.proofs.Common.{add-zero, eq-or-lt_of_le, sym, ◌∙◌, inl, inr, ⊎_elim}
use native.Mathlib.Omega.{arith}
use Rattle.std.specs.Prelude.{◌≡◌, Bool, List, ◌⊎◌, eqb}
use Rattle.std.proofs.Math.Path.{refl, ap, subst}
use Rattle.std.proofs.Math.Bool.{true, false, cond}
use Rattle.std.proofs.Math.ListN.{length}
use borrow.Author.Tests.{ne_eqb, eqb-true, leb-true}
use Rattle.rows_check.specs.Tree.{cell, row_count, names_from, next_section, skip, kinds, structs_from, labels_from}
use Rattle.rows_check.specs.Check.{both, every, limit_of, number_fits, span_fits, row_fits, row_test, passes, name_kind, section_in_place, walk, in_order, well_formed}

pub both_left : (a b : Bool) → both a b ≡ true → a ≡ true
unfolding both
both_left true b e = refl
both_left false b e = e

pub both_right : (a b : Bool) → both a b ≡ true → b ≡ true
unfolding both
both_right true b e = e
both_right false b e = let z : ◌≡◌ {A = ℕ} 0 1 = cc in absurd (omega arith)

module _ (f : ℕ → Bool) (q k : ℕ) where
  pub every-none : k ≤ 0 → every f q k ≡ true
  unfolding every
  every-none h = let e : k ≡ 0 = omega arith in rw e

  pub every-next : 0 < k → every f q k ≡ both (f q) (every f (q + 1) (k - 1))
  unfolding every
  every-next h = let e : k ≡ suc (k - 1) = omega arith in ap (every f q) e

  pub every_yes : 0 < k → f q ≡ true → every f q k ≡ every f (q + 1) (k - 1)
  unfolding both
  every_yes h e = every-next h ∙ rw e

  pub every-no : 0 < k → f q ≡ false → every f q k ≡ false
  unfolding both
  every-no h e = every-next h ∙ rw e

-- the places from q up to e
module _ (f : ℕ → Bool) (q e : ℕ) where
  pub upto-end : e ≤ q → every f q (e - q) ≡ true
  upto-end h = every-none f q (e - q) (omega arith)

  pub upto_yes : q < e → f q ≡ true → every f q (e - q) ≡ every f (q + 1) (e - (q + 1))
  upto_yes h t = let z : e - q - 1 ≡ e - (q + 1) = omega arith in every_yes f q (e - q) (omega arith) t ∙ ap (every f (q + 1)) z

  pub upto-no : q < e → f q ≡ false → every f q (e - q) ≡ false
  upto-no h t = every-no f q (e - q) (omega arith) t

-- what passes at every place passes at one of them
pub every-at : (f : ℕ → Bool) (q k : ℕ) → every f q k ≡ true → (j : ℕ) → q ≤ j → j < q + k → f j ≡ true
every-at f q zero e j a b = absurd (omega arith)
every-at f q (suc k) e j a b =
    let h : 0 < suc k = omega arith in
    let n : both (f q) (every f (q + 1) (suc k - 1)) ≡ true = sym (every-next f q (suc k) h) ∙ e in
    let s : suc k - 1 ≡ k = omega arith in
    ⊎_elim (λ p. ap f (sym p) ∙ both_left (f q) _ n)
    (λ l. every-at f (q + 1) k (rw s at (both_right (f q) _ n)) j (omega arith) (omega arith))
    (eq-or-lt_of_le a)

-- what passes at each place passes at every one
pub every-all : (f : ℕ → Bool) (q k : ℕ) → ((j : ℕ) → q ≤ j → j < q + k → f j ≡ true) → every f q k ≡ true
unfolding every both
every-all f q zero h = refl
every-all f q (suc k) h = rw (h q (omega arith) (omega arith)) (every-all f (q + 1) k (λ j a b. h j (omega arith) (omega arith)))

-- after m places at which it passes, the others are left
pub every-past : (f : ℕ → Bool) (q m k : ℕ) → every f q m ≡ true → every f q k ≡ every f (q + m) (k - m)
unfolding every both
every-past f q zero k e =
    let z : k - 0 ≡ k = omega arith in
    rw (z, add-zero q)
every-past f q (suc m) zero e =
    let z : 0 - suc m ≡ 0 = omega arith in
    rw z
every-past f q (suc m) (suc k) e =
    let s : suc k - suc m ≡ k - m = omega arith in
    let p : q + suc m ≡ q + 1 + m = omega arith in
    rw (s, p, both_left (f q) _ e) (every-past f (q + 1) m k (both_right (f q) _ e))

-- ---- one row

module _ (rows text : List ℕ) (q : ℕ) (e : row_fits rows text q ≡ true) where
  -- each number of a row that fits is within its limit
  pub number-le : (kind : ℕ) → cell rows q 0 ≡ kind → (j : ℕ) → 1 ≤ j → j < 9 → cell rows q j ≤ limit_of kind j
  unfolding row_fits
  number-le kind h j a b =
      let r : every (number_fits rows q (cell rows q 0)) 1 8 ≡ true = both_left _ _ (both_right _ _ (both_right _ _ e)) in
      let l : cell rows q j ≤ limit_of (cell rows q 0) j = leb-true _ _ (every-at (number_fits rows q (cell rows q 0)) 1 8 r j a (omega arith)) in
      subst (λ (k : ℕ). cell rows q j ≤ limit_of k j) h l

  -- a row that fits and is no field has its text in the text
  pub row-span : (cell rows q 0 ≡ 11 → ⊥) → cell rows q 1 + cell rows q 2 ≤ length text
  unfolding row_fits
  row-span h =
      let r : cond (eqb (cell rows q 0) 11) true (span_fits rows text q) ≡ true = both_right _ _ (both_right _ _ (both_right _ _ e)) in
      leb-true _ _ (rw (ne_eqb (cell rows q 0) 11 h) at r)

-- ---- the rows of a section

-- the rows of the section at row q have the kinds of their places
pub record InPlace (kind : ℕ) (rows : List ℕ) (q : ℕ) : Type 0 where
  pub inside : next_section kind rows q ≤ row_count rows
  pub first : q + 1 ≤ row_count rows
  pub head : cell rows q 0 ≡ kind
  pub fields : (j : ℕ) → q + 1 ≤ j → j < names_from kind rows q → cell rows j 0 ≡ 11
  pub names : (j : ℕ) → names_from kind rows q ≤ j → j < next_section kind rows q → cell rows j 0 ≡ name_kind kind

unfoldable pub Places : ℕ → List ℕ → ℕ → ℕ → Type 0
Places kind rows q zero = Unit {0}
Places kind rows q (suc k) = InPlace kind rows q × Places kind rows (next_section kind rows q) k

-- the first of some sections, and the others
pub places_next : (kind : ℕ) (rows : List ℕ) (q k : ℕ) → Places kind rows q (suc k) → InPlace kind rows q × Places kind rows (next_section kind rows q) k
unfolding Places
places_next kind rows q k p = p

-- a test by a kind is the kind
kind-of : (rows text : List ℕ) (w j : ℕ) → (w ≡ 11) ⊎ ((w ≡ 12) ⊎ (w ≡ 15)) → row_test w rows text j ≡ true → cell rows j 0 ≡ w
unfolding row_test
kind-of rows text w j o e =
    ⊎_elim (λ f. eqb-true _ _ (rw f at e) ∙ sym f) (λ o. ⊎_elim (λ f. eqb-true _ _ (rw f at e) ∙ sym f) (λ f. eqb-true _ _ (rw f at e) ∙ sym f) o) o

pub name-kind-is : (kind : ℕ) → (name_kind kind ≡ 12) ⊎ (name_kind kind ≡ 15)
unfolding name_kind
name-kind-is kind = go (eqb kind 10) (eqb kind 13)
  where
    go : (a b : Bool) → (cond {A = ℕ} a 12 (cond b 12 15) ≡ 12) ⊎ (cond {A = ℕ} a 12 (cond b 12 15) ≡ 15)
    go true b = inl refl
    go false true = inl refl
    go false false = inr refl

pub names_more : (kind : ℕ) (rows : List ℕ) (q : ℕ) → q + 1 ≤ names_from kind rows q
unfolding names_from
names_more kind rows q = go (eqb kind 10) (eqb kind 13)
  where
    go : (a b : Bool) → q + 1 ≤ cond a (q + 1 + cell rows q 6) (cond b (q + 1 + cell rows q 4) (q + 1))
    go true b = omega arith
    go false true = omega arith
    go false false = omega arith

-- the next section is further on
pub next_more : (kind : ℕ) (rows : List ℕ) (q : ℕ) → q + 1 ≤ next_section kind rows q
next_more kind rows q = omega (arith, names_more kind rows q)

module _ (rows text : List ℕ) where
  pub in_place : (kind q : ℕ) → section_in_place kind rows text q ≡ true → InPlace kind rows q
  unfolding section_in_place
  in_place kind q e =
      let a = both_right _ _ e in
      let b = both_right _ _ (both_right _ _ a) in
      let m = names_more kind rows q in
      record {
        inside = leb-true _ _ (both_left _ _ (both_right _ _ a));
        first = leb-true _ _ (both_left _ _ e);
        head = eqb-true _ _ (both_left _ _ a);
        fields = λ j g h. kind-of rows text 11 j (inl refl) (every-at _ _ _ (both_left _ _ b) j g (omega arith));
        names = λ j g h. kind-of rows text (name_kind kind) j (inr (name-kind-is kind)) (every-at _ _ _ (both_right _ _ b) j g h);
      }

  -- sections that are walked over are in place
  pub walk_places : (kind n q : ℕ) → walk kind rows text q n ≤ row_count rows → Places kind rows q n × (walk kind rows text q n ≡ skip kind rows q n)
  unfolding walk Places skip
  walk_places kind zero q h = (tt, refl)
  walk_places kind (suc n) q h = go (section_in_place kind rows text q) refl (λ g. walk_places kind n (next_section kind rows q) g)
    where
      go : (b : Bool) → section_in_place kind rows text q ≡ b
          → (walk kind rows text (next_section kind rows q) n ≤ row_count rows → Places kind rows (next_section kind rows q) n × (walk kind rows text (next_section kind rows q) n ≡ skip kind rows (next_section kind rows q) n))
          → (InPlace kind rows q × Places kind rows (next_section kind rows q) n) × (walk kind rows text q (suc n) ≡ skip kind rows (next_section kind rows q) n)
      go true e r =
          let k : walk kind rows text q (suc n) ≡ walk kind rows text (next_section kind rows q) n = rw e in
          let i = r (rw k at h) in
          ((in_place kind q e, i.0), k ∙ i.1)
      go false e r =
          let k : walk kind rows text q (suc n) ≡ row_count rows + 1 = rw e in
          absurd (omega (arith, h, k))

  -- what was walked from is within the table
  pub walk_from : (kind n q : ℕ) → walk kind rows text q n ≤ row_count rows → q ≤ row_count rows
  unfolding walk
  walk_from kind zero q h = h
  walk_from kind (suc n) q h = go (section_in_place kind rows text q) refl
    where
      go : (b : Bool) → section_in_place kind rows text q ≡ b → q ≤ row_count rows
      go true e = let k = (in_place kind q e).first in omega arith
      go false e =
          let k : walk kind rows text q (suc n) ≡ row_count rows + 1 = rw e in
          absurd (omega (arith, h, k))

  -- rows that are well formed
  pub record Formed : Type 0 where
    pub nines : length rows ≡ 9 * row_count rows
    pub fits : (j : ℕ) → j < row_count rows → row_fits rows text j ≡ true
    pub records : Places 10 rows 0 (kinds rows 10)
    pub structs : Places 13 rows (structs_from rows) (kinds rows 13)
    pub labels : Places 14 rows (labels_from rows) (kinds rows 14)
    pub all : skip 14 rows (labels_from rows) (kinds rows 14) ≡ row_count rows

  fits-at : passes 90 rows text 0 (row_count rows) ≡ true → (j : ℕ) → j < row_count rows → row_fits rows text j ≡ true
  unfolding row_test
  fits-at f j h = every-at _ _ _ f j (omega arith) (omega arith)

  pub formed : well_formed rows text ≡ true → Formed
  unfolding well_formed in_order
  formed w =
      let n : length rows % 9 ≡ 0 = eqb-true _ _ (both_left _ _ w) in
      let q1 = walk 10 rows text 0 (kinds rows 10) in
      let q2 = walk 13 rows text q1 (kinds rows 13) in
      let d : walk 14 rows text q2 (kinds rows 14) ≡ row_count rows = eqb-true _ _ (both_right _ _ (both_right _ _ w)) in
      let h3 : walk 14 rows text q2 (kinds rows 14) ≤ row_count rows = omega (arith, d) in
      let h2 : q2 ≤ row_count rows = walk_from 14 (kinds rows 14) q2 h3 in
      let h1 : q1 ≤ row_count rows = walk_from 13 (kinds rows 13) q1 h2 in
      let s1 = walk_places 10 (kinds rows 10) 0 h1 in
      let s2 = walk_places 13 (kinds rows 13) q1 h2 in
      let s3 = walk_places 14 (kinds rows 14) q2 h3 in
      record {
        nines = omega arith;
        fits = fits-at (both_left _ _ (both_right _ _ w));
        records = s1.0;
        structs = rw s1.1 at s2.0;
        labels = rw s1.1 at (rw s2.1 at s3.0);
        all = rw s1.1 at (rw s2.1 at (sym s3.1 ∙ d));
      }

module _ (rows text : List ℕ) (w : Formed rows text) (q : ℕ) where
  -- the rtype and the base size of a record are two bytes each
  pub record_fits : InPlace 10 rows q → (cell rows q 3 < 65536) × (cell rows q 5 < 65536)
  unfolding limit_of
  record_fits p =
      let h = p.first in
      let f = w.fits q (omega arith) in
      let l3 : cell rows q 3 ≤ 65535 = number-le rows text q f 10 p.head 3 (omega arith) (omega arith) in
      let l5 : cell rows q 5 ≤ 65535 = number-le rows text q f 10 p.head 5 (omega arith) (omega arith) in
      (omega arith, omega arith)

  -- and so is the size of a struct
  pub struct_fits : InPlace 13 rows q → cell rows q 3 < 65536
  unfolding limit_of
  struct_fits p =
      let h = p.first in
      let l3 : cell rows q 3 ≤ 65535 = number-le rows text q (w.fits q (omega arith)) 13 p.head 3 (omega arith) (omega arith) in
      omega arith
