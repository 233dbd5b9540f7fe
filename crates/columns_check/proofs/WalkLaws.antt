-- Walks over the rows from row r up to row n: what one step more leaves, and what the end gives. Assumes nothing.
use Prim.Native.Nat.{ℕ, suc, ◌+◌, ◌-◌, ◌≤◌, ◌<◌}
use native.Mathlib.Nat.{add-zero}
use native.Mathlib.Omega.{arith}
use mathlib.Core.Path.{◌≡◌, ap, sym, ◌∙◌}
use mathlib.Core.Bool.{Bool, true, false, ◌&&◌}
use mathlib.Core.List.{List}
use lib.ListN.{take, drop}
use lib.Dec.{eqb}
use borrow.Author.Tests.{eq-eqb, ne_eqb}
use Rattle.std.specs.Prelude.{Ok, Err}
use Rattle.refusal.specs.declared.Refusal.{Refusal}
use Rattle.codec.specs.Telling.{is_passed, passed_refuses}
use Rattle.columns_check.specs.Tree.{kind_of, x_of, owner_of, run}
use Rattle.columns_check.specs.Check.{every, mapped}
use Rattle.codec.specs.Telling.{passed}
use Rattle.columns_check.specs.RowFaults.{head, heads, row_fault, rows_fault}

-- ---- what is left

module _ {A : Type 0} (f : ℕ → A) (r n : ℕ) where
  left-more : r < n → f (n - r) ≡ f (suc (n - (r + 1)))
  left-more h = let e : n - r ≡ suc (n - (r + 1)) = omega arith in ap f e

  left-none : n ≤ r → f (n - r) ≡ f 0
  left-none h = let e : n - r ≡ 0 = omega arith in ap f e

-- ---- a text

-- a part of the text, by its start and its length
pub part-is : (start len : ℕ) (text : List ℕ) → take (start + len - start) (drop start text) ≡ take len (drop start text)
part-is start len text = let e : start + len - start ≡ len = omega arith in rw e

-- ---- a test of every row

module _ (f : ℕ → Bool) (r n : ℕ) where
  pub every_yes : r < n → f r ≡ true → every f r (n - r) ≡ every f (r + 1) (n - (r + 1))
  every_yes h e = left-more (every f r) r n h ∙ rw e

  pub every-no : r < n → f r ≡ false → every f r (n - r) ≡ false
  every-no h e = left-more (every f r) r n h ∙ rw e

  pub every-none : n ≤ r → every f r (n - r) ≡ true
  every-none h = left-none (every f r) r n h

-- ---- rows of one kind

module _ (kind : ℕ) (t : List ℕ) (r n : ℕ) where
  pub run_more : r < n → kind_of t r ≡ kind → r + run kind t r (n - r) ≡ r + 1 + run kind t (r + 1) (n - (r + 1))
  run_more h e = rw (left-more (run kind t r) r n h, eq-eqb (kind_of t r) kind e) (omega arith)

  pub run-other : r < n → (kind_of t r ≡ kind → ⊥) → r + run kind t r (n - r) ≡ r
  run-other h e = rw (left-more (run kind t r) r n h, ne_eqb (kind_of t r) kind e) (add-zero r)

  pub run_none : n ≤ r → r + run kind t r (n - r) ≡ r
  run_none h = rw (left-none (run kind t r) r n h) (add-zero r)

-- ---- the mappings

module _ (t : List ℕ) (r n : ℕ) where
  pub heads-more : r < n → heads t r (n - r) ≡ head t r + heads t (r + 1) (n - (r + 1))
  heads-more h = left-more (heads t r) r n h

  pub heads-none : n ≤ r → heads t r (n - r) ≡ 0
  heads-none h = left-none (heads t r) r n h

  module _ (owner : ℕ) where
    -- where no interval is due a mapping follows
    pub mapped-head : r < n → kind_of t r ≡ 3 → mapped t r (n - r) owner 0 ≡ mapped t (r + 1) (n - (r + 1)) r (x_of t r)
    mapped-head h e = left-more (λ k. mapped t r k owner 0) r n h ∙ rw (eq-eqb (kind_of t r) 3 e)

    pub mapped_headless : r < n → (kind_of t r ≡ 3 → ⊥) → mapped t r (n - r) owner 0 ≡ false
    mapped_headless h e = left-more (λ k. mapped t r k owner 0) r n h ∙ rw (ne_eqb (kind_of t r) 3 e)

    pub mapped-none : (due : ℕ) → n ≤ r → mapped t r (n - r) owner due ≡ eqb due 0
    mapped-none due h = left-none (λ k. mapped t r k owner due) r n h

    module _ (due : ℕ) (h : r < n) (pos : (due ≡ 0 → ⊥)) where
      -- else an interval of that owner does
      part : mapped t r (n - r) owner due ≡ (eqb (kind_of t r) 4 && (eqb (owner_of t r) owner && mapped t (r + 1) (n - (r + 1)) owner (due - 1)))
      part = let e : due ≡ suc (due - 1) = omega arith in left-more (λ k. mapped t r k owner due) r n h ∙ ap (mapped t r (suc (n - (r + 1))) owner) e

      pub mapped-part : kind_of t r ≡ 4 → owner_of t r ≡ owner → mapped t r (n - r) owner due ≡ mapped t (r + 1) (n - (r + 1)) owner (due - 1)
      mapped-part e o = part ∙ rw (eq-eqb (kind_of t r) 4 e, eq-eqb (owner_of t r) owner o)

      pub mapped-other : (kind_of t r ≡ 4 → ⊥) → mapped t r (n - r) owner due ≡ false
      mapped-other e = part ∙ rw (ne_eqb (kind_of t r) 4 e)

      pub mapped_alien : kind_of t r ≡ 4 → (owner_of t r ≡ owner → ⊥) → mapped t r (n - r) owner due ≡ false
      mapped_alien e o = part ∙ rw (eq-eqb (kind_of t r) 4 e, ne_eqb (owner_of t r) owner o)

-- ---- the first fault

module _ (width : ℕ) (t text : List ℕ) (r n : ℕ) where
  pub fault-more : r < n → row_fault width t text r ≡ 0 → rows_fault width t text r (n - r) ≡ rows_fault width t text (r + 1) (n - (r + 1))
  fault-more h e = left-more (rows_fault width t text r) r n h ∙ rw (eq-eqb (row_fault width t text r) 0 e)

  pub fault-here : r < n → (row_fault width t text r ≡ 0 → ⊥) → rows_fault width t text r (n - r) ≡ row_fault width t text r
  fault-here h e = left-more (rows_fault width t text r) r n h ∙ rw (ne_eqb (row_fault width t text r) 0 e)

  pub fault-none : n ≤ r → rows_fault width t text r (n - r) ≡ 0
  fault-none h = left-none (rows_fault width t text r) r n h

  -- what stops at a row refuses the rows, and what passes a row leaves the others
  pub fault-stops : r < n → {e : Refusal} → Err e ≡ passed (row_fault width t text r) → Err e ≡ passed (rows_fault width t text r (n - r))
  fault-stops h {e} p = p ∙ ap passed (sym (fault-here h (passed_refuses (row_fault width t text r) p).0))

  pub fault-goes : r < n → {u : Unit {0}} → Ok u ≡ passed (row_fault width t text r) → rows_fault width t text r (n - r) ≡ rows_fault width t text (r + 1) (n - (r + 1))
  fault-goes h p = fault-more h (is_passed (row_fault width t text r) p)
