-- The number of a value's first fault, in wire order.
-- Assumes nothing.
use Prim.Native.Nat.{ℕ, zero, suc, ◌<◌}
use Rattle.std.proofs.Common.{arith}
use Rattle.std.specs.Prelude.{◌≡◌, Bool, true, false, cond}
use Rattle.std.proofs.Math.Path.{refl}
use mathlib.Core.List.{List, [], ◌∷◌}
use Rattle.std.proofs.Math.Dec.{eqb, eqb-suc-zero}

-- ---- numbers

-- k where the test fails, 0 where it passes
abbrev pub unless : Bool → ℕ → ℕ
unless t k = cond t 0 k

-- the first of two numbers that is not 0
abbrev pub first : ℕ → ℕ → ℕ
first a b = cond (eqb a 0) b a

-- the first of the numbers of many that is not 0
abbrev pub first_of : {A : Type 0} → (A → ℕ) → List A → ℕ
first_of f [] = 0
first_of f (x ∷ xs) = first (f x) (first_of f xs)

-- P holds of all
abbrev pub Every : {A : Type 0} → (A → Type 0) → List A → Type 0
Every P [] = Unit {0}
Every P (x ∷ xs) = P x × Every P xs

-- ---- numbers and results, piece by piece

pub first_some : (a b : ℕ) → first (suc a) b ≡ suc a
first_some a b = rw (eqb-suc-zero a)

pub first-end : (a : ℕ) → first a 0 ≡ a
first-end zero = refl
first-end (suc a) = first_some a 0

pub first-zero : (a b : ℕ) → first a b ≡ 0 → (a ≡ 0) × (b ≡ 0)
first-zero zero b e = (refl, e)
first-zero (suc a) b e = absurd (omega (arith, first_some a b))

pub unless-zero : (t : Bool) (k : ℕ) → 0 < k → unless t k ≡ 0 → t ≡ true
unless-zero true k h e = refl
unless-zero false k h e = absurd (omega arith)
