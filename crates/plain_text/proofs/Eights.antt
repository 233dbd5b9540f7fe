-- Plain texts eight bytes at a time. Assumes nothing.
use Prim.Native.Nat.{ℕ, suc, ◌+◌, ◌-◌, ◌≤◌, ◌<◌}
use mathlib.Core.Path.{◌≡◌, refl, sym, ap, ◌∙◌}
use mathlib.Core.List.{List}
use mathlib.Core.Bool.{Bool, true, false, ◌&&◌}
use native.Mathlib.Omega.{arith}
use lib.ListN.{length, get_or, take, drop, length-drop}
use lib.Seq.{drop-cons, drop-drop, take_all}
use Rattle.text.specs.AndLaws.{and_true, and_false, and_join}
use Rattle.text.specs.AllLaws.{Scan, all-parts}
use Rattle.plain_text.specs.Plain.{plain_byte, plain}

-- one byte more of the eight from a on
pub eight_one : (s : List ℕ) (a j : ℕ) (x : Bool) → a + 8 ≤ length s → j < 8
    → (x && plain (take (8 - j) (drop (a + j) s))) ≡ ((x && plain_byte (get_or s (a + j) 0)) && plain (take (8 - (j + 1)) (drop (a + (j + 1)) s)))
eight_one s a j x fits h =
    let left : 8 - j ≡ suc (8 - (j + 1)) = omega arith in
    let place : a + (j + 1) ≡ suc (a + j) = omega arith in
    let within : a + j < length s = omega arith in
    let step : plain (take (8 - j) (drop (a + j) s)) ≡ (plain_byte (get_or s (a + j) 0) && plain (take (8 - (j + 1)) (drop (a + (j + 1)) s))) =
    rw (left, place, drop-cons s (a + j) 0) in
    rw step (and_join x (plain_byte (get_or s (a + j) 0)) (plain (take (8 - (j + 1)) (drop (a + (j + 1)) s))))

pub eight_none : (x : Bool) (s : List ℕ) (a j : ℕ) → 8 ≤ j → (x && plain (take (8 - j) (drop (a + j) s))) ≡ x
eight_none x s a j h =
    let none : 8 - j ≡ 0 = omega arith in
    rw none (and_true x)

module _ {s : List ℕ} {i : ℕ} (v : Scan plain_byte s i) where
  eight : plain s ≡ (plain (take 8 (drop i s)) && plain (drop (i + 8) s))
  eight = v.same ∙ all-parts plain_byte 8 (drop i s) ∙ ap (λ t. plain (take 8 (drop i s)) && plain t) (drop-drop 8 i s)

  pub eight_miss : false ≡ plain (take 8 (drop i s)) → false ≡ plain s
  eight_miss h = sym (eight ∙ ap (λ b. b && plain (drop (i + 8) s)) (sym h))

  pub eight_next : true ≡ plain (take 8 (drop i s)) → i + 8 ≤ length s → Scan plain_byte s (i + 8)
  eight_next h fits = record { bound = fits; same = eight ∙ ap (λ b. b && plain (drop (i + 8) s)) (sym h) }

-- where each of two follows from the other they are the same
two : (a t d y : Bool) → a ≡ (t && d) → d ≡ (y && a) → d ≡ a
two false t d y p q = q ∙ and_false y
two true t true y p q = refl
two true t false y p q = sym (p ∙ and_false t)

-- the last eight bytes tell of all from i on
pub last_eight : {s : List ℕ} {i : ℕ} → Scan plain_byte s i → length s < i + 8 → 8 ≤ length s → plain (take 8 (drop (length s - 8) s)) ≡ plain s
last_eight {s} {i} v near long =
    let a = length s - 8 in
    let all : take 8 (drop a s) ≡ drop a s = take_all 8 (drop a s) (omega (arith, length-drop a s)) in
    let place : a + (i - a) ≡ i = omega (arith, v.bound) in
    let later : plain (drop a s) ≡ (plain (take (i - a) (drop a s)) && plain s) =
    all-parts plain_byte (i - a) (drop a s)
    ∙ ap (λ t. plain (take (i - a) (drop a s)) && plain t) (drop-drop (i - a) a s ∙ ap (λ k. drop k s) place)
    ∙ ap (λ b. plain (take (i - a) (drop a s)) && b) (sym v.same) in
    ap (λ t. plain t) all
    ∙ two (plain s) (plain (take a s)) (plain (drop a s)) (plain (take (i - a) (drop a s))) (all-parts plain_byte a s) later
