-- Bytes that all pass a test p: in two parts, and by a walk that tests one after the other. Assumes nothing.
use Rattle.std.specs.Prelude.{ℕ, suc, ◌+◌, ◌≤◌, ◌<◌, ◌≡◌, refl, Bool, true, false, ◌&&◌, List, [], ◌∷◌, ◌++◌, length, get_or, take, drop}
use Rattle.std.proofs.Common.{sym, ap, ◌∙◌, add-one, arith, take-append-drop, drop_of_length-le, drop-cons}
use Rattle.text.specs.All.{all}
use Rattle.text.specs.AndLaws.{and_join}

-- all of two lists pass where all of each do
pub all_append : (p : ℕ → Bool) (a b : List ℕ) → all p (a ++ b) ≡ (all p a && all p b)
all_append p [] b = refl
all_append p (x ∷ a) b = ap (λ y. p x && y) (all_append p a b) ∙ and_join (p x) (all p a) (all p b)

-- so do those before a place and those after it
pub all-parts : (p : ℕ → Bool) (n : ℕ) (s : List ℕ) → all p s ≡ (all p (take n s) && all p (drop n s))
all-parts p n s = ap (all p) (sym (take-append-drop n s)) ∙ all_append p (take n s) (drop n s)

-- the walk: all before i pass
pub record Scan (p : ℕ → Bool) (s : List ℕ) (i : ℕ) : Type 0 where
  pub bound : i ≤ length s
  pub same : all p s ≡ all p (drop i s)

module _ {p : ℕ → Bool} {s : List ℕ} {i : ℕ} (v : Scan p s i) where
  one : i < length s → (x : Bool) → x ≡ p (get_or s i 0) → all p s ≡ (x && all p (drop (i + 1) s))
  one h x e = v.same ∙ rw (add-one, drop-cons s i 0) (ap (λ y. y && all p (drop (suc i) s)) (sym e))

  pub scan_miss : i < length s → false ≡ p (get_or s i 0) → false ≡ all p s
  scan_miss h e = sym (one h false e)

  pub scan_next : i < length s → true ≡ p (get_or s i 0) → Scan p s (i + 1)
  scan_next h e = record { bound = omega arith; same = one h true e }

  pub scan_end : length s ≤ i → true ≡ all p s
  scan_end h = sym (v.same ∙ rw (drop_of_length-le s h))
