-- The loop that stores a row in a table. Assumes nothing.
use Prim.Native.Nat.{ℕ, suc, ◌+◌, ◌*◌, ◌/◌, ◌≤◌, ◌<◌}
use mathlib.Core.Path.{◌≡◌, ◌∙◌}
use mathlib.Core.List.{List, [], ◌∷◌, ◌++◌}
use native.Mathlib.Nat.{add-zero}
use native.Mathlib.Numerals.{add-one}
use native.Mathlib.Omega.{arith}
use lib.ListN.{length, get_or, take, set, length-set}
use lib.Seq.{sets, take-suc, take_all, length-take-le}
use borrow.Author.Tests.{lt-ltb}
use Rattle.table.specs.Table.{put_row}

sets_snoc : (l : List ℕ) (i : ℕ) (vs : List ℕ) (v : ℕ) → sets l i (vs ++ (v ∷ [])) ≡ set (sets l i vs) (i + length vs) v
sets_snoc l i [] v = rw add-zero
sets_snoc l i (a ∷ vs) v =
    let e : suc i + length vs ≡ i + suc (length vs) = omega arith in
    rw (← e) (sets_snoc (set l i a) (suc i) vs v)

-- the loop that stores a row: its first j numbers stand at k
pub record Putting (w : ℕ) (t₀ : List ℕ) (k : ℕ) (r : List ℕ) (j : ℕ) (t : List ℕ) : Type 0 where
  pub most : j ≤ w
  pub nine : length r ≡ w
  pub wide : length t ≡ length t₀
  pub puts : t ≡ sets t₀ k (take j r)

pub put_next : {w : ℕ} {t₀ r t : List ℕ} {k j : ℕ} → Putting w t₀ k r j t → j < w → Putting w t₀ k r (j + 1) (set t (k + j) (get_or r j 0))
put_next {w} {t₀} {r} {t} {k} {j} g h =
    let n = g.nine in
    let b : j < length r = omega arith in
    let b' : j ≤ length r = omega arith in
    record {
      most = omega arith;
      nine = n;
      wide = length-set t (k + j) (get_or r j 0) ∙ g.wide;
      puts = rw (add-one, take-suc r j 0 b, sets_snoc, length-take-le j r b', ← g.puts);
    }

pub put-done : {w : ℕ} {t₀ r t : List ℕ} {n j : ℕ} → Putting w t₀ (w * n) r j t → w ≤ j → n < length t₀ / w → t ≡ put_row w t₀ n r
unfolding put_row
put-done {w} {t₀} {r} {t} {n} {j} g h i =
    let e = g.nine in
    let b : length r ≤ j = omega arith in
    rw (lt-ltb n (length t₀ / w) i) (g.puts ∙ rw (take_all j r b))
