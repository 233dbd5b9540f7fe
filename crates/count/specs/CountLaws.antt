-- Laws of the counts: accepted, refused and cut sum to the total, and the counts as they are kept are those of the history.
-- Assumes nothing.
use Rattle.std.specs.Prelude.{ℕ, zero, suc, ◌+◌, ◌≤◌, ◌<◌, ◌≡◌, cond, List, [], ◌∷◌, ◌++◌, length, get_or, replicate, eqb}
use Rattle.std.proofs.Common.{arith, sym, ◌∙◌, ap₂, length-set, get_or-set_same, get_or-set_other, ne_eqb}
use Rattle.std.proofs.Math.Path.{refl, ap}
use Rattle.codec.specs.CaseLaws.{by_eqb}
use Rattle.count.specs.Count.{History, summed, is_accepted, is_refused, is_cut, rows_in, accepted, refused, cuts, rows, total, refused_below, NumberBelow, Below, clipped, raised, counted, counted_all}
use Rattle.count.specs.declared.Outcome.{Outcome}
use Rattle.count.specs.declared.Outcome.TheVariants.{Accepted, Refused, Cut}

-- ---- accepted, refused and cut sum to the total

-- how many of the numbers below m an outcome is refused by
unfoldable numbers : ℕ → Outcome → ℕ
numbers zero x = 0
numbers (suc m) x = numbers m x + is_refused m x

numbers-none : (m : ℕ) (x : Outcome) → ((n : ℕ) → n < m → is_refused n x ≡ 0) → numbers m x ≡ 0
unfolding numbers
numbers-none zero x f = refl
numbers-none (suc m) x f = omega (arith, numbers-none m x (λ n h. f n (omega arith)), f m (omega arith))

numbers-one : (m c : ℕ) → c < m → numbers m (Refused c) ≡ 1
unfolding numbers
numbers-one zero c h = absurd (omega arith)
numbers-one (suc m) c h =
    by_eqb c m
    (λ t e. rw t (omega (arith, numbers-none m (Refused c) (λ n k. rw (ne_eqb c n (omega arith))))))
    (λ t d. rw t (omega (arith, numbers-one m c (omega (arith, d)))))

refused-nil : (m : ℕ) → refused_below m [] ≡ 0
unfolding refused_below summed
refused-nil zero = refl
refused-nil (suc m) = omega (arith, refused-nil m)

refused-cons : (m : ℕ) (x : Outcome) (h : History) → refused_below m (x ∷ h) ≡ numbers m x + refused_below m h
unfolding refused_below numbers summed
refused-cons zero x h = refl
refused-cons (suc m) x h = omega (arith, refused-cons m x h)

-- THE THEOREM: accepted, refused and cut sum to the total
pub sums : (m : ℕ) (h : History) → Below m h → accepted h + refused_below m h + cuts h ≡ total h
unfolding Below summed
sums m [] b = omega (arith, refused-nil m)
sums m (Accepted r ∷ h) b = omega (arith, sums m h b.1, refused-cons m (Accepted r) h, numbers-none m (Accepted r) (λ n k. refl))
sums m (Refused c ∷ h) b = omega (arith, sums m h b.1, refused-cons m (Refused c) h, numbers-one m c b.0)
sums m (Cut ∷ h) b = omega (arith, sums m h b.1, refused-cons m Cut h, numbers-none m Cut (λ n k. refl))

-- ---- the counts as they are kept

-- counts that are 64-bit numbers
pub record Counts (c : List ℕ) : Type 0 where
  pub long : length c ≡ 260
  pub small : (i : ℕ) → get_or c i 0 ≤ 18446744073709551615

-- n at place k, nothing at any other
abbrev only : ℕ → ℕ → ℕ → ℕ
only k n i = cond (eqb k i) n 0

-- what an outcome adds at a place
unfoldable pub adds : ℕ → Outcome → ℕ
adds i (Accepted r) = only 259 1 i + only 256 1 i + only 258 r i
adds i (Refused n) = only 259 1 i + only n 1 i
adds i Cut = only 259 1 i + only 257 1 i

pub raised-length : (k n : ℕ) (c : List ℕ) → length (raised k n c) ≡ length c
unfolding raised
raised-length k n c = length-set c k _

raised_at : (k n : ℕ) (c : List ℕ) → Counts c → k < 260 → (i : ℕ) → get_or (raised k n c) i 0 ≡ clipped (get_or c i 0 + only k n i)
unfolding raised
raised_at k n c w h i =
    by_eqb k i
    (λ t e. rw (t, ← e) (get_or-set_same c k _ 0 (omega (arith, w.long))))
    (λ t d. rw t (get_or-set_other c k i _ 0 (λ e. d (sym e)) ∙ omega (arith, w.small i)))

raised-counts : (k n : ℕ) (c : List ℕ) → Counts c → k < 260 → Counts (raised k n c)
raised-counts k n c w h = record { long = raised-length k n c ∙ w.long; small = λ i. rw (raised_at k n c w h i) (omega arith) }

-- ONE OUTCOME MORE: each count is raised by what the outcome adds there
counted-at : (x : Outcome) (c : List ℕ) → Counts c → NumberBelow 256 x → (i : ℕ) → get_or (counted x c) i 0 ≡ clipped (get_or c i 0 + adds i x)
unfolding counted adds
counted-at (Accepted r) c w b i =
    let v = raised-counts 259 1 c w (omega arith) in
    let u = raised-counts 256 1 _ v (omega arith) in
    omega (arith, raised_at 259 1 c w (omega arith) i, raised_at 256 1 _ v (omega arith) i, raised_at 258 r _ u (omega arith) i)
counted-at (Refused n) c w b i =
    let v = raised-counts 259 1 c w (omega arith) in
    omega (arith, raised_at 259 1 c w (omega arith) i, raised_at n 1 _ v (omega (arith, b)) i)
counted-at Cut c w b i =
    let v = raised-counts 259 1 c w (omega arith) in
    omega (arith, raised_at 259 1 c w (omega arith) i, raised_at 257 1 _ v (omega arith) i)

pub counted-length : (x : Outcome) (c : List ℕ) → length (counted x c) ≡ length c
unfolding counted
counted-length (Accepted r) c = simp raised-length
counted-length (Refused n) c = simp raised-length
counted-length Cut c = simp raised-length

counted-counts : (x : Outcome) (c : List ℕ) → Counts c → NumberBelow 256 x → Counts (counted x c)
counted-counts x c w b = record { long = counted-length x c ∙ w.long; small = λ i. rw (counted-at x c w b i) (omega arith) }

-- A HISTORY: each count is raised by what the outcomes add there
pub all-at : (h : History) (c : List ℕ) → Counts c → Below 256 h → (i : ℕ) → get_or (counted_all h c) i 0 ≡ clipped (get_or c i 0 + summed (adds i) h)
unfolding counted_all summed Below
all-at [] c w b i = omega (arith, w.small i)
all-at (x ∷ h) c w b i = omega (arith, counted-at x c w b.0 i, all-at h (counted x c) (counted-counts x c w b.0) b.1 i)

pub all-length : (h : History) (c : List ℕ) → length (counted_all h c) ≡ length c
unfolding counted_all
all-length [] c = refl
all-length (x ∷ h) c = all-length h (counted x c) ∙ counted-length x c

-- a history in two parts is counted part by part
pub all_append : (h g : History) (c : List ℕ) → counted_all (h ++ g) c ≡ counted_all g (counted_all h c)
unfolding counted_all
all_append [] g c = refl
all_append (x ∷ h) g c = all_append h g (counted x c)

-- ---- from nothing

zeros-at : (k i : ℕ) → get_or (replicate {A = ℕ} k 0) i 0 ≡ 0
zeros-at zero i = refl
zeros-at (suc k) zero = refl
zeros-at (suc k) (suc i) = zeros-at k i

pub zeros-counts : Counts (replicate 260 0)
zeros-counts = record { long = refl; small = λ i. omega (arith, zeros-at 260 i) }

-- what adds the same for each outcome adds the same in all
summed_same : (f g : Outcome → ℕ) (h : History) → ((x : Outcome) → NumberBelow 256 x → f x ≡ g x) → Below 256 h → summed f h ≡ summed g h
unfolding summed Below
summed_same f g [] e b = refl
summed_same f g (x ∷ h) e b = ap₂ ◌+◌ (e x b.0) (summed_same f g h e b.1)

summed-total : (h : History) → summed (λ x. 1) h ≡ total h
unfolding summed
summed-total [] = refl
summed-total (x ∷ h) = omega (arith, summed-total h)

-- the counts c are those of the history h
pub record CountsOf (h : History) (c : List ℕ) : Type 0 where
  pub at-number : (n : ℕ) → n < 256 → get_or c n 0 ≡ clipped (refused n h)
  pub at-accepted : get_or c 256 0 ≡ clipped (accepted h)
  pub at_cut : get_or c 257 0 ≡ clipped (cuts h)
  pub at_rows : get_or c 258 0 ≡ clipped (rows h)
  pub at-total : get_or c 259 0 ≡ clipped (total h)

-- no count is added at another place
elsewhere : (k n i : ℕ) → (k ≡ i → ⊥) → only k n i ≡ 0
elsewhere k n i d = rw (ne_eqb k i d)

adds-number : (n : ℕ) → n < 256 → (x : Outcome) → adds n x ≡ is_refused n x
unfolding adds
adds-number n h (Accepted r) = omega (arith, elsewhere 259 1 n (omega arith), elsewhere 256 1 n (omega arith), elsewhere 258 r n (omega arith))
adds-number n h (Refused c) = omega (arith, elsewhere 259 1 n (omega arith))
adds-number n h Cut = omega (arith, elsewhere 259 1 n (omega arith), elsewhere 257 1 n (omega arith))

-- past the numbers a refusal adds to the total alone
adds-past : (i : ℕ) (f : Outcome → ℕ) → 256 ≤ i → ((r : ℕ) → adds i (Accepted r) ≡ f (Accepted r)) → ((n : ℕ) → only 259 1 i ≡ f (Refused n)) → adds i Cut ≡ f Cut
    → (x : Outcome) → NumberBelow 256 x → adds i x ≡ f x
unfolding adds
adds-past i f h p q e (Accepted r) b = p r
adds-past i f h p q e (Refused n) b = omega (arith, elsewhere n 1 i (omega (arith, b)), q n)
adds-past i f h p q e Cut b = e

module _ (h : History) (b : Below 256 h) where
  -- the count at a place is what the outcomes add there
  count_at_lem : (i : ℕ) (f : Outcome → ℕ) → ((x : Outcome) → NumberBelow 256 x → adds i x ≡ f x) → get_or (counted_all h (replicate 260 0)) i 0 ≡ clipped (summed f h)
  count_at_lem i f e = omega (arith, all-at h (replicate 260 0) zeros-counts b i, zeros-at 260 i, summed_same (adds i) f h e b)

  past-at : (i : ℕ) (f : Outcome → ℕ) → 256 ≤ i → ((r : ℕ) → adds i (Accepted r) ≡ f (Accepted r)) → ((n : ℕ) → only 259 1 i ≡ f (Refused n)) → adds i Cut ≡ f Cut
      → get_or (counted_all h (replicate 260 0)) i 0 ≡ clipped (summed f h)
  past-at i f g p q e = count_at_lem i f (adds-past i f g p q e)

  -- THE COUNTS OF A HISTORY, counted from nothing
  pub history_counts : CountsOf h (counted_all h (replicate 260 0))
  unfolding adds
  history_counts = record {
    at-number = λ n l. count_at_lem n (is_refused n) (λ x _. adds-number n l x);
    at-accepted = past-at 256 is_accepted (omega arith) (λ r. omega arith) (λ n. refl) refl;
    at_cut = past-at 257 is_cut (omega arith) (λ r. omega arith) (λ n. refl) refl;
    at_rows = past-at 258 rows_in (omega arith) (λ r. omega arith) (λ n. refl) refl;
    at-total = past-at 259 (λ x. 1) (omega arith) (λ r. omega arith) (λ n. refl) refl ∙ ap clipped (summed-total h);
  }

-- ---- one outcome, and none

pub all_none : (c : List ℕ) → counted_all [] c ≡ c
unfolding counted_all
all_none c = refl

pub all_one : (x : Outcome) (c : List ℕ) → counted_all (x ∷ []) c ≡ counted x c
unfolding counted_all
all_one x c = refl
