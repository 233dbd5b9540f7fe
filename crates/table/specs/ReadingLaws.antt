-- Readers of rows, put together: one after the other, in a loop, by a test. Assumes nothing.
use Rattle.numbers.specs.NumberLaws.{same_got}
use Rattle.numbers.specs.Numbers.{Got}
use Rattle.std.specs.Prelude.{ℕ, suc, ◌+◌, ◌*◌, ◌/◌, ◌≤◌, ◌<◌, ◌≡◌, refl, List, [], ◌∷◌, ◌++◌, Bool, true, false, cond, length, ltb, Ok, Err}
use Rattle.std.proofs.Common.{sym, ap, ◌∙◌, subst, subst₂, add-zero, arith, length-append, le-ltb, lt-ltb}
use Rattle.std.proofs.Math.Nat.{div-zero}
use Rattle.std.proofs.lemmas.List.Edits.{sets}
use Rattle.refusal.specs.declared.Refusal.{Refusal}
use Rattle.codec.specs.Codec.{ok, refuse, moved, shifted, ◌>>=◌}
use Rattle.table.specs.Table.{Out, row, seq, seq_from, on_got, Putter, put_row, put_columns, spread, Put, fill, Fills, answer, Room, Ran, Within, stopped, refused}

-- a table that does not have the row
past-table : (w n : ℕ) (t u : List ℕ) → length t / w ≤ n → t ≡ cond (ltb n (length t / w)) u t
past-table w n t u h = rw (le-ltb n (length t / w) h)

pub put-not : (w : ℕ) (t : List ℕ) (n : ℕ) (r : List ℕ) → length t / w ≤ n → t ≡ put_row w t n r
unfolding put_row
put-not w t n r h = past-table w n t (sets t (w * n) r) h

pub columns-not : (w : ℕ) (t : List ℕ) (n : ℕ) (r : List ℕ) → length t / w ≤ n → t ≡ put_columns w t n r
unfolding put_columns
columns-not w t n r h = past-table w n t (spread (length t / w) t n r) h

pub columns-put : (w : ℕ) (t : List ℕ) (n : ℕ) (r : List ℕ) → n < length t / w → spread (length t / w) t n r ≡ put_columns w t n r
unfolding put_columns
columns-put w t n r h = rw (lt-ltb n (length t / w) h)

-- a row of no numbers changes nothing
pub put-none : (t : List ℕ) (n : ℕ) (r : List ℕ) → length r ≤ 0 → t ≡ put_row (length r) t n r
unfolding put_row
put-none t n r h = let e : length r ≡ 0 = omega arith in rw (e, div-zero (length t), le-ltb n 0 (omega arith))

-- a row under another name
pub put_as : {put : Putter} {t t' v v' : List ℕ} {n : ℕ} → v' ≡ v → Put put t n v' t' → Put put t n v t'
put_as {put} {t} {n = n} q e = record { is = e.is ∙ ap (put t n) q }

-- the same of rows that stand one after the other, by the row's own width
pub put-row_as : {t t' v v' : List ℕ} {n : ℕ} → v' ≡ v → Put (put_row (length v')) t n v' t' → Put (put_row (length v)) t n v t'
put-row_as {t} {n = n} q e = record { is = e.is ∙ ap (λ u. put_row (length u) t n u) q }

-- a loop that reads rows: what is left to read gives the rest of the rows and the same answer
pub record Going (put : Putter) (base : ℕ) (s : List ℕ) (o₀ : Out) (n₀ : ℕ) (t₀ : List ℕ) (o : Out) (p n : ℕ) (t : List ℕ) : Type 0 where
  pub answers : answer n₀ o₀ ≡ answer n o
  pub fills : (t' : List ℕ) → Fills put t n o t' → Fills put t₀ n₀ o₀ t'
  pub few : n ≤ base + p
  pub inside : p ≤ length s
  pub wide : length t ≡ length t₀

pub going : {put : Putter} {base p n : ℕ} {s : List ℕ} (o : Out) {t : List ℕ} → Room base s p n → Going put base s o n t o p n t
going o h = record { answers = refl; fills = λ t' e. e; few = h.few; inside = h.inside; wide = refl }

-- one row, and others
answer-row : (r : List ℕ) (o : Out) (n : ℕ) → answer n (row r o) ≡ answer (n + 1) o
answer-row r (ok rs p) n = let e : n + suc (length rs) ≡ n + 1 + length rs = omega arith in ap (λ m. Ok (m, p)) e
answer-row r (refuse k) n = refl

fills-row : (put : Putter) (r : List ℕ) (o : Out) (n : ℕ) (t t' : List ℕ) → Fills put (put t n r) (n + 1) o t' → Fills put t n (row r o) t'
fills-row put r (ok rs p) n t t' e = e
fills-row put r (refuse k) n t t' e = tt

fill-append : (put : Putter) (rs qs : List (List ℕ)) (n : ℕ) (t : List ℕ) → fill put t n (rs ++ qs) ≡ fill put (fill put t n rs) (n + length rs) qs
fill-append put [] qs n t = rw add-zero
fill-append put (r ∷ rs) qs n t =
    let e : n + 1 + length rs ≡ n + suc (length rs) = omega arith in
    fill-append put rs qs (n + 1) (put t n r) ∙ ap (λ m. fill put (fill put (put t n r) (n + 1) rs) m qs) e

-- one reader after the other
join : (put : Putter) (rs : List (List ℕ)) (n : ℕ) (t t₁ : List ℕ) → t₁ ≡ fill put t n rs → (o : Out)
    → (answer n (o >>= λ qs q. ok (rs ++ qs) q) ≡ answer (n + length rs) o) × ((t' : List ℕ) → Fills put t₁ (n + length rs) o t' → Fills put t n (o >>= λ qs q. ok (rs ++ qs) q) t')
join put rs n t t₁ g (ok qs q) =
    let e : n + length (rs ++ qs) ≡ n + length rs + length qs = omega (arith, length-append rs qs) in
    (ap (λ m. Ok (m, q)) e, λ t' h. h ∙ ap (λ v. fill put v (n + length rs) qs) g ∙ sym (fill-append put rs qs n t))
join put rs n t t₁ g (refuse k) = (refl, λ t' h. tt)

seq-go : (put : Putter) (o : Out) (f : ℕ → ℕ → Out) (n : ℕ) (t t₁ : List ℕ) {m p : ℕ} → answer n o ≡ Ok (m, p) → Fills put t n o t₁
    → (answer n (seq_from n o f) ≡ answer m (f m p)) × ((t' : List ℕ) → Fills put t₁ m (f m p) t' → Fills put t n (seq_from n o f) t')
unfolding seq_from
seq-go put (ok rs q) f n t t₁ {m} {p} e g =
    let em : n + length rs ≡ m = (same_got e).0 in
    let ep : q ≡ p = (same_got e).1 in
    subst₂ (λ (m p : ℕ). (answer n (seq_from n (ok rs q) f) ≡ answer m (f m p)) × ((t' : List ℕ) → Fills put t₁ m (f m p) t' → Fills put t n (seq_from n (ok rs q) f) t')) em ep
    (join put rs n t t₁ g (f (n + length rs) q))
seq-go put (refuse k) f n t t₁ e g = absurd (let z : ◌≡◌ {A = ℕ} 0 1 = cc in omega arith)

seq-stop : (put : Putter) (o : Out) (f : ℕ → ℕ → Out) (n : ℕ) (t t' : List ℕ) {k : Refusal} → answer n o ≡ Err k → (answer n (seq_from n o f) ≡ Err k) × Fills put t n (seq_from n o f) t'
unfolding seq_from
seq-stop put (ok rs q) f n t t' e = absurd (let z : ◌≡◌ {A = ℕ} 0 1 = cc in omega arith)
seq-stop put (refuse j) f n t t' e = (e, tt)

-- a second reader that is told no index is one from any row on
seq-from : (n : ℕ) (o : Out) (f : ℕ → Out) → seq o f ≡ seq_from n o (λ _ p. f p)
unfolding seq seq_from
seq-from n o f = refl

module _ {put : Putter} {base n : ℕ} {s : List ℕ} {o : Out} {t t₁ : List ℕ} {r₁ : Got} (g : Ran put base s o n t t₁ r₁) where
  pub ran_from : {base' m p : ℕ} {s' t₂ : List ℕ} {r₂ : Got} (f : ℕ → ℕ → Out) → r₁ ≡ Ok (m, p) → Ran put base' s' (f m p) m t₁ t₂ r₂ → Ran put base' s' (seq_from n o f) n t t₂ r₂
  ran_from f e h =
      let q = seq-go put o f n t t₁ (sym g.answered ∙ e) g.filled in
      record { answered = h.answered ∙ sym q.0; filled = q.1 _ h.filled; within = h.within }

  pub ran_seq : {base' m p : ℕ} {s' t₂ : List ℕ} {r₂ : Got} (f : ℕ → Out) → r₁ ≡ Ok (m, p) → Ran put base' s' (f p) m t₁ t₂ r₂ → Ran put base' s' (seq o f) n t t₂ r₂
  ran_seq f e h = rw (seq-from n o f) (ran_from (λ _ p. f p) e h)

  pub ran_from-stop : {base' : ℕ} {k : Refusal} {s' : List ℕ} (f : ℕ → ℕ → Out) → r₁ ≡ Err k → Ran put base' s' (seq_from n o f) n t t₁ (Err k)
  ran_from-stop f e =
      let q = seq-stop put o f n t t₁ (sym g.answered ∙ e) in
      record { answered = sym q.0; filled = q.1; within = refused }

  pub ran_stop : {base' : ℕ} {k : Refusal} {s' : List ℕ} (f : ℕ → Out) → r₁ ≡ Err k → Ran put base' s' (seq o f) n t t₁ (Err k)
  ran_stop f e = rw (seq-from n o f) (ran_from-stop (λ _ p. f p) e)

  pub ran_at : {m p : ℕ} → r₁ ≡ Ok (m, p) → (m ≤ base + p) × (p ≤ length s)
  ran_at {m} {p} e = let w = g.within in go (rw e at w)
    where
      go : Within base s (Ok (m, p)) → (m ≤ base + p) × (p ≤ length s)
      go (stopped x y) = (x, y)

  -- what refuses is the reader's refusal
  pub ran_refused : {k : Refusal} → r₁ ≡ Err k → o ≡ refuse k
  ran_refused {k} e = go o (sym g.answered ∙ e)
    where
      go : (o : Out) → answer n o ≡ Err k → o ≡ refuse k
      go (ok rs p) q = absurd (let z : ◌≡◌ {A = ℕ} 0 1 = cc in omega arith)
      go (refuse j) q = let x : j ≡ k = cc in ap refuse x

  -- a list of its own that begins at place b here: what is read, and what is refused
  pub ran_shifted : (b : ℕ) {m p : ℕ} → r₁ ≡ Ok (m, p) → Ran put base s (shifted b o) n t t₁ r₁
  ran_shifted b {m} {p} e = go o g (sym g.answered ∙ e)
    where
      go : (o : Out) → Ran put base s o n t t₁ r₁ → answer n o ≡ Ok (m, p) → Ran put base s (shifted b o) n t t₁ r₁
      go (ok rs p) h q = h
      go (refuse j) h q = absurd (let z : ◌≡◌ {A = ℕ} 0 1 = cc in omega arith)

  pub ran_moved : (b : ℕ) {k : Refusal} → r₁ ≡ Err k → Ran put base s (shifted b o) n t t₁ (Err (moved b k))
  ran_moved b e = rw (ran_refused e) (record { answered = refl; filled = tt; within = refused })

-- a number that was read, a row, a refusal, another name of the same
module _ {put : Putter} {base n : ℕ} {s t t₁ : List ℕ} {r : Got} where
  pub ran_is : {o o' : Out} → o ≡ o' → Ran put base s o' n t t₁ r → Ran put base s o n t t₁ r
  ran_is e g = rw e g

  pub ran_yes : (o o' : Out) {b : Bool} → b ≡ true → Ran put base s o n t t₁ r → Ran put base s (cond b o o') n t t₁ r
  ran_yes o o' e g = rw e g

  pub ran_else : (o o' : Out) {b : Bool} → b ≡ false → Ran put base s o' n t t₁ r → Ran put base s (cond b o o') n t t₁ r
  ran_else o o' e g = rw e g

  pub ran_on : {d : Got} {v p : ℕ} (f : ℕ → ℕ → Out) → d ≡ Ok (v, p) → Ran put base s (f v p) n t t₁ r → Ran put base s (on_got d f) n t t₁ r
  ran_on f e g = rw e g

  pub ran_row : {v t₂ : List ℕ} {o : Out} → Put put t n v t₂ → Ran put base s o (n + 1) t₂ t₁ r → Ran put base s (row v o) n t t₁ r
  ran_row {v} {t₂ = t₂} {o = o} z g =
      record {
        answered = g.answered ∙ sym (answer-row v o n);
        filled = fills-row put v o n t t₁ (subst (λ u. Fills put u (n + 1) o t₁) z.is g.filled);
        within = g.within;
      }

pub ran_no : {put : Putter} {base n : ℕ} {k : Refusal} {s : List ℕ} {o : Out} {t t' : List ℕ} → o ≡ refuse k → Ran put base s o n t t' (Err k)
ran_no e = rw e (record { answered = refl; filled = tt; within = refused })

pub ran_on-no : {put : Putter} {base n : ℕ} {k : Refusal} {s t : List ℕ} {d : Got} (f : ℕ → ℕ → Out) → d ≡ Err k → Ran put base s (on_got d f) n t t (Err k)
ran_on-no f e = ran_no (rw e)

module _ {put : Putter} {base n₀ p n : ℕ} {s : List ℕ} {o₀ o : Out} {t₀ t : List ℕ} (g : Going put base s o₀ n₀ t₀ o p n t) where
  -- one row more, stored in the table
  pub going-row : {v : List ℕ} {o' : Out} {p' : ℕ} {t' : List ℕ} → o ≡ row v o' → Put put t n v t' → length t' ≡ length t → (n + 1 ≤ base + p') × (p' ≤ length s) → Going put base s o₀ n₀ t₀ o' p' (n + 1) t'
  going-row {v} {o' = o'} {t' = t'} e y l h =
      record {
        answers = g.answers ∙ rw e (answer-row v o' n);
        fills = λ u f. g.fills u (subst (λ x. Fills put t n x u) (sym e) (fills-row put v o' n t u (subst (λ x. Fills put x (n + 1) o' u) y.is f)));
        few = h.0;
        inside = h.1;
        wide = l ∙ g.wide;
      }

  -- the rows of a reader within
  pub going-from : {base' m q p' : ℕ} {s' t' : List ℕ} {o' : Out} {r : Got} (f : ℕ → ℕ → Out) → o ≡ seq_from n o' f → Ran put base' s' o' n t t' r → r ≡ Ok (m, q) → length t' ≡ length t → (m ≤ base + p') × (p' ≤ length s) → Going put base s o₀ n₀ t₀ (f m q) p' m t'
  going-from {t' = t'} {o'} f e h i l b =
      let z = seq-go put o' f n t t' (sym h.answered ∙ i) h.filled in
      record {
        answers = g.answers ∙ rw e z.0;
        fills = λ u v. g.fills u (subst (λ x. Fills put t n x u) (sym e) (z.1 u v));
        few = b.0;
        inside = b.1;
        wide = l ∙ g.wide;
      }

  pub going-run : {base' m q p' : ℕ} {s' t' : List ℕ} {o' : Out} {r : Got} (f : ℕ → Out) → o ≡ seq o' f → Ran put base' s' o' n t t' r → r ≡ Ok (m, q) → length t' ≡ length t → (m ≤ base + p') × (p' ≤ length s) → Going put base s o₀ n₀ t₀ (f q) p' m t'
  going-run {o' = o'} f e h i l b = going-from (λ _ p. f p) (e ∙ seq-from n o' f) h i l b

  pub going-from_halt : {base' : ℕ} {k : Refusal} {s' t' : List ℕ} {o' : Out} {r : Got} (f : ℕ → ℕ → Out) → o ≡ seq_from n o' f → Ran put base' s' o' n t t' r → r ≡ Err k → Ran put base s o₀ n₀ t₀ t' (Err k)
  going-from_halt {t' = t'} {o'} f e h i =
      let z = seq-stop put o' f n t t' (sym h.answered ∙ i) in
      record { answered = sym (g.answers ∙ rw e z.0); filled = g.fills t' (subst (λ x. Fills put t n x t') (sym e) z.1); within = refused }

  pub going_halt : {base' : ℕ} {k : Refusal} {s' t' : List ℕ} {o' : Out} {r : Got} (f : ℕ → Out) → o ≡ seq o' f → Ran put base' s' o' n t t' r → r ≡ Err k → Ran put base s o₀ n₀ t₀ t' (Err k)
  going_halt {o' = o'} f e h i = going-from_halt (λ _ p. f p) (e ∙ seq-from n o' f) h i

  pub going_end : o ≡ ok [] p → Ran put base s o₀ n₀ t₀ t (Ok (n, p))
  going_end e = record {
    answered = sym (g.answers ∙ rw e (ap (λ m. Ok (m, p)) (add-zero n)));
    filled = g.fills t (subst (λ x. Fills put t n x t) (sym e) refl);
    within = stopped g.few g.inside;
  }

  pub going-no : {k : Refusal} → o ≡ refuse k → Ran put base s o₀ n₀ t₀ t (Err k)
  going-no e = record { answered = sym (g.answers ∙ rw e); filled = g.fills t (subst (λ x. Fills put t n x t) (sym e) tt); within = refused }
