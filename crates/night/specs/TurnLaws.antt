-- A piece turn by turn, as the code meets it. Assumes nothing.
use Rattle.block_format.specs.declared.ReadError.{ReadError}
use Prim.Native.Nat.{ℕ, zero, suc, ◌+◌, ◌-◌, ◌≤◌, ◌<◌}
use Rattle.std.proofs.Common.{arith, sym, ap, ap₂, subst, ◌∙◌, length-drop, drop-drop, take_all, eq-eqb, ne_eqb, leb-true}
use Rattle.std.specs.Prelude.{◌≡◌, Bool, ◌||◌, List, length, take, drop, eqb, leb, Result, Ok, Err}
use Rattle.std.proofs.Math.Path.{refl}
use Rattle.std.proofs.Math.Bool.{true, false, cond}
use Rattle.refusal.specs.declared.Refusal.{Refusal}
use Rattle.codec.specs.Codec.{among}
use Rattle.codec.proofs.RefusalLaws.{in_pass}
use Rattle.block_format.specs.declared.Fields.{Fields}
use Rattle.held.proofs.StageLaws as held
use Rattle.feed.specs.Feeding.{start, stage_of, answer_at, taken_of, held_after, store_after, feed_numbers, Feeding}
use Rattle.feed.proofs.StageLaws.{start-law}
use Rattle.feed.proofs.RefusalLaws.{feed_refuses}
use Rattle.feed.specs.declared.Fed.{Fed}
use Rattle.feed.specs.declared.Answer.{Answer}
use Rattle.feed.specs.declared.Answer.TheVariants.{Needs, Done}
use Rattle.count.specs.Count.{counted}
use Rattle.count.specs.CountLaws.{all_none, all_one}
use Rattle.count.specs.declared.Outcome.{Outcome}
use Rattle.night.specs.Night.{ends, kept, end_numbers, Night, met, turned, turns, through, Passed}
use Rattle.night.specs.Turns.{Small, Judged, TurnIs}
use Rattle.night.specs.declared.State.{State}
use Rattle.night.specs.declared.Turn.{Turn}

-- ---- what an answer comes to

pub small_is : {a : Result Answer ReadError} {e : Refusal} → Small a → a ≡ Err (ReadError.Refused e) → e.number < 256
small_is s q = subst Small q s

pub judged_needs : {k : ℕ} {a : Result Answer ReadError} {c : List ℕ} {n : ℕ} → a ≡ Ok (Needs n) → Judged k a c (record { held = k; ended = false }) c
judged_needs {k} {a} {c} q = subst (λ b. Judged k b c (record { held = k; ended = false }) c) (sym q) (record { held = refl; ended = refl; counts = sym (all_none c) })

module _ {k : ℕ} {a : Result Answer ReadError} {c c2 : List ℕ} where
  pub judged-done : {f : Fields} → a ≡ Ok (Done f) → c2 ≡ counted (Outcome.Accepted f.symbology_rows) c → Judged k a c (record { held = 0; ended = false }) c2
  judged-done q n = subst (λ b. Judged k b c (record { held = 0; ended = false }) c2) (sym q) (record { held = refl; ended = refl; counts = n ∙ sym (all_one _ c) })

  pub judged-refused : {e : Refusal} {b : Bool} → a ≡ Err (ReadError.Refused e) → c2 ≡ counted (Outcome.Refused e.number) c → b ≡ among e.number end_numbers
      → Judged k a c (record { held = 0; ended = b }) c2
  judged-refused {b = b} q n h = subst (λ i. Judged k i c (record { held = 0; ended = b }) c2) (sym q) (record { held = refl; ended = h; counts = n ∙ sym (all_one _ c) })

  pub judged-short : {m n : ℕ} → a ≡ Err (ReadError.Short m n) → c2 ≡ counted (Outcome.Refused 3) c → Judged k a c (record { held = 0; ended = true }) c2
  judged-short q n = subst (λ b. Judged k b c (record { held = 0; ended = true }) c2) (sym q) (record { held = refl; ended = refl; counts = n ∙ sym (all_one _ c) })

-- ---- one turn

-- every number of a feed's answer has a count
pub feed_small : (k : ℕ) (st p t s l : List ℕ) (r : Fed) (st' s' l' : List ℕ) → Feeding k st p t s l r st' s' l' → Small r.answer
feed_small k st p t s l r st' s' l' f = go r.answer refl
  where
    go : (a : Result Answer ReadError) → r.answer ≡ a → Small a
    go (Ok (Needs n)) q = tt
    go (Ok (Done n)) q = tt
    go (Err (ReadError.Refused e)) q = leb-true (suc e.number) 256 (in_pass (λ n. leb (suc n) 256) feed_numbers refl e.number (feed_refuses k st p t s l r st' s' l' f q))
    go (Err (ReadError.Short m n)) q = tt

-- a feed, and what its answer comes to, are a turn
pub turn_is : (t : List ℕ) (x : Night) (p : List ℕ) (f : Fed) (st s l : List ℕ) (r : State) (c : List ℕ)
    → Feeding x.held x.store p t x.symbology x.layout f st s l → Judged f.state.held f.answer x.counts r c
    → TurnIs t x p (record { taken = f.taken; state = r }) st s l c
unfolding turned
turn_is t x p f st s l r c g j =
    let k = held_after x.held x.store p in
    let d = store_after x.held x.store p in
    let a = answer_at (stage_of k d) d t x.symbology x.layout in
    record {
      taken = g.taken;
      stands =
          ap₂ (λ i e. record { held = i; ended = e; store = st; symbology = s; layout = l; counts = c }) j.held j.ended
          ∙ ap (λ n. record { held = kept f.state.held f.answer; ended = ends f.answer; store = st; symbology = s; layout = l; counts = n }) j.counts
          ∙ ap₂ (λ i b. met x i b st s l) g.held g.verdict.answer
          ∙ ap (λ i. met x k a i s l) g.store
          ∙ ap₂ (met x k a d) g.verdict.symbology g.verdict.layout;
    }

-- the part of a piece from a place on
rest : (p : List ℕ) (at : ℕ) → take (length p - at) (drop at p) ≡ drop at p
rest p at = take_all (length p - at) (drop at p) (omega (arith, length-drop at p))

-- a turn takes no more than there is
pub turn_within : (p : List ℕ) (at : ℕ) {t : List ℕ} {x : Night} {r : Turn} {st s l c : List ℕ} → TurnIs t x (take (length p - at) (drop at p)) r st s l c
    → at ≤ length p → at + r.taken ≤ length p
turn_within p at {t} {x} u h =
    omega (arith, u.taken, held.taken-most start start-law x.held x.store (take (length p - at) (drop at p)), ap length (rest p at), length-drop at p)

-- ---- a loop of turns

module _ (t : List ℕ) where
  pub turns-none : (m : ℕ) (x : Night) (p : List ℕ) → length p ≡ 0 → turns m t x p ≡ x
  unfolding turns
  turns-none zero x p h = refl
  turns-none (suc m) x p h = rw (eq-eqb (length p) 0 h)

  pub turns-over : (m : ℕ) (x : Night) (p : List ℕ) → x.ended ≡ true → turns m t x p ≡ x
  unfolding turns
  turns-over zero x p h = refl
  turns-over (suc m) x p h = over (eqb (length p) 0)
    where
      over : (b : Bool) → cond (b || x.ended) x (turns m t (turned t x p) (drop (taken_of x.held x.store p) p)) ≡ x
      over true = refl
      over false = rw h

  pub turns_turn : (m : ℕ) (x : Night) (p : List ℕ) → 0 < length p → x.ended ≡ false
      → turns (suc m) t x p ≡ turns m t (turned t x p) (drop (taken_of x.held x.store p) p)
  unfolding turns
  turns_turn m x p h e = rw (ne_eqb (length p) 0 (λ z. omega arith), e)

-- the invariant: what is left of the piece, in the turns that are left, comes to what all of it does
pub record Going (t : List ℕ) (x : Night) (p : List ℕ) (k : ℕ) (e : Bool) (at m : ℕ) (st s l c : List ℕ) : Type 0 where
  pub goes : turns m t (record { held = k; ended = e; store = st; symbology = s; layout = l; counts = c }) (drop at p) ≡ through t x p
  pub within : at ≤ length p
  pub store : length st ≡ length x.store
  pub symbology : length s ≡ length x.symbology
  pub layout : length l ≡ length x.layout

passed_is : (t : List ℕ) (x y : Night) (p : List ℕ) → y ≡ through t x p → Passed t x p (record { held = y.held; ended = y.ended }) y.store y.symbology y.layout y.counts
passed_is t x y p e = record {
  held = ap (λ (z : Night). z.held) e;
  ended = ap (λ (z : Night). z.ended) e;
  store = ap (λ (z : Night). z.store) e;
  symbology = ap (λ (z : Night). z.symbology) e;
  layout = ap (λ (z : Night). z.layout) e;
  counts = ap (λ (z : Night). z.counts) e;
}

pub going_start : (t : List ℕ) (x : Night) (p : List ℕ) → Going t x p x.held x.ended 0 (length p + 1) x.store x.symbology x.layout x.counts
unfolding through
going_start t x p = record { goes = ap (λ m. turns m t x p) (omega arith); within = omega arith; store = refl; symbology = refl; layout = refl }

module _ {t : List ℕ} {x : Night} {p : List ℕ} {k : ℕ} {e : Bool} {at m : ℕ} {st s l c : List ℕ} (g : Going t x p k e at m st s l c) where
  abbrev here : Night
  here = record { held = k; ended = e; store = st; symbology = s; layout = l; counts = c }

  -- a turn over what is left
  pub going_turn : {r : Turn} {st2 s2 l2 c2 : List ℕ} → 0 < m → at < length p → e ≡ false
      → TurnIs t (record { held = k; ended = false; store = st; symbology = s; layout = l; counts = c }) (take (length p - at) (drop at p)) r st2 s2 l2 c2
      → length st2 ≡ length st → length s2 ≡ length s → length l2 ≡ length l
      → Going t x p r.state.held r.state.ended (at + r.taken) (m - 1) st2 s2 l2 c2
  going_turn {r} {st2} {s2} {l2} {c2} h w f u ls ly ll =
      let n : suc (m - 1) ≡ m = omega arith in
      let some : 0 < length (drop at p) = omega (arith, length-drop at p) in
      let left : drop (at + r.taken) p ≡ drop (taken_of k st (drop at p)) (drop at p) =
      ap (λ i. drop (at + i) p) (u.taken ∙ ap (taken_of k st) (rest p at)) ∙ sym (drop-drop (taken_of k st (drop at p)) at p) in
      let same = ap₂ (λ b i. turned t (record { held = k; ended = b; store = st; symbology = s; layout = l; counts = c }) i) (sym f) (rest p at) in
      record {
        goes = ap₂ (turns (m - 1) t) (u.stands ∙ same) left ∙ sym (turns_turn t (m - 1) here (drop at p) some f) ∙ ap (λ i. turns i t here (drop at p)) n ∙ g.goes;
        within = turn_within p at u g.within;
        store = ls ∙ g.store;
        symbology = ly ∙ g.symbology;
        layout = ll ∙ g.layout;
      }

  -- nothing is left, or the reading is over, or no turn is left
  pub going-none : length p ≤ at → Passed t x p (record { held = k; ended = e }) st s l c
  going-none h = passed_is t x here p (sym (turns-none t m here (drop at p) (omega (arith, length-drop at p))) ∙ g.goes)

  pub going-over : e ≡ true → Passed t x p (record { held = k; ended = e }) st s l c
  going-over h = passed_is t x here p (sym (turns-over t m here (drop at p) h) ∙ g.goes)

  pub going_end : m ≡ 0 → Passed t x p (record { held = k; ended = e }) st s l c
  unfolding turns
  going_end h = passed_is t x here p (sym (ap (λ i. turns i t here (drop at p)) h) ∙ g.goes)
