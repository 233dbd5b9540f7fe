-- ANY CUTTING OF A NIGHT: pieces one after the other leave state, store, tables and counts as one piece of all their bytes does. The night may
-- stand anywhere. Assumes nothing.
use Rattle.refusal.specs.declared.Refusal.{Refusal}
use Rattle.block_format.specs.declared.Fields.{Fields}
use Rattle.block_format.specs.declared.ReadError.{ReadError}
use Rattle.std.specs.Prelude.{ℕ, zero, suc, ◌+◌, ◌-◌, ◌≤◌, ◌<◌, ◌≡◌, true, Result, Ok, Err}
use Rattle.std.proofs.Common.{le_refl, ◌∙◌}
use native.Mathlib.Omega.{arith}
use Rattle.std.proofs.Math.Path.{refl, sym, ap, ap₂}
use Rattle.std.proofs.Math.Bool.{false}
use mathlib.Core.List.{List, [], ◌∷◌, ◌++◌, append-nil}
use Rattle.std.proofs.Math.ListN.{length, drop, length-drop, length-append, drop_of_length-le}
use Rattle.std.proofs.Math.Seq.{drop-append-le, drop-drop, paste, paste-zero}
use Rattle.codec.specs.Codec.{refusal}
use Rattle.codec.specs.CaseLaws.{by_le, by_bool}
use Rattle.held.specs.Held.{need_of}
use Rattle.held.proofs.StageLaws.{stage-head, stage-small, taken-most, after-length}
use Rattle.held.proofs.PieceLaws.{taken_none, both-taken, both-store, taken-some, needs_all}
use Rattle.held.specs.declared.Holding.{Holding}
use Rattle.held.specs.declared.Holding.TheVariants.{Needs, Whole}
use Rattle.feed.specs.Feeding.{start, stage_of, block_in, block_says, answer_at, symbology_at, layout_at, taken_of, held_after, store_after}
use Rattle.feed.proofs.StageLaws.{start-law}
use Rattle.feed.specs.declared.Answer.TheVariants as Answer'
use Rattle.block_format.specs.Read.{block_answer}
use Rattle.count.specs.Count.{counted_all}
use Rattle.frames.proofs.CutLaws.{joined}
use Rattle.night.specs.Night.{kept, Night, judged, turned, turns, through}
use Rattle.night.specs.TurnLaws.{turns-none, turns-over, turns_turn}

-- ---- a turn, by what is then held

module _ (t : List ℕ) (x : Night) (p : List ℕ) where
  abbrev pub taken : ℕ
  taken = taken_of x.held x.store p

  abbrev pub left : List ℕ
  left = drop taken p

  abbrev pub held_then : ℕ
  held_then = held_after x.held x.store p

  abbrev pub store_then : List ℕ
  store_then = store_after x.held x.store p

  abbrev pub stage_then : Result Holding Refusal
  stage_then = stage_of held_then store_then

  -- more is needed: all of the piece is held, and nothing else has changed
  pub turned_needs : (n : ℕ) → stage_then ≡ Ok (Needs n)
      → turned t x p ≡ record { held = held_then; ended = false; store = store_then; symbology = x.symbology; layout = x.layout; counts = x.counts }
  unfolding turned answer_at symbology_at layout_at counted_all
  turned_needs n e = rw e

  pub left-none : (n : ℕ) → stage_then ≡ Ok (Needs n) → length left ≡ 0
  left-none n e = omega (arith, needs_all start start-law x.held x.store p n e, length-drop taken p)

  -- else nothing is needed, and the next input begins
  pub by-stage : {P : Type 0} → ((n : ℕ) → stage_then ≡ Ok (Needs n) → P) → (need_of stage_then ≡ 0 → (turned t x p).held ≡ 0 → P) → P
  unfolding turned answer_at block_says
  by-stage {P} needs settled = go stage_then refl
    where
      says : (b : Result Fields ReadError) → kept held_then (block_says b) ≡ 0
      says (Ok f) = refl
      says (Err (ReadError.Refused e)) = refl
      says (Err (ReadError.Short m n)) = refl

      go : (h : Result Holding Refusal) → stage_then ≡ h → P
      go (Ok (Needs n)) e = needs n e
      go (Err e) q = settled (ap need_of q) (rw q)
      go (Ok (Whole w v)) q = settled (ap need_of q) (rw q (says (block_answer v (block_in store_then w) t x.symbology x.layout)))

-- a store below the prelude ends the reading at once
turned-small : (t : List ℕ) (x : Night) (p : List ℕ) → x.held ≡ 0 → length x.store < 8 → (turned t x p).ended ≡ true
unfolding turned answer_at
turned-small t x p z h =
    let n : taken_of x.held x.store p ≡ 0 = taken_none start start-law x.held x.store p (ap need_of (stage-small start x.held x.store (omega arith) h)) in
    let e : stage_of (held_after x.held x.store p) (store_after x.held x.store p) ≡ Err (refusal 2 0) =
    stage-small start _ _ (omega arith) (omega (arith, after-length start start-law x.held x.store p)) in
    rw e

-- a turn from the start takes a byte or more of a piece that has any
taken-byte : (x : Night) (p : List ℕ) → x.held ≡ 0 → 8 ≤ length x.store → 0 < length p → 0 < taken_of x.held x.store p
taken-byte x p z h g =
    let e : need_of (stage_of x.held x.store) ≡ 8 - x.held = ap need_of (stage-head start start-law x.held x.store (omega arith) h) in
    taken-some start start-law x.held x.store p (omega arith) g

empty : (p : List ℕ) → length p ≡ 0 → p ≡ []
empty [] h = refl
empty (b ∷ p) h = absurd (omega arith)

-- ---- turns that are too many change nothing

module _ (t : List ℕ) where
  enough-held : (a b : ℕ) (x : Night) (p : List ℕ) → x.held ≡ 0 → length p ≤ a → length p ≤ b → turns a t x p ≡ turns b t x p
  enough-held zero b x p z h g = sym (turns-none t b x p (omega arith) ∙ sym (turns-none t 0 x p (omega arith)))
  enough-held (suc a) zero x p z h g = turns-none t (suc a) x p (omega arith) ∙ sym (turns-none t 0 x p (omega arith))
  enough-held (suc a) (suc b) x p z h g =
      by_le (length p) 0
      (λ none. turns-none t (suc a) x p (omega arith) ∙ sym (turns-none t (suc b) x p (omega arith)))
      (λ some.
      by_bool x.ended
      (λ over. turns-over t (suc a) x p over ∙ sym (turns-over t (suc b) x p over))
      (λ on. turns_turn t a x p some on ∙ rest (enough-held a b) some ∙ sym (turns_turn t b x p some on)))
    where
      rest : ((y : Night) (q : List ℕ) → y.held ≡ 0 → length q ≤ a → length q ≤ b → turns a t y q ≡ turns b t y q) → 0 < length p
          → turns a t (turned t x p) (left t x p) ≡ turns b t (turned t x p) (left t x p)
      rest again some =
          by_le 8 (length x.store)
          (λ room.
          by-stage t x p
          (λ n e. turns-none t a _ _ (left-none t x p n e) ∙ sym (turns-none t b _ _ (left-none t x p n e)))
          (λ _ y.
          let fewer : length (left t x p) < length p = omega (arith, length-drop (taken t x p) p, taken-byte x p z room some) in
          again (turned t x p) (left t x p) y (omega arith) (omega arith)))
          (λ small. turns-over t a _ _ (turned-small t x p z small) ∙ sym (turns-over t b _ _ (turned-small t x p z small)))

  -- ---- a piece, and then another

  module _ (x : Night) (p q : List ℕ) where
    -- where more is needed, the second goes on as both would
    needs_both : (n : ℕ) → stage_then t x p ≡ Ok (Needs n) → (turned t (turned t x p) q ≡ turned t x (p ++ q)) × (left t (turned t x p) q ≡ left t x (p ++ q))
    unfolding turned
    needs_both n e =
        let all : taken t x p ≡ length p = needs_all start start-law x.held x.store p n e in
        let far : length p ≤ taken t x p = omega arith in
        let gone : drop (taken t x p) p ≡ [] = drop_of_length-le p far in
        let none : drop (taken t x p) p ++ q ≡ q = ap (λ (i : List ℕ). i ++ q) gone in
        let k : taken_of x.held x.store (p ++ q) ≡ taken t x p + taken_of (held_then t x p) (store_then t x p) q =
        both-taken start start-law x.held x.store p q (taken t x p) (le_refl (taken t x p)) ∙ ap (λ i. taken t x p + taken_of (held_then t x p) (store_then t x p) i) none in
        let st : store_then t x (p ++ q) ≡ store_after (held_then t x p) (store_then t x p) q =
        both-store start start-law x.held x.store p q (taken t x p) (le_refl (taken t x p)) ∙ ap (store_after (held_then t x p) (store_then t x p)) none in
        let h : held_then t x (p ++ q) ≡ held_after (held_then t x p) (store_then t x p) q = omega arith in
        let r : drop (taken_of (held_then t x p) (store_then t x p) q) q ≡ left t x (p ++ q) =
        ap (drop (taken_of (held_then t x p) (store_then t x p) q)) (sym none ∙ sym (drop-append-le (taken t x p) p q (taken-most start start-law x.held x.store p)))
        ∙ drop-drop (taken_of (held_then t x p) (store_then t x p) q) (taken t x p) (p ++ q) ∙ ap (λ i. drop i (p ++ q)) (sym k) in
        (ap (λ y. turned t y q) (turned_needs t x p n e) ∙ sym (ap₂ (judged t x) h st), ap (λ y. left t y q) (turned_needs t x p n e) ∙ r)

    -- where nothing more is, the first decides
    settled_both : need_of (stage_then t x p) ≡ 0 → (turned t x (p ++ q) ≡ turned t x p) × (left t x (p ++ q) ≡ left t x p ++ q)
    unfolding turned
    settled_both z =
        let r = drop (taken t x p) p ++ q in
        let none : taken_of (held_then t x p) (store_then t x p) r ≡ 0 = taken_none start start-law (held_then t x p) (store_then t x p) r z in
        let k : taken_of x.held x.store (p ++ q) ≡ taken t x p = both-taken start start-law x.held x.store p q (taken t x p) (le_refl (taken t x p)) ∙ omega arith in
        let st : store_then t x (p ++ q) ≡ store_then t x p =
        both-store start start-law x.held x.store p q (taken t x p) (le_refl (taken t x p))
        ∙ ap (paste (store_then t x p) (held_then t x p) r) none ∙ sym (paste-zero (store_then t x p) (held_then t x p) r) in
        (ap₂ (judged t x) (ap (λ i. x.held + i) k) st, ap (λ i. drop i (p ++ q)) k ∙ drop-append-le (taken t x p) p q (taken-most start start-law x.held x.store p))

    -- so two pieces are one, if they are where the first turn leaves them
    cut_turn : (need_of (stage_then t x p) ≡ 0 → (turned t x p).held ≡ 0 → through t (through t (turned t x p) (left t x p)) q ≡ through t (turned t x p) (left t x p ++ q))
        → 0 < length p → x.ended ≡ false → through t (through t x p) q ≡ through t x (p ++ q)
    unfolding through
    cut_turn after some on =
        let many : 0 < length (p ++ q) = omega (arith, length-append p q) in
        let one : through t x p ≡ turns (length p) t (turned t x p) (left t x p) = turns_turn t (length p) x p some on in
        let both : through t x (p ++ q) ≡ turns (length (p ++ q)) t (turned t x (p ++ q)) (left t x (p ++ q)) = turns_turn t (length (p ++ q)) x (p ++ q) many on in
        by-stage t x p
        (λ n e.
        let y : through t x p ≡ turned t x p = one ∙ turns-none t (length p) _ _ (left-none t x p n e) in
        ap (λ i. through t i q) y ∙ onward n e many ∙ sym both)
        (λ z h.
        let (same, rest) = settled_both z in
        let fewer : length (left t x p) ≤ length p = omega (arith, length-drop (taken t x p) p) in
        let first : through t x p ≡ through t (turned t x p) (left t x p) = one ∙ enough-held (length p) (suc (length (left t x p))) (turned t x p) (left t x p) h fewer (omega arith) in
        let last : through t (turned t x p) (left t x p ++ q) ≡ turns (length (p ++ q)) t (turned t x p) (left t x p ++ q) =
        enough-held (suc (length (left t x p ++ q))) (length (p ++ q)) (turned t x p) (left t x p ++ q) h (omega arith) (omega (arith, length-append p q, length-append (left t x p) q)) in
        ap (λ i. through t i q) first ∙ after z h ∙ last ∙ sym (both ∙ ap₂ (turns (length (p ++ q)) t) same rest))
      where
        onward : (n : ℕ) → stage_then t x p ≡ Ok (Needs n) → 0 < length (p ++ q) → through t (turned t x p) q ≡ turns (length (p ++ q)) t (turned t x (p ++ q)) (left t x (p ++ q))
        onward n e many =
            by_le (length q) 0
            (λ none.
            let nil : q ≡ [] = empty q (omega arith) in
            let l : p ++ q ≡ p = ap (λ (i : List ℕ). p ++ i) nil ∙ append-nil p in
            turns-none t _ _ q (omega arith) ∙ sym (ap (λ i. turns (length i) t (turned t x i) (left t x i)) l ∙ turns-none t (length p) _ _ (left-none t x p n e)))
            (λ any.
            let (same, rest) = needs_both n e in
            let on : (turned t x p).ended ≡ false = ap (λ (i : Night). i.ended) (turned_needs t x p n e) in
            turns_turn t (length q) (turned t x p) q any on
            ∙ by-stage t (turned t x p) q
            (λ m f. turns-none t (length q) _ _ (left-none t (turned t x p) q m f) ∙ sym (turns-none t (length (p ++ q)) _ _ (left-none t (turned t x p) q m f)))
            (λ _ h. enough-held (length q) (length (p ++ q)) _ _ h (omega (arith, length-drop (taken t (turned t x p) q) q)) (omega (arith, length-drop (taken t (turned t x p) q) q, length-append p q)))
            ∙ ap₂ (turns (length (p ++ q)) t) same rest)

  cut-none : (x : Night) (p q : List ℕ) → length p ≡ 0 → through t (through t x p) q ≡ through t x (p ++ q)
  unfolding through
  cut-none x p q h = ap (λ i. through t i q) (turns-none t _ x p h) ∙ ap (λ (i : List ℕ). through t x (i ++ q)) (sym (empty p h))

  cut-over : (x : Night) (p q : List ℕ) → x.ended ≡ true → through t (through t x p) q ≡ through t x (p ++ q)
  unfolding through
  cut-over x p q h = ap (λ i. through t i q) (turns-over t _ x p h) ∙ turns-over t _ x q h ∙ sym (turns-over t _ x (p ++ q) h)

  -- two pieces are one, where nothing is held
  cut-held : (m : ℕ) (x : Night) (p q : List ℕ) → length p ≤ m → x.held ≡ 0 → through t (through t x p) q ≡ through t x (p ++ q)
  cut-held zero x p q h z = cut-none x p q (omega arith)
  cut-held (suc m) x p q h z =
      by_le (length p) 0
      (λ none. cut-none x p q (omega arith))
      (λ some.
      by_bool x.ended
      (λ over. cut-over x p q over)
      (λ on. cut_turn x p q (λ _ y. after (cut-held m) some y) some on))
    where
      after : ((y : Night) (r q : List ℕ) → length r ≤ m → y.held ≡ 0 → through t (through t y r) q ≡ through t y (r ++ q)) → 0 < length p → (turned t x p).held ≡ 0
          → through t (through t (turned t x p) (left t x p)) q ≡ through t (turned t x p) (left t x p ++ q)
      after again some y =
          by_le 8 (length x.store)
          (λ room. again (turned t x p) (left t x p) q (omega (arith, length-drop (taken t x p) p, taken-byte x p z room some)) y)
          (λ small. cut-over (turned t x p) (left t x p) q (turned-small t x p z small))

  -- TWO PIECES ARE ONE, wherever the night stands
  pub cut : (x : Night) (p q : List ℕ) → through t (through t x p) q ≡ through t x (p ++ q)
  cut x p q =
      by_le (length p) 0
      (λ none. cut-none x p q (omega arith))
      (λ some.
      by_bool x.ended
      (λ over. cut-over x p q over)
      (λ on. cut_turn x p q (λ _ y. cut-held (length (left t x p)) (turned t x p) (left t x p) q (le_refl _) y) some on))

  -- the pieces of a night, one after the other
  unfoldable pub passed : Night → List (List ℕ) → Night
  passed x [] = x
  passed x (p ∷ ps) = passed (through t x p) ps

  -- ANY CUTTING leaves what one piece of all the bytes does
  pub any_cutting : (x : Night) (ps : List (List ℕ)) → passed x ps ≡ through t x (joined ps)
  unfolding passed joined through
  any_cutting x [] = sym (turns-none t 1 x [] refl)
  any_cutting x (p ∷ ps) = any_cutting (through t x p) ps ∙ cut x p (joined ps)
