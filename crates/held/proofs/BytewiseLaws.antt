-- Pieces, a byte at a time: a byte is taken where one is needed. What is taken of a piece is that, so pieces one after the other are one.
-- This is a tool of the proofs and no promise. Assumes nothing.
use Rattle.refusal.specs.declared.Refusal.{Refusal}
use Prim.Native.Nat.{ℕ, zero, suc, ◌+◌, ◌-◌, ◌≤◌, ◌<◌, min}
use Rattle.std.proofs.Common.{add-zero, add_assoc, sym, subst, ◌∙◌, length-drop, take-append-drop, drop_of_length-le, take-suc}
use native.Mathlib.Omega.{arith}
use Rattle.std.specs.Prelude.{◌⊎◌, ◌≡◌, take, drop, Result, Ok, Err}
use Rattle.std.proofs.Math.Logic.{inl, inr, ⊎_elim}
use Rattle.std.proofs.Math.Path.{refl, ap, ap₂}
use mathlib.Core.List.{List, [], ◌∷◌, ◌++◌}
use Rattle.std.proofs.Math.ListN.{length, get_or, set}
use Rattle.std.proofs.Math.Seq.{paste, paste-zero, paste-suc}
use Rattle.held.specs.Held.{Head, held_of, need_of, poured, taken_of}
use Rattle.held.proofs.StageLaws.{HeadLaw, below_or, ForHead, ForWhole, needing, paste_paste, poured-most, poured-fits}
use Rattle.held.proofs.NeededLaws.{needs_room, needs_rest, needs_whole}
use Rattle.held.specs.declared.Holding.{Holding}
use Rattle.held.specs.declared.Holding.TheVariants.{Needs, Whole}

-- held count and store
abbrev pub Place : Type 0
Place = ℕ × List ℕ

abbrev pub eat_as : ℕ → Place → ℕ → Place
eat_as zero q b = q
eat_as (suc n) q b = (q.0 + 1, set q.1 q.0 b)

module _ (H : Head) (L : HeadLaw H) where
  abbrev pub need : Place → ℕ
  need q = need_of (held_of H q.0 q.1)

  -- one byte, and many
  unfoldable pub eat : Place → ℕ → Place
  eat q b = eat_as (need q) q b

  unfoldable pub eats : Place → List ℕ → Place
  eats q [] = q
  eats q (b ∷ p) = eats (eat q b) p

  pub eats-append : (q : Place) (p r : List ℕ) → eats q (p ++ r) ≡ eats (eats q p) r
  unfolding eats
  eats-append q [] r = refl
  eats-append q (b ∷ p) r = eats-append (eat q b) p r

  -- no byte is taken where none is needed
  pub eats-none : (q : Place) (p : List ℕ) → need q ≡ 0 → eats q p ≡ q
  unfolding eats eat
  eats-none q [] e = refl
  eats-none q (b ∷ p) e = rw e (eats-none q p e)

  -- as many as are needed, or fewer
  module _ (k : ℕ) (st : List ℕ) (n : ℕ) (e : held_of H k st ≡ Ok (Needs n)) (p : List ℕ) where
    eats-some : (j : ℕ) → j ≤ n → j ≤ length p → eats (k, st) (take j p) ≡ (k + j, paste st k p j)
    unfolding eats eat
    eats-some zero h g = ap₂ (λ x y. (x, y)) (sym (add-zero k)) (paste-zero st k p)
    eats-some (suc j) h g =
        let b = get_or p j 0 in
        let room = needs_room H L k st n e in
        let r : need_of (held_of H (k + j) (paste st k p j)) ≡ suc (n - j - 1) = ap need_of (needs_rest H L k st n e p j (omega arith) (omega arith)) ∙ omega arith in
        let one : eat (k + j, paste st k p j) b ≡ (k + j + 1, set (paste st k p j) (k + j) b) = rw r in
        ap (eats (k, st)) (take-suc p j 0 (omega arith))
        ∙ eats-append (k, st) (take j p) (b ∷ [])
        ∙ ap (λ q. eat q b) (eats-some j (omega arith) (omega arith))
        ∙ one
        ∙ ap₂ (λ x y. (x, y)) (omega arith) (paste-suc st k p j 0 (omega arith) (omega arith))

  -- what a stage pours of a piece
  module _ (k : ℕ) (st p : List ℕ) where
    still : poured H k st (length p) ≡ 0 → eats (k, st) (take (poured H k st (length p)) p) ≡ (k + poured H k st (length p), paste st k p (poured H k st (length p)))
    unfolding eats
    still e = rw e (ap₂ (λ x y. (x, y)) (sym (add-zero k)) (paste-zero st k p))

    pour_of : (r : Result Holding Refusal) → held_of H k st ≡ r → eats (k, st) (take (poured H k st (length p)) p) ≡ (k + poured H k st (length p), paste st k p (poured H k st (length p)))
    unfolding poured
    pour_of (Ok (Needs n)) e = eats-some k st n e p (min (need_of (held_of H k st)) (length p)) (omega (arith, ap need_of e)) (omega arith)
    pour_of (Err n) e = still (omega (arith, ap need_of e))
    pour_of (Ok (Whole w b)) e = still (omega (arith, ap need_of e))

    pour : eats (k, st) (take (poured H k st (length p)) p) ≡ (k + poured H k st (length p), paste st k p (poured H k st (length p)))
    pour = pour_of (held_of H k st) refl

    -- none was needed, and none is
    kept : need_of (held_of H k st) ≡ 0 → need_of (held_of H (k + poured H k st (length p)) (paste st k p (poured H k st (length p)))) ≡ 0
    unfolding poured
    kept e =
        let z : min (need_of (held_of H k st)) (length p) ≡ 0 = omega arith in
        ap (λ m. need_of (held_of H (k + m) (paste st k p m))) z ∙ ap₂ (λ x y. need_of (held_of H x y)) (add-zero k) (sym (paste-zero st k p)) ∙ e

    -- with the prelude past: the piece is used up, or nothing more is needed
    late_of : (r : Result Holding Refusal) → held_of H k st ≡ r → H.size ≤ k
        → (length p ≤ poured H k st (length p)) ⊎ (need_of (held_of H (k + poured H k st (length p)) (paste st k p (poured H k st (length p)))) ≡ 0)
    unfolding poured
    late_of (Ok (Needs n)) e h = ⊎_elim (λ a. inr (full a)) (λ a. inl (omega (arith, ap need_of e))) (below_or n (length p))
      where
        full : n < length p → need_of (held_of H (k + poured H k st (length p)) (paste st k p (poured H k st (length p)))) ≡ 0
        full a =
            let z : min (need_of (held_of H k st)) (length p) ≡ n = omega (arith, ap need_of e) in
            let (w, b, u) = needs_whole H L k st n e h p (omega arith) in
            rw z (ap need_of u)
    late_of (Err n) e h = inr (kept (ap need_of e))
    late_of (Ok (Whole w b)) e h = inr (kept (ap need_of e))

    late : H.size ≤ k → (length p ≤ poured H k st (length p)) ⊎ (need_of (held_of H (k + poured H k st (length p)) (paste st k p (poured H k st (length p)))) ≡ 0)
    late = late_of (held_of H k st) refl

    -- from the start: the piece is used up, or the prelude is past, or nothing more is needed
    first-of : (r : Result Holding Refusal) → held_of H k st ≡ r
        → (length p ≤ poured H k st (length p)) ⊎ ((H.size ≤ k + poured H k st (length p)) ⊎ (need_of (held_of H (k + poured H k st (length p)) (paste st k p (poured H k st (length p)))) ≡ 0))
    unfolding poured
    first-of (Ok (Needs n)) e = ⊎_elim (λ a. inr (inl (past a (needing H L k st n e)))) (λ a. inl (omega (arith, ap need_of e))) (below_or n (length p))
      where
        past : n < length p → ForHead H k st n ⊎ ForWhole H k st n → H.size ≤ k + poured H k st (length p)
        past a (inl f) = omega (arith, ap need_of e)
        past a (inr f) = omega arith
    first-of (Err n) e = inr (inr (kept (ap need_of e)))
    first-of (Ok (Whole w b)) e = inr (inr (kept (ap need_of e)))

    first : (length p ≤ poured H k st (length p)) ⊎ ((H.size ≤ k + poured H k st (length p)) ⊎ (need_of (held_of H (k + poured H k st (length p)) (paste st k p (poured H k st (length p)))) ≡ 0))
    first = first-of (held_of H k st) refl

  -- where a feed of p leaves held count and store
  abbrev pub after : ℕ → List ℕ → List ℕ → ℕ × List ℕ
  after k st p = (k + taken_of H k st p, paste st k p (taken_of H k st p))

  -- a feed is its bytes, one at a time
  module _ (k : ℕ) (st p : List ℕ) where
    abbrev a : ℕ
    a = poured H k st (length p)

    abbrev k1 : ℕ
    k1 = k + a

    abbrev st1 : List ℕ
    st1 = paste st k p a

    abbrev p1 : List ℕ
    p1 = drop a p

    abbrev b : ℕ
    b = poured H k1 st1 (length p1)

    -- the bytes past both pours change nothing
    done : (length p1 ≤ b) ⊎ (need_of (held_of H (k1 + b) (paste st1 k1 p1 b)) ≡ 0) → eats (k1 + b, paste st1 k1 p1 b) (drop b p1) ≡ (k1 + b, paste st1 k1 p1 b)
    unfolding eats
    done (inl h) = ap (eats (k1 + b, paste st1 k1 p1 b)) (drop_of_length-le p1 h)
    done (inr h) = eats-none (k1 + b, paste st1 k1 p1 b) (drop b p1) h

    both : (length p ≤ a) ⊎ ((H.size ≤ k1) ⊎ (need_of (held_of H k1 st1) ≡ 0)) → (length p1 ≤ b) ⊎ (need_of (held_of H (k1 + b) (paste st1 k1 p1 b)) ≡ 0)
    both (inl h) = inl (omega (arith, length-drop a p))
    both (inr (inl h)) = late k1 st1 p1 h
    both (inr (inr h)) = inr (kept k1 st1 p1 h)

    after_is : (k1 + b, paste st1 k1 p1 b) ≡ after k st p
    unfolding taken_of
    after_is =
        ap₂ (λ x y. (x, y)) (add_assoc k a b) (paste_paste st k p a b (poured-fits H L k st (length p)) (poured-most H L k st (length p)))
        ∙ ap (λ m. (k + (a + poured H k1 st1 m), paste st k p (a + poured H k1 st1 m))) (length-drop a p)

    pub after-eats : eats (k, st) p ≡ after k st p
    after-eats =
        ap (eats (k, st)) (sym (take-append-drop a p))
        ∙ eats-append (k, st) (take a p) (drop a p)
        ∙ ap (λ q. eats q p1) (pour k st p)
        ∙ ap (eats (k1, st1)) (sym (take-append-drop b p1))
        ∙ eats-append (k1, st1) (take b p1) (drop b p1)
        ∙ ap (λ q. eats q (drop b p1)) (pour k1 st1 p1)
        ∙ done (both (first k st p))
        ∙ after_is

    -- A FEED TAKES ALL THAT IS NEEDED: the piece is used up, or nothing more is needed
    pub ended : (length p ≤ taken_of H k st p) ⊎ (need (after k st p) ≡ 0)
    ended =
        ⊎_elim
        (λ h. inl (omega (arith, length-drop a p, ap (λ x. x.0) after_is)))
        (λ h. inr (subst (λ q. need q ≡ 0) after_is h))
        (both (first k st p))

    -- what it did not take changes nothing where it is offered again
    pub rest : (m : ℕ) → taken_of H k st p ≤ m → eats (after k st p) (drop m p) ≡ after k st p
    unfolding eats
    rest m h =
        ⊎_elim
        (λ f. let far : length p ≤ m = omega arith in ap (eats (after k st p)) (drop_of_length-le p far))
        (λ z. eats-none (after k st p) (drop m p) z)
        ended
