-- ANY CUTTING: a piece, and then what may follow it, leave the held count and the store as both in one piece do. Assumes nothing.
use Rattle.std.specs.Prelude.{ℕ, ◌+◌, ◌≤◌, ◌<◌, ◌≡◌, List, [], ◌++◌, length, drop, Ok}
use native.Mathlib.Omega.{arith}
use Rattle.std.proofs.Common.{le_refl, sym, ap, ◌∙◌, append-nil, length-drop, length-append, drop-drop}
use Rattle.std.proofs.Math.Seq.{paste}
use Rattle.std.proofs.lemmas.List.{drop-append-le}
use Rattle.codec.specs.CaseLaws.{by_le}
use Rattle.held.specs.Held.{Head, held_of, need_of, poured, taken_of, held_after, store_after}
use Rattle.held.proofs.StageLaws.{HeadLaw, taken-most}
use Rattle.held.proofs.NeededLaws.{needs_room}
use Rattle.held.proofs.BytewiseLaws.{eats, after, after-eats, eats-append, eats-none, rest}
use Rattle.held.specs.declared.Holding.TheVariants.{Needs}

module _ (H : Head) (L : HeadLaw H) (k : ℕ) (st p : List ℕ) where
  -- where nothing is needed, nothing is taken
  pub taken_none : need_of (held_of H k st) ≡ 0 → taken_of H k st p ≡ 0
  taken_none e = omega (arith, ap (λ x. x.0) (sym (after-eats H L k st p) ∙ eats-none H L (k, st) p e))

  -- the piece p of the stream p ++ q, then what it did not take, offered again from any place m on that is not before that
  module _ (q : List ℕ) (m : ℕ) (far : taken_of H k st p ≤ m) where
    abbrev t1 : ℕ
    t1 = taken_of H k st p

    abbrev s1 : List ℕ
    s1 = paste st k p t1

    abbrev t2 : ℕ
    t2 = taken_of H (k + t1) s1 (drop m p ++ q)

    both-after : after H L k st (p ++ q) ≡ (k + t1 + t2, paste s1 (k + t1) (drop m p ++ q) t2)
    both-after =
        sym (after-eats H L k st (p ++ q))
        ∙ eats-append H L (k, st) p q
        ∙ ap (λ x. eats H L x q) (after-eats H L k st p ∙ sym (rest H L k st p m far))
        ∙ sym (eats-append H L (k + t1, s1) (drop m p) q)
        ∙ after-eats H L (k + t1) s1 (drop m p ++ q)

    pub both-taken : taken_of H k st (p ++ q) ≡ taken_of H k st p + taken_of H (k + taken_of H k st p) (paste st k p (taken_of H k st p)) (drop m p ++ q)
    both-taken = omega (arith, ap (λ x. x.0) both-after)

    pub both-store : paste st k (p ++ q) (taken_of H k st (p ++ q))
        ≡ paste (paste st k p (taken_of H k st p)) (k + taken_of H k st p) (drop m p ++ q) (taken_of H (k + taken_of H k st p) (paste st k p (taken_of H k st p)) (drop m p ++ q))
    both-store = ap (λ x. x.1) both-after

  -- and the same bytes are left
  pub both_rest : (q : List ℕ) → drop (taken_of H (held_after H k st p) (store_after H k st p) (drop (taken_of H k st p) p ++ q)) (drop (taken_of H k st p) p ++ q) ≡ drop (taken_of H k st (p ++ q)) (p ++ q)
  both_rest q =
      let n = taken_of H k st p in
      let m = taken_of H (held_after H k st p) (store_after H k st p) (drop n p ++ q) in
      ap (drop m) (sym (drop-append-le n p q (taken-most H L k st p)))
      ∙ drop-drop m n (p ++ q) ∙ ap (λ i. drop i (p ++ q)) (sym (both-taken q n (le_refl n)))

  -- something of a piece is taken where something is needed
  pub taken-some : 0 < need_of (held_of H k st) → 0 < length p → 0 < taken_of H k st p
  unfolding taken_of poured
  taken-some h g = omega arith

-- all of a piece is taken where more is needed after it
pub needs_all : (H : Head) (L : HeadLaw H) (k : ℕ) (st p : List ℕ) (n : ℕ) → held_of H (held_after H k st p) (store_after H k st p) ≡ Ok (Needs n) → taken_of H k st p ≡ length p
needs_all H L k st p n e =
    let t = taken_of H k st p in
    let r = drop t p ++ [] in
    let both : taken_of H k st (p ++ []) ≡ t + taken_of H (held_after H k st p) (store_after H k st p) r = both-taken H L k st p [] t (le_refl t) in
    let same : taken_of H k st (p ++ []) ≡ t = ap (taken_of H k st) (append-nil p) in
    by_le (length p) t
    (λ h. omega (arith, taken-most H L k st p))
    (λ h.
    let some = taken-some H L (held_after H k st p) (store_after H k st p) r (omega (arith, ap need_of e, needs_room H L (held_after H k st p) (store_after H k st p) n e)) (omega (arith, length-append (drop t p) [], length-drop t p)) in
    absurd (omega arith))
