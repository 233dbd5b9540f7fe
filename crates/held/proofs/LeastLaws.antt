-- What "n more" promises of the next piece: of fewer bytes all are taken and exactly the rest is still needed; so many end the head, or are
-- all that is taken of it, and the whole is held. Assumes nothing.
use Prim.Native.Nat.{ℕ, ◌+◌, ◌-◌, ◌≤◌, ◌<◌, min}
use native.Mathlib.Omega.{arith}
use Rattle.std.specs.Prelude.{◌≡◌, List, length, Ok}
use Rattle.std.proofs.Math.Path.{ap}
use Rattle.std.proofs.Common.{◌∙◌}
use Rattle.std.proofs.Math.Seq.{paste}
use Rattle.held.specs.Held.{Head, held_of, need_of, poured, taken_of, held_after, store_after}
use Rattle.held.proofs.StageLaws.{HeadLaw}
use Rattle.held.proofs.NeededLaws.{needs_rest, needs_head, needs_whole}
use Rattle.held.specs.declared.Holding.TheVariants.{Needs, Whole}

-- THE LEAST COUNT: k bytes of a store are held, and n more are needed; q is the next piece
pub record Least (H : Head) (k : ℕ) (st : List ℕ) (n : ℕ) (q : List ℕ) : Type 0 where
  pub fewer : length q < n → (taken_of H k st q ≡ length q) × (held_of H (held_after H k st q) (store_after H k st q) ≡ Ok (Needs (n - length q)))
  pub head : n ≤ length q → k < H.size → H.size ≤ held_after H k st q
  pub whole : n ≤ length q → H.size ≤ k → (taken_of H k st q ≡ n) × ((w : ℕ) × (b : ℕ) × (held_of H (held_after H k st q) (store_after H k st q) ≡ Ok (Whole w b)))

module _ (H : Head) (L : HeadLaw H) (k : ℕ) (st : List ℕ) (n : ℕ) (e : held_of H k st ≡ Ok (Needs n)) (q : List ℕ) where
  fewer-taken : length q < n → taken_of H k st q ≡ length q
  unfolding taken_of poured
  fewer-taken h = omega (arith, ap need_of e)

  most : n ≤ length q → n ≤ taken_of H k st q
  unfolding taken_of poured
  most h = omega (arith, ap need_of e)

  whole-taken : n ≤ length q → H.size ≤ k → taken_of H k st q ≡ n
  unfolding taken_of poured
  whole-taken h many =
      let (w, b, u) = needs_whole H L k st n e many q h in
      let a : min (need_of (held_of H k st)) (length q) ≡ n = omega (arith, ap need_of e) in
      let z : need_of (held_of H (k + min (need_of (held_of H k st)) (length q)) (paste st k q (min (need_of (held_of H k st)) (length q)))) ≡ 0 = rw a (ap need_of u) in
      omega arith

  pub least : Least H k st n q
  least = record {
    fewer = λ h. (fewer-taken h, ap (λ m. held_of H (k + m) (paste st k q m)) (fewer-taken h) ∙ needs_rest H L k st n e q (length q) h (omega arith));
    head = λ h few. omega (arith, most h, needs_head H L k st n e few);
    whole = λ h many.
        let (w, b, u) = needs_whole H L k st n e many q h in
        (whole-taken h many, (w, b, ap (λ m. held_of H (k + m) (paste st k q m)) (whole-taken h many) ∙ u));
  }
