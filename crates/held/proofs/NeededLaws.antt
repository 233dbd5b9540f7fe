-- The count needed is the least that ends what it is needed for. Assumes nothing.
use Rattle.std.specs.Prelude.{ℕ, ◌+◌, ◌-◌, ◌≤◌, ◌<◌, ◌≡◌, List, ◌++◌, length, take, drop, Ok}
use Rattle.std.proofs.Common.{arith, ⊎_elim, ap, ◌∙◌, length-append, take-take, length-take-le}
use Rattle.std.proofs.lemmas.List.{take-append-le}
use Rattle.std.proofs.Math.Seq.{paste}
use Rattle.held.specs.Held.{Head, held_of}
use Rattle.held.proofs.StageLaws.{HeadLaw, ForHead, ForWhole, needing, stage-head, stage-rest, stage-whole, paste_length}
use Rattle.held.specs.declared.Holding.TheVariants.{Needs, Whole}

-- what lies before a paste is kept
pub paste_front : (d : List ℕ) (at : ℕ) (s : List ℕ) (n m : ℕ) → m ≤ at → at ≤ length d → take m (paste d at s n) ≡ take m d
paste_front d at s n m h g =
    let l : length (take at d) ≡ at = length-take-le at d g in
    take-append-le m (take at d ++ take n s) (drop (at + n) d) (omega (arith, length-append (take at d) (take n s)))
    ∙ take-append-le m (take at d) (take n s) (omega arith)
    ∙ take-take m at d h

module _ (H : Head) (L : HeadLaw H) (k : ℕ) (st : List ℕ) (n : ℕ) (e : held_of H k st ≡ Ok (Needs n)) where
  -- it fits the store, and is not 0
  pub needs_room : (n ≤ length st - k) × (0 < n)
  needs_room = ⊎_elim (λ p. (omega (arith, p.few, p.room, p.sum), omega (arith, p.few, p.sum))) (λ p. (omega (arith, p.room, p.sum), p.some)) (needing H L k st n e)

  -- AFTER ANY FEWER BYTES the rest is still needed
  pub needs_rest : (p : List ℕ) (j : ℕ) → j < n → j ≤ length p → held_of H (k + j) (paste st k p j) ≡ Ok (Needs (n - j))
  needs_rest p j h g = ⊎_elim early late (needing H L k st n e)
    where
      len : length (paste st k p j) ≡ length st
      len = paste_length st k p j (omega (arith, needs_room)) g

      early : ForHead H k st n → held_of H (k + j) (paste st k p j) ≡ Ok (Needs (n - j))
      early f = stage-head H L (k + j) (paste st k p j) (omega (arith, f.sum)) (omega (arith, len, f.room)) ∙ ap (λ (m : ℕ). Ok (Needs m)) (omega (arith, f.sum))

      late : ForWhole H k st n → held_of H (k + j) (paste st k p j) ≡ Ok (Needs (n - j))
      late f =
          stage-rest H L (k + j) (paste st k p j) f.len f.kind (ap H.says (paste_front st k p j H.size f.many (omega (arith, f.sum, f.room))) ∙ f.says)
          (omega (arith, f.many)) (omega (arith, len, f.room)) (omega (arith, f.sum))
          ∙ ap (λ (m : ℕ). Ok (Needs m)) (omega (arith, f.sum))

  -- AFTER SO MANY the head is held
  pub needs_head : k < H.size → k + n ≡ H.size
  needs_head h = ⊎_elim (λ p. p.sum) (λ p. absurd (omega (arith, p.many))) (needing H L k st n e)

  -- or the whole is
  pub needs_whole : H.size ≤ k → (p : List ℕ) → n ≤ length p → (w : ℕ) × (b : ℕ) × (held_of H (k + n) (paste st k p n) ≡ Ok (Whole w b))
  needs_whole h p g = ⊎_elim (λ f. absurd (omega (arith, f.few))) late (needing H L k st n e)
    where
      late : ForWhole H k st n → (w : ℕ) × (b : ℕ) × (held_of H (k + n) (paste st k p n) ≡ Ok (Whole w b))
      late f =
          let l : length (paste st k p n) ≡ length st = paste_length st k p n (omega (arith, needs_room)) g in (
            f.len,
            f.kind,
            stage-whole H L (k + n) (paste st k p n) f.len f.kind (ap H.says (paste_front st k p n H.size f.many (omega (arith, f.sum, f.room))) ∙ f.says)
                (omega (arith, f.many)) (omega (arith, l, f.room)) f.sum,
          )
