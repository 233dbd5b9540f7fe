-- One piece from the start: nothing is held yet, and all that comes is given at once. Assumes nothing.
use Prim.Native.Nat.{ℕ, ◌+◌, ◌-◌, ◌≤◌, ◌<◌, min}
use Rattle.std.proofs.Common.{zero-add, sym, ap₂, ◌∙◌, length-take-le, take-take, take_at}
use native.Mathlib.Omega.{arith}
use Rattle.std.specs.Prelude.{◌≡◌, take, drop, Result, Ok, Err}
use Rattle.std.proofs.Math.Path.{refl, ap}
use mathlib.Core.List.{List}
use Rattle.std.proofs.Math.ListN.{length}
use Rattle.std.proofs.Math.Seq.{paste}
use Rattle.refusal.specs.declared.Refusal.{Refusal}
use Rattle.codec.specs.Codec.{refusal}
use Rattle.codec.specs.CaseLaws.{by_order}
use Rattle.held.specs.Held.{Head, bounded, within, held_of, need_of, poured, taken_of, held_after, store_after}
use Rattle.held.proofs.StageLaws.{HeadLaw, bounded-short, bounded-rest, bounded-whole, stage-small, stage-head, stage-said, stage-rest, stage-whole, paste_length}
use Rattle.held.specs.declared.Holding.{Holding}
use Rattle.held.specs.declared.Holding.TheVariants.{Needs, Whole}

-- THE PIECE p, from the start: its first n bytes are taken, they stand at the front of the store, and they are x
pub record Alone (H : Head) (st p : List ℕ) (n : ℕ) (x : Result Holding Refusal) : Type 0 where
  pub taken : taken_of H 0 st p ≡ n
  pub held : held_after H 0 st p ≡ n
  pub front : take n (store_after H 0 st p) ≡ take n p
  pub stage : held_of H n (store_after H 0 st p) ≡ x

-- the first n bytes of a piece at the front of a store
pub front_paste : (st p : List ℕ) (n : ℕ) → n ≤ length p → take n (paste st 0 p n) ≡ take n p
front_paste st p n h = take_at (take n p) (drop (0 + n) st) n (length-take-le n p h)

module _ (H : Head) (L : HeadLaw H) (st p : List ℕ) where
  alone : (n : ℕ) (x : Result Holding Refusal) → n ≤ length p → taken_of H 0 st p ≡ n → held_of H n (paste st 0 p n) ≡ x → Alone H st p n x
  alone n x h e g = record {
    taken = e;
    held = zero-add (taken_of H 0 st p) ∙ e;
    front = ap (λ m. take n (paste st 0 p m)) e ∙ front_paste st p n h;
    stage = ap (λ m. held_of H n (paste st 0 p m)) e ∙ g;
  }

  -- a store below the head
  pub alone-small : length st < H.size → Alone H st p 0 (Err (refusal H.short 0))
  unfolding taken_of poured
  alone-small h =
      let s : (k : ℕ) (d : List ℕ) → k ≡ 0 → length d ≡ length st → held_of H k d ≡ Err (refusal H.short 0) = λ k d a b. stage-small H k d (omega arith) (omega arith) in
      let a : poured H 0 st (length p) ≡ 0 = let z = ap need_of (s 0 st refl refl) in omega arith in
      let st' = paste st 0 p (poured H 0 st (length p)) in
      let l : length st' ≡ length st = paste_length st 0 p (poured H 0 st (length p)) (omega arith) (omega arith) in
      let z : need_of (held_of H (0 + poured H 0 st (length p)) st') ≡ 0 = ap need_of (s (0 + poured H 0 st (length p)) st' (omega arith) l) in
      alone 0 _ (omega arith) (omega arith) (s 0 (paste st 0 p 0) refl (paste_length st 0 p 0 (omega arith) (omega arith)))

  module _ (room : H.size ≤ length st) where
    first-need : need_of (held_of H 0 st) ≡ H.size
    first-need = ap need_of (stage-head H L 0 st L.some room) ∙ omega arith

    -- less than the head
    pub alone-few : length p < H.size → Alone H st p (length p) (Ok (Needs (H.size - length p)))
    unfolding taken_of poured
    alone-few h =
        let l : length (paste st 0 p (length p)) ≡ length st = paste_length st 0 p (length p) (omega arith) (omega arith) in
        alone (length p) _ (omega arith) (omega (arith, first-need)) (stage-head H L (length p) (paste st 0 p (length p)) h (omega arith))

    module _ (many : H.size ≤ length p) where
      abbrev st1 : List ℕ
      st1 = paste st 0 p H.size

      same : length st1 ≡ length st
      same = paste_length st 0 p H.size (omega arith) many

      said : held_of H H.size st1 ≡ within H.short (length st) H.size (H.says (take H.size p))
      said =
          stage-said H L H.size st1 (omega arith) (omega (arith, same))
          ∙ ap₂ (λ n s. within H.short n H.size (H.says s)) same (front_paste st p H.size many)

      takes : taken_of H 0 st p ≡ H.size + min (need_of (within H.short (length st) H.size (H.says (take H.size p)))) (length p - H.size)
      unfolding taken_of poured
      takes =
          let a : min (need_of (held_of H 0 st)) (length p) ≡ H.size = omega (arith, first-need) in
          ap (λ n. n + min (need_of (held_of H (0 + n) (paste st 0 p n))) (length p - n)) a
          ∙ ap (λ n. H.size + min (need_of (held_of H n st1)) (length p - H.size)) (zero-add H.size)
          ∙ ap (λ x. H.size + min (need_of x) (length p - H.size)) said

      -- a head that is refused
      pub alone-refused : (e : Refusal) → H.says (take H.size p) ≡ Err e → Alone H st p H.size (Err e)
      alone-refused e q =
          let w : within H.short (length st) H.size (H.says (take H.size p)) ≡ Err e = ap (within H.short (length st) H.size) q in
          alone H.size _ many (omega (arith, takes, ap need_of w)) (said ∙ w)

      module _ (w b : ℕ) (q : H.says (take H.size p) ≡ Ok (Whole w b)) where
        bound : within H.short (length st) H.size (H.says (take H.size p)) ≡ bounded H.short (length st) H.size w b
        bound = ap (within H.short (length st) H.size) q

        -- a store below the whole
        pub alone-short : length st < w → Alone H st p H.size (Err (refusal H.short 0))
        alone-short h =
            let s = bound ∙ bounded-short H.short (length st) H.size w b h in
            alone H.size _ many (omega (arith, takes, ap need_of s)) (said ∙ s)

        module _ (fits : w ≤ length st) (long : H.size ≤ w) where
          need-is : need_of (within H.short (length st) H.size (H.says (take H.size p))) ≡ w - H.size
          need-is = by_order H.size w
              (λ h. ap need_of (bound ∙ bounded-rest H.short (length st) H.size w b fits h))
              (λ h. ap need_of (bound ∙ bounded-whole H.short (length st) H.size w b fits h) ∙ omega arith)
              (λ h. absurd (omega arith))

          says_at : (n : ℕ) → n ≤ length st → n ≤ length p → H.size ≤ n → H.says (take H.size (paste st 0 p n)) ≡ Ok (Whole w b)
          says_at n r h g =
              ap H.says (sym (take-take H.size n (paste st 0 p n) g) ∙ ap (take H.size) (front_paste st p n h) ∙ take-take H.size n p g) ∙ q

          -- less than the whole
          pub alone_rest : length p < w → Alone H st p (length p) (Ok (Needs (w - length p)))
          alone_rest h =
              let l : length (paste st 0 p (length p)) ≡ length st = paste_length st 0 p (length p) (omega arith) (omega arith) in
              alone (length p) _ (omega arith) (omega (arith, takes, need-is))
              (stage-rest H L (length p) (paste st 0 p (length p)) w b (says_at (length p) (omega arith) (omega arith) many) many (omega arith) h)

          -- the whole, or more
          pub alone-whole : w ≤ length p → Alone H st p w (Ok (Whole w b))
          alone-whole h =
              let l : length (paste st 0 p w) ≡ length st = paste_length st 0 p w (omega arith) h in
              alone w _ h (omega (arith, takes, need-is))
              (stage-whole H L w (paste st 0 p w) w b (says_at w fits h long) long (omega arith) refl)
