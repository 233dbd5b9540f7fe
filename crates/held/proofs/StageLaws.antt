-- What held bytes are, by cases on numbers; and what that tells of the held count. H is any head that keeps the laws of heads.
-- Assumes nothing.
use Rattle.std.specs.Prelude.{ℕ, ◌+◌, ◌-◌, ◌≤◌, ◌<◌, cond, ◌⊎◌, ◌≡◌, refl, List, ◌++◌, length, take, drop, ltb, Result, Ok, Err}
use Rattle.std.proofs.Common.{add_assoc, add-zero, zero-add, inl, inr, ⊎_elim, sym, ap₂, ◌∙◌, append_assoc, take_all, take-take, length-take-le, take-add, drop-drop}
use native.Mathlib.Omega.{arith}
use Rattle.std.proofs.Math.Path.{ap}
use borrow.Author.Tests.{lt-ltb, le-ltb}
use Rattle.std.proofs.Math.ListN.{length-drop}
use Rattle.std.proofs.Math.Seq.{paste, paste-zero}
use Rattle.std.proofs.lemmas.List.Edits.{length-paste, take-paste, drop-paste}
use Rattle.refusal.specs.declared.Refusal.{Refusal}
use Rattle.codec.specs.Codec.{refusal}
use Rattle.codec.specs.CaseLaws.{by_le}
use Rattle.held.specs.Held.{Head, bounded, within, held_of, need_of, poured, taken_of, held_after, store_after, put_of}
use Rattle.held.specs.declared.Holding.{Holding}
use Rattle.held.specs.declared.Holding.TheVariants.{Needs, Whole}

-- THE LAWS OF A HEAD: it has a byte or more; below its size the rest is needed; from its size on no byte past it is looked at, and none is needed for it
pub record HeadLaw (H : Head) : Type 0 where
  pub some : 0 < H.size
  pub few : (s : List ℕ) → length s < H.size → H.says s ≡ Ok (Needs (H.size - length s))
  pub first : (s : List ℕ) → H.size ≤ length s → H.says s ≡ H.says (take H.size s)
  pub never : (s : List ℕ) (n : ℕ) → H.size ≤ length s → H.says s ≡ Ok (Needs n) → ⊥

-- one number is below another, or it is not
pub below_or : (a b : ℕ) → (a < b) ⊎ (b ≤ a)
below_or a b = by_le b a (λ h. inr h) (λ h. inl h)

-- what is refused, or whole, needs nothing, and the one is not the other
pub refused_needs : (e : Refusal) (n : ℕ) → Err e ≡ Ok (Needs n) → ⊥
refused_needs e n q = let z : ◌≡◌ {A = ℕ} 0 1 = cc in omega arith

pub whole_needs : (w b n : ℕ) → ◌≡◌ {A = Result Holding Refusal} (Ok (Whole w b)) (Ok (Needs n)) → ⊥
whole_needs w b n q = let z : ◌≡◌ {A = ℕ} 0 1 = cc in omega arith

pub refused-whole : (e : Refusal) (w b : ℕ) → Err e ≡ Ok (Whole w b) → ⊥
refused-whole e w b q = let z : ◌≡◌ {A = ℕ} 0 1 = cc in omega arith

-- ---- the verdict within a whole, by cases

module _ (short n k w b : ℕ) where
  pub bounded-short : n < w → bounded short n k w b ≡ Err (refusal short 0)
  unfolding bounded
  bounded-short h = simp (lt-ltb _ _ h)

  pub bounded_beyond : w ≤ n → w < k → bounded short n k w b ≡ Err (refusal 1 0)
  unfolding bounded
  bounded_beyond h g = simp (le-ltb _ _ h, lt-ltb _ _ g)

  pub bounded-rest : w ≤ n → k < w → bounded short n k w b ≡ Ok (Needs (w - k))
  unfolding bounded
  bounded-rest h g = simp (le-ltb _ _ h, le-ltb w k (omega arith), lt-ltb _ _ g)

  pub bounded-whole : w ≤ n → k ≡ w → bounded short n k w b ≡ Ok (Whole w b)
  unfolding bounded
  bounded-whole h g = simp (le-ltb _ _ h, le-ltb w k (omega arith), le-ltb k w (omega arith))

  -- one of the four
  pub by-bound {ℓ} : {P : Type ℓ} → (n < w → P) → (w ≤ n → w < k → P) → (w ≤ n → k < w → P) → (w ≤ n → k ≡ w → P) → P
  by-bound {P = P} f1 f2 f3 f4 = go (below_or n w) (below_or w k) (below_or k w)
    where
      go : (n < w) ⊎ (w ≤ n) → (w < k) ⊎ (k ≤ w) → (k < w) ⊎ (w ≤ k) → P
      go (inl a) y z = f1 a
      go (inr a) (inl y) z = f2 a y
      go (inr a) (inr y) (inl z) = f3 a z
      go (inr a) (inr y) (inr z) = f4 a (omega arith)

-- ---- the verdict on a store, by cases

module _ (H : Head) (k : ℕ) (st : List ℕ) where
  pub stage_beyond : length st < k → held_of H k st ≡ Err (refusal 1 0)
  unfolding held_of
  stage_beyond h = simp (lt-ltb _ _ h)

  pub stage-small : k ≤ length st → length st < H.size → held_of H k st ≡ Err (refusal H.short 0)
  unfolding held_of
  stage-small h g = simp (le-ltb _ _ h, lt-ltb _ _ g)

  pub stage_in : k ≤ length st → H.size ≤ length st → held_of H k st ≡ within H.short (length st) k (H.says (take k st))
  unfolding held_of
  stage_in h g = simp (le-ltb _ _ h, le-ltb _ _ g)

module _ (H : Head) (L : HeadLaw H) (k : ℕ) (st : List ℕ) where
  -- below the head
  pub stage-head : k < H.size → H.size ≤ length st → held_of H k st ≡ Ok (Needs (H.size - k))
  stage-head h g =
      let l : length (take k st) ≡ k = length-take-le k st (omega arith) in
      stage_in H k st (omega arith) g ∙ ap (within H.short (length st) k) (L.few (take k st) (omega arith) ∙ ap (λ n. Ok (Needs (H.size - n))) l)

  -- with the head
  pub stage-said : H.size ≤ k → k ≤ length st → held_of H k st ≡ within H.short (length st) k (H.says (take H.size st))
  stage-said h g =
      let l : length (take k st) ≡ k = length-take-le k st g in
      stage_in H k st g (omega arith) ∙ ap (within H.short (length st) k) (L.first (take k st) (omega arith) ∙ ap H.says (take-take H.size k st h))

  -- with a head that announces a whole of w bytes
  module _ (w b : ℕ) (says : H.says (take H.size st) ≡ Ok (Whole w b)) (head : H.size ≤ k) where
    pub stage-bounded : k ≤ length st → held_of H k st ≡ bounded H.short (length st) k w b
    stage-bounded g = stage-said head g ∙ ap (within H.short (length st) k) says

    pub stage-rest : w ≤ length st → k < w → held_of H k st ≡ Ok (Needs (w - k))
    stage-rest g j = stage-bounded (omega arith) ∙ bounded-rest H.short (length st) k w b g j

    pub stage-whole : w ≤ length st → k ≡ w → held_of H k st ≡ Ok (Whole w b)
    stage-whole g j = stage-bounded (omega arith) ∙ bounded-whole H.short (length st) k w b g j

-- it is a function of the held bytes and the store's length: bytes of the store past the held ones are not looked at
pub held-only : (H : Head) (k : ℕ) (st st2 : List ℕ) → length st ≡ length st2 → take k st ≡ take k st2 → held_of H k st ≡ held_of H k st2
unfolding held_of
held-only H k st st2 same held =
    ap₂ (λ n x. cond (ltb n k) (Err (refusal 1 0)) (cond (ltb n H.size) (Err (refusal H.short 0)) (within H.short n k (H.says x)))) same held

-- ---- what the verdict tells

-- n more bytes are needed for the head
pub record ForHead (H : Head) (k : ℕ) (st : List ℕ) (n : ℕ) : Type 0 where
  pub few : k < H.size
  pub room : H.size ≤ length st
  pub sum : k + n ≡ H.size

-- or for the whole that it announces
pub record ForWhole (H : Head) (k : ℕ) (st : List ℕ) (n : ℕ) : Type 0 where
  pub len : ℕ
  pub kind : ℕ
  pub many : H.size ≤ k
  pub says : H.says (take H.size st) ≡ Ok (Whole len kind)
  pub room : len ≤ length st
  pub sum : k + n ≡ len
  pub some : 0 < n

-- the whole is held
pub record IsWhole (H : Head) (k : ℕ) (st : List ℕ) (w b : ℕ) : Type 0 where
  pub many : H.size ≤ k
  pub says : H.says (take H.size st) ≡ Ok (Whole w b)
  pub room : w ≤ length st
  pub sum : k ≡ w

module _ (H : Head) (L : HeadLaw H) (k : ℕ) (st : List ℕ) where
  needing-said : (n : ℕ) (x : Result Holding Refusal) → H.size ≤ k → k ≤ length st → H.says (take H.size st) ≡ x → within H.short (length st) k x ≡ Ok (Needs n) → ForWhole H k st n
  needing-said n (Ok (Needs m)) h g q e = absurd (L.never (take H.size st) m (omega (arith, length-take-le H.size st (omega arith))) q)
  needing-said n (Err m) h g q e = absurd (refused_needs m n e)
  needing-said n (Ok (Whole w b)) h g q e =
      by-bound H.short (length st) k w b
      (λ a. absurd (refused_needs _ n (sym (bounded-short H.short (length st) k w b a) ∙ e)))
      (λ a c. absurd (refused_needs _ n (sym (bounded_beyond H.short (length st) k w b a c) ∙ e)))
      (λ a c.
      let p : Ok (Needs (w - k)) ≡ Ok (Needs n) = sym (bounded-rest H.short (length st) k w b a c) ∙ e in
      let s : w - k ≡ n = cc in
      record { len = w; kind = b; many = h; says = q; room = a; sum = omega arith; some = omega arith })
      (λ a c. absurd (whole_needs w b n (sym (bounded-whole H.short (length st) k w b a c) ∙ e)))

  -- n more bytes are needed exactly so
  pub needing : (n : ℕ) → held_of H k st ≡ Ok (Needs n) → ForHead H k st n ⊎ ForWhole H k st n
  needing n e = go (below_or (length st) k) (below_or (length st) H.size) (below_or k H.size)
    where
      go : (length st < k) ⊎ (k ≤ length st) → (length st < H.size) ⊎ (H.size ≤ length st) → (k < H.size) ⊎ (H.size ≤ k) → ForHead H k st n ⊎ ForWhole H k st n
      go (inl a) y z = absurd (refused_needs _ n (sym (stage_beyond H k st a) ∙ e))
      go (inr a) (inl y) z = absurd (refused_needs _ n (sym (stage-small H k st a y) ∙ e))
      go (inr a) (inr y) (inl z) =
          let p : Ok (Needs (H.size - k)) ≡ Ok (Needs n) = sym (stage-head H L k st z y) ∙ e in
          let s : H.size - k ≡ n = cc in
          inl (record { few = z; room = y; sum = omega arith })
      go (inr a) (inr y) (inr z) = inr (needing-said n (H.says (take H.size st)) z a refl (sym (stage-said H L k st z a) ∙ e))

  whole-said : (w b : ℕ) (x : Result Holding Refusal) → H.size ≤ k → k ≤ length st → H.says (take H.size st) ≡ x → within H.short (length st) k x ≡ Ok (Whole w b) → IsWhole H k st w b
  whole-said w b (Ok (Needs m)) h g q e = absurd (L.never (take H.size st) m (omega (arith, length-take-le H.size st (omega arith))) q)
  whole-said w b (Err m) h g q e = absurd (refused-whole m w b e)
  whole-said w b (Ok (Whole w' b')) h g q e =
      by-bound H.short (length st) k w' b'
      (λ a. absurd (refused-whole _ w b (sym (bounded-short H.short (length st) k w' b' a) ∙ e)))
      (λ a c. absurd (refused-whole _ w b (sym (bounded_beyond H.short (length st) k w' b' a c) ∙ e)))
      (λ a c. absurd (whole_needs w b (w' - k) (sym e ∙ bounded-rest H.short (length st) k w' b' a c)))
      (λ a c.
      let p : Ok (Whole w' b') ≡ Ok (Whole w b) = sym (bounded-whole H.short (length st) k w' b' a c) ∙ e in
      let s : w' ≡ w = cc in
      record { many = h; says = q ∙ p; room = omega arith; sum = omega arith })

  -- the whole is held exactly so
  pub is_whole : (w b : ℕ) → held_of H k st ≡ Ok (Whole w b) → IsWhole H k st w b
  is_whole w b e = go (below_or (length st) k) (below_or (length st) H.size) (below_or k H.size)
    where
      go : (length st < k) ⊎ (k ≤ length st) → (length st < H.size) ⊎ (H.size ≤ length st) → (k < H.size) ⊎ (H.size ≤ k) → IsWhole H k st w b
      go (inl a) y z = absurd (refused-whole _ w b (sym (stage_beyond H k st a) ∙ e))
      go (inr a) (inl y) z = absurd (refused-whole _ w b (sym (stage-small H k st a y) ∙ e))
      go (inr a) (inr y) (inl z) = absurd (whole_needs w b (H.size - k) (sym e ∙ stage-head H L k st z y))
      go (inr a) (inr y) (inr z) = whole-said w b (H.says (take H.size st)) z a refl (sym (stage-said H L k st z a) ∙ e)

  need-fits-of : (r : Result Holding Refusal) → held_of H k st ≡ r → need_of r ≤ length st - k
  need-fits-of (Ok (Needs n)) e = ⊎_elim (λ p. omega (arith, p.few, p.room, p.sum)) (λ p. omega (arith, p.room, p.sum)) (needing n e)
  need-fits-of (Err n) e = omega arith
  need-fits-of (Ok (Whole w b)) e = omega arith

  -- what is needed fits the store
  pub need-fits : need_of (held_of H k st) ≤ length st - k
  need-fits = need-fits-of (held_of H k st) refl

  -- what is poured is at most what is there, and fits the store
  pub poured-most : (n : ℕ) → poured H k st n ≤ n
  unfolding poured
  poured-most n = omega arith

  pub poured-fits : (n : ℕ) → poured H k st n ≤ length st - k
  unfolding poured
  poured-fits n = omega (arith, need-fits)

  -- and so it is what `pour` puts into the store
  pub put-poured : (p : List ℕ) {x : Result Holding Refusal} {a : ℕ} → x ≡ held_of H k st → a ≡ put_of k st p x → a ≡ poured H k st (length p)
  unfolding poured put_of
  put-poured p e f = omega (arith, need-fits, f, ap need_of e)

-- where the piece has what is needed, and the store has room for it, `pour` puts all of it there
pub put_all : (k : ℕ) (st p : List ℕ) (n : ℕ) → n ≤ length p → n ≤ length st - k → put_of k st p (Ok (Needs n)) ≡ n
unfolding put_of
put_all k st p n h g = omega arith

-- ---- pastes

-- a paste that fits keeps the length; one after another is one
pub paste_length : (d : List ℕ) (at : ℕ) (s : List ℕ) (n : ℕ) → n ≤ length d - at → n ≤ length s → length (paste d at s n) ≡ length d
paste_length d at s n h g = ⊎_elim (λ b. outside (omega arith)) (λ b. length-paste d at s n (omega arith) g) (below_or (length d) at)
  where
    outside : n ≡ 0 → length (paste d at s n) ≡ length d
    outside e = ap (λ m. length (paste d at s m)) e ∙ ap length (sym (paste-zero d at s))

pub paste_paste : (d : List ℕ) (at : ℕ) (s : List ℕ) (a b : ℕ) → a ≤ length d - at → a ≤ length s
    → paste (paste d at s a) (at + a) (drop a s) b ≡ paste d at s (a + b)
paste_paste d at s a b h g = ⊎_elim (λ x. outside (omega arith)) inside (below_or (length d) at)
  where
    outside : a ≡ 0 → paste (paste d at s a) (at + a) (drop a s) b ≡ paste d at s (a + b)
    outside e =
        let p : (x : ℕ) → x ≡ 0 → paste (paste d at s x) (at + x) (drop x s) b ≡ paste d at s (x + b) =
        λ x q. rw q (rw (← paste-zero d at s, add-zero, zero-add)) in
        p a e

    inside : at ≤ length d → paste (paste d at s a) (at + a) (drop a s) b ≡ paste d at s (a + b)
    inside q =
        let front : take (at + a) (paste d at s a) ≡ take at d ++ take a s = take-paste d at s a q g in
        let back : drop (at + a + b) (paste d at s a) ≡ drop (at + (a + b)) d =
        sym (drop-drop b (at + a) (paste d at s a)) ∙ ap (drop b) (drop-paste d at s a q g) ∙ drop-drop b (at + a) d ∙ ap (λ m. drop m d) (add_assoc at a b) in
        ap₂ (λ x y. x ++ take b (drop a s) ++ y) front back
        ∙ ap (λ x. x ++ drop (at + (a + b)) d) (append_assoc (take at d) (take a s) (take b (drop a s)) ∙ ap (λ x. take at d ++ x) (sym (take-add a b s)))

-- ---- two pours are what is taken

-- one pour, of what held bytes need
module _ (H : Head) (L : HeadLaw H) (k : ℕ) (st p : List ℕ) {x : Result Holding Refusal} {a : ℕ} (ex : x ≡ held_of H k st) (ea : a ≡ put_of k st p x) where
  pub pour_fits : (a ≤ length p) × (a ≤ length st - k)
  pour_fits =
      let e = put-poured H L k st p ex ea in
      (omega (arith, poured-most H L k st (length p)), omega (arith, poured-fits H L k st (length p)))

-- two, one after the other: a bytes, then b bytes, come to a piece
pub record Pours (H : Head) (k : ℕ) (st p : List ℕ) (a b : ℕ) (st2 : List ℕ) : Type 0 where
  pub taken : a + b ≡ taken_of H k st p
  pub held : k + a + b ≡ held_after H k st p
  pub store : st2 ≡ store_after H k st p
  pub fits : a + b ≤ length st - k

module _ (H : Head) (L : HeadLaw H) (k : ℕ) (st p : List ℕ) (a b : ℕ) (st1 st2 : List ℕ) (ea : a ≡ poured H k st (length p)) (e1 : st1 ≡ paste st k p a)
    (eb : b ≡ poured H (k + a) st1 (length (take (length p - a) (drop a p)))) (e2 : st2 ≡ paste st1 (k + a) (take (length p - a) (drop a p)) b) where
  rest : take (length p - a) (drop a p) ≡ drop a p
  rest = take_all (length p - a) (drop a p) (omega (arith, length-drop a p))

  most : a ≤ length p
  most = omega (arith, ea, poured-most H L k st (length p))

  room : a ≤ length st - k
  room = omega (arith, ea, poured-fits H L k st (length p))

  pours_taken : a + b ≡ taken_of H k st p
  unfolding taken_of
  pours_taken =
      let b' : b ≡ poured H (k + a) (paste st k p a) (length p - a) = eb ∙ rw (rest, length-drop a p, e1) in
      ap (λ x. a + x) b' ∙ rw ea

  poured_twice : Pours H k st p a b st2
  poured_twice = record {
    taken = pours_taken;
    held = add_assoc k a b ∙ ap (λ x. k + x) pours_taken;
    store = e2 ∙ rw (rest, e1) (paste_paste st k p a b room most) ∙ ap (paste st k p) pours_taken;
    fits =
        let n : length st1 ≡ length st = ap length e1 ∙ paste_length st k p a room most in
        omega (arith, eb, room, most, poured-fits H L (k + a) st1 (length (take (length p - a) (drop a p))));
  }

-- so it is where each pour was of what the held bytes then needed
pub two_pours : (H : Head) (L : HeadLaw H) (k : ℕ) (st p : List ℕ) {x y : Result Holding Refusal} {a b : ℕ} {st1 st2 : List ℕ}
    → x ≡ held_of H k st → (a ≡ put_of k st p x) × (st1 ≡ paste st k p a)
    → y ≡ held_of H (k + a) st1 → (b ≡ put_of (k + a) st1 (take (length p - a) (drop a p)) y) × (st2 ≡ paste st1 (k + a) (take (length p - a) (drop a p)) b)
    → Pours H k st p a b st2
two_pours H L k st p {a = a} {b = b} {st1 = st1} {st2 = st2} ex e ey f =
    poured_twice H L k st p a b st1 st2 (put-poured H L k st p ex e.0) e.1 (put-poured H L (k + a) st1 _ ey f.0) f.1

-- ---- what is taken fits

module _ (H : Head) (L : HeadLaw H) (k : ℕ) (st p : List ℕ) where
  pub taken-most : taken_of H k st p ≤ length p
  unfolding taken_of poured
  taken-most = omega arith

  pub taken-fits : taken_of H k st p ≤ length st - k
  taken-fits =
      let a = poured H k st (length p) in
      let st1 = paste st k p a in
      let b = poured H (k + a) st1 (length (take (length p - a) (drop a p))) in
      let t = poured_twice H L k st p a b st1 _ refl refl refl refl in
      omega (arith, t.taken, t.fits)

  -- so the store is as long as it was
  pub after-length : length (store_after H k st p) ≡ length st
  after-length = paste_length st k p (taken_of H k st p) taken-fits taken-most
