-- A section, exit by exit: its body is its own part of the slice. Assumes nothing.
use Rattle.std.specs.Prelude.{ℕ, ◌+◌, ◌-◌, ◌≤◌, ◌<◌, ◌≡◌, false, length, take, Ok, Err}
use Rattle.std.proofs.Common.{arith, sym, ap, ◌∙◌}
use Rattle.std.proofs.Math.Nat.{zero-add}
use Rattle.std.proofs.Math.Path.{refl}
use mathlib.Core.List.{List}
use Rattle.std.proofs.Math.ListN.{drop}
use borrow.Author.Tests.{le-leb, lt-leb}
use Rattle.refusal.specs.declared.Refusal.{Refusal}
use Rattle.codec.specs.Codec.{Res, ok, refuse, refusal, shifted, ◌>>=◌, raw, whole, boxed}
use Rattle.codec.proofs.Format as format
use Rattle.codec.proofs.Format.{Format}
use Rattle.codec.proofs.StepLaws.{raw_got, raw-bad}
use Rattle.codec.specs.CaseLaws.{by_le}
use Rattle.numbers.specs.Numbers.{u16_at, part, Got}
use Rattle.numbers.specs.NumberLaws.{num-is, u16-value, same_got}
use Rattle.wire.specs.Formats.{section}
use Rattle.wire.specs.Reader.{section_at, Lies, lies}

-- where a section lies
pub lies-mk : {s : List ℕ} {at b e : ℕ} → at ≤ b → b ≤ e → e ≤ length s → Lies s at (Ok (b, e))
lies-mk x y z = lies x y z

pub lies_at : {s : List ℕ} {at b e : ℕ} {r : Got} → Lies s at r → r ≡ Ok (b, e) → (at ≤ b) × (b ≤ e) × (e ≤ length s)
lies_at {s} {at} {b} {e} h q = go (rw q at h)
  where
    go : Lies s at (Ok (b, e)) → (at ≤ b) × (b ≤ e) × (e ≤ length s)
    go (lies x y z) = (x, y, z)

-- ---- each exit, for any contents

module _ {A : Type 0} (F : Format A false) (s : List ℕ) (at : ℕ) where
  short : {k : Refusal} → u16_at s at ≡ Err k → (section F).codec.parse 0 s at ≡ refuse k
  unfolding section boxed
  short e = rw (num-is 50 2 s at 0, e)

  module _ {len b : ℕ} (e : u16_at s at ≡ Ok (len, b)) where
    below : len < 2 → (section F).codec.parse 0 s at ≡ refuse (refusal 51 at)
    unfolding section boxed
    below h = rw (num-is 50 2 s at 0, e, lt-leb 2 len h)

    past_end : 2 ≤ len → length s < b + (len - 2) → (section F).codec.parse 0 s at ≡ refuse (refusal 50 b)
    unfolding section boxed
    past_end h i = rw (num-is 50 2 s at 0, e, le-leb 2 len h, raw-bad 50 (len - 2) 0 s b i)

    opened : 2 ≤ len → b + (len - 2) ≤ length s
        → (section F).codec.parse 0 s at ≡ (shifted b (F.codec.parse b (take (len - 2) (drop b s)) 0) >>= λ x j. ok (x, drop j (take (len - 2) (drop b s))) (b + (len - 2)))
    unfolding section boxed whole
    opened h i =
        rw (num-is 50 2 s at 0, e, le-leb 2 len h, raw_got 50 (len - 2) 0 s b i, zero-add b)
        (go (F.codec.parse b (take (len - 2) (drop b s)) 0) (take (len - 2) (drop b s)))
      where
        go : (r : Res A) (body : List ℕ) → (shifted b (◌>>=◌ {B = A × List ℕ} r λ x j. ok (x, drop j body) (length body)) >>= λ z _. ok z (b + (len - 2))) ≡ (◌>>=◌ {B = A × List ℕ} (shifted b r) λ x j. ok (x, drop j body) (b + (len - 2)))
        go (ok x j) body = refl
        go (refuse k) body = refl

-- ---- what the code of the reader meets

nothing : Format (List ℕ) false
nothing = format.raw 50 0

nothing_read : (b : ℕ) (t : List ℕ) → (raw 50 0).parse b t 0 ≡ ok (take 0 t) 0
nothing_read b t = raw_got 50 0 b t 0 (omega arith)

module _ (s : List ℕ) (at : ℕ) where
  pub section-short : {k : Refusal} → u16_at s at ≡ Err k → Err k ≡ section_at s at
  unfolding section_at nothing
  section-short e = rw (short nothing s at e)

  module _ {len b : ℕ} (e : u16_at s at ≡ Ok (len, b)) where
    pub section_51 : len < 2 → Err (refusal 51 at) ≡ section_at s at
    unfolding section_at nothing
    section_51 h = rw (below nothing s at e h)

    pub section_50 : 2 ≤ len → length s - b < len - 2 → Err (refusal 50 b) ≡ section_at s at
    unfolding section_at nothing
    section_50 h i = let w = u16-value s at e in rw (past_end nothing s at e h (omega arith))

    pub section-read : 2 ≤ len → len - 2 ≤ length s - b → Ok (b, b + (len - 2)) ≡ section_at s at
    unfolding section_at nothing
    section-read h i =
        let w = u16-value s at e in
        rw (opened nothing s at e h (omega arith), nothing_read b (take (len - 2) (drop b s))) (ap (λ n. Ok (n, b + (len - 2))) w.1)

-- ---- what a section that was found tells

-- a section's body is its own part of s
pub record Body (s : List ℕ) (at b e : ℕ) : Type 0 where
  pub len : ℕ
  pub number : u16_at s at ≡ Ok (len, b)
  pub two : 2 ≤ len
  pub end : e ≡ b + (len - 2)
  pub inside : e ≤ length s

-- a section is found, or refused whatever its contents
data Exit (s : List ℕ) (at : ℕ) : Type 1 where
  found : {b e : ℕ} → section_at s at ≡ Ok (b, e) → Body s at b e → Exit s at
  refused : {k : Refusal} → section_at s at ≡ Err k → ((A : Type 0) (F : Format A false) → (section F).codec.parse 0 s at ≡ refuse k) → Exit s at

exit : (s : List ℕ) (at : ℕ) → Exit s at
exit s at = go (u16_at s at) refl
  where
    go : (g : Got) → u16_at s at ≡ g → Exit s at
    go (Ok (len, b)) f =
        let w = u16-value s at f in
        by_le 2 len
        (λ h. by_le (len - 2) (length s - b)
        (λ i. found (sym (section-read s at f h i)) (record { len = len; number = f; two = h; end = refl; inside = omega arith }))
        (λ i. refused (sym (section_50 s at f h i)) (λ A F. past_end F s at f h (omega arith))))
        (λ h. refused (sym (section_51 s at f h)) (λ A F. below F s at f h))
    go (Err k) f = refused (sym (section-short s at f)) (λ A F. short F s at f)

pub section-of : (s : List ℕ) (at : ℕ) {b e : ℕ} → section_at s at ≡ Ok (b, e) → Body s at b e
section-of s at {b} {e} q = go (exit s at)
  where
    go : Exit s at → Body s at b e
    go (found {b = b'} {e = e'} f w) = let (x, y) = same_got (sym f ∙ q) in rw (← x, ← y) w
    go (refused f _) = let z = sym f ∙ q in absurd (let y : ◌≡◌ {A = ℕ} 0 1 = cc in omega arith)

module _ {A : Type 0} (F : Format A false) (s : List ℕ) (at : ℕ) where
  pub section_got : {b e : ℕ} → section_at s at ≡ Ok (b, e) → (section F).codec.parse 0 s at ≡ (shifted b (F.codec.parse b (part s b e) 0) >>= λ x j. ok (x, drop j (part s b e)) e)
  section_got {b} {e} q =
      let w = section-of s at q in
      let d : b + (w.len - 2) - b ≡ w.len - 2 = omega arith in
      rw (w.end, d) (opened F s at w.number w.two (omega (arith, w.end, w.inside)))

  pub section-bad : {k : Refusal} → section_at s at ≡ Err k → (section F).codec.parse 0 s at ≡ refuse k
  section-bad {k} q = go (exit s at)
    where
      go : Exit s at → (section F).codec.parse 0 s at ≡ refuse k
      go (found f _) = let z = sym f ∙ q in absurd (let y : ◌≡◌ {A = ℕ} 0 1 = cc in omega arith)
      go (refused {k = j} f h) = let z = sym f ∙ q in let x : j ≡ k = cc in h A F ∙ ap refuse x
