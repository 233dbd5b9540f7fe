-- Which numbers a prelude gives, and where.
-- Assumes nothing.
use Rattle.std.specs.Prelude.{ℕ, ◌-◌, ◌≤◌, refl, ◌⊎◌, Bool, List, get_or, leb, ltb, Ok, Err}
use Rattle.std.proofs.Common.{zero-le, arith, sym, ◌∙◌, inl, inr}
use Rattle.std.proofs.Math.Path.{◌≡◌}
use Rattle.std.proofs.Math.Bool.{true, false, cond}
use Rattle.std.proofs.Math.ListN.{length}
use Rattle.refusal.specs.declared.Refusal.{Refusal}
use Rattle.codec.specs.Codec.{Res, ok, refuse, refusal}
use Rattle.codec.specs.CaseLaws.{by_le}
use Rattle.codec.specs.Refusals.{In}
use Rattle.codec.proofs.RefusalLaws.{gives_is}
use Rattle.codec.proofs.PlaceLaws.{within-is}
use Rattle.prelude.specs.Prelude.{Prelude, magic, is_version, prelude, said, prelude_numbers, prelude_of}
use Rattle.prelude.proofs.PreludeLaws.{is_magic, length_of, tests, prelude-few, prelude-is}
use Rattle.prelude.specs.declared.Stage.TheVariants.{Needs}

-- 10 is at the magic's first byte, 11 at the version, 12 at the length
abbrev pub Placed : Refusal → Type 0
Placed k = (k ≡ refusal 10 0) ⊎ ((k ≡ refusal 11 3) ⊎ (k ≡ refusal 12 4))

tests-refused : (a b c : Bool) (v n : ℕ) {k : Refusal} → tests a b c v n ≡ Err k → Placed k
tests-refused false b c v n {k} e = inl (let q : refusal 10 0 ≡ k = cc in sym q)
tests-refused true false c v n {k} e = inr (inl (let q : refusal 11 3 ≡ k = cc in sym q))
tests-refused true true false v n {k} e = inr (inr (let q : refusal 12 4 ≡ k = cc in sym q))
tests-refused true true true v n {k} e = absurd (let z : ◌≡◌ {A = ℕ} 0 1 = cc in omega arith)

module _ (s : List ℕ) {k : Refusal} (e : prelude_of s ≡ Err k) where
  -- what the verdict refuses is what the format refuses
  read-refused : prelude.codec.parse 0 s 0 ≡ refuse k
  unfolding prelude_of
  read-refused = go (ltb (length s) 8) (prelude.codec.parse 0 s 0) e
    where
      go : (b : Bool) (r : Res Prelude) → cond b (Ok (Needs (8 - length s))) (said r) ≡ Err k → r ≡ refuse k
      go true r e = let z : ◌≡◌ {A = ℕ} 0 1 = cc in absurd (omega arith)
      go false (ok p j) e = let z : ◌≡◌ {A = ℕ} 0 1 = cc in absurd (omega arith)
      go false (refuse j) e = let q : j ≡ k = cc in cc

  -- its number
  pub prelude-refuses : In prelude_numbers k.number
  unfolding prelude magic
  prelude-refuses = gives_is (In prelude_numbers) (prelude.refuses (In prelude_numbers) ((refl, refl), ((refl, refl), (refl, refl))) 0 s 0) read-refused

  -- its place is within what is given
  pub prelude-place : k.place ≤ length s
  prelude-place = within-is (prelude.inside 0 s 0 zero-le) read-refused

  -- and is the number's own
  pub prelude-placed : Placed k
  prelude-placed =
      by_le 8 (length s)
      (λ h. tests-refused (is_magic s) (is_version (get_or s 3 0)) (leb 100 (length_of s)) (get_or s 3 0) (length_of s) (sym (prelude-is s h _ _ _ refl refl refl) ∙ e))
      (λ h. absurd (let q = sym (prelude-few s h) ∙ e in let z : ◌≡◌ {A = ℕ} 0 1 = cc in omega arith))
