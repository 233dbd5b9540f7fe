-- What a reader of rows meets: names and sections. Assumes nothing.
use Prim.Native.Nat.{ℕ, zero, suc, ◌+◌, ◌-◌, ◌≤◌, ◌<◌}
use native.Mathlib.Omega.{arith}
use Rattle.std.specs.Prelude.{◌≡◌, false, length, take, drop, Ok, Err}
use Rattle.std.proofs.Math.Path.{refl, ap}
use Rattle.std.proofs.Common.{sym, ◌∙◌}
use mathlib.Core.List.{List, [], ◌∷◌, ◌++◌}
use Rattle.refusal.specs.declared.Refusal.{Refusal}
use Rattle.codec.specs.Codec.{Res, ok, refuse, moved, shifted, ◌>>=◌, Codec, named, times_parse}
use Rattle.codec.proofs.Format.{Format}
use Rattle.numbers.specs.Numbers.{part, Got}
use Rattle.table.specs.Table.{Out, all_rows, said, seq, on_got}
use Rattle.table.specs.StepLaws.{seq-ok, seq-no}
use Rattle.wire.specs.Formats.{Name, Tests, section}
use Rattle.wire.specs.Reader.{name_by, name_at, section_at}
use Rattle.wire.proofs.NameLaws.{name_of, name-is, name-place}
use Rattle.wire.specs.SectionLaws.{section_got, section-bad}

-- a name first
module _ (tests : Tests) {A : Type 0} (f : A → List (List ℕ)) (base : ℕ) (s : List ℕ) (at : ℕ) where
  pub said-name : (c : Name → ℕ → Res A) (o : ℕ → ℕ → Out)
      → ((x : Name) (len p : ℕ) → x.start ≡ base + (at + 1) → length x.text ≡ len → said f (c x p) ≡ o len p)
      → said f ((name_by tests).parse base s at >>= c) ≡ on_got (name_at tests s at) o
  said-name c o h = rw (name-is tests s at base) (go (name_at tests s at) refl)
    where
      go : (g : Got) → name_at tests s at ≡ g → said f (name_of base s at g >>= c) ≡ on_got g o
      go (Ok (len, p)) e = h (record { start = base + (at + 1); text = take len (drop (at + 1) s) }) len p refl (name-place tests s at e).2
      go (Err k) e = refl

-- ---- sections

-- n sections, by their rows
module _ {A B : Type 0} (F : Format A false) (to : A × List ℕ → B) (from : B → A × List ℕ) (f : B → List (List ℕ)) (same : (x : A) (r : List ℕ) → f (to (x, r)) ≡ f (to (x, []))) (s : List ℕ) where
  abbrev item : Codec B
  item = named to from (section F).codec

  pub parts-end : (n at : ℕ) → n ≤ 0 → said (all_rows f) (times_parse item n 0 s at) ≡ ok [] at
  parts-end zero at h = refl
  parts-end (suc n) at h = let z : ⊥ = omega arith in absurd z

  pub parts-run : (n at : ℕ) {b e : ℕ} → 0 < n → section_at s at ≡ Ok (b, e)
      → said (all_rows f) (times_parse item n 0 s at) ≡ seq (shifted b (said (λ x. f (to (x, []))) (F.codec.parse b (part s b e) 0))) (λ _. said (all_rows f) (times_parse item (n - 1) 0 s e))
  unfolding named
  parts-run zero at h q = let z : ⊥ = omega arith in absurd z
  parts-run (suc n) at {b} {e} h q = let k : suc n - 1 ≡ n = omega arith in rw (section_got F s at q, k) (go (F.codec.parse b (part s b e) 0))
    where
      tail : (x : A) (l : List ℕ) (r : Res (List B)) → said (all_rows f) (r >>= λ xs k. ok (to (x, l) ∷ xs) k) ≡ (said (all_rows f) r >>= λ qs p. ok (f (to (x, [])) ++ qs) p)
      tail x l (ok xs k) = ap (λ v. ok (v ++ all_rows f xs) k) (same x l)
      tail x l (refuse k) = refl

      go : (r : Res A)
          → said (all_rows f) (((◌>>=◌ {B = A × List ℕ} (shifted b r) λ x j. ok (x, drop j (part s b e)) e) >>= λ x j. ok (to x) j) >>= λ x j. times_parse item n 0 s j >>= λ xs k. ok (x ∷ xs) k)
          ≡ seq (shifted b (said (λ x. f (to (x, []))) r)) (λ _. said (all_rows f) (times_parse item n 0 s e))
      go (ok x j) = tail x (drop j (part s b e)) (times_parse item n 0 s e) ∙ sym (seq-ok (f (to (x, []))) j (λ _. said (all_rows f) (times_parse item n 0 s e)))
      go (refuse k) = sym (seq-no (moved b k) (λ _. said (all_rows f) (times_parse item n 0 s e)))

  pub parts-no : (n at : ℕ) {k : Refusal} → 0 < n → section_at s at ≡ Err k → said (all_rows f) (times_parse item n 0 s at) ≡ refuse k
  unfolding named
  parts-no zero at h q = let z : ⊥ = omega arith in absurd z
  parts-no (suc n) at h q = rw (section-bad F s at q)
