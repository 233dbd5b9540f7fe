-- What a field without fault is: it has a size, and ends at 65535 and in its place at the latest. Assumes nothing.
use Rattle.std.specs.Prelude.{ℕ, ◌≤◌, ◌<◌, min, ◌≡◌, Bool, true, false, not, ◌&&◌, cond, List, length, get_or, take, T, leb, ltb, eqb}
use Rattle.std.proofs.Math.Path.{refl}
use Rattle.std.proofs.Common.{sym, subst, ◌∙◌, length-take, get_or-take, arith}
use Rattle.codec.specs.CaseLaws.{by_le}
use Rattle.codec.specs.Codec.{Bytes}
use borrow.Author.Tests.{eq-eqb, eqb-false, ltb-false, leb-true, le-leb, lt-leb}
use Rattle.fields.specs.Sheet.{size_of, def_of, off_of, end_of, past_base, align_of}
use Rattle.fields.specs.Field.{fault_if, breaks71, breaks72, breaks73, breaks74, breaks76, breaks77, breaks79, breaks80, field_fault}

module _ (sheet : List ℕ) (width labels : ℕ) (aligns : List ℕ) (isRecord : Bool) (base : ℕ) where
  -- a verdict of 0: the rule holds, and so do the later ones
  peel : (b : Bool) (n x : ℕ) → eqb n 0 ≡ false → cond b n x ≡ 0 → x ≡ 0
  peel true n x m h = absurd (eqb-false n 0 m h)
  peel false n x m h = h

  -- a field without fault has a size
  pub fault-sized : (seen : Bool) (e : List ℕ) → field_fault sheet width labels aligns isRecord base seen e ≡ 0 → size_of e ≡ 0 → ⊥
  unfolding field_fault
  fault-sized seen e h z =
      eqb-false 75 0 refl
      (rw (eq-eqb (size_of e) 0 z) at
      (peel (breaks74 sheet aligns e) 74 _ refl
      (peel (breaks73 sheet (length aligns) labels e) 73 _ refl
      (peel (breaks72 sheet isRecord e) 72 _ refl
      (peel (breaks71 sheet seen e) 71 _ refl h)))))

  low : (b : Bool) → fault_if (not false && b) 80 0 ≡ 0 → b ≡ false
  low true h = absurd (eqb-false 80 0 refl h)
  low false h = refl

  -- 78, 79 and 80 hold
  last : (seen : Bool) (e : List ℕ) → field_fault sheet width labels aligns isRecord base seen e ≡ 0 → fault_if (ltb 65535 (end_of e)) 78 (fault_if (breaks79 sheet isRecord base e) 79 (fault_if (breaks80 isRecord base e) 80 0)) ≡ 0
  unfolding field_fault
  last seen e h =
      peel (breaks77 sheet width e) 77 _ refl
      (peel (breaks76 sheet e) 76 _ refl
      (peel (eqb (size_of e) 0) 75 _ refl
      (peel (breaks74 sheet aligns e) 74 _ refl
      (peel (breaks73 sheet (length aligns) labels e) 73 _ refl
      (peel (breaks72 sheet isRecord e) 72 _ refl
      (peel (breaks71 sheet seen e) 71 _ refl h))))))

  holds : (b : Bool) (n x : ℕ) → eqb n 0 ≡ false → cond b n x ≡ 0 → b ≡ false
  holds true n x m h = absurd (eqb-false n 0 m h)
  holds false n x m h = refl

  -- a field without fault ends at 65535 at the latest
  pub fault-small : (seen : Bool) (e : List ℕ) → field_fault sheet width labels aligns isRecord base seen e ≡ 0 → end_of e ≤ 65535
  fault-small seen e h = ltb-false 65535 (end_of e) (holds (ltb 65535 (end_of e)) 78 _ refl (last seen e h))

  -- and where it is not past the base, at the base at the latest
  pub fault-within : (seen : Bool) (e : List ℕ) → field_fault sheet width labels aligns isRecord base seen e ≡ 0 → past_base isRecord base e ≡ false → end_of e ≤ base
  unfolding breaks80
  fault-within seen e h p =
      ltb-false base (end_of e) (low (ltb base (end_of e)) (rw p at
      (peel (breaks79 sheet isRecord base e) 79 _ refl (peel (ltb 65535 (end_of e)) 78 _ refl (last seen e h)))))

-- an entry past the base starts at the base or after it
pub past-from : (isRecord : Bool) (base : ℕ) (e : List ℕ) → past_base isRecord base e ≡ true → base ≤ off_of e
unfolding past_base
past-from true base e h = leb-true base (off_of e) h
past-from false base e h = absurd (subst T (sym h) tt)

-- ---- no def index names a struct past the first n, where it is below n

module _ (aligns : List ℕ) (n : ℕ) (e : List ℕ) (small : def_of e < n) where
  length_cut : leb (length (take n aligns)) (def_of e) ≡ leb (length aligns) (def_of e)
  length_cut =
      let l : length (take n aligns) ≡ min n (length aligns) = simp length-take in
      by_le (length aligns) (def_of e)
      (λ h. le-leb (length (take n aligns)) (def_of e) (omega arith) ∙ sym (le-leb (length aligns) (def_of e) h))
      (λ h. lt-leb (length (take n aligns)) (def_of e) (omega arith) ∙ sym (lt-leb (length aligns) (def_of e) h))

  align-cut : (sheet : List ℕ) → align_of sheet (take n aligns) e ≡ align_of sheet aligns e
  unfolding align_of
  align-cut sheet = rw (get_or-take n aligns (def_of e) 0 small)

  -- so the alignments of the first n structs say as much of a field as all
  pub fault-cut : (sheet : List ℕ) (width labels : ℕ) (isRecord : Bool) (base : ℕ) (seen : Bool)
      → field_fault sheet width labels (take n aligns) isRecord base seen e ≡ field_fault sheet width labels aligns isRecord base seen e
  unfolding field_fault breaks73 breaks74
  fault-cut sheet width labels isRecord base seen = rw (length_cut, align-cut sheet)

-- a def index is two bytes
pub def_small : (e : List ℕ) → Bytes e → def_of e < 65536
unfolding def_of
def_small e b = let x = b 8 in let y = b 9 in omega arith
