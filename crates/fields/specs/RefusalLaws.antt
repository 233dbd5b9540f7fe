-- Which numbers a field gives.
-- Assumes nothing.
use Rattle.std.specs.Prelude.{ℕ, Bool, List, length, ltb, eqb}
use Rattle.std.proofs.Math.Path.{refl}
use Rattle.std.proofs.Math.Bool.{true, false}
use Rattle.codec.specs.Refusals.{In, Fault}
use Rattle.fields.specs.Sheet.{size_of, end_of}
use Rattle.fields.specs.Field.{fault_if, field_numbers, breaks71, breaks72, breaks73, breaks74, breaks76, breaks77, breaks79, breaks80, field_fault}

module _ (P : ℕ → Type 0) (h : (k : ℕ) → In field_numbers k → P k) where
  pub field_fault_lem : (sheet : List ℕ) (width labels : ℕ) (aligns : List ℕ) (isRecord : Bool) (base : ℕ) (seen : Bool) (e : List ℕ)
      → Fault P (field_fault sheet width labels aligns isRecord base seen e)
  unfolding field_fault
  field_fault_lem sheet width labels aligns isRecord base seen e =
      go (breaks71 sheet seen e) (breaks72 sheet isRecord e) (breaks73 sheet (length aligns) labels e) (breaks74 sheet aligns e) (eqb (size_of e) 0)
      (breaks76 sheet e) (breaks77 sheet width e) (ltb 65535 (end_of e)) (breaks79 sheet isRecord base e) (breaks80 isRecord base e)
    where
      go : (a b c d e f g i j k : Bool)
          → Fault P (fault_if a 71 (fault_if b 72 (fault_if c 73 (fault_if d 74 (fault_if e 75 (fault_if f 76 (fault_if g 77 (fault_if i 78 (fault_if j 79 (fault_if k 80 0))))))))))
      go true b c d e f g i j k n = h 71 refl
      go false true c d e f g i j k n = h 72 refl
      go false false true d e f g i j k n = h 73 refl
      go false false false true e f g i j k n = h 74 refl
      go false false false false true f g i j k n = h 75 refl
      go false false false false false true g i j k n = h 76 refl
      go false false false false false false true i j k n = h 77 refl
      go false false false false false false false true j k n = h 78 refl
      go false false false false false false false false true k n = h 79 refl
      go false false false false false false false false false true n = h 80 refl
      go false false false false false false false false false false n = absurd (n refl)
