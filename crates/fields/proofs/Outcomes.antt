-- Each way out of a function, as a law whose conclusion is headed by the definition: a need is then one call, with `(cc)` for the tests. Assumes nothing.
use Prim.Native.Nat.{ℕ, ◌%◌, ◌<◌, ◌≤◌}
use mathlib.Core.Path.{◌≡◌, refl, sym, ◌∙◌}
use mathlib.Core.Bool.{Bool, true, false, not, beq, ◌&&◌, cond}
use mathlib.Core.List.{List}
use lib.ListN.{length, get_or, get_or-eq_default}
use lib.Dec.{leb, eqb}
use borrow.Author.Tests.{lt-ltb, le-ltb, eq-eqb, ne_eqb}
use Rattle.std.specs.Prelude.{Option, Some, None}
use Rattle.codec.specs.Telling.{fault}
use Rattle.fields.specs.Sheet.{off_of, size_of, end_of, def_of, type_of, is_padding, is_struct, names_label, align_of, past_base, member_align}
use Rattle.fields.specs.Field.{differs, breaks71, breaks72, breaks73, breaks74, breaks76, breaks77, breaks79, breaks80, field_fault}

-- two bools that are not the same differ
pub differs-is : (a b : Bool) → not (beq a b) ≡ differs a b
differs-is true true = refl
differs-is true false = refl
differs-is false true = refl
differs-is false false = refl

module _ (sheet aligns e : List ℕ) (r : ℕ) where
  pub align-padding : is_padding sheet e ≡ true → r ≡ 1 → r ≡ align_of sheet aligns e
  unfolding align_of
  align-padding h q = rw h q

  pub align_struct : is_padding sheet e ≡ false → is_struct sheet e ≡ true → r ≡ get_or aligns (def_of e) 0 → r ≡ align_of sheet aligns e
  unfolding align_of
  align_struct h s q = rw (h, s) q

  pub align-missing : is_padding sheet e ≡ false → is_struct sheet e ≡ true → r ≡ 0 → length aligns ≤ def_of e → r ≡ align_of sheet aligns e
  unfolding align_of
  align-missing h s q l = rw (h, s) (q ∙ sym (get_or-eq_default aligns 0 l))

  pub align_natural : is_padding sheet e ≡ false → is_struct sheet e ≡ false → r ≡ get_or sheet (type_of e) 0 → r ≡ align_of sheet aligns e
  unfolding align_of
  align_natural h s q = rw (h, s) q

module _ (sheet : List ℕ) (structs labels : ℕ) (e : List ℕ) (r : Bool) where
  pub def_struct : is_struct sheet e ≡ true → r ≡ leb structs (def_of e) → r ≡ breaks73 sheet structs labels e
  unfolding breaks73
  def_struct h q = rw h q

  pub def_label : is_struct sheet e ≡ false → r ≡ (names_label sheet e && leb labels (def_of e)) → r ≡ breaks73 sheet structs labels e
  unfolding breaks73
  def_label h q = rw h q

module _ (sheet aligns e : List ℕ) (r : Bool) where
  pub aligned_any : align_of sheet aligns e ≤ 1 → r ≡ false → r ≡ breaks74 sheet aligns e
  unfolding breaks74
  aligned_any h q = rw (le-ltb 1 (align_of sheet aligns e) h) q

  pub aligned_by : 1 < align_of sheet aligns e → r ≡ not (eqb (off_of e % align_of sheet aligns e) 0) → r ≡ breaks74 sheet aligns e
  unfolding breaks74
  aligned_by h q = rw (lt-ltb 1 (align_of sheet aligns e) h) q

-- rules 71 to 80 in a row: `fault73` is the way out where 71 and 72 hold and 73 is broken
module _ (sheet : List ℕ) (width labels : ℕ) (aligns : List ℕ) (isRecord : Bool) (base : ℕ) (seen : Bool) (e : List ℕ) where
  abbrev F : ℕ
  F = field_fault sheet width labels aligns isRecord base seen e

  pub fault71 : breaks71 sheet seen e ≡ true → ◌≡◌ {A = Option ℕ} (Some 71) (fault F)
  unfolding field_fault fault
  fault71 h71 = rw (h71)

  pub fault72 : breaks71 sheet seen e ≡ false → breaks72 sheet isRecord e ≡ true → ◌≡◌ {A = Option ℕ} (Some 72) (fault F)
  unfolding field_fault fault
  fault72 h71 h72 = rw (h71, h72)

  pub fault73 : breaks71 sheet seen e ≡ false → breaks72 sheet isRecord e ≡ false → breaks73 sheet (length aligns) labels e ≡ true → ◌≡◌ {A = Option ℕ} (Some 73) (fault F)
  unfolding field_fault fault
  fault73 h71 h72 h73 = rw (h71, h72, h73)

  pub fault74 : breaks71 sheet seen e ≡ false → breaks72 sheet isRecord e ≡ false → breaks73 sheet (length aligns) labels e ≡ false → breaks74 sheet aligns e ≡ true → ◌≡◌ {A = Option ℕ} (Some 74) (fault F)
  unfolding field_fault fault
  fault74 h71 h72 h73 h74 = rw (h71, h72, h73, h74)

  pub fault75 : breaks71 sheet seen e ≡ false → breaks72 sheet isRecord e ≡ false → breaks73 sheet (length aligns) labels e ≡ false → breaks74 sheet aligns e ≡ false → size_of e ≡ 0 → ◌≡◌ {A = Option ℕ} (Some 75) (fault F)
  unfolding field_fault fault
  fault75 h71 h72 h73 h74 h75 = rw (h71, h72, h73, h74, eq-eqb (size_of e) 0 h75)

  pub fault76 : breaks71 sheet seen e ≡ false → breaks72 sheet isRecord e ≡ false → breaks73 sheet (length aligns) labels e ≡ false → breaks74 sheet aligns e ≡ false → (size_of e ≡ 0 → ⊥) → breaks76 sheet e ≡ true → ◌≡◌ {A = Option ℕ} (Some 76) (fault F)
  unfolding field_fault fault
  fault76 h71 h72 h73 h74 h75 h76 = rw (h71, h72, h73, h74, ne_eqb (size_of e) 0 h75, h76)

  pub fault77 : breaks71 sheet seen e ≡ false → breaks72 sheet isRecord e ≡ false → breaks73 sheet (length aligns) labels e ≡ false → breaks74 sheet aligns e ≡ false → (size_of e ≡ 0 → ⊥) → breaks76 sheet e ≡ false → breaks77 sheet width e ≡ true → ◌≡◌ {A = Option ℕ} (Some 77) (fault F)
  unfolding field_fault fault
  fault77 h71 h72 h73 h74 h75 h76 h77 = rw (h71, h72, h73, h74, ne_eqb (size_of e) 0 h75, h76, h77)

  pub fault78 : breaks71 sheet seen e ≡ false → breaks72 sheet isRecord e ≡ false → breaks73 sheet (length aligns) labels e ≡ false → breaks74 sheet aligns e ≡ false → (size_of e ≡ 0 → ⊥) → breaks76 sheet e ≡ false → breaks77 sheet width e ≡ false → 65535 < end_of e → ◌≡◌ {A = Option ℕ} (Some 78) (fault F)
  unfolding field_fault fault
  fault78 h71 h72 h73 h74 h75 h76 h77 h78 = rw (h71, h72, h73, h74, ne_eqb (size_of e) 0 h75, h76, h77, lt-ltb 65535 (end_of e) h78)

  pub fault79 : breaks71 sheet seen e ≡ false → breaks72 sheet isRecord e ≡ false → breaks73 sheet (length aligns) labels e ≡ false → breaks74 sheet aligns e ≡ false → (size_of e ≡ 0 → ⊥) → breaks76 sheet e ≡ false → breaks77 sheet width e ≡ false → end_of e ≤ 65535 → breaks79 sheet isRecord base e ≡ true → ◌≡◌ {A = Option ℕ} (Some 79) (fault F)
  unfolding field_fault fault
  fault79 h71 h72 h73 h74 h75 h76 h77 h78 h79 = rw (h71, h72, h73, h74, ne_eqb (size_of e) 0 h75, h76, h77, le-ltb 65535 (end_of e) h78, h79)

  pub fault80 : breaks71 sheet seen e ≡ false → breaks72 sheet isRecord e ≡ false → breaks73 sheet (length aligns) labels e ≡ false → breaks74 sheet aligns e ≡ false → (size_of e ≡ 0 → ⊥) → breaks76 sheet e ≡ false → breaks77 sheet width e ≡ false → end_of e ≤ 65535 → breaks79 sheet isRecord base e ≡ false → breaks80 isRecord base e ≡ true → ◌≡◌ {A = Option ℕ} (Some 80) (fault F)
  unfolding field_fault fault
  fault80 h71 h72 h73 h74 h75 h76 h77 h78 h79 h80 = rw (h71, h72, h73, h74, ne_eqb (size_of e) 0 h75, h76, h77, le-ltb 65535 (end_of e) h78, h79, h80)

  pub fault-none : breaks71 sheet seen e ≡ false → breaks72 sheet isRecord e ≡ false → breaks73 sheet (length aligns) labels e ≡ false → breaks74 sheet aligns e ≡ false → (size_of e ≡ 0 → ⊥) → breaks76 sheet e ≡ false → breaks77 sheet width e ≡ false → end_of e ≤ 65535 → breaks79 sheet isRecord base e ≡ false → breaks80 isRecord base e ≡ false → ◌≡◌ {A = Option ℕ} None (fault F)
  unfolding field_fault fault
  fault-none h71 h72 h73 h74 h75 h76 h77 h78 h79 h80 = rw (h71, h72, h73, h74, ne_eqb (size_of e) 0 h75, h76, h77, le-ltb 65535 (end_of e) h78, h79, h80)

module _ (sheet e : List ℕ) (r : ℕ) where
  pub member_padding : is_padding sheet e ≡ true → r ≡ 1 → r ≡ member_align sheet e
  unfolding member_align
  member_padding h q = rw h q

  pub member_struct : is_padding sheet e ≡ false → is_struct sheet e ≡ true → r ≡ 1 → r ≡ member_align sheet e
  unfolding member_align
  member_struct h s q = rw (h, s) q

  pub member_natural : is_padding sheet e ≡ false → is_struct sheet e ≡ false → r ≡ get_or sheet (type_of e) 0 → r ≡ member_align sheet e
  unfolding member_align
  member_natural h s q = rw (h, s) q
