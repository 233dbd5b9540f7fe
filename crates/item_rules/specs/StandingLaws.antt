-- What lies within its slice, by test and by law. Assumes nothing.
use Rattle.std.specs.Prelude.{ℕ, zero, suc, ◌≡◌, refl, Bool, true, false, List}
use Rattle.std.proofs.Common.{ltb-true, leb-true, lt-ltb, le-leb}
use Rattle.codec.specs.CaseLaws.{both_true}
use Rattle.item_rules.specs.declared.Place.{Place}
use Rattle.item_rules.specs.Items.{SectionInside, RowInside, InsideAt, next_at, Stand, Good}
use Rattle.item_rules.specs.Standing.{section_lies, row_lies, lies_at, stand_by, stands}

-- ---- one

pub lies-section : (isRecord : Bool) (s : List ℕ) (at : ℕ) → section_lies isRecord s at ≡ true → SectionInside isRecord s at
unfolding section_lies
lies-section isRecord s at e = let (a, b) = both_true _ _ e in record { fields = leb-true _ _ a; inside = leb-true _ _ b }

pub section-lies : (isRecord : Bool) (s : List ℕ) (at : ℕ) → SectionInside isRecord s at → section_lies isRecord s at ≡ true
unfolding section_lies
section-lies isRecord s at v = rw (le-leb _ _ v.fields, le-leb _ _ v.inside)

pub lies-row : (isRecord : Bool) (t : List ℕ) (q : ℕ) → row_lies isRecord t q ≡ true → RowInside isRecord t q
unfolding row_lies
lies-row isRecord t q e =
    let (a, f) = both_true _ _ e in
    let (b, c) = both_true _ _ f in
    record { rtype = ltb-true _ _ a; base = ltb-true _ _ b; inside = leb-true _ _ c }

pub row_lies_lem : (isRecord : Bool) (t : List ℕ) (q : ℕ) → RowInside isRecord t q → row_lies isRecord t q ≡ true
unfolding row_lies
row_lies_lem isRecord t q v = rw (lt-ltb _ _ v.rtype, lt-ltb _ _ v.base, le-leb _ _ v.inside)

-- a test that fails where what it tests cannot be
pub fails : (b : Bool) → (b ≡ true → ⊥) → false ≡ b
fails true n = absurd (n refl)
fails false n = refl

-- ---- all

module _ (isRecord : Bool) (l t : List ℕ) where
  pub lies-inside : (rows : Bool) (at : ℕ) → lies_at isRecord l t rows at ≡ true → InsideAt isRecord l t rows at
  lies-inside true at e = lies-row isRecord t at e
  lies-inside false at e = lies-section isRecord l at e

  inside-lies : (rows : Bool) (at : ℕ) → InsideAt isRecord l t rows at → lies_at isRecord l t rows at ≡ true
  inside-lies true at v = row_lies_lem isRecord t at v
  inside-lies false at v = section-lies isRecord l at v

  all-stand : (rows : Bool) (at n : ℕ) → stand_by isRecord l t rows at n ≡ true → Stand isRecord l t rows at n
  all-stand rows at zero e = tt
  all-stand rows at (suc n) e = let (a, b) = both_true _ _ e in (lies-inside rows at a, all-stand rows (next_at isRecord l t rows at) n b)

  stand-all : (rows : Bool) (at n : ℕ) → Stand isRecord l t rows at n → stand_by isRecord l t rows at n ≡ true
  stand-all rows at zero v = refl
  stand-all rows at (suc n) v = rw (inside-lies rows at v.0, stand-all rows (next_at isRecord l t rows at) n v.1)

module _ (l t : List ℕ) (isRecord : Bool) (p : Place) where
  pub stands_good : stands l t isRecord p ≡ true → Good l t isRecord p
  unfolding stands Good
  stands_good e = all-stand isRecord l t p.rows p.at p.left e

  pub good-stands : Good l t isRecord p → stands l t isRecord p ≡ true
  unfolding stands Good
  good-stands v = stand-all isRecord l t p.rows p.at p.left v
