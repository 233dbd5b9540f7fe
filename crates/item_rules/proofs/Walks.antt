-- What one step from item to item does, over plain lists. Assumes nothing.
use Prim.Native.Nat.{ℕ, zero, suc, ◌+◌, ◌-◌, ◌*◌, ◌/◌, ◌≤◌, ◌<◌}
use mathlib.Core.Path.{◌≡◌, refl, sym, ap, ap₂, ◌∙◌, subst}
use mathlib.Core.Bool.{Bool, true, false, cond}
use mathlib.Core.List.{List, ◌∷◌}
use native.Mathlib.Omega.{arith}
use lib.ListN.{length, get_or}
use lib.Dec.{leb, lit<, lit≤}
use borrow.Author.Tests.{le-leb, lt-leb}
use Rattle.codec.specs.CaseLaws.{by_le}
use Rattle.numbers.specs.Numbers.{le16}
use Rattle.layout.specs.LayoutOf.{D, D-least}
use Rattle.rows_check.specs.Tree.{cell, next_section}
use Rattle.item_rules.specs.declared.Place.{Place}
use Rattle.item_rules.specs.declared.Item.{Item}
use Rattle.std.specs.Prelude.{Some, None}
use Rattle.item_rules.specs.Entries.{InSlice}
use Rattle.item_rules.specs.RowLaws.{next-is}
use Rattle.item_rules.specs.Items.{column, kind_of, item_seq, count_in, section_item, SectionInside, fields_in, row_item, RowInside, item_at, next_at, InsideAt, seqs_by, Stand, end_by, seqs_from, end_from, Good, Stepped, found, ended}
use Rattle.item_rules.specs.Standing.{section_lies, row_lies, lies_at, stand_by, stands, Reached}
use Rattle.item_rules.specs.StandingLaws.{lies-section, section-lies, lies-row, row_lies_lem, lies-inside, fails}

-- ---- sections

columns : (b : Bool) → (column b 6 2 + 2 ≤ column b 16 4) × (4 ≤ column b 16 4)
columns true = (omega arith, omega arith)
columns false = (omega arith, omega arith)

module _ {isRecord : Bool} {l : List ℕ} {at : ℕ} (h : SectionInside isRecord l at) where
  -- every number that is read of a section lies within it
  pub section_bounds : (at + 4 ≤ length l) × (at + column isRecord 6 2 + 2 ≤ length l) × (at + column isRecord 16 4 < length l) × (count_in isRecord l at + 2 ≤ length l)
  section_bounds = let c = columns isRecord in (omega (arith, h.fields, h.inside), omega (arith, h.fields, h.inside), omega (arith, h.fields, h.inside), omega (arith, h.fields, h.inside))

pub section-item-is : (isRecord : Bool) (l : List ℕ) (at : ℕ) {rt base c w n d : ℕ} → rt ≡ cond isRecord (le16 l (at + 2)) 0 → base ≡ le16 l (at + column isRecord 6 2)
    → c ≡ column isRecord 16 4 → w ≡ get_or l (at + c) 0 → n ≡ le16 l (at + c + w + 2) → d ≡ D
    → record { rtype = rt; base = base; entries = record { rows = false; step = d; at = at + c + w + 2 + 2; count = n } } ≡ section_item isRecord l at
unfolding section_item
section-item-is isRecord l at {rt} {base} {c} {w} {n} {d} a b e f g k =
    let p : at + c + w + 2 ≡ count_in isRecord l at = rw (f, e) in
    rw (g, a, b, k, p)

-- ---- rows

low : (b : Bool) (x y : ℕ) → x < 9 → y < 9 → column b x y < 9
low true x y h g = h
low false x y h g = g

-- every number that is read of a row is one of nine
pub row-columns : (b : Bool) → (column b 5 3 < 9) × (column b 6 4 < 9)
row-columns b = (low b 5 3 (lit< tt) (lit< tt), low b 6 4 (lit< tt) (lit< tt))

-- the rows of an item lie within the table
pub row_bounds : {isRecord : Bool} {t : List ℕ} {q : ℕ} → RowInside isRecord t q → 9 * (q + 1 + fields_in isRecord t q + fields_in isRecord t q) ≤ length t
row_bounds {isRecord} {t} {q} h = omega (arith, h.inside, next-is isRecord t q)

pub row-item-is : (isRecord : Bool) (t : List ℕ) (q : ℕ) {rt base n : ℕ} → rt ≡ cond isRecord (cell t q 3) 0 → base ≡ cell t q (column isRecord 5 3) → n ≡ fields_in isRecord t q
    → record { rtype = rt; base = base; entries = record { rows = true; step = 9; at = 9 * q + 9; count = n } } ≡ row_item isRecord t q
unfolding row_item
row-item-is isRecord t q a b e = rw (a, b, e)

pub row_next : (isRecord : Bool) (t : List ℕ) (q : ℕ) {n : ℕ} → n ≡ fields_in isRecord t q → q + 1 + n + n ≡ next_section (kind_of isRecord) t q
row_next isRecord t q e = rw e (sym (next-is isRecord t q))

-- ---- both

module _ (l t : List ℕ) (isRecord : Bool) (small : length l < 18446744073709551616) (few : length t < 18446744073709551616) where
  room_at : (rows : Bool) (at : ℕ) → InsideAt isRecord l t rows at → InSlice l t (item_at isRecord l t rows at).entries
  unfolding row_item section_item
  room_at true at v = record { least = lit≤ tt; inside = omega (arith, row_bounds v); small = omega (arith, row_bounds v) }
  room_at false at v = record { least = D-least; inside = omega (arith, v.fields, v.inside); small = omega (arith, v.fields, v.inside) }

module _ (l t : List ℕ) (isRecord : Bool) (p : Place) where
  pub item-end : p.left ≡ 0 → Stepped l t isRecord p None
  unfolding seqs_from
  item-end z = ended (rw z)

  module _ (good : Good l t isRecord p) (more : p.left ≡ 0 → ⊥) where
    abbrev next : ℕ
    next = next_at isRecord l t p.rows p.at

    standing : InsideAt isRecord l t p.rows p.at × Stand isRecord l t p.rows next (p.left - 1)
    unfolding Good
    standing = go p.left more good
      where
        go : (n : ℕ) → (n ≡ 0 → ⊥) → Stand isRecord l t p.rows p.at n → InsideAt isRecord l t p.rows p.at × Stand isRecord l t p.rows next (n - 1)
        go zero m g = absurd (m refl)
        go (suc n) m g = let q : n ≡ suc n - 1 = omega arith in (g.0, subst (λ (k : ℕ). Stand isRecord l t p.rows next k) q g.1)

    pub item-inside : InsideAt isRecord l t p.rows p.at
    item-inside = standing.0

    pub item-step : {i : Item} → i ≡ item_at isRecord l t p.rows p.at → i.base < 65536 → {a : ℕ} → a ≡ next
        → length l < 18446744073709551616 → length t < 18446744073709551616 → Stepped l t isRecord p (Some (i, record { rows = p.rows; at = a; left = p.left - 1 }))
    unfolding seqs_from Good
    item-step {i} e b {a} q small few = found {i = i} {p' = record { rows = p.rows; at = a; left = p.left - 1 }} (record {
      seqs = rw (e, q) (go p.left more);
      good = rw q standing.1;
      room = rw e (room_at l t isRecord small few p.rows p.at standing.0);
      base = b;
    })
      where
        go : (n : ℕ) → (n ≡ 0 → ⊥) → seqs_by isRecord l t p.rows p.at n ≡ item_seq l t (item_at isRecord l t p.rows p.at) ∷ seqs_by isRecord l t p.rows next (n - 1)
        go zero m = absurd (m refl)
        go (suc n) m = let q : n ≡ suc n - 1 = omega arith in ap (λ (k : ℕ). item_seq l t (item_at isRecord l t p.rows p.at) ∷ seqs_by isRecord l t p.rows next k) q

-- ---- whether they lie in their slice

pub wider : (b : Bool) → column b 20 8 ≡ column b 16 4 + 4
wider true = refl
wider false = refl

module _ (isRecord : Bool) (l : List ℕ) (at : ℕ) {size : ℕ} (es : size ≡ le16 l at) where
  -- a section that is longer than what is left, or shorter than what it holds
  pub section-over : length l - at < size → false ≡ section_lies isRecord l at
  section-over h = fails _ (λ e. let v = lies-section isRecord l at e in omega (arith, v.inside))

  pub section_under : {n : ℕ} → n ≡ column isRecord 20 8 → size < n → false ≡ section_lies isRecord l at
  section_under e h = fails _ (λ f. let v = lies-section isRecord l at f in let c = wider isRecord in omega (arith, v.fields))

  module _ (ls : size ≤ length l - at) {n : ℕ} (en : n ≡ column isRecord 20 8) (least : n ≤ size) {c : ℕ} (ec : c ≡ column isRecord 16 4) where
    -- what is read of it is there
    pub section-room : at + c + 4 ≤ length l
    section-room = let w = wider isRecord in omega arith

    module _ {w : ℕ} (ew : w ≡ get_or l (at + c) 0) where
      ended_at : at + (c + w + 4) ≡ count_in isRecord l at + 2
      ended_at = let a : w ≡ get_or l (at + column isRecord 16 4) 0 = rw ec at ew in omega arith

      pub section-short : size < c + w + 4 → false ≡ section_lies isRecord l at
      section-short h = fails _ (λ f. let v = lies-section isRecord l at f in let p = ended_at in omega (arith, v.fields))

      pub section-is : {h d : ℕ} → h ≡ le16 l (at + (c + w + 4) - 2) → d ≡ D → leb (c + w + 4 + d * h) size ≡ section_lies isRecord l at
      section-is {h} {d} eh ed =
          let p = ended_at in
          let x : at + (c + w + 4) - 2 ≡ count_in isRecord l at = omega arith in
          let y : h ≡ le16 l (count_in isRecord l at) = eh ∙ ap (le16 l) x in
          let z : D * le16 l (count_in isRecord l at) ≡ d * h = ap₂ ◌*◌ (sym ed) (sym y) in
          by_le (c + w + 4 + d * h) size
          (λ a. le-leb _ _ a ∙ sym (section-lies isRecord l at (record { fields = omega arith; inside = let q = wider isRecord in omega arith })))
          (λ a. lt-leb _ _ a ∙ fails _ (λ f. let v = lies-section isRecord l at f in omega (arith, v.fields)))

module _ (isRecord : Bool) (t : List ℕ) (q : ℕ) where
  pub row_out : length t / 9 ≤ q → false ≡ row_lies isRecord t q
  row_out h = fails _ (λ e. let v = row_bounds (lies-row isRecord t q e) in omega arith)

  pub row-rtype : {x : ℕ} → x ≡ cond isRecord (cell t q 3) 0 → 65535 < x → false ≡ row_lies isRecord t q
  row-rtype e h = fails _ (λ f. let v = (lies-row isRecord t q f).rtype in omega arith)

  pub row-base : {x : ℕ} → x ≡ cell t q (column isRecord 5 3) → 65535 < x → false ≡ row_lies isRecord t q
  row-base e h = fails _ (λ f. let v = (lies-row isRecord t q f).base in omega arith)

  pub row_is : {x y k : ℕ} → x ≡ cond isRecord (cell t q 3) 0 → x ≤ 65535 → y ≡ cell t q (column isRecord 5 3) → y ≤ 65535 → k ≡ fields_in isRecord t q
      → leb (q + 1 + k + k) (length t / 9) ≡ row_lies isRecord t q
  row_is {k = k} ex hx ey hy ek =
      let n = next-is isRecord t q in
      by_le (q + 1 + k + k) (length t / 9)
      (λ a. le-leb _ _ a ∙ sym (row_lies_lem isRecord t q (record { rtype = omega arith; base = omega arith; inside = omega arith })))
      (λ a. lt-leb _ _ a ∙ fails _ (λ f. let v = row_bounds (lies-row isRecord t q f) in omega arith))

-- ---- the place after all of them

module _ (l t : List ℕ) (isRecord rows : Bool) where
  -- of n items from `at` on `left` are yet to come, from p on
  pub record Reaching (at n p left : ℕ) : Type 0 where
    pub stand : stand_by isRecord l t rows at n ≡ stand_by isRecord l t rows p left
    pub end : end_by isRecord l t rows at n ≡ end_by isRecord l t rows p left

  module _ {at n p left : ℕ} (v : Reaching at n p left) where
    pub reach-on : 0 < left → lies_at isRecord l t rows p ≡ true → {w : ℕ} → w ≡ next_at isRecord l t rows p → Reaching at n w (left - 1)
    reach-on h b e = rw e (go left h v.stand v.end)
      where
        go : (m : ℕ) → 0 < m → stand_by isRecord l t rows at n ≡ stand_by isRecord l t rows p m → end_by isRecord l t rows at n ≡ end_by isRecord l t rows p m → Reaching at n (next_at isRecord l t rows p) (m - 1)
        go zero h g q = absurd (let z : ⊥ = omega arith in z)
        go (suc m) h g q = let k : suc m - 1 ≡ m = omega arith in rw k (record { stand = rw b at g; end = q })

    pub reach-inside : lies_at isRecord l t rows p ≡ true → InsideAt isRecord l t rows p
    reach-inside b = lies-inside isRecord l t rows p b

    pub reach-out : 0 < left → lies_at isRecord l t rows p ≡ false → stand_by isRecord l t rows at n ≡ false
    reach-out h b = go left h v.stand
      where
        go : (m : ℕ) → 0 < m → stand_by isRecord l t rows at n ≡ stand_by isRecord l t rows p m → stand_by isRecord l t rows at n ≡ false
        go zero h g = absurd (let z : ⊥ = omega arith in z)
        go (suc m) h g = rw b at g

    pub reach-done : left ≤ 0 → (stand_by isRecord l t rows at n ≡ true) × (p ≡ end_by isRecord l t rows at n)
    reach-done h = go left h v.stand v.end
      where
        go : (m : ℕ) → m ≤ 0 → stand_by isRecord l t rows at n ≡ stand_by isRecord l t rows p m → end_by isRecord l t rows at n ≡ end_by isRecord l t rows p m
            → (stand_by isRecord l t rows at n ≡ true) × (p ≡ end_by isRecord l t rows at n)
        go zero h g q = (g, sym q)
        go (suc m) h g q = absurd (let z : ⊥ = omega arith in z)

module _ (l t : List ℕ) (isRecord : Bool) (p : Place) where
  pub reached_out : stand_by isRecord l t p.rows p.at p.left ≡ false → Reached l t isRecord p None
  unfolding stands
  reached_out e = e

  pub reached_all : {a : ℕ} → (stand_by isRecord l t p.rows p.at p.left ≡ true) × (a ≡ end_by isRecord l t p.rows p.at p.left) → Reached l t isRecord p (Some a)
  unfolding stands end_from
  reached_all (e, f) = (e, f)
