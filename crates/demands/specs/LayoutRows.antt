-- The rows of an edited layout: the same rows, each start moved by what was put in before it.
-- Assumes nothing.
use Rattle.std.specs.Prelude.{ℕ, suc, ◌≤◌, ◌≡◌, refl, Bool, false, cond, get_or, eqb}
use Rattle.std.proofs.Common.{arith, ◌∙◌}
use Rattle.std.proofs.Math.Path.{sym, ap, ap₂}
use mathlib.Core.List.{List, [], ◌∷◌, ◌++◌, map, map-append}
use Rattle.std.proofs.Math.ListN.{length}
use Rattle.codec.proofs.Format.{Format, tail-one, raw-edits, num-edits}
use Rattle.wire.specs.Formats.{Tests}
use Rattle.codec.proofs.EditLaws.{edits-still, edits-padded, edits-then, edits-named, edits-checked, edits-placed, edits-sized, TimesMoves, edits-times, edits-distinct, edits-boxed}
use Rattle.wire.specs.Formats.{section, Name, text_of, text, name}
use Rattle.table.specs.Table.{flat}
use Rattle.layout.specs.Layout.{Entry, Fields, RecordL, StructL, Label, LabelDef, Parts, to_layout, entry, fields, record_l, struct_l, label, label_def, parts, groups}
use Rattle.layout.specs.Rows.{head_row, row12, entry_row, name_row, field_rows, record_rows, struct_rows, label_row, label_def_rows, rows}

-- a row with its start moved by f; a field's row has none
abbrev pub move_row : (ℕ → ℕ) → List ℕ → List ℕ
move_row f [] = []
move_row f (k ∷ []) = k ∷ []
move_row f (k ∷ s ∷ r) = k ∷ cond (eqb k 11) s (f s) ∷ r

-- the numbers of a moved row: the same kind and length, and the start of a row that is no field moved
module _ (f : ℕ → ℕ) where
  pub move_kind : (r : List ℕ) → get_or (move_row f r) 0 0 ≡ get_or r 0 0
  move_kind [] = refl
  move_kind (k ∷ []) = refl
  move_kind (k ∷ s ∷ r) = refl

  pub move_length : (r : List ℕ) → get_or (move_row f r) 2 0 ≡ get_or r 2 0
  move_length [] = refl
  move_length (k ∷ []) = refl
  move_length (k ∷ s ∷ r) = refl

  pub move_start : (r : List ℕ) → 2 ≤ length r → eqb (get_or r 0 0) 11 ≡ false → get_or (move_row f r) 1 0 ≡ f (get_or r 1 0)
  move_start [] l e = absurd (omega arith)
  move_start (k ∷ []) l e = absurd (omega arith)
  move_start (k ∷ s ∷ r) l e = rw e refl

module _ {A : Type 0} (F : Format A false) (f : ℕ → ℕ) where
  abbrev Moved : List A → List A → Type 0
  Moved = TimesMoves F.codec F.law F.edits (tail-one false) f

  moved_length : (xs ys : List A) → Moved xs ys → length ys ≡ length xs
  moved_length [] [] m = refl
  moved_length [] (y ∷ ys) m = absurd m
  moved_length (x ∷ xs) [] m = absurd m
  moved_length (x ∷ xs) (y ∷ ys) m = ap suc (moved_length xs ys m.1)

  moved-map : (row : A → List ℕ) → ((x y : A) → F.edits.moves f x y → row y ≡ move_row f (row x)) → (xs ys : List A) → Moved xs ys → map row ys ≡ map (move_row f) (map row xs)
  moved-map row h [] [] m = refl
  moved-map row h [] (y ∷ ys) m = absurd m
  moved-map row h (x ∷ xs) [] m = absurd m
  moved-map row h (x ∷ xs) (y ∷ ys) m = ap₂ ◌∷◌ (h x y m.0) (moved-map row h xs ys m.1)

  moved_concat : (g : A → List (List ℕ)) → ((x y : A) → F.edits.moves f x y → g y ≡ map (move_row f) (g x)) → (xs ys : List A) → Moved xs ys
      → flat (map g ys) ≡ map (move_row f) (flat (map g xs))
  moved_concat g h [] [] m = refl
  moved_concat g h [] (y ∷ ys) m = absurd m
  moved_concat g h (x ∷ xs) [] m = absurd m
  moved_concat g h (x ∷ xs) (y ∷ ys) m = ap₂ ◌++◌ (h x y m.0) (moved_concat g h xs ys m.1) ∙ sym (map-append (move_row f) (g x) (flat (map g xs)))

module _ (tests : Tests) (D : ℕ) (f : ℕ → ℕ) where
  -- what moved of a name: its start; its text is the same
  name-is : (x y : Name) → (name tests).edits.moves f x y → (y.start ≡ f x.start) × (y.text ≡ x.text)
  unfolding name edits-named edits-then text text_of edits-sized edits-placed edits-checked raw-edits edits-still
  name-is x y m = m.0

  entry-is : (x y : Entry) → (entry tests D).edits.moves f x y → entry_row y ≡ move_row f (entry_row x)
  unfolding entry edits-named edits-padded
  entry-is x y m = ap head_row m

  fields-are : (x y : Fields) → (fields tests D).edits.moves f x y → (length y.entries ≡ length x.entries) × (field_rows y ≡ map (move_row f) (field_rows x))
  unfolding fields edits-named edits-sized edits-then edits-times
  fields-are x y m = (
    moved_length (entry tests D) f x.entries y.entries m.0,
    ap₂ ◌++◌ (moved-map (entry tests D) f entry_row entry-is x.entries y.entries m.0)
        (moved-map (name tests) f name_row (λ u v n. let q = name-is u v n in ap₂ row12 q.0 (ap length q.1)) x.names y.names m.1)
        ∙ sym (map-append (move_row f) (map entry_row x.entries) (map name_row x.names)),
  )

  record_is : (x y : RecordL) → (record_l tests D).edits.moves f x y → record_rows y ≡ map (move_row f) (record_rows x)
  unfolding record_l edits-named section edits-boxed edits-then num-edits edits-still
  record_is x y m =
      let (a, (b, (c, (h, (n, g))))) = m in
      let q = name-is x.name y.name n in
      let r = fields-are x.fields y.fields g in
      let t = ap length q.1 in
      ap₂ ◌∷◌ (rw (q.0, q.1, a, b, c, h, r.0)) r.1

  struct_is : (x y : StructL) → (struct_l tests D).edits.moves f x y → struct_rows y ≡ map (move_row f) (struct_rows x)
  unfolding struct_l edits-named section edits-boxed edits-then num-edits edits-still
  struct_is x y m =
      let (a, (n, g)) = m in
      let q = name-is x.name y.name n in
      let r = fields-are x.fields y.fields g in
      ap₂ ◌∷◌ (rw (q.0, q.1, a, r.0)) r.1

  label_is : (x y : Label) → (label tests).edits.moves f x y → label_row y ≡ move_row f (label_row x)
  unfolding label edits-named edits-then num-edits edits-still
  label_is x y m =
      let (a, n) = m in
      let q = name-is x.name y.name n in
      rw (q.0, q.1, a)

  label_def-is : (x y : LabelDef) → (label_def tests).edits.moves f x y → label_def_rows y ≡ map (move_row f) (label_def_rows x)
  unfolding label_def edits-named section edits-boxed edits-then edits-sized edits-distinct
  label_def-is x y m =
      let (n, g) = m in
      let q = name-is x.name y.name n in
      ap₂ ◌∷◌ (rw (q.0, q.1, moved_length (label tests) f x.labels y.labels g))
      (moved-map (label tests) f label_row label_is x.labels y.labels g)

  -- the rows of a layout whose places are moved by f
  pub rows_move : (x y : Parts) (r r' : List ℕ) → (parts tests D).edits.moves f x y → rows (to_layout (y, r')) ≡ map (move_row f) (rows (to_layout (x, r)))
  unfolding rows parts edits-then edits-sized edits-times groups
  rows_move x y r r' m =
      let (v, (a, (b, c))) = m in
      let A = moved_concat (record_l tests D) f record_rows record_is x.1.0 y.1.0 a in
      let B = moved_concat (struct_l tests D) f struct_rows struct_is x.1.1.0 y.1.1.0 b in
      let C = moved_concat (label_def tests) f label_def_rows label_def-is x.1.1.1 y.1.1.1 c in
      let rs = flat (map record_rows x.1.0) in
      let ss = flat (map struct_rows x.1.1.0) in
      ap₂ ◌++◌ (ap₂ ◌++◌ A B ∙ sym (map-append (move_row f) rs ss)) C ∙ sym (map-append (move_row f) (rs ++ ss) (flat (map label_def_rows x.1.1.1)))
