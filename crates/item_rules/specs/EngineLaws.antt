-- 81 to 83 by marks: what the search and the walk over sorted entries say, for every sequence of fields, number included.
-- Assumes nothing.
use Rattle.std.specs.Prelude.{ℕ, ◌-◌, ◌<◌, ◌≡◌, Bool, ◌↔◌}
use Rattle.std.proofs.Common.{zero-le, arith, lit<, eq-eqb}
use Rattle.std.proofs.Math.Bool.{true, false}
use mathlib.Core.List.{List, [], ◌∷◌}
use Rattle.codec.specs.Codec.{among}
use Rattle.codec.specs.CaseLaws.{by_bool, by_eqb}
use Rattle.fields.specs.Sheet.{id_of, off_of, size_of, end_of, past_base}
use Rattle.fields.specs.Field.{field_fault}
use Rattle.fields.specs.FieldLaws.{fault-sized, fault-small, fault-within, past-from}
use Rattle.plain_tiling.specs.Plain.{base_by_marks, ext_by_marks}
use Rattle.plain_tiling.specs.Owners.{owners, Tiled, Placed}
use Rattle.plain_tiling.proofs.MarkingLaws.{placed-wide}
use Rattle.plain_tiling.proofs.PlainLaws.{base-walk, ext_walk, base_means, ext_means}
use Rattle.item_rules.specs.Rules.{Seq, first, noted, spans, base_fault, ext_fault, tiling_fault, fields_fault, seq_fault}
use Rattle.item_rules.specs.RuleLaws.{halves}
use Rattle.item_rules.specs.Engines.{Passed, Markable, EndBelow, Tiles, seq_by_marks}

module _ {isRecord : Bool} {base : ℕ} where
  pub markable_all : {es : List (List ℕ)} → Passed isRecord base es → {n : ℕ} → n ≡ 65536 → Markable n isRecord base es
  markable_all {es} i e = rw e (record {
    low = record { start = lit< tt; placed = placed-wide 0 base 65535 (spans isRecord base false es) i.small i.low };
    high = record { start = omega (arith, i.small); placed = i.high };
  })

  pub markable_below : {es : List (List ℕ)} → Passed isRecord base es → {n : ℕ} → base < n → EndBelow n es → Markable n isRecord base es
  unfolding spans
  markable_below {es} i {n} h b = record {
    low = record { start = omega arith; placed = placed-wide 0 base (n - 1) (spans isRecord base false es) (omega arith) i.low };
    high = record { start = h; placed = high-to es i.high b };
  }
    where
      high-to : (fs : List (List ℕ)) → Placed base 65535 (spans isRecord base true fs) → EndBelow n fs → Placed base (n - 1) (spans isRecord base true fs)
      high-to [] p b = tt
      high-to (f ∷ fs) p b =
          by_bool (past_base isRecord base f)
          (λ d. rw d (let q = rw d at p in (record { from = q.0.from; some = q.0.some; to = omega (arith, b.0) }, high-to fs q.1 b.1)))
          (λ d. rw d (high-to fs (rw d at p) b.1))

module _ (sheet : List ℕ) (width labels : ℕ) (aligns : List ℕ) (isRecord : Bool) (base : ℕ) where
  some_end : (seen : Bool) (e : List ℕ) → field_fault sheet width labels aligns isRecord base seen e ≡ 0 → off_of e < end_of e
  some_end seen e h = let n : size_of e ≡ 0 → ⊥ = fault-sized sheet width labels aligns isRecord base seen e h in omega arith

  placed-low : (ids : List ℕ) (es : List (List ℕ)) → fields_fault sheet width labels aligns isRecord base ids es ≡ 0 → Placed 0 base (spans isRecord base false es)
  unfolding fields_fault spans
  placed-low ids [] h = tt
  placed-low ids (e ∷ es) h =
      let two = halves (field_fault sheet width labels aligns isRecord base (among (id_of e) ids) e) _ h in
      let rest : Placed 0 base (spans isRecord base false es) = placed-low (noted sheet e ids) es two.1 in
      by_bool (past_base isRecord base e) (λ d. rw d rest)
      (λ d. rw d (record { from = zero-le; some = some_end (among (id_of e) ids) e two.0; to = fault-within sheet width labels aligns isRecord base (among (id_of e) ids) e two.0 d }, rest))

  placed-high : (ids : List ℕ) (es : List (List ℕ)) → fields_fault sheet width labels aligns isRecord base ids es ≡ 0 → Placed base 65535 (spans isRecord base true es)
  unfolding fields_fault spans
  placed-high ids [] h = tt
  placed-high ids (e ∷ es) h =
      let two = halves (field_fault sheet width labels aligns isRecord base (among (id_of e) ids) e) _ h in
      let rest : Placed base 65535 (spans isRecord base true es) = placed-high (noted sheet e ids) es two.1 in
      by_bool (past_base isRecord base e)
      (λ d. rw d (record { from = past-from isRecord base e d; some = some_end (among (id_of e) ids) e two.0; to = fault-small sheet width labels aligns isRecord base (among (id_of e) ids) e two.0 }, rest))
      (λ d. rw d rest)

  pub passed : (ids : List ℕ) (es : List (List ℕ)) → base < 65536 → fields_fault sheet width labels aligns isRecord base ids es ≡ 0 → Passed isRecord base es
  passed ids es small h = record { small = omega arith; low = placed-low ids es h; high = placed-high ids es h }

-- the two engines agree on them
module _ {isRecord : Bool} {base : ℕ} {es : List (List ℕ)} (i : Passed isRecord base es) where
  pub base_engines : base_by_marks base (spans isRecord base false es) ≡ base_fault isRecord base es
  unfolding base_fault
  base_engines = base-walk base (spans isRecord base false es) i.small i.low

  pub ext_engines : ext_by_marks base (spans isRecord base true es) ≡ ext_fault isRecord base es
  unfolding ext_fault
  ext_engines = ext_walk base (spans isRecord base true es) i.high

  -- so the numbers mean what document 01 says: no 81 and no 82 exactly where every place below the base is in exactly one base entry,
  -- no 83 exactly where the extensions go on from the base to some place without gap or overlap
  pub base_exactly : (base_fault isRecord base es ≡ 0) ↔ ((p : ℕ) → p < base → owners (spans isRecord base false es) p ≡ 1)
  base_exactly = rw (← base_engines) (base_means base (spans isRecord base false es) i.small i.low)

  pub ext_exactly : (ext_fault isRecord base es ≡ 0) ↔ ((l : ℕ) × Tiled base l (spans isRecord base true es))
  ext_exactly = rw (← ext_engines) (ext_means base (spans isRecord base true es) i.high)

module _ (sheet : List ℕ) (width labels : ℕ) (aligns : List ℕ) where
  -- the same number for every record and every struct
  pub seq_engines : (isRecord : Bool) (q : Seq) → q.base < 65536 → seq_by_marks sheet width labels aligns isRecord q ≡ seq_fault sheet width labels aligns isRecord q
  unfolding seq_by_marks seq_fault tiling_fault
  seq_engines isRecord q small =
      by_eqb (fields_fault sheet width labels aligns isRecord q.base [] q.entries) 0
      (λ t e. let i = passed sheet width labels aligns isRecord q.base [] q.entries small e in rw (base_engines i, ext_engines i))
      (λ t _. rw t)

  -- THE MEANING of 81 to 83: a record or a struct that passed 71 to 80 has none of them exactly where its entries tile
  pub seq_exactly : (isRecord : Bool) (q : Seq) → q.base < 65536 → fields_fault sheet width labels aligns isRecord q.base [] q.entries ≡ 0
      → (seq_fault sheet width labels aligns isRecord q ≡ 0) ↔ Tiles isRecord q.base q.entries
  unfolding seq_fault tiling_fault
  seq_exactly isRecord q small fine =
      rw (eq-eqb (fields_fault sheet width labels aligns isRecord q.base [] q.entries) 0 fine) (there, back)
    where
      i : Passed isRecord q.base q.entries
      i = passed sheet width labels aligns isRecord q.base [] q.entries small fine

      there : first (base_fault isRecord q.base q.entries) (ext_fault isRecord q.base q.entries) ≡ 0 → Tiles isRecord q.base q.entries
      there e =
          let two = halves (base_fault isRecord q.base q.entries) _ e in
          let past = (ext_exactly i).0 two.1 in
          record { low = (base_exactly i).0 two.0; end = past.0; high = past.1 }

      back : Tiles isRecord q.base q.entries → first (base_fault isRecord q.base q.entries) (ext_fault isRecord q.base q.entries) ≡ 0
      back t = rw ((base_exactly i).1 t.low) ((ext_exactly i).1 (t.end, t.high))
