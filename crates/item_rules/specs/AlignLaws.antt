-- A def index is below 65536, so the alignments of the first 65,536 structs say as much as all. Assumes nothing.
use Rattle.std.specs.Prelude.{ℕ, ◌<◌, ◌≡◌, Bool, take}
use Rattle.std.proofs.Math.Path.{refl, ap₂}
use mathlib.Core.List.{List, [], ◌∷◌}
use Rattle.codec.specs.Codec.{among}
use Rattle.fields.specs.Sheet.{id_of, def_of}
use Rattle.fields.specs.FieldLaws.{fault-cut}
use Rattle.layout.specs.NameCountLaws.{AllOf}
use Rattle.item_rules.specs.Rules.{Seq, first, noted, fields_fault, seq_fault, struct_fault, record_fault, structs_fault, records_fault}

-- every def index is below n
abbrev pub DefsBelow : ℕ → List Seq → Type 0
DefsBelow n qs = AllOf (λ (q : Seq). AllOf (λ (e : List ℕ). def_of e < n) q.entries) qs

module _ (sheet : List ℕ) (width labels : ℕ) (aligns : List ℕ) (n : ℕ) where
  fields-cut : (isRecord : Bool) (base : ℕ) (ids : List ℕ) (es : List (List ℕ)) → AllOf (λ (e : List ℕ). def_of e < n) es
      → fields_fault sheet width labels (take n aligns) isRecord base ids es ≡ fields_fault sheet width labels aligns isRecord base ids es
  unfolding fields_fault
  fields-cut isRecord base ids [] v = refl
  fields-cut isRecord base ids (e ∷ es) v =
      ap₂ first (fault-cut aligns n e v.0 sheet width labels isRecord base (among (id_of e) ids)) (fields-cut isRecord base (noted sheet e ids) es v.1)

  seq-cut : (isRecord : Bool) (q : Seq) → AllOf (λ (e : List ℕ). def_of e < n) q.entries → seq_fault sheet width labels (take n aligns) isRecord q ≡ seq_fault sheet width labels aligns isRecord q
  unfolding seq_fault
  seq-cut isRecord q v = rw (fields-cut isRecord q.base [] q.entries v)

  pub structs-cut : (qs : List Seq) → DefsBelow n qs → structs_fault sheet width labels (take n aligns) qs ≡ structs_fault sheet width labels aligns qs
  unfolding structs_fault struct_fault
  structs-cut [] v = refl
  structs-cut (q ∷ qs) v = rw (seq-cut _ q v.0, structs-cut qs v.1)

  pub records-cut : (seen : List ℕ) (qs : List Seq) → DefsBelow n qs → records_fault sheet width labels (take n aligns) seen qs ≡ records_fault sheet width labels aligns seen qs
  unfolding records_fault record_fault
  records-cut seen [] v = refl
  records-cut seen (q ∷ qs) v = rw (seq-cut _ q v.0, records-cut (q.rtype ∷ seen) qs v.1)
