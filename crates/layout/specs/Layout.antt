-- The layout, as document 01's "Bytes on the wire" has it: the tree that keeps every byte, and the format of each part.
-- Assumes nothing.
use Rattle.std.specs.Prelude.{ℕ, ◌-◌, ◌≡◌, Bool, false, List, [], ◌++◌}
use Rattle.std.proofs.Math.Path.{refl}
use Rattle.codec.specs.Codec
use Rattle.wire.specs.Formats.{Tests}
use Rattle.codec.specs.Codec.{Res, ok, ◌>>=◌, Bytes, whole}
use Rattle.codec.proofs.Format.{Format, ◌then◌, named, padded, counted, keyed, counted_both}
use Rattle.wire.specs.Formats.{Name, u16, u64, section, name}

-- ---- the tree

-- eleven bytes that are read, and skipped ones up to D
pub record Entry : Type 0 where
  pub head : List ℕ
  pub skipped : List ℕ

pub record Fields : Type 0 where
  pub entries : List Entry
  pub names : List Name

-- `rest` is what is left over, and ignored
pub record RecordL : Type 0 where
  pub rtype : ℕ
  pub schema : ℕ
  pub base : ℕ
  pub hash : ℕ
  pub name : Name
  pub fields : Fields
  pub rest : List ℕ

pub record StructL : Type 0 where
  pub size : ℕ
  pub name : Name
  pub fields : Fields
  pub rest : List ℕ

pub record Label : Type 0 where
  pub code : ℕ
  pub name : Name

pub record LabelDef : Type 0 where
  pub name : Name
  pub labels : List Label
  pub rest : List ℕ

pub record Layout : Type 0 where
  pub version : ℕ
  pub records : List RecordL
  pub structs : List StructL
  pub labels : List LabelDef
  pub rest : List ℕ

-- each from its parts in wire order, and what is left over
abbrev pub to_record : (ℕ × (ℕ × (ℕ × (ℕ × (Name × Fields))))) × List ℕ → RecordL
to_record z = record {
  rtype = z.0.0;
  schema = z.0.1.0;
  base = z.0.1.1.0;
  hash = z.0.1.1.1.0;
  name = z.0.1.1.1.1.0;
  fields = z.0.1.1.1.1.1;
  rest = z.1;
}

abbrev pub to_struct : (ℕ × (Name × Fields)) × List ℕ → StructL
to_struct z = record { size = z.0.0; name = z.0.1.0; fields = z.0.1.1; rest = z.1 }

abbrev pub to_label_def : (Name × List Label) × List ℕ → LabelDef
to_label_def z = record { name = z.0.0; labels = z.0.1; rest = z.1 }

-- a layout without its rest, in wire order
abbrev pub Parts : Type 0
Parts = ℕ × (List RecordL × (List StructL × List LabelDef))

abbrev pub to_layout : Parts × List ℕ → Layout
to_layout z = record { version = z.0.0; records = z.0.1.0; structs = z.0.1.1.0; labels = z.0.1.1.1; rest = z.1 }

abbrev pub from_layout : Layout → Parts × List ℕ
from_layout t = ((t.version, (t.records, (t.structs, t.labels))), t.rest)

-- ---- the formats

module _ (tests : Tests) where
  -- code u16 and name
  unfoldable pub label : Format Label false
  label = named (λ z. record { code = z.0; name = z.1 }) (λ l. (l.code, l.name)) (λ x. refl) (u16 then name tests)

  pub label-code : (l : Label) → (label.codec.bare l).code ≡ l.code
  unfolding label Codec.named Codec.◌then◌ Codec.num
  label-code l = refl

  -- name, u16 count, then labels; 55 where a code comes again
  abbrev pub label_body : Format (Name × List Label) false
  label_body = name tests then keyed label (λ l. l.code) 50 55 label-code

  unfoldable pub label_def : Format LabelDef false
  label_def = named to_label_def (λ d. ((d.name, d.labels), d.rest)) (λ x. refl) (section label_body)

module _ (tests : Tests) (D : ℕ) where
  unfoldable pub entry : Format Entry false
  entry = named (λ z. record { head = z.0; skipped = z.1 }) (λ e. (e.head, e.skipped)) (λ x. refl) (padded 50 11 (D - 11))

  -- u16 count, entries, then one name each
  unfoldable pub fields : Format Fields false
  fields = named (λ z. record { entries = z.0; names = z.1 }) (λ f. (f.entries, f.names)) (λ x. refl) (counted_both entry (name tests) 50)

  -- rtype, schema, base size (u16 each), hash u64, name, fields
  abbrev pub record_body : Format (ℕ × (ℕ × (ℕ × (ℕ × (Name × Fields))))) false
  record_body = u16 then u16 then u16 then u64 then name tests then fields

  unfoldable pub record_l : Format RecordL false
  record_l = named to_record (λ r. ((r.rtype, (r.schema, (r.base, (r.hash, (r.name, r.fields))))), r.rest)) (λ x. refl) (section record_body)

  -- size u16, name, fields
  abbrev pub struct_body : Format (ℕ × (Name × Fields)) false
  struct_body = u16 then name tests then fields

  unfoldable pub struct_l : Format StructL false
  struct_l = named to_struct (λ s. ((s.size, (s.name, s.fields)), s.rest)) (λ x. refl) (section struct_body)

  -- u16 version; u16 count and records; u16 count and structs; u16 count and label defs
  unfoldable pub groups : Format (List RecordL × (List StructL × List LabelDef)) false
  groups = counted record_l 50 then counted struct_l 50 then counted (label_def tests) 50

  unfoldable pub parts : Format Parts false
  parts = u16 then groups

  -- what is accepted, and the refusal of all else
  unfoldable pub read_layout : List ℕ → Res Layout
  read_layout b = whole parts.codec 0 b >>= λ z j. ok (to_layout z) j

  -- the bytes of a layout, the layout with its places, and which layouts have bytes
  unfoldable pub print_layout : Layout → List ℕ
  print_layout t = parts.codec.print (from_layout t).0 ++ t.rest

  unfoldable pub locate_layout : Layout → Layout
  locate_layout t = to_layout (parts.codec.locate 0 (from_layout t).0, t.rest)

  unfoldable pub LegalLayout : Layout → Type 0
  LegalLayout t = parts.codec.legal (from_layout t).0 × Bytes t.rest

  -- the layout without places and skipped bytes, and what is asked of a layout beyond that
  unfoldable pub bare_layout : Layout → Layout
  bare_layout t = to_layout (parts.codec.bare (from_layout t).0, [])

  unfoldable pub FitsLayout : Layout → Type 0
  FitsLayout t = parts.codec.fits (from_layout t).0 × Bytes t.rest

  -- P holds of the start and the text of every name
  unfoldable pub EachName : (ℕ → List ℕ → Type 0) → Layout → Type 0
  EachName P t = parts.codec.each P (from_layout t).0
