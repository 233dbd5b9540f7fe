-- The texts of an accepted block's symbology rows lie within the block, and below version 4 it has no layout rows. Assumes nothing.
use Rattle.std.specs.Prelude.{ℕ, ◌+◌, ◌≡◌, refl, Bool, true, false, cond, List, [], length, leb, eqb}
use Rattle.std.proofs.Common.{arith, sym, ap, ◌∙◌, subst, ne_eqb}
use Rattle.codec.specs.Codec.{ok, Bytes, named, full, boxed, remainder, ◌then◌, ◌on◌, whole}
use Rattle.codec.proofs.Laws.{need-ok, whole_back}
use Rattle.text.specs.Utf8.{utf8}
use Rattle.padded.specs.Padded.{nul_padded}
use Rattle.dates.specs.Date.{is_date}
use Rattle.prelude.specs.Prelude.{is_version}
use Rattle.table.specs.EachLaws.{Each, RowInside, PartInside, part-inside}
use Rattle.symbology_format.specs.Symbology.{Symbology, symbology}
use Rattle.symbology_format.proofs.SpanLaws.{symbology-lies}
use Rattle.layout.specs.Layout.{Layout}
use Rattle.layout.specs.Rows.{rows}
use Rattle.layout.specs.ReadLaws.{no_rows}
use Rattle.metadata_lengths.specs.Lengths.{v1, v2, lengths}
use Rattle.block_format.specs.Block.{Block, width_of, layout_part, symbology_part, block, block_of}
use Rattle.block_format.specs.Read.{sixes, nines}
use Rattle.metadata_lengths.specs.declared.MetadataLengths.{MetadataLengths}

-- the symbology of a legal block is legal
part-legal : (p : Bool) (w : ℕ) (t : Symbology) → (symbology_part p w).codec.legal t → (symbology utf8 nul_padded is_date w).codec.legal t
unfolding symbology_part full boxed remainder
part-legal true w t l = l.0
part-legal false w t l = l

pub symbology-legal : (sheet : List ℕ) (v : MetadataLengths) (x : Block) → (block sheet v).codec.legal x → (symbology utf8 nul_padded is_date (width_of v x.header)).codec.legal x.symbology
unfolding block named ◌on◌ ◌then◌
symbology-legal sheet v x l = part-legal v.has_layout (width_of v x.header) x.symbology l.1.1

-- the symbology's section has the places of its contents
part-each : (p : Bool) (w : ℕ) (P : ℕ → List ℕ → Type 0) (t : Symbology) → (symbology_part p w).codec.each P t → (symbology utf8 nul_padded is_date w).codec.each P t
unfolding symbology_part full boxed remainder
part-each true w P t e = e
part-each false w P t e = e

-- what holds of every place of a block holds of the places of its symbology
pub symbology-each : (sheet : List ℕ) (v : MetadataLengths) (P : ℕ → List ℕ → Type 0) (x : Block) → (block sheet v).codec.each P x → (symbology utf8 nul_padded is_date (width_of v x.header)).codec.each P x.symbology
unfolding block named ◌on◌ ◌then◌
symbology-each sheet v P x e = part-each v.has_layout (width_of v x.header) P x.symbology e.1.1

-- an accepted block is read whole by its version's format
pub block-whole : (version : ℕ) (sheet b : List ℕ) (z : Block × List ℕ) (k : ℕ) → block_of version sheet b ≡ ok z k → whole (block sheet (lengths version)).codec 0 b ≡ ok z k
unfolding block_of
block-whole version sheet b z k e =
    let (_, e1) = need-ok (is_version version) 11 3 _ z k e in
    let (_, e2) = need-ok (leb 100 (length b)) 13 0 _ z k e1 in
    (need-ok (leb (length b) 4294967295) 13 0 _ z k e2).1

-- every symbology row of an accepted block, of any version, is of kind 0 to 4, and its text lies within the block
pub sixes_lie : (version : ℕ) (sheet b : List ℕ) (z : Block × List ℕ) (k : ℕ) → Bytes b → block_of version sheet b ≡ ok z k → Each (RowInside 0 4 (length b)) (sixes z.0)
sixes_lie version sheet b z k bs e =
    let v = lengths version in
    let F = block sheet v in
    let w = whole_back F.codec F.law 0 b z k bs (block-whole version sheet b z k e) in
    let h : F.codec.each (PartInside (length b)) (F.codec.locate 0 z.0) =
    F.law.spotted (PartInside (length b)) 0 z.0 (λ n u q. subst (λ a. PartInside (length a) (0 + n) u) (sym w.bytes) (part-inside z.1 q)) in
    symbology-lies utf8 nul_padded is_date (width_of v z.0.header) (length b) z.0.symbology (symbology-legal sheet v z.0 w.legal)
    (symbology-each sheet v (PartInside (length b)) z.0 (subst (F.codec.each (PartInside (length b))) w.located h))

-- the layout's part of a version without a layout has no rows
part-rows : (x : Bool) (sheet : List ℕ) (w p : ℕ) (l : Layout) → x ≡ false → rows ((layout_part x sheet w).codec.locate p l) ≡ []
unfolding layout_part named
part-rows true sheet w p l q = absurd (let y : ◌≡◌ {A = ℕ} 0 1 = cc in omega arith)
part-rows false sheet w p l q = no_rows 0 _

-- nor has a block of such a version
located-rows : (sheet : List ℕ) (v : MetadataLengths) (x : Block) → v.has_layout ≡ false → nines ((block sheet v).codec.locate 0 x) ≡ []
unfolding block named ◌on◌ ◌then◌
located-rows sheet v x q = part-rows v.has_layout sheet _ _ x.layout q

-- version 4 alone has a layout
no-layout : (version : ℕ) → (version ≡ 4 → ⊥) → (lengths version).has_layout ≡ false
unfolding lengths
no-layout version h = rw (ne_eqb version 4 h) (go (eqb version 1))
  where
    go : (x : Bool) → (cond x v1 v2).has_layout ≡ false
    go true = refl
    go false = refl

-- an accepted block below version 4 has no layout rows
pub no-nines : (version : ℕ) (sheet b : List ℕ) (z : Block × List ℕ) (k : ℕ) → (version ≡ 4 → ⊥) → Bytes b → block_of version sheet b ≡ ok z k → nines z.0 ≡ []
no-nines version sheet b z k below bs e =
    let F = block sheet (lengths version) in
    let w = whole_back F.codec F.law 0 b z k bs (block-whole version sheet b z k e) in
    ap nines (sym w.located) ∙ located-rows sheet (lengths version) z.0 (no-layout version below)
