-- The names of an accepted block: its dataset's, and that of every symbology row. Assumes nothing.
use Rattle.std.specs.Prelude.{ℕ, ◌+◌, ◌≡◌, true, List, ◌++◌, length, take}
use Rattle.std.proofs.Common.{zero-add, sym, subst, append_assoc}
use Rattle.std.proofs.Math.Seq.{take-append_seam}
use Rattle.codec.specs.Codec.{ok, Bytes, raw, named, checked, ◌then◌, ◌on◌}
use Rattle.codec.proofs.Laws.{whole_back, left-part, part-take}
use Rattle.text.specs.Utf8.{utf8}
use Rattle.text.specs.Trim.{trimmed_len}
use Rattle.padded.specs.Padded.{nul_padded}
use Rattle.padded.proofs.PaddedLaws.{Name}
use Rattle.dates.specs.Date.{is_date}
use Rattle.table.specs.EachLaws.{Each}
use Rattle.symbology_format.proofs.NameLaws.{NamedIn, Stands, name-stands, symbology-named}
use Rattle.metadata_lengths.specs.Lengths.{lengths}
use Rattle.block_format.specs.Block.{Block, header, width_of, block, block_of}
use Rattle.block_format.specs.Read.{sixes}
use Rattle.block_format.proofs.SpanLaws.{symbology-legal, symbology-each, block-whole}
use Rattle.metadata_lengths.specs.declared.MetadataLengths.{MetadataLengths}

-- the dataset of a legal block has the version's length and only NULs after a NUL
dataset-legal : (sheet : List ℕ) (v : MetadataLengths) (x : Block) → (block sheet v).codec.legal x → (length x.header.dataset ≡ v.dataset_cstr_len) × (nul_padded x.header.dataset ≡ true)
unfolding block named ◌on◌ ◌then◌ header checked raw
dataset-legal sheet v x l = (l.0.0.0.0.0, l.0.0.1)

-- and stands first
dataset-first : (sheet : List ℕ) (v : MetadataLengths) (x : Block) (r : List ℕ) → Stands ((block sheet v).codec.print x ++ r) 0 x.header.dataset
unfolding block named ◌on◌ ◌then◌ header checked raw
dataset-first sheet v x r = let d = x.header.dataset in rw (append_assoc d, append_assoc d) (take-append_seam d _)

module _ (version : ℕ) (sheet b : List ℕ) (z : Block × List ℕ) (k : ℕ) (bs : Bytes b) (e : block_of version sheet b ≡ ok z k) where
  abbrev v : MetadataLengths
  v = lengths version

  -- the dataset's name is the bytes before its first NUL, and NULs fill up its length
  pub dataset-named : Name (take v.dataset_cstr_len b) (take (trimmed_len z.0.header.dataset) b)
  dataset-named =
      let F = block sheet v in
      let w = whole_back F.codec F.law 0 b z k bs (block-whole version sheet b z k e) in
      let (wide, padded) = dataset-legal sheet v z.0 w.legal in
      name-stands b v.dataset_cstr_len 0 z.0.header.dataset wide padded (subst (λ a. Stands a 0 z.0.header.dataset) (sym w.bytes) (dataset-first sheet v z.0 z.1))

  -- so is the name of every symbology row in its symbol
  pub sixes-named : Each (NamedIn b (width_of v z.0.header)) (sixes z.0)
  sixes-named =
      let F = block sheet v in
      let w = whole_back F.codec F.law 0 b z k bs (block-whole version sheet b z k e) in
      let h : F.codec.each (Stands b) (F.codec.locate 0 z.0) =
      F.law.spotted (Stands b) 0 z.0 (λ n u q. subst (λ a. Stands a (0 + n) u) (sym w.bytes) (rw (zero-add n) (part-take (left-part z.1 q)))) in
      symbology-named utf8 is_date (width_of v z.0.header) b z.0.symbology (symbology-legal sheet v z.0 w.legal) (symbology-each sheet v (Stands b) z.0 (subst (F.codec.each (Stands b)) w.located h))
