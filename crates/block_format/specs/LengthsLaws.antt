-- What the rows of `lengths` say, and what the first faults of a block are made of. Assumes nothing.
use Rattle.std.specs.Prelude.{ℕ, ◌≡◌, refl, Bool, true, false, cond, List, length, leb, eqb}
use Rattle.std.proofs.Common.{arith, eqb-true}
use Rattle.codec.specs.Faults.{unless, first}
use Rattle.text.specs.Utf8.{utf8}
use Rattle.padded.specs.Padded.{nul_padded}
use Rattle.dates.specs.Date.{is_date}
use Rattle.prelude.specs.Prelude.{is_version}
use Rattle.symbology_format.specs.SymbologyFaults.{symbology_fault}
use Rattle.metadata_lengths.specs.Lengths.{v1, v2, v4, lengths}
use Rattle.block_format.specs.Block.{Header, Block, is_schema, is_stype, is_stype_in, width_of, block}
use Rattle.block_format.specs.BlockFaults.{header_fault, layout_fault, block_fault, whole_fault}

-- version 4 has a layout, and no other
pub lengths-layout : (version : ℕ) → (lengths version).has_layout ≡ eqb version 4
unfolding lengths
lengths-layout version = go (eqb version 1) refl (eqb version 4) refl
  where
    go : (a : Bool) → eqb version 1 ≡ a → (c : Bool) → eqb version 4 ≡ c → (cond a v1 (cond c v4 v2)).has_layout ≡ c
    go true e true f = let x = eqb-true version 1 e in let y = eqb-true version 4 f in absurd (omega arith)
    go true e false f = refl
    go false e true f = refl
    go false e false f = refl

-- version 1 has no place for a symbol width, and all others two bytes
pub lengths-width : (version : ℕ) → (lengths version).symbol_cstr_len_len ≡ cond (eqb version 1) 0 2
unfolding lengths
lengths-width version = go (eqb version 1) (eqb version 4)
  where
    go : (a c : Bool) → (cond a v1 (cond c v4 v2)).symbol_cstr_len_len ≡ cond a 0 2
    go true c = refl
    go false true = refl
    go false false = refl

-- dataset 20, then 29; schema 21, stype_in 22, stype_out 23
pub header-fault : (h : Header) → header_fault h ≡ first (first (unless (utf8 h.dataset) 20) (unless (nul_padded h.dataset) 29))
    (first (unless (is_schema h.schema) 21) (first (unless (is_stype_in h.stype_in) 22) (unless (is_stype h.stype_out) 23)))
unfolding header_fault
header-fault h = refl

-- 11, 13, then header, layout, symbology
pub whole-fault : (version : ℕ) (sheet : List ℕ) (b : Block) → let v = lengths version in
    let w = width_of v b.header in
    whole_fault version sheet b ≡ first (unless (is_version version) 11) (first (unless (leb (length ((block sheet v).codec.print b)) 4294967295) 13)
    (first (header_fault b.header) (first (layout_fault v.has_layout sheet w b.layout) (symbology_fault utf8 nul_padded is_date w b.symbology))))
unfolding whole_fault block_fault
whole-fault version sheet b = refl
