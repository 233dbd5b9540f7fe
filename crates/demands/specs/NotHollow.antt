-- Nothing is hollow: the reader accepts a block of each version, with any type sheet; accepted blocks differ in their rows, and
-- refusals in their numbers.
-- Assumes nothing.
use Rattle.std.specs.Prelude.{ℕ, ◌≡◌, refl, List, [], ◌∷◌, ◌++◌, replicate}
use Rattle.std.proofs.Common.{arith, sym, ap, ◌∙◌}
use Rattle.codec.specs.Codec.{Res, ok, refuse, refusal, ◌>>=◌, raw, skip, num, named, checked, judged, sized, limited, times, whole, boxed, full, ◌then◌, ◌on◌, remainder}
use Rattle.text.specs.Utf8.{utf8}
use Rattle.symbology_format.specs.Symbology.{list, mapping, symbology}
use Rattle.symbology_format.specs.SymbologyRows.{symbology_rows}
use Rattle.layout.specs.Layout.{parts, groups}
use Rattle.layout.specs.Rows.{rows}
use Rattle.item_rules.specs.Rules.{seqs_fault, structs_fault, records_fault}
use Rattle.rules.specs.Rules.{rules_of}
use Rattle.metadata_lengths.specs.Lengths.{lengths}
use Rattle.block_format.specs.Block.{Block, header, layout_part, symbology_part, block, block_of}
use Rattle.block_format.specs.Read.{sixes, nines}
use Rattle.block_format.proofs.ReadLaws.{given}
use Rattle.block_format.proofs.Examples.{listed, P10, wide}
use Rattle.block_format.specs.declared.Fields.{Fields}

-- the rows of what was read, or the refusal
abbrev pub rows_read : Res (Block × List ℕ) → Res (List (List ℕ) × List (List ℕ))
rows_read r = r >>= λ z j. ok (sixes z.0, nines z.0) j

-- the least block below version 4: header, layout length, four counts
abbrev pub least : List ℕ
least = replicate 120 0

-- the least block of version 4: header, a layout without items, four counts
abbrev pub least4 : List ℕ
least4 = replicate 100 0 ++ (8 ∷ 0 ∷ 0 ∷ 0 ∷ 1 ∷ 0 ∷ 0 ∷ 0 ∷ 0 ∷ 0 ∷ 0 ∷ 0 ∷ 16 ∷ 0 ∷ 0 ∷ 0 ∷ replicate 16 0)

pub accepts1 : (sheet : List ℕ) → rows_read (block_of 1 sheet least) ≡ ok ([], []) 120
unfolding block_of lengths whole block header layout_part symbology_part remainder named ◌then◌ ◌on◌ checked raw skip num sized utf8 symbology list mapping limited symbology_rows rows
accepts1 sheet = refl

pub accepts2 : (sheet : List ℕ) → rows_read (block_of 2 sheet least) ≡ ok ([], []) 120
unfolding block_of lengths whole block header layout_part symbology_part remainder named ◌then◌ ◌on◌ checked raw skip num sized utf8 symbology list mapping limited symbology_rows rows
accepts2 sheet = refl

pub accepts3 : (sheet : List ℕ) → rows_read (block_of 3 sheet least) ≡ ok ([], []) 120
unfolding block_of lengths whole block header layout_part symbology_part remainder named ◌then◌ ◌on◌ checked raw skip num sized utf8 symbology list mapping limited symbology_rows rows
accepts3 sheet = refl

pub accepts4 : (sheet : List ℕ) → rows_read (block_of 4 sheet least4) ≡ ok ([], []) 132
unfolding block_of lengths whole block header layout_part symbology_part remainder named ◌then◌ ◌on◌ checked raw skip num sized utf8 symbology list mapping limited symbology_rows rows judged boxed parts groups times full rules_of seqs_fault structs_fault records_fault
accepts4 sheet = refl

-- the symbology rows of what a block gives
abbrev rows_given : Res (Fields × (List (List ℕ) × List (List ℕ))) → Res (List (List ℕ))
rows_given r = r >>= λ z j. ok z.1.0 j

-- two blocks of version 2, each of one symbol, are told apart: 45 53 00 has two bytes, 45 53 47 has three
pub rows_differ : (sheet : List ℕ) → given 2 sheet (listed (69 ∷ 83 ∷ 0 ∷ [])) ≡ given 2 sheet (listed (69 ∷ 83 ∷ 71 ∷ [])) → ⊥
rows_differ sheet e =
    let q : ◌≡◌ {A = Res (List (List ℕ))} (ok ((0 ∷ 108 ∷ 2 ∷ 0 ∷ 0 ∷ 0 ∷ []) ∷ []) 123) (ok ((0 ∷ 108 ∷ 3 ∷ 0 ∷ 0 ∷ 0 ∷ []) ∷ []) 123) =
    ap rows_given (sym (P10 sheet) ∙ e ∙ wide sheet) in
    let z : ◌≡◌ {A = ℕ} 2 3 = cc in
    omega arith

-- refusals differ: 11 for a version past 4, 13 for a block below 100 bytes, 26 for a version 4 block without a layout
pub refuses11 : (sheet b : List ℕ) → block_of 5 sheet b ≡ refuse (refusal 11 3)
unfolding block_of
refuses11 sheet b = refl

pub refuses13 : (sheet : List ℕ) → block_of 2 sheet [] ≡ refuse (refusal 13 0)
unfolding block_of
refuses13 sheet = refl

pub refuses26 : (sheet : List ℕ) → block_of 4 sheet least ≡ refuse (refusal 26 100)
unfolding block_of lengths whole block header layout_part symbology_part named ◌then◌ ◌on◌ checked raw skip num sized utf8 judged boxed
refuses26 sheet = refl

-- a header of zeros, then these bytes
abbrev after : List ℕ → List ℕ
after t = replicate 100 0 ++ t

-- a layout length that is missing is 24; document 01's length 5 with 4 bytes left is 44, and with 5 left in version 2 it is 25
pub refuses24 : (sheet : List ℕ) → block_of 2 sheet (after (5 ∷ 0 ∷ 0 ∷ [])) ≡ refuse (refusal 24 100)
unfolding block_of lengths whole block header layout_part symbology_part named ◌then◌ ◌on◌ checked raw skip num sized utf8
refuses24 sheet = refl

pub refuses44 : (sheet : List ℕ) → block_of 2 sheet (after (5 ∷ 0 ∷ 0 ∷ 0 ∷ replicate 4 0)) ≡ refuse (refusal 44 104)
unfolding block_of lengths whole block header layout_part symbology_part named ◌then◌ ◌on◌ checked raw skip num sized utf8
refuses44 sheet = refl

pub refuses25 : (sheet : List ℕ) → block_of 2 sheet (after (5 ∷ 0 ∷ 0 ∷ 0 ∷ replicate 5 0)) ≡ refuse (refusal 25 100)
unfolding block_of lengths whole block header layout_part symbology_part named ◌then◌ ◌on◌ checked raw skip num sized utf8
refuses25 sheet = refl
