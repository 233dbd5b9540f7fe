-- What is known of a block before a byte of it is written. Assumes nothing.
use Rattle.std.specs.Prelude.{ℕ, ◌+◌, ◌≤◌, ◌<◌, ◌≡◌, Bool, true, List, length, Result}
use Rattle.std.specs.Result.{MatchResult}
use Rattle.refusal.specs.declared.Refusal.{Refusal}
use Rattle.codec.specs.Codec.{refusal}
use Rattle.prelude.specs.Prelude.{is_version}
use Rattle.rows_check.specs.Check.{fault}
use Rattle.metadata_lengths.specs.Lengths.{lengths}
use Rattle.block_format.specs.BlockFaults.{layout_bytes, layout_fault, symbology_bytes}
use Rattle.columns_check.specs.Tree.{kind_of, symbol_rows, partial_rows, not_found_rows, symbology_of}
use Rattle.columns_check.specs.Check.{well_formed, narrow}
use Rattle.columns_check.specs.FitLaws.{Along, Good}
use Rattle.header_bytes.specs.Numbers.{width, layout_version}
use Rattle.block_writer.specs.Tree.{layout_tree, block_bytes}
use Rattle.block_writer.specs.Write.{formed, slim, write_fault}
use Rattle.block_writer.specs.declared.Plan.{Plan}

-- none of 11, 110 and 111
pub record Ready (version : ℕ) (fs t : List ℕ) (n : ℕ) (text : List ℕ) : Type 0 where
  pub known : is_version version ≡ true
  pub formed : formed version fs t n text ≡ true
  pub slim : slim version fs t n ≡ true

-- how many symbols of each list and how many mappings there are
pub record Counts (width : ℕ) (t : List ℕ) (n : ℕ) (text : List ℕ) (p : Plan) : Type 0 where
  pub symbols : p.symbols ≡ symbol_rows t n
  pub partial : p.partial ≡ partial_rows t n
  pub not_found : p.not_found ≡ not_found_rows t n
  pub mappings : p.mappings ≡ length (symbology_of width t n text).mappings

-- nothing refuses what is about to be written, and how long all is
pub record Sizes (sheet : List ℕ) (version : ℕ) (fs t : List ℕ) (n : ℕ) (rows text : List ℕ) (p : Plan) : Type 0 where
  pub ready : Ready version fs t n text
  pub whole : fault true rows text ≡ 0
  pub ruled : layout_fault (lengths version).has_layout sheet (width fs) (layout_tree (lengths version).has_layout fs rows text) ≡ 0
  pub few : p.len ≤ 4294967295
  pub len : p.len ≡ length (block_bytes sheet version fs t n rows text)
  pub layout : p.layout ≡ length (layout_bytes (lengths version).has_layout (layout_tree (lengths version).has_layout fs rows text))
  pub names : p.names ≡ length (symbology_bytes (width fs) (symbology_of (width fs) t n text))
  pub counts : Counts (width fs) t n text p

-- how long all is, where no number refuses to write; or the refusal by it
pub record Planned (sheet : List ℕ) (version : ℕ) (fs t : List ℕ) (n : ℕ) (rows text : List ℕ) (r : Result Plan Refusal) : Type 0 where
  pub told : MatchResult r
      (λ p. (write_fault sheet version fs t n rows text ≡ 0) × Sizes sheet version fs t n rows text p)
      (λ e. (write_fault sheet version fs t n rows text ≡ 0 → ⊥) × (e ≡ refusal (write_fault sheet version fs t n rows text) 0))

-- ---- what the parts need to be stored

-- the layout's bytes are `size`: with a layout its rows are written by the layout's own writer; below there are none
pub record LayoutReady (has : Bool) (sheet fs rows text : List ℕ) (size : ℕ) : Type 0 where
  pub fits : (layout_version fs < 65536) × (width fs < 65536)
  pub len : size ≡ length (layout_bytes has (layout_tree has fs rows text))
  pub whole : fault true rows text ≡ 0
  pub ruled : layout_fault has sheet (width fs) (layout_tree has fs rows text) ≡ 0

-- row r is as it must be, its text no wider than the width, and of a kind that there is
pub record RowReady (width : ℕ) (t text : List ℕ) (r : ℕ) : Type 0 where
  pub good : Good width t text r
  pub kind : kind_of t r ≤ 4

-- n such rows from row r on; four bytes hold their indices
pub record RowsReady (width : ℕ) (t text : List ℕ) (r n : ℕ) : Type 0 where
  pub few : r + n ≤ 4294967295
  pub rows : Along (RowReady width t text) r n

-- the symbology's bytes are `size`, and the plan has its counts
pub record NamesReady (width : ℕ) (t : List ℕ) (n : ℕ) (text : List ℕ) (size : ℕ) (p : Plan) : Type 0 where
  pub formed : well_formed t n text ≡ true
  pub narrow : narrow width t n ≡ true
  pub names : size ≡ length (symbology_bytes width (symbology_of width t n text))
  pub counts : Counts width t n text p
