-- The block that is to be written: the tree of its fields, its columns, its layout rows and its text, as document 02's request 6 has it.
-- Assumes nothing.
use Rattle.std.specs.Prelude.{ℕ, Bool, true, false, cond, List, []}
use Rattle.codec.specs.Codec.{is_nil}
use Rattle.layout.specs.Layout.{Layout}
use Rattle.rows_check.specs.Tree.{tree_of}
use Rattle.rows_check.specs.Check.{printed}
use Rattle.metadata_lengths.specs.Lengths.{lengths}
use Rattle.block_format.specs.Block.{Block, no_items, block}
use Rattle.prelude.specs.Prelude.{prelude}
use Rattle.columns_check.specs.Tree.{symbology_of}
use Rattle.header_bytes.specs.Numbers.{width, layout_version}
use Rattle.header_bytes.specs.Header.{header_of}
use Rattle.block_writer.specs.Fields.{dataset_text}

-- the bytes of layout rows below version 4: none where there are no rows
abbrev pub stray_layout : List ℕ → List ℕ → List ℕ
stray_layout rows text = cond (is_nil rows) [] (printed 0 rows text)

-- with a layout the layout that the rows stand for; below version 4 none, or what is refused by 25
unfoldable pub layout_tree : Bool → List ℕ → List ℕ → List ℕ → Layout
layout_tree true fs rows text = tree_of (layout_version fs) rows text
layout_tree false fs rows text = no_items (stray_layout rows text)

-- header, layout, symbology
unfoldable pub block_tree : ℕ → List ℕ → List ℕ → ℕ → List ℕ → List ℕ → Block
block_tree version fs t n rows text = record {
  header = header_of version fs (dataset_text fs text);
  layout = layout_tree (lengths version).has_layout fs rows text;
  symbology = symbology_of (width fs) t n text;
}

-- the bytes of the block, and those of the prelude before it
unfoldable pub block_bytes : List ℕ → ℕ → List ℕ → List ℕ → ℕ → List ℕ → List ℕ → List ℕ
block_bytes sheet version fs t n rows text = (block sheet (lengths version)).codec.print (block_tree version fs t n rows text)

unfoldable pub prelude_bytes : ℕ → ℕ → List ℕ
prelude_bytes version len = prelude.codec.print (record { version = version; len = len })
