-- What an accepted block gives besides its rows. Assumes nothing.
use Rattle.std.specs.Prelude.{ℕ, Bool, true, false, not, ◌||◌, length, eqb, Some, None, Option}
use Rattle.text.specs.Trim.{trimmed_len}
use Rattle.layout.specs.Rows.{rows}
use Rattle.symbology_format.specs.SymbologyRows.{symbology_rows}
use Rattle.block_format.specs.Block.{Header, Block, width_of}
use Rattle.metadata_lengths.specs.declared.MetadataLengths.{MetadataLengths}
use Rattle.block_format.specs.declared.Fields.{Fields}

abbrev pub unless : Bool → ℕ → Option ℕ
unless true n = None
unless false n = Some n

-- None: schema 65535, stype_in 255, limit 0, end 0 or 2^64-1
abbrev pub schema_of : ℕ → Option ℕ
schema_of n = unless (eqb n 65535) n

abbrev pub stype_in_of : ℕ → Option ℕ
stype_in_of n = unless (eqb n 255) n

abbrev pub limit_of : ℕ → Option ℕ
limit_of n = unless (eqb n 0) n

abbrev pub end_of : ℕ → Option ℕ
end_of n = unless (eqb n 0 || eqb n 18446744073709551615) n

-- ts_out is true for any nonzero byte
abbrev pub ts_out_of : ℕ → Bool
ts_out_of n = not (eqb n 0)

-- the header's fields, with the layout's version and the counts of rows
unfoldable pub fields_with : MetadataLengths → Header → ℕ → ℕ → ℕ → Fields
fields_with v h version m n = record {
  dataset_len = trimmed_len h.dataset;
  schema = schema_of h.schema;
  start = h.start;
  end = end_of h.end;
  limit = limit_of h.limit;
  stype_in = stype_in_of h.stype_in;
  stype_out = h.stype_out;
  ts_out = ts_out_of h.ts_out;
  symbol_cstr_len = width_of v h;
  layout_version = version;
  symbology_rows = m;
  layout_rows = n;
}

unfoldable pub fields_of : MetadataLengths → Block → Fields
fields_of v b = fields_with v b.header b.layout.version (length (symbology_rows b.symbology)) (length (rows b.layout))
