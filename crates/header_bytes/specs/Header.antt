-- The header that the numbers of the fields and the dataset's text make, as document 02's request 6 has it, and its bytes.
-- Assumes nothing.
use Rattle.std.specs.Prelude.{ℕ, cond, List, [], length, replicate, leb, eqb}
use Rattle.codec.specs.Codec.{little}
use Rattle.metadata_lengths.specs.Lengths.{lengths}
use Rattle.block_format.specs.Block.{Header, header}
use Rattle.columns_check.specs.Tree.{filled}
use Rattle.header_bytes.specs.Numbers.{schema, start, end, limit, stype_in, stype_out, ts_out, width, has}

-- absent: schema 65535, end 2^64-1, limit 0, stype_in 255; version 1's record count is 2^64-1; reserved bytes are zero
unfoldable pub header_of : ℕ → List ℕ → List ℕ → Header
header_of version fs dataset =
    let v = lengths version in record {
      dataset = filled v.dataset_cstr_len dataset;
      schema = cond (has 1 fs) (schema fs) 65535;
      start = start fs;
      end = cond (has 2 fs) (end fs) 18446744073709551615;
      limit = limit fs;
      count = little v.record_count_len 18446744073709551615;
      stype_in = cond (has 8 fs) (stype_in fs) 255;
      stype_out = stype_out fs;
      ts_out = ts_out fs;
      width = cond (eqb version 1) 0 (width fs);
      reserved = replicate v.reserved_len 0;
    }

-- its bytes; none where the dataset is wider than its field
unfoldable pub header_bytes : ℕ → List ℕ → List ℕ → List ℕ
header_bytes version fs dataset =
    cond (leb (length dataset) (lengths version).dataset_cstr_len) ((header (lengths version)).codec.print (header_of version fs dataset)) []
