-- What the header is made of, how long it is, and what storing it comes to. Assumes nothing.
use Rattle.std.specs.Prelude.{ℕ, ◌+◌, ◌-◌, ◌≤◌, ◌<◌, ◌≡◌, refl, cond, List, ◌++◌, replicate, eqb}
use Rattle.std.proofs.Common.{arith, sym, ◌∙◌, append_assoc, length-append, le-leb}
use Rattle.std.proofs.Math.Path.{ap}
use Rattle.std.proofs.Math.ListN.{length}
use Rattle.std.proofs.lemmas.List.{length-replicate}
use Rattle.std.proofs.lemmas.Bool.{lt-leb}
use Rattle.codec.specs.Codec.{little}
use Rattle.codec.specs.CaseLaws.{by_bool}
use Rattle.codec.proofs.Laws.{length-little}
use Rattle.put.specs.Output.{RoomFor, Wrote, Stored}
use Rattle.put.specs.OutputLaws.{wrote_stored, stored_is, stored_short, stored_none}
use Rattle.metadata_lengths.specs.Lengths.{lengths}
use Rattle.block_format.specs.Block.{Header, header}
use Rattle.metadata_lengths.specs.declared.MetadataLengths.{MetadataLengths}
use Rattle.block_format.specs.BlockFaults.{SizedHeader, header-length}
use Rattle.block_format.specs.LengthsLaws.{lengths-width}
use Rattle.block_format.proofs.PrintLaws.{header-print}
use Rattle.columns_check.specs.Tree.{filled}
use Rattle.columns_check.specs.FilledLaws.{nuls-bytes, filled_is, filled-length}
use Rattle.header_bytes.specs.Numbers.{schema, start, end, limit, stype_in, stype_out, ts_out, width, has}
use Rattle.header_bytes.specs.Header.{header_of, header_bytes}

-- ---- what it is made of

pub header_is : (version : ℕ) (fs dataset : List ℕ) → header_of version fs dataset ≡ (let v = lengths version in record {
  dataset = filled v.dataset_cstr_len dataset;
  schema = cond (has 1 fs) (schema fs) 65535;
  start = start fs;
  end = cond (has 2 fs) (end fs) 18446744073709551615;
  limit = limit fs;
  count = little v.record_count_len 18446744073709551615;
  stype_in = cond (has 8 fs) (stype_in fs) 255;
  stype_out = stype_out fs;
  ts_out = ts_out fs;
  width = cond (eqb version 1) 0 (width fs);
  reserved = replicate v.reserved_len 0;
})
unfolding header_of
header_is version fs dataset = refl

-- version 1 has no place for a width
width-bytes : (version w : ℕ) → little (lengths version).symbol_cstr_len_len (cond (eqb version 1) 0 w) ≡ little (lengths version).symbol_cstr_len_len w
width-bytes version w = rw (lengths-width version) (by_bool (eqb version 1) (λ e. rw e) (λ e. rw e))

-- each field where it stands, by what the code has for it
pub header-bytes : (version : ℕ) (fs dataset : List ℕ) {v : MetadataLengths} {s e i : ℕ} → v ≡ lengths version
    → s ≡ cond (has 1 fs) (schema fs) 65535 → e ≡ cond (has 2 fs) (end fs) 18446744073709551615 → i ≡ cond (has 8 fs) (stype_in fs) 255
    → (header (lengths version)).codec.print (header_of version fs dataset)
    ≡ dataset ++ (replicate (v.dataset_cstr_len - length dataset) 0 ++ (little 2 s ++ (little 8 (start fs) ++ (little 8 e ++ (little 8 (limit fs) ++ (little v.record_count_len 18446744073709551615
    ++ (little 1 i ++ (little 1 (stype_out fs) ++ (little 1 (ts_out fs) ++ (little v.symbol_cstr_len_len (width fs) ++ replicate v.reserved_len 0))))))))))
unfolding header_of
header-bytes version fs dataset a c d f =
    rw (a, c, d, f)
    (header-print (lengths version) (header_of version fs dataset)
    ∙ rw (width-bytes version (width fs), filled_is (lengths version).dataset_cstr_len dataset) (append_assoc dataset _ _))

-- ---- how long it is

-- a header of zeros
abbrev zeros : ℕ → Header
zeros version =
    let v = lengths version in record {
      dataset = replicate v.dataset_cstr_len 0;
      schema = 0;
      start = 0;
      end = 0;
      limit = 0;
      count = replicate v.record_count_len 0;
      stype_in = 0;
      stype_out = 0;
      ts_out = 0;
      width = 0;
      reserved = replicate v.reserved_len 0;
    }

zeros-sized : (version : ℕ) → SizedHeader (lengths version) (zeros version)
zeros-sized version =
    let v = lengths version in record {
      dataset = (length-replicate v.dataset_cstr_len 0, nuls-bytes v.dataset_cstr_len);
      schema = omega arith;
      start = omega arith;
      end = omega arith;
      limit = omega arith;
      count = (length-replicate v.record_count_len 0, nuls-bytes v.record_count_len);
      stype_in = omega arith;
      stype_out = omega arith;
      ts_out = omega arith;
      width = rw (lengths-width version) (by_bool (eqb version 1) (λ e. rw e (omega arith)) (λ e. rw e (omega arith)));
      reserved = (length-replicate v.reserved_len 0, nuls-bytes v.reserved_len);
    }

-- the lengths that differ from version to version have one sum
lengths-sum : (version : ℕ) → let v = lengths version in v.dataset_cstr_len + v.record_count_len + v.symbol_cstr_len_len + v.reserved_len ≡ 71
lengths-sum version =
    let n : length ((header (lengths version)).codec.print (zeros version)) ≡ 100 = header-length version (zeros version) (zeros-sized version) in
    let e = simp (length-append, length-little, length-replicate) at (sym (ap length (header-print (lengths version) (zeros version))) ∙ n) in
    omega (arith, e)

-- ---- what storing it comes to

module _ (version : ℕ) (fs dataset : List ℕ) where
  -- a dataset that is wider than its field
  pub header-wide : (at : ℕ) (o : List ℕ) → (lengths version).dataset_cstr_len < length dataset → Stored at (header_bytes version fs dataset) o o at
  unfolding header_bytes
  header-wide at o h = rw (lt-leb (length dataset) (lengths version).dataset_cstr_len h) (stored_none at o)

  module _ (h : length dataset ≤ (lengths version).dataset_cstr_len) where
    pub header-narrow : header_bytes version fs dataset ≡ (header (lengths version)).codec.print (header_of version fs dataset)
    unfolding header_bytes
    header-narrow = rw (le-leb (length dataset) (lengths version).dataset_cstr_len h)

    -- in every version it has 100 bytes
    pub header_hundred : length ((header (lengths version)).codec.print (header_of version fs dataset)) ≡ 100
    unfolding header_of
    header_hundred =
        ap length (header-print (lengths version) (header_of version fs dataset))
        ∙ simp (length-append, length-little, length-replicate) (omega (arith, lengths-sum version, filled-length (lengths version).dataset_cstr_len dataset h))

    -- there is room for them
    pub header-room : {at : ℕ} {o : List ℕ} → at + 100 ≤ length o → RoomFor at ((header (lengths version)).codec.print (header_of version fs dataset)) o
    header-room g = record { fits = omega (arith, g, header_hundred) }

    -- or not
    pub header-short : {at : ℕ} {o : List ℕ} → length o < at + 100 → Stored at (header_bytes version fs dataset) o o at
    header-short {at} {o} g = stored_short (ap length header-narrow ∙ header_hundred) (lt-leb (at + 100) (length o) g)

    -- they are written
    pub header_written : {at : ℕ} {o o' : List ℕ} {r : ℕ} → Wrote at ((header (lengths version)).codec.print (header_of version fs dataset)) o o' r → Stored at (header_bytes version fs dataset) o o' r
    header_written w = stored_is (wrote_stored w) (sym header-narrow)

    -- what is stored are its bytes
    pub header_stored : {at : ℕ} {o o' : List ℕ} {r : ℕ} → Stored at (header_bytes version fs dataset) o o' r → Stored at ((header (lengths version)).codec.print (header_of version fs dataset)) o o' r
    header_stored s = stored_is s header-narrow
