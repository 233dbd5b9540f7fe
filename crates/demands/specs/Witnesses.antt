-- Something of each kind is there: a version 4 block with a record, a struct, a label def, a symbol and a mapping is accepted, an edit of
-- it in the sense of demand 3 moves its rows, and a stream start that is fed whole is done.
-- Assumes nothing.
use Rattle.std.specs.Prelude.{ℕ, zero, suc, ◌+◌, ◌-◌, ◌*◌, ◌^◌, ◌≡◌, refl, Bool, true, false, ◌&&◌, List, [], ◌∷◌, ◌++◌, map, length, replicate, leb, ltb, Some, None, Ok}
use Rattle.std.proofs.Common.{arith, ap, ◌∙◌, subst, leb-true, ltb-true}
use Rattle.std.proofs.lemmas.List.{length-replicate}
use Rattle.codec.specs.Codec.{Bytes, ok, raw, padded, skip, num, fixed, named, checked, judged, placed, asks, sized, limited, times, distinct, whole, boxed, full, ◌then◌, ◌on◌, remainder}
use Rattle.codec.specs.CaseLaws.{both_true}
use Rattle.codec.specs.Edits.{Marked, kept, free, ◌and◌, box, bytes_of, Edit, keep, fill, pair, grow, put}
use Rattle.codec.proofs.Format.{raw-edits, num-edits, fixed-edits}
use Rattle.codec.proofs.EditLaws.{edits-kept, edits-still, edits-skip, edits-padded, edits-then, edits-on, edits-named, edits-checked, edits-judged, edits-asks, edits-placed, edits-sized, edits-times, edits-distinct, edits-apart, edits-boxed}
use Rattle.text.specs.Utf8.{utf8}
use Rattle.dates.specs.Date.{is_date, is_day, days_in, is_leap}
use Rattle.dates.specs.Day.{day_of, day_number, days_to, days_before, days_of_year}
use Rattle.wire.specs.Formats.{section, text, text_of, name}
use Rattle.symbology_format.specs.Symbology.{symbol, date, list, interval, mapping, symbology}
use Rattle.symbology_format.specs.SymbologyRows.{symbology_rows}
use Rattle.layout.specs.Layout.{entry, fields, record_l, struct_l, label, label_def, parts, groups}
use Rattle.layout.specs.LayoutOf.{D}
use Rattle.layout.specs.Rows.{rows}
use Rattle.fields.specs.Sheet.{align_of, def_of, id_of, is_decimal, is_extension, is_padding, is_struct, is_symbol, member_align, names_label, off_of, past_base, size_of, type_of}
use Rattle.fields.specs.Field.{breaks71, breaks72, breaks73, breaks74, breaks76, breaks77, breaks79, breaks80, field_fault}
use Rattle.item_rules.specs.Rules.{seqs_fault, structs_fault, records_fault, struct_fault, record_fault, seq_fault, fields_fault, base_fault, ext_fault, tiling_fault, spans, struct_align, largest}
use Rattle.rules.specs.Rules.{rules_of}
use Rattle.prelude.specs.Prelude.{magic, prelude, prelude_of}
use Rattle.metadata_lengths.specs.Lengths.{lengths}
use Rattle.block_format.specs.Block.{Block, header, layout_part, symbology_part, block, block_of}
use Rattle.block_format.specs.Fields.{fields_with, fields_of}
use Rattle.block_format.specs.Read.{Promise}
use Rattle.block_format.proofs.ReadLaws.{gist, given, read-given}
use Rattle.table.proofs.ColumnLaws.{columns-none}
use Rattle.block_format.proofs.Examples.{zero_fields}
use Rattle.block_format.specs.declared.Fields.{Fields}
use Rattle.feed.proofs.Examples.{Gives, fed_done}
use Rattle.feed.specs.declared.Answer.TheVariants.{Done}
use Rattle.demands.specs.LayoutRows.{move_row}
use Rattle.demands.specs.Demand3.{marking, SameRead, demand3}
use Rattle.demands.specs.NotHollow.{least}
use Rattle.demands.specs.WriterAccepts.{sheet}

-- ---- a version 4 block

-- its bytes, for entries of D bytes, up to 96: every skipped byte is x, and the layout and each of its sections have n bytes x left over
abbrev pub bytes_with : ℕ → ℕ → List ℕ
bytes_with x n =
    -- dataset A, width 3, reserved
    (65 ∷ replicate 66 0) ++ (3 ∷ 0 ∷ []) ++ replicate 31 x
    -- layout length, version 1
    ++ ((56 + 2 * D + 4 * n) ∷ 0 ∷ 0 ∷ 0 ∷ 1 ∷ 0 ∷ [])
    -- one record: rtype 1, schema 0, base 8, hash 0, name A; one field: id 1 of eight bytes, type 1, name B
    ++ (1 ∷ 0 ∷ (24 + D + n) ∷ 0 ∷ 1 ∷ 0 ∷ 0 ∷ 0 ∷ 8 ∷ 0 ∷ []) ++ replicate 8 0 ++ (1 ∷ 65 ∷ 0 ∷ 1 ∷ 0 ∷ [])
    ++ (1 ∷ 0 ∷ 0 ∷ 0 ∷ 8 ∷ 0 ∷ 1 ∷ 0 ∷ 0 ∷ 0 ∷ 0 ∷ []) ++ replicate (D - 11) x ++ (1 ∷ 66 ∷ 0 ∷ []) ++ replicate n x
    -- one struct: size 4, name C; one field: id 1 of four bytes, type 1, name D
    ++ (1 ∷ 0 ∷ (12 + D + n) ∷ 0 ∷ 4 ∷ 0 ∷ 1 ∷ 67 ∷ 0 ∷ 1 ∷ 0 ∷ [])
    ++ (1 ∷ 0 ∷ 0 ∷ 0 ∷ 4 ∷ 0 ∷ 1 ∷ 0 ∷ 0 ∷ 0 ∷ 0 ∷ []) ++ replicate (D - 11) x ++ (1 ∷ 68 ∷ 0 ∷ []) ++ replicate n x
    -- one label def: name E; one label: code 5, name F
    ++ (1 ∷ 0 ∷ (12 + n) ∷ 0 ∷ 1 ∷ 69 ∷ 0 ∷ 1 ∷ 0 ∷ 5 ∷ 0 ∷ 1 ∷ 70 ∷ 0 ∷ []) ++ replicate n x
    ++ replicate n x
    -- symbology length; the symbol S; no partial, none not found
    ++ (37 ∷ 0 ∷ 0 ∷ 0 ∷ 1 ∷ 0 ∷ 0 ∷ 0 ∷ 83 ∷ 0 ∷ 0 ∷ []) ++ replicate 8 0
    -- the mapping M with one interval: 20240229 to 20240301, symbol I
    ++ (1 ∷ 0 ∷ 0 ∷ 0 ∷ 77 ∷ 0 ∷ 0 ∷ 1 ∷ 0 ∷ 0 ∷ 0 ∷ []) ++ (101 ∷ 215 ∷ 52 ∷ 1 ∷ 173 ∷ 215 ∷ 52 ∷ 1 ∷ 73 ∷ 0 ∷ 0 ∷ [])

-- what they are read as
abbrev pub tree_with : ℕ → ℕ → Block
tree_with x n = record {
  header = record { dataset = 65 ∷ replicate 37 0; schema = 0; start = 0; end = 0; limit = 0; count = []; stype_in = 0; stype_out = 0; ts_out = 0; width = 3; reserved = replicate 31 x };
  layout = record {
    version = 1;
    records = record {
      rtype = 1;
      schema = 0;
      base = 8;
      hash = 0;
      name = record { start = 21; text = 65 ∷ [] };
      fields = record { entries = record { head = 1 ∷ 0 ∷ 0 ∷ 0 ∷ 8 ∷ 0 ∷ 1 ∷ 0 ∷ 0 ∷ 0 ∷ 0 ∷ []; skipped = replicate (D - 11) x } ∷ []; names = record { start = 26 + D; text = 66 ∷ [] } ∷ [] };
      rest = replicate n x;
    } ∷ [];
    structs = record {
      size = 4;
      name = record { start = 35 + D + n; text = 67 ∷ [] };
      fields = record { entries = record { head = 1 ∷ 0 ∷ 0 ∷ 0 ∷ 4 ∷ 0 ∷ 1 ∷ 0 ∷ 0 ∷ 0 ∷ 0 ∷ []; skipped = replicate (D - 11) x } ∷ []; names = record { start = 40 + 2 * D + n; text = 68 ∷ [] } ∷ [] };
      rest = replicate n x;
    } ∷ [];
    labels = record { name = record { start = 47 + 2 * D + 2 * n; text = 69 ∷ [] }; labels = record { code = 5; name = record { start = 54 + 2 * D + 2 * n; text = 70 ∷ [] } } ∷ []; rest = replicate n x } ∷ [];
    rest = replicate n x;
  };
  symbology = record {
    symbols = record { start = 168 + 2 * D + 4 * n; text = 83 ∷ 0 ∷ 0 ∷ [] } ∷ [];
    partial = [];
    not_found = [];
    mappings = record {
      raw_symbol = record { start = 183 + 2 * D + 4 * n; text = 77 ∷ 0 ∷ 0 ∷ [] };
      intervals = record { from = 20240229; to = 20240301; symbol = record { start = 198 + 2 * D + 4 * n; text = 73 ∷ 0 ∷ 0 ∷ [] } } ∷ [];
    } ∷ [];
  };
}

-- its fields
abbrev pub its_fields : Fields
its_fields = record {
  dataset_len = 1;
  schema = Some 0;
  start = 0;
  end = None;
  limit = None;
  stype_in = Some 0;
  stype_out = 0;
  ts_out = false;
  symbol_cstr_len = 3;
  layout_version = 1;
  symbology_rows = 3;
  layout_rows = 8;
}

-- its symbology rows
abbrev pub sixes_with : ℕ → List (List ℕ)
sixes_with n =
    (0 ∷ (168 + 2 * D + 4 * n) ∷ 1 ∷ 0 ∷ 0 ∷ 0 ∷ [])
    ∷ (3 ∷ (183 + 2 * D + 4 * n) ∷ 1 ∷ 1 ∷ 0 ∷ 1 ∷ [])
    ∷ (4 ∷ (198 + 2 * D + 4 * n) ∷ 1 ∷ 739310 ∷ 739311 ∷ 1 ∷ [])
    ∷ []

-- its layout rows
abbrev pub nines_with : ℕ → List (List ℕ)
nines_with n =
    (10 ∷ 21 ∷ 1 ∷ 1 ∷ 0 ∷ 8 ∷ 1 ∷ 0 ∷ 0 ∷ [])
    ∷ (11 ∷ 1 ∷ 0 ∷ 8 ∷ 1 ∷ 0 ∷ 0 ∷ 0 ∷ 0 ∷ [])
    ∷ (12 ∷ (26 + D) ∷ 1 ∷ 0 ∷ 0 ∷ 0 ∷ 0 ∷ 0 ∷ 0 ∷ [])
    ∷ (13 ∷ (35 + D + n) ∷ 1 ∷ 4 ∷ 1 ∷ 0 ∷ 0 ∷ 0 ∷ 0 ∷ [])
    ∷ (11 ∷ 1 ∷ 0 ∷ 4 ∷ 1 ∷ 0 ∷ 0 ∷ 0 ∷ 0 ∷ [])
    ∷ (12 ∷ (40 + 2 * D + n) ∷ 1 ∷ 0 ∷ 0 ∷ 0 ∷ 0 ∷ 0 ∷ 0 ∷ [])
    ∷ (14 ∷ (47 + 2 * D + 2 * n) ∷ 1 ∷ 1 ∷ 0 ∷ 0 ∷ 0 ∷ 0 ∷ 0 ∷ [])
    ∷ (15 ∷ (54 + 2 * D + 2 * n) ∷ 1 ∷ 5 ∷ 0 ∷ 0 ∷ 0 ∷ 0 ∷ 0 ∷ [])
    ∷ []

-- the block with zeros and nothing left over
abbrev pub plain : List ℕ
plain = bytes_with 0 0

-- the block with every skipped byte AA, two bytes left over wherever some may be, and one byte after it
abbrev pub edited : List ℕ
edited = bytes_with 170 2 ++ (187 ∷ [])

-- both are read
reads : (block_of 4 sheet plain ≡ ok (tree_with 0 0, []) (201 + 2 * D)) × (block_of 4 sheet edited ≡ ok (tree_with 170 2, 187 ∷ []) (210 + 2 * D))
unfolding block_of lengths whole block header layout_part symbology_part named ◌then◌ ◌on◌ checked raw skip num sized utf8 symbology list symbol date interval mapping placed limited asks judged boxed parts groups times full padded fixed distinct record_l struct_l label_def label fields entry section name text text_of D is_date is_day days_in is_leap rules_of seqs_fault structs_fault records_fault struct_fault record_fault seq_fault fields_fault base_fault ext_fault tiling_fault spans struct_align largest field_fault breaks71 breaks72 breaks73 breaks74 breaks76 breaks77 breaks79 breaks80 align_of def_of id_of is_decimal is_extension is_padding is_struct is_symbol member_align names_label off_of past_base size_of type_of
reads = (refl, refl)

-- what is read gives these fields and rows
gives : (x n : ℕ) (r : List ℕ) (k : ℕ) → gist (lengths 4) (ok (tree_with x n, r) k) ≡ ok (its_fields, (sixes_with n, nines_with n)) k
unfolding lengths fields_of fields_with symbology_rows rows day_of day_number days_to days_before days_of_year days_in is_leap
gives x n r k = refl

-- the block is accepted, with a record, a struct, a label def, a symbol and a mapping
pub accepted : given 4 sheet plain ≡ ok (its_fields, (sixes_with 0, nines_with 0)) (201 + 2 * D)
accepted = ap (gist (lengths 4)) reads.0 ∙ gives 0 0 [] (201 + 2 * D)

-- so is the other, with the same fields and moved rows
pub accepted-edited : given 4 sheet edited ≡ ok (its_fields, (sixes_with 2, nines_with 2)) (210 + 2 * D)
accepted-edited = ap (gist (lengths 4)) reads.1 ∙ gives 170 2 (187 ∷ []) (210 + 2 * D)

-- ---- an edit of that block

-- marked bytes with every skipped byte and every leftover AA, and two more AA put in at the end of the layout and of each of its sections
abbrev pub filled : Marked → Marked
filled (kept x) = kept x
filled (free x) = free (replicate (length x) 170)
filled (a and b) = filled a and filled b
filled (box w own m r) = box w own (filled m) (replicate (length r + 2) 170)

-- every length in front still fits its bytes
abbrev pub fit : Marked → Bool
fit (kept x) = true
fit (free x) = true
fit (a and b) = fit a && fit b
fit (box w own m r) = leb 1 w && (ltb (own + length (bytes_of (filled m) ++ replicate (length r + 2) 170)) (256 ^ w) && fit m)

-- AA is a byte
pub filling : (n : ℕ) → Bytes (replicate n 170)
filling zero k = omega arith
filling (suc n) zero = omega arith
filling (suc n) (suc k) = filling n k

-- so that is an edit
unfoldable pub filled-edit : (m : Marked) → fit m ≡ true → Edit m (filled m)
filled-edit (kept x) e = keep x
filled-edit (free x) e = fill x (replicate (length x) 170) (length-replicate (length x) 170) (filling (length x))
filled-edit (a and b) e = pair a (filled a) b (filled b) (filled-edit a (both_true (fit a) (fit b) e).0) (filled-edit b (both_true (fit a) (fit b) e).1)
filled-edit (box w own m r) e =
    let (ew, e1) = both_true (leb 1 w) _ e in
    let (el, em) = both_true (ltb (own + length (bytes_of (filled m) ++ replicate (length r + 2) 170)) (256 ^ w)) (fit m) e1 in
    grow w own m (filled m) r (replicate (length r + 2) 170) (leb-true 1 w ew) (filled-edit m em) (omega (arith, length-replicate {A = ℕ} (length r + 2) 170)) (filling (length r + 2)) (ltb-true _ _ el)

-- the block's bytes by what may become of them
abbrev pub marks : Marked
marks = marking sheet (tree_with 0 0)

-- what the edit of it does: every length fits, its bytes and a byte after them are the edited block, and the rows of that are the
-- block's rows, each start moved by what the edit puts in before it
pub record Moves : Type 0 where
  pub fits : fit marks ≡ true
  pub bytes : bytes_of (filled marks) ++ (187 ∷ []) ≡ edited
  pub symbology : map (move_row (λ n. n + put (filled-edit marks fits) n)) (sixes_with 0) ≡ sixes_with 2
  pub layout : map (move_row (λ n. n + put (filled-edit marks fits) (104 + n))) (nines_with 0) ≡ nines_with 2

-- all of that, computed
pub moves : Moves
unfolding block header layout_part symbology_part symbology list symbol date interval mapping parts groups record_l struct_l label_def label fields entry section name text text_of D edits-named edits-on edits-then edits-checked edits-still edits-skip edits-judged edits-apart edits-asks edits-sized edits-times edits-distinct edits-boxed edits-placed edits-padded edits-kept raw-edits num-edits fixed-edits named ◌then◌ ◌on◌ checked raw padded skip num fixed judged placed asks sized limited times distinct boxed full filled-edit
moves = record { fits = refl; bytes = refl; symbology = refl; layout = refl }

-- the edit of the block
abbrev pub edit : Edit marks (filled marks)
edit = filled-edit marks moves.fits

-- a test that every number of a list is a byte
abbrev octets : List ℕ → Bool
octets [] = true
octets (x ∷ xs) = ltb x 256 && octets xs

-- it says so
octets-bytes : (s : List ℕ) → octets s ≡ true → Bytes s
octets-bytes [] e k = omega arith
octets-bytes (x ∷ xs) e zero = ltb-true x 256 (both_true (ltb x 256) (octets xs) e).0
octets-bytes (x ∷ xs) e (suc k) = octets-bytes xs (both_true (ltb x 256) (octets xs) e).1 k

-- demand 3 speaks of that edit: it is read as the block was
pub edit-same : SameRead sheet plain (tree_with 0 0) edited (put edit)
unfolding D
edit-same =
    let short : length (bytes_of (filled marks) ++ (187 ∷ [])) ≡ (210 + 2 * D) = ap length moves.bytes in
    subst (λ b. SameRead sheet plain (tree_with 0 0) b (put edit)) moves.bytes
    ((demand3 sheet plain (tree_with 0 0) [] (201 + 2 * D) (octets-bytes plain refl) reads.0).edits (filled marks) (187 ∷ []) edit (omega (arith, short)))

-- ---- a feed that is done

-- a stream start of version 2: the prelude, and the least block
abbrev pub least_stream : List ℕ
least_stream = 68 ∷ 66 ∷ 78 ∷ 2 ∷ 120 ∷ 0 ∷ 0 ∷ 0 ∷ least

-- the least block gives its fields and no rows
least-given : (t : List ℕ) → given 2 t least ≡ ok (zero_fields 0 0, ([], [])) 120
unfolding block_of lengths whole block header layout_part symbology_part remainder named ◌then◌ ◌on◌ checked raw skip num sized utf8 symbology list mapping limited symbology_rows rows fields_of fields_with
least-given t = refl

-- fed whole to any store of 128 bytes or more, with any sheet and any tables, it is done
pub done : Gives 128 least_stream (Ok (Done (zero_fields 0 0)))
unfolding prelude_of prelude magic ◌then◌ named checked fixed num raw
done = fed_done least_stream 2 120 (zero_fields 0 0) refl refl (omega arith) (λ t s l. subst (λ (u : List ℕ). Promise 2 least t s l (Ok (zero_fields 0 0)) u l) (columns-none 6 s) (read-given 2 least t s l (zero_fields 0 0) [] [] 120 (least-given t) (omega arith) (omega arith)))
