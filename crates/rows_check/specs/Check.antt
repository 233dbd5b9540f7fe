-- Numbers 90 to 95: which rows make a layout. Each is tried over all rows before the next.
-- Assumes nothing.
use Rattle.std.specs.Prelude.{ℕ, zero, suc, ◌+◌, ◌-◌, ◌*◌, ◌%◌, Bool, true, false, cond, List, [], ◌∷◌, length, take, drop, get_or, leb, ltb, eqb}
use Rattle.text.specs.Utf8.{utf8}
use Rattle.wire.specs.Reader.{all_tests}
use Rattle.layout.specs.LayoutOf.{D, record_l, struct_l, label_def}
use Rattle.wire.specs.Formats.{no_nul}
use Rattle.layout.specs.Layout.{print_layout}
use Rattle.rows_check.specs.Tree.{cell, row_count, by_kind, record_of, struct_of, label_def_of, count_of, names_from, next_section, kinds, structs_from, labels_from, tree_of}

unfoldable pub both : Bool → Bool → Bool
both true b = b
both false b = false

-- f holds of n rows from row q on
unfoldable pub every : (ℕ → Bool) → ℕ → ℕ → Bool
every f q zero = true
every f q (suc k) = both (f q) (every f (q + 1) k)

-- ---- 90: malformed

-- the largest that each of a row's nine numbers may be, kinds 10 to 15; an unused number may be 0. Counts (91) and name lengths (92) are judged apart
abbrev pub limits : List ℕ
limits =
    10 ∷ 4294967295 ∷ 4294967295 ∷ 65535 ∷ 65535 ∷ 65535 ∷ 4294967295 ∷ 4294967295 ∷ 4294967295 ∷
    11 ∷ 65535 ∷ 65535 ∷ 65535 ∷ 255 ∷ 255 ∷ 65535 ∷ 255 ∷ 0 ∷
    12 ∷ 4294967295 ∷ 4294967295 ∷ 0 ∷ 0 ∷ 0 ∷ 0 ∷ 0 ∷ 0 ∷
    13 ∷ 4294967295 ∷ 4294967295 ∷ 65535 ∷ 4294967295 ∷ 0 ∷ 0 ∷ 0 ∷ 0 ∷
    14 ∷ 4294967295 ∷ 4294967295 ∷ 4294967295 ∷ 0 ∷ 0 ∷ 0 ∷ 0 ∷ 0 ∷
    15 ∷ 4294967295 ∷ 4294967295 ∷ 65535 ∷ 0 ∷ 0 ∷ 0 ∷ 0 ∷ 0 ∷ []

unfoldable pub limit_of : ℕ → ℕ → ℕ
limit_of kind j = get_or limits (9 * (kind - 10) + j) 0

abbrev pub number_fits : List ℕ → ℕ → ℕ → ℕ → Bool
number_fits rows q kind j = leb (cell rows q j) (limit_of kind j)

abbrev pub span_fits : List ℕ → List ℕ → ℕ → Bool
span_fits rows text q = leb (cell rows q 1 + cell rows q 2) (length text)

-- the row is of a kind, its numbers fit, and, where it is no field, its span lies in the text
unfoldable pub row_fits : List ℕ → List ℕ → ℕ → Bool
row_fits rows text q =
    both (leb 10 (cell rows q 0)) (both (leb (cell rows q 0) 15)
    (both (every (number_fits rows q (cell rows q 0)) 1 8)
    (cond (eqb (cell rows q 0) 11) true (span_fits rows text q))))

-- ---- 91, 92, 93, of one row

unfoldable pub count_fits : List ℕ → ℕ → Bool
count_fits rows q =
    cond (eqb (cell rows q 0) 10) (leb (cell rows q 6) 65535)
    (cond (eqb (cell rows q 0) 13) (leb (cell rows q 4) 65535)
    (cond (eqb (cell rows q 0) 14) (leb (cell rows q 3) 65535) true))

unfoldable pub name_short : List ℕ → ℕ → Bool
name_short rows q = cond (eqb (cell rows q 0) 11) true (leb (cell rows q 2) 255)

unfoldable pub clean : List ℕ → Bool
clean t = both (no_nul t) (utf8 t)

-- a span outside the text has been refused
unfoldable pub name_clean : List ℕ → List ℕ → ℕ → Bool
name_clean rows text q =
    cond (eqb (cell rows q 0) 11) true
    (cond (span_fits rows text q) (clean (take (cell rows q 2) (drop (cell rows q 1) text))) true)

-- the tests of a row by their numbers; any other number is the kind that the row must have
unfoldable pub row_test : ℕ → List ℕ → List ℕ → ℕ → Bool
row_test which rows text q =
    cond (eqb which 90) (row_fits rows text q)
    (cond (eqb which 91) (count_fits rows q)
    (cond (eqb which 92) (name_short rows q)
    (cond (eqb which 93) (name_clean rows text q)
    (eqb (cell rows q 0) which))))

abbrev pub passes : ℕ → List ℕ → List ℕ → ℕ → ℕ → Bool
passes which rows text q n = every (row_test which rows text) q n

-- ---- kinds in place: record sections, then struct sections, then label defs, and nothing else

-- the kind of the rows with the names
unfoldable pub name_kind : ℕ → ℕ
name_kind kind = by_kind kind 12 12 15

-- a section of that kind stands at row q: its own row, the fields' rows, the names' rows
unfoldable pub section_in_place : ℕ → List ℕ → List ℕ → ℕ → Bool
section_in_place kind rows text q =
    both (leb (q + 1) (row_count rows))
    (both (eqb (cell rows q 0) kind)
    (both (leb (next_section kind rows q) (row_count rows))
    (both (passes 11 rows text (q + 1) (names_from kind rows q - (q + 1)))
    (passes (name_kind kind) rows text (names_from kind rows q) (count_of kind rows q)))))

-- the row after n sections of that kind, or one past the end where one is not in place
unfoldable pub walk : ℕ → List ℕ → List ℕ → ℕ → ℕ → ℕ
walk kind rows text q zero = q
walk kind rows text q (suc n) = cond (section_in_place kind rows text q) (walk kind rows text (next_section kind rows q) n) (row_count rows + 1)

unfoldable pub in_order : List ℕ → List ℕ → Bool
in_order rows text =
    eqb (walk 14 rows text (walk 13 rows text (walk 10 rows text 0 (kinds rows 10)) (kinds rows 13)) (kinds rows 14)) (row_count rows)

unfoldable pub well_formed : List ℕ → List ℕ → Bool
well_formed rows text = both (eqb (length rows % 9) 0) (both (passes 90 rows text 0 (row_count rows)) (in_order rows text))

-- ---- 91: the counts of fields and labels, and those of records, structs and label defs

unfoldable pub groups_fit : ℕ → ℕ → ℕ → Bool
groups_fit r s l = both (leb r 65535) (both (leb s 65535) (leb l 65535))

unfoldable pub counts_fit : List ℕ → List ℕ → Bool
counts_fit rows text = both (passes 91 rows text 0 (row_count rows)) (groups_fit (kinds rows 10) (kinds rows 13) (kinds rows 14))

-- ---- 94: every section, and the layout

-- the bytes of the section at row q
unfoldable pub printed_section : ℕ → List ℕ → List ℕ → ℕ → List ℕ
printed_section kind rows text q =
    by_kind kind (record_l.print (record_of rows text q)) (struct_l.print (struct_of rows text q)) (label_def.print (label_def_of rows text q))

unfoldable pub fits_all : ℕ → List ℕ → List ℕ → ℕ → ℕ → Bool
fits_all kind rows text q zero = true
fits_all kind rows text q (suc k) = both (leb (length (printed_section kind rows text q)) 65535) (fits_all kind rows text (next_section kind rows q) k)

unfoldable pub sections_fit : List ℕ → List ℕ → Bool
sections_fit rows text =
    both (both (fits_all 10 rows text 0 (kinds rows 10)) (fits_all 13 rows text (structs_from rows) (kinds rows 13)))
    (fits_all 14 rows text (labels_from rows) (kinds rows 14))

-- the bytes of the layout
unfoldable pub printed : ℕ → List ℕ → List ℕ → List ℕ
printed version rows text = print_layout all_tests D (tree_of version rows text)

-- how many: a version is two bytes, whichever it is
abbrev pub size : List ℕ → List ℕ → ℕ
size rows text = length (printed 0 rows text)

-- ---- 95: of two labels one after the other the second has the larger code

unfoldable pub rises_at : List ℕ → ℕ → Bool
rises_at rows q =
    cond (eqb (cell rows q 0) 15) (cond (eqb (cell rows (q + 1) 0) 15) (ltb (cell rows q 3) (cell rows (q + 1) 3)) true) true

abbrev pub labels_rise : List ℕ → Bool
labels_rise rows = every (rises_at rows) 0 (row_count rows - 1)

-- ---- the number that refuses the rows, or 0

abbrev pub row_numbers : List ℕ
row_numbers = 90 ∷ 91 ∷ 92 ∷ 93 ∷ 94 ∷ 95 ∷ []

-- of a `whole` layout, or of rows that need only stand in their places
abbrev pub fault_numbers : Bool → List ℕ
fault_numbers whole = cond whole row_numbers (90 ∷ [])

abbrev pub sizes_fit : List ℕ → List ℕ → Bool
sizes_fit rows text = both (sections_fit rows text) (leb (size rows text) 4294967295)

-- 91 to 95
unfoldable pub fit_fault : List ℕ → List ℕ → ℕ
fit_fault rows text =
    cond (counts_fit rows text)
    (cond (passes 92 rows text 0 (row_count rows))
    (cond (passes 93 rows text 0 (row_count rows))
    (cond (sizes_fit rows text) (cond (labels_rise rows) 0 95) 94)
    93)
    92)
    91

-- 90; for a `whole` layout 91 to 95 after it
unfoldable pub fault : Bool → List ℕ → List ℕ → ℕ
fault whole rows text = cond (well_formed rows text) (cond whole (fit_fault rows text) 0) 90
