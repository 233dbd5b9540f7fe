-- Sections by their rows: where their rows and texts lie, and the bytes of their parts.
-- Assumes nothing.
use Rattle.std.specs.Prelude.{ℕ, zero, suc, ◌+◌, ◌*◌, ◌≤◌, ◌<◌, cond, List, [], ◌++◌, length}
use Rattle.rows_check.specs.Tree.{cell, count_of, names_from, next_section, by_kind, has_fields, from, after, name_of, entry_of, label_of, fields_of, record_of}
use Rattle.codec.specs.Codec.{little}
use Rattle.wire.specs.Reader.{all_tests}
use Rattle.wire.specs.Reader.{name}
use Rattle.layout.specs.LayoutOf.{D, entry, fields, label}
use Rattle.layout.specs.Layout
use Rattle.layout.specs.PrintLaws.{record_parts}
use Rattle.rows_check.specs.Check.{printed_section}

-- the texts of n rows from q lie in the text
abbrev pub Spans : List ℕ → List ℕ → ℕ → ℕ → Type 0
Spans rows text q n = (k : ℕ) → q ≤ k → k < q + n → cell rows k 1 + cell rows k 2 ≤ length text

-- the rows of the section at row q are in the table, and their texts in the text
pub record SectionRows (kind : ℕ) (rows text : List ℕ) (q : ℕ) : Type 0 where
  pub inside : 9 * next_section kind rows q ≤ length rows
  pub own : cell rows q 1 + cell rows q 2 ≤ length text
  pub names : Spans rows text (names_from kind rows q) (count_of kind rows q)

unfoldable pub Sections : ℕ → List ℕ → List ℕ → ℕ → ℕ → Type 0
Sections kind rows text q zero = Unit {0}
Sections kind rows text q (suc k) = SectionRows kind rows text q × Sections kind rows text (next_section kind rows q) k

-- ---- bytes

-- the bytes of k items: f q of the first, and `next q` is the row of the one after it
unfoldable pub many : (ℕ → ℕ) → (ℕ → List ℕ) → ℕ → ℕ → List ℕ
many next f q zero = []
many next f q (suc k) = f q ++ many next f (next q) k

abbrev pub printed_name : List ℕ → List ℕ → ℕ → List ℕ
printed_name rows text q = name.print (name_of rows text q)

abbrev pub printed_entry : List ℕ → ℕ → List ℕ
printed_entry rows q = entry.print (entry_of rows q)

abbrev pub printed_label : List ℕ → List ℕ → ℕ → List ℕ
printed_label rows text q = label.print (label_of rows text q)

abbrev pub printed_fields : List ℕ → List ℕ → ℕ → ℕ → List ℕ
printed_fields rows text q n = fields.print (fields_of rows text q n)

-- a record's numbers
abbrev pub printed_head : List ℕ → ℕ → List ℕ
printed_head rows q = little 2 (cell rows q 3) ++ (little 2 (cell rows q 4) ++ (little 2 (cell rows q 5) ++ little 8 (cell rows q 7 + 4294967296 * cell rows q 8)))

-- a count and that many labels
abbrev pub printed_labels : List ℕ → List ℕ → ℕ → ℕ → List ℕ
printed_labels rows text q n = little 2 n ++ many after (printed_label rows text) q n

-- ---- the bodies of sections

-- what stands before the name: a record's numbers, a struct's size; a label def has nothing there
abbrev pub printed_numbers : ℕ → List ℕ → ℕ → List ℕ
printed_numbers kind rows q = by_kind kind (printed_head rows q) (little 2 (cell rows q 3)) []

-- what stands after the name: fields, or labels
abbrev pub printed_contents : ℕ → List ℕ → List ℕ → ℕ → List ℕ
printed_contents kind rows text q =
    cond (has_fields kind) (printed_fields rows text (q + 1) (count_of kind rows q)) (printed_labels rows text (q + 1) (count_of kind rows q))

-- of a record, a struct, a label def
unfoldable pub printed_body : ℕ → List ℕ → List ℕ → ℕ → List ℕ
printed_body kind rows text q =
    by_kind kind ((Layout.record_body all_tests D).codec.print (record_parts all_tests D (record_of rows text q)))
    ((Layout.struct_body all_tests D).codec.print (cell rows q 3, (name_of rows text q, fields_of rows text (q + 1) (cell rows q 4))))
    ((Layout.label_body all_tests).codec.print (name_of rows text q, from after (label_of rows text) (q + 1) (cell rows q 3)))

-- a count and that many sections
unfoldable pub printed_group : ℕ → List ℕ → List ℕ → ℕ → ℕ → List ℕ
printed_group kind rows text q k = little 2 k ++ many (next_section kind rows) (printed_section kind rows text) q k
