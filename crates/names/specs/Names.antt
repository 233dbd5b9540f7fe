-- The text of a row, as document 01's "Rows" has it, with request 10 of document 02: asked for by index, a part of the bytes that the row's start counts from.
-- Assumes nothing.
use Rattle.std.specs.Prelude.{ℕ, ◌+◌, ◌/◌, Bool, not, ◌&&◌, cond, List, [], length, take, drop, leb, ltb, eqb, Result, Ok, Err}
use Rattle.codec.specs.Codec.{refusal}
use Rattle.table.specs.Columns.{cell, row_cell}
use Rattle.names.specs.declared.Span.{Span}
use Rattle.refusal.specs.declared.Refusal.{Refusal}

-- every kind of symbology row has a text: lists 0, 1, 2, mapping 3, interval 4; what is no kind has none
abbrev pub symbol_text : ℕ → Bool
symbol_text kind = leb kind 4

-- of the layout's kinds, 10 to 15, a field (11) has none; what is no kind has none
abbrev pub item_text : ℕ → Bool
item_text kind = not (eqb kind 11) && (leb 10 kind && leb kind 15)

-- a part by start and length; or the refusal
abbrev pub Spanned : Type 0
Spanned = Result Span Refusal

abbrev pub spanned : ℕ → ℕ → Spanned
spanned start len = Ok (record { start = start; len = len })

-- what has no text is refused by 90, which is about no byte
abbrev pub no_text : Spanned
no_text = Err (refusal 90 0)

-- a start and a length; 90 for a row without a text, or where they reach past n bytes
unfoldable pub text_span : Bool → ℕ → ℕ → ℕ → Spanned
text_span has n start len = cond (has && leb (start + len) n) (spanned start len) no_text

-- row `index` of a table of so many rows, by its numbers: kind, start, length; 90 past the table
unfoldable pub span_of : (ℕ → Bool) → ℕ → ℕ → (ℕ → ℕ) → ℕ → Spanned
span_of hasText n count number index = cond (ltb index count) (text_span (hasText (number 0)) n (number 1) (number 2)) no_text

-- symbology rows stand by column, layout rows one after the other
abbrev pub symbology_span : ℕ → List ℕ → ℕ → Spanned
symbology_span n table index = span_of symbol_text n (length table / 6) (cell 6 table index) index

abbrev pub layout_span : ℕ → List ℕ → ℕ → Spanned
layout_span n rows index = span_of item_text n (length rows / 9) (row_cell 9 rows index) index

-- the bytes of a span, and none for a refusal
unfoldable pub part_in : List ℕ → Spanned → List ℕ
part_in b (Ok s) = cond (leb (s.start + s.len) (length b)) (take s.len (drop s.start b)) []
part_in b (Err k) = []

-- ---- the numbers of document 01

-- 0 for a span
abbrev pub span_number : Spanned → ℕ
span_number (Ok s) = 0
span_number (Err e) = e.number
