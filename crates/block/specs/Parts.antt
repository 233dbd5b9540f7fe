-- What the reader's private functions answer: lines over the formats. Assumes nothing.
use Rattle.block_format.specs.declared.Fields.{Fields}
use Rattle.block_format.specs.declared.ReadError.{ReadError}
use Rattle.std.specs.Prelude.{ℕ, ◌+◌, ◌-◌, ◌≤◌, ◌<◌, ◌≡◌, Bool, true, false, cond, List, length, take, drop, Result, Ok, Err}
use Rattle.refusal.specs.declared.Refusal.{Refusal}
use Rattle.refusal.specs.Places.{has_place}
use Rattle.codec.specs.Codec.{Res, ok, refuse, refusal, moved, fault_of, ◌>>=◌, num, raw}
use Rattle.layout.specs.Layout.{Layout}
use Rattle.layout.specs.Rows.{rows}
use Rattle.wire.specs.Reader.{tests_of}
use Rattle.layout.specs.LayoutOf.{layout_by}
use Rattle.symbology_format.specs.Symbology.{Symbology}
use Rattle.symbology.specs.Answers.{SectionPromise}
use Rattle.symbology.specs.declared.Section.{Section}
use Rattle.layout.specs.Answers.{leave}
use Rattle.block_format.specs.Block.{Header, Block, header, width_of, layout_part, symbology_part}
use Rattle.block_format.specs.Read.{answer_of, symbology_after, layout_after}
use Rattle.metadata_lengths.specs.declared.MetadataLengths.{MetadataLengths}
use Rattle.block.specs.declared.LayoutFound.{LayoutFound}

-- a version's header is 100 bytes, and the block has these and no more than fit
pub record Fixed (v : MetadataLengths) (b : List ℕ) : Type 0 where
  pub total : v.dataset_cstr_len + v.record_count_len + v.symbol_cstr_len_len + v.reserved_len ≡ 71
  pub two : 0 < v.symbol_cstr_len_len → v.symbol_cstr_len_len ≡ 2
  pub long : 100 ≤ length b
  pub small : length b ≤ 4294967295

-- P holds of the header, where it is accepted
abbrev pub OfHeader : MetadataLengths → List ℕ → (Header → Type 0) → Type 0
OfHeader v b P = (h : Header) (j : ℕ) → (header v).codec.parse 0 b 0 ≡ ok h j → P h

-- an accepted header, and its symbol width
pub record Headed (v : MetadataLengths) (b : List ℕ) (width : ℕ) : Type 0 where
  pub fixed : Fixed v b
  pub width_is : OfHeader v b (λ h. width ≡ width_of v h)
  pub passed : 0 ≡ fault_of ((header v).codec.parse 0 b 0)

-- the refusal, where there is one
abbrev pub refusal_of : {A : Type 0} → Res A → Result (Unit {0}) Refusal
refusal_of (ok x j) = Ok tt
refusal_of (refuse k) = Err k

-- a refusal of a layout that begins at place p of the block: its place counts from there, and what is about no byte stays so
abbrev pub in_block : ℕ → Refusal → Refusal
in_block p k = cond (has_place k.number) (moved p k) k

-- a part by start and length, or the refusal
abbrev pub Span : Type 0
Span = Result (ℕ × ℕ) Refusal

-- u32 length and that many bytes: where they start and how many; k where the length is missing, k' where they run past the end
abbrev pub span_of : Res ℕ → Span
span_of (ok n p) = Ok (p, n)
span_of (refuse k) = Err k

unfoldable pub span_at : ℕ → ℕ → List ℕ → ℕ → Span
span_at k k' b at = span_of ((num k 4).parse 0 b at >>= λ n p. (raw k' n).parse 0 b p >>= λ x j. ok n p)

-- a part within b, from `at` on
pub data SpanInside (b : List ℕ) (at : ℕ) : Span → Type 0 where
  within : {p n : ℕ} → at ≤ p → p + n ≤ length b → SpanInside b at (Ok (p, n))
  outside : {k : Refusal} → SpanInside b at (Err k)

-- version 4: u32 length and that many bytes; below: the rest
abbrev pub section_at : Bool → List ℕ → ℕ → Span
section_at true b at = span_at 27 45 b at
section_at false b at = Ok (at, length b - at)

-- the table after the rows of a layout, which are read without tests, where a version has one
abbrev pub layout_table : Bool → List ℕ → List ℕ → List ℕ
layout_table has part t = cond has (leave t (layout_by (tests_of true) part)) t

-- the layout part that was read: it ends at e, and its rows make of a table what its bytes make of it
pub record LayoutRead (has : Bool) (sheet : List ℕ) (width : ℕ) (b : List ℕ) (v n e : ℕ) : Type 0 where
  pub tree : Layout
  pub is : (layout_part has sheet width).codec.parse 0 b 100 ≡ ok tree e
  pub from : 104 ≤ e
  pub to : e ≤ length b
  pub leaves : (t : List ℕ) → layout_table has (take (e - 104) (drop 104 b)) t ≡ leave t (ok tree e)
  pub version : tree.version ≡ v
  pub many : length (rows tree) ≡ n

pub data LayoutReads (has : Bool) (sheet : List ℕ) (width : ℕ) (b : List ℕ) : Result LayoutFound Refusal → Type 0 where
  lays : {v n e : ℕ} → LayoutRead has sheet width b v n e → LayoutReads has sheet width b (Ok (record { version = v; rows = n; end = e }))
  lays-no : {k : Refusal} → (layout_part has sheet width).codec.parse 0 b 100 ≡ refuse k → LayoutReads has sheet width b (Err k)

-- what reading the symbology part into the table t answers and leaves; `part` is what its bytes are read as
pub record SymbologyReads (has write : Bool) (width : ℕ) (b : List ℕ) (at : ℕ) (t t' : List ℕ) (r : Result Section Refusal) : Type 0 where
  pub part : Res Symbology
  pub end : ℕ → ℕ
  pub is : (symbology_part has width).codec.parse 0 b at ≡ (part >>= λ x j. ok x (end j))
  pub sixes : SectionPromise write part t t' r

-- the answer and the tables after reading z
pub record Does (v : MetadataLengths) (z : Res (Block × List ℕ)) (s l : List ℕ) (r : Result Fields ReadError) (s' l' : List ℕ) : Type 0 where
  pub answer : r ≡ answer_of v z (length s) (length l)
  pub symbology : s' ≡ symbology_after z s l
  pub layout : l' ≡ layout_after z s l
