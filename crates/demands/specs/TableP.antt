-- Document 01's table "Checked by hand, marked P", as one fact over the promises of the public functions: for any type sheet and any
-- symbol width, with store and row tables of any length that is long enough, what is answered and what is left in store and tables.
-- Assumes nothing.
use Rattle.block_format.specs.declared.ReadError.{ReadError}
use Rattle.std.specs.Prelude.{ℕ, ◌*◌, ◌≤◌, ◌≡◌, refl, true, false, List, [], ◌∷◌, ◌++◌, length, drop, Result, Ok, Err}
use Rattle.std.proofs.Common.{arith, sym, ap, ◌∙◌}
use Rattle.refusal.specs.declared.Refusal.{Refusal}
use Rattle.codec.specs.Codec.{ok, refuse, refusal, raw, num, fixed, named, checked, placed, sized, times, distinct, whole, boxed, ◌then◌}
use Rattle.text.specs.Utf8.{utf8}
use Rattle.dates.specs.Date.{is_date}
use Rattle.dates.specs.Hand.{p12}
use Rattle.text.specs.Hand.{p13}
use Rattle.table.specs.Table.{flat}
use Rattle.wire.specs.Formats.{section, text_of, text, name}
use Rattle.layout.specs.Layout.{label, label_def, parts, groups, read_layout}
use Rattle.layout.specs.LayoutOf.{layout_of, layout_by}
use Rattle.layout.specs.Rows.{rows}
use Rattle.layout.specs.Answers.{accepted, Answer, verdict}
use Rattle.layout.specs.declared.ReadError.TheVariants as ReadError'
use Rattle.layout.specs.AnswerLaws.{verdict-refused}
use Rattle.layout.specs.Examples.{p7, p8, p9, p7rows}
use Rattle.item_rules.specs.Rules.{seqs_fault, structs_fault, records_fault}
use Rattle.rules.specs.Rules.{rules_of, ruled_of}
use Rattle.given_layout.specs.Ruled.{Ruled}
use Rattle.given_layout.proofs.RuledLaws
use Rattle.given_layout.specs.Single.{read-layout_single}
use Rattle.block_format.specs.Block.{block_of}
use Rattle.block_format.specs.Read.{Promise}
use Rattle.block_format.proofs.ReadLaws.{given, read-given, refused-given}
use Rattle.block.specs.Single.{read-block_single}
use Rattle.block_format.proofs.Examples.{listed, zero_fields, P10, P11}
use Rattle.block_format.specs.declared.Fields.{Fields}
use Rattle.table.specs.Columns.{columns}
use Rattle.feed.proofs.Examples.{Gives, p1, p2, p3, p4, p5}
use Rattle.feed.specs.declared.Answer.TheVariants.{Needs}

-- the layout b, with any sheet, any width and any table with room for the rows: version and row count are answered, the rows stand at
-- the front of the table, and the rest of it is as it was
abbrev pub LayoutGives : List ℕ → ℕ → List (List ℕ) → Type 0
LayoutGives b version rs = (sheet : List ℕ) (width : ℕ) (t t' : List ℕ) (r : Answer) → 9 * length rs ≤ length t → Ruled b width sheet t t' r
    → (r ≡ Ok (accepted version (length rs))) × (t' ≡ flat rs ++ drop (9 * length rs) t)

-- the layout b is refused, with any sheet, any width and any table, and the table is as it was
abbrev pub LayoutRefuses : List ℕ → Refusal → Type 0
LayoutRefuses b n = (sheet : List ℕ) (width : ℕ) (t t' : List ℕ) (r : Answer) → Ruled b width sheet t t' r → (r ≡ Err (ReadError'.Refused n)) × (t' ≡ t)

-- the block b of version 2, with any sheet, any layout table and any symbology table with room for the rows: the fields are answered,
-- the rows stand in the symbology table by column, and the rest of it and the layout table are as they were
abbrev pub BlockGives : List ℕ → Fields → List (List ℕ) → Type 0
BlockGives b f rs = (sheet s l s' l' : List ℕ) (r : Result Fields ReadError) → 6 * length rs ≤ length s → Promise 2 b sheet s l r s' l'
    → (r ≡ Ok f) × (s' ≡ columns 6 rs s) × (l' ≡ l)

-- the block b of version 2 is refused, with any sheet and any tables, and both tables are as they were
abbrev pub BlockRefuses : List ℕ → Refusal → Type 0
BlockRefuses b n = (sheet s l s' l' : List ℕ) (r : Result Fields ReadError) → Promise 2 b sheet s l r s' l' → (r ≡ Err (ReadError.Refused n)) × (s' ≡ s) × (l' ≡ l)

-- what a layout gives is what its reader leaves
layout_gives : (b : List ℕ) (version : ℕ) (rs : List (List ℕ)) (k : ℕ) → ((sheet : List ℕ) (width : ℕ) → RuledLaws.given sheet width b ≡ ok (version, rs) k) → LayoutGives b version rs
layout_gives b version rs k e sheet width t t' r h p = read-layout_single p (RuledLaws.read-given sheet width b t version rs k (e sheet width) (omega arith))

-- a refused layout leaves the table
layout-refuses : (b : List ℕ) (n : Refusal) → ((sheet : List ℕ) (width : ℕ) → ruled_of sheet width b ≡ refuse n) → LayoutRefuses b n
layout-refuses b n e sheet width t t' r p = read-layout_single p (RuledLaws.ruled-no (sym (ap verdict (e sheet width) ∙ verdict-refused n)))

-- and so for a block without layout rows
block_gives : (b : List ℕ) (f : Fields) (rs : List (List ℕ)) (k : ℕ) → ((sheet : List ℕ) → given 2 sheet b ≡ ok (f, (rs, [])) k) → BlockGives b f rs
block_gives b f rs k e sheet s l s' l' r h p = read-block_single p (read-given 2 b sheet s l f rs [] k (e sheet) (omega arith) (omega arith))

-- a refused block leaves both tables
block-refuses : (b : List ℕ) (n : Refusal) → ((sheet : List ℕ) → block_of 2 sheet b ≡ refuse n) → BlockRefuses b n
block-refuses b n e sheet s l s' l' r p = read-block_single p (refused-given 2 b sheet s l (e sheet))

-- P6's layout
abbrev pub p6 : List ℕ
p6 = 1 ∷ 0 ∷ 0 ∷ 0 ∷ 0 ∷ 0 ∷ 0 ∷ 0 ∷ []

-- no items, no rows
P6 : (sheet : List ℕ) (width : ℕ) → RuledLaws.given sheet width p6 ≡ ok (1, []) 8
unfolding ruled_of layout_by read_layout whole parts groups sized num raw ◌then◌ times rows rules_of seqs_fault structs_fault records_fault
P6 sheet width = refl

-- a label def of one label
P7 : (sheet : List ℕ) (width : ℕ) → RuledLaws.given sheet width p7 ≡ ok (1, p7rows) 22
unfolding ruled_of layout_by read_layout whole parts groups sized num raw fixed ◌then◌ times rows label_def label named section boxed name text text_of checked placed distinct utf8 rules_of seqs_fault structs_fault records_fault
P7 sheet width = refl

-- the same with two bytes left over in its section
P8 : (sheet : List ℕ) (width : ℕ) → RuledLaws.given sheet width p8 ≡ ok (1, p7rows) 24
unfolding ruled_of layout_by read_layout whole parts groups sized num raw fixed ◌then◌ times rows label_def label named section boxed name text text_of checked placed distinct utf8 rules_of seqs_fault structs_fault records_fault
P8 sheet width = refl

-- a section length below 2
P9 : (sheet : List ℕ) (width : ℕ) → ruled_of sheet width p9 ≡ refuse (refusal 51 8)
unfolding ruled_of layout_by read_layout whole parts groups sized num raw fixed ◌then◌ times rows label_def label named section boxed name text text_of checked placed distinct utf8
P9 sheet width = refl

-- the table, line by line
pub record TableP : Type 0 where
  pub p01 : Gives 8 [] (Ok (Needs 8))
  pub p02 : Gives 8 (68 ∷ 66 ∷ []) (Ok (Needs 6))
  pub p03 : Gives 108 (68 ∷ 66 ∷ 78 ∷ 2 ∷ 100 ∷ 0 ∷ 0 ∷ 0 ∷ []) (Ok (Needs 100))
  pub p04 : Gives 8 (68 ∷ 66 ∷ 78 ∷ 2 ∷ 99 ∷ 0 ∷ 0 ∷ 0 ∷ []) (Err (ReadError.Refused (refusal 12 4)))
  pub p05 : Gives 8 (68 ∷ 66 ∷ 78 ∷ 5 ∷ 0 ∷ 0 ∷ 0 ∷ 0 ∷ []) (Err (ReadError.Refused (refusal 11 3)))
  pub p06 : LayoutGives p6 1 []
  pub p07 : LayoutGives p7 1 p7rows
  pub p08 : LayoutGives p8 1 p7rows
  pub p09 : LayoutRefuses p9 (refusal 51 8)
  pub p10 : BlockGives (listed (69 ∷ 83 ∷ 0 ∷ [])) (zero_fields 3 1) ((0 ∷ 108 ∷ 2 ∷ 0 ∷ 0 ∷ 0 ∷ []) ∷ [])
  pub p11 : BlockRefuses (listed (69 ∷ 0 ∷ 83 ∷ [])) (refusal 41 108)
  pub dates : (is_date 20240229 ≡ true) × (is_date 20000229 ≡ true) × (is_date 19000229 ≡ false) × (is_date 20241301 ≡ false)
  pub texts : (utf8 (0xE2 ∷ 0x80 ∷ 0x8D ∷ []) ≡ true) × (utf8 (0xC0 ∷ 0x80 ∷ []) ≡ false) × (utf8 (0xED ∷ 0xA0 ∷ 0x80 ∷ []) ≡ false) × (utf8 (0xF4 ∷ 0x90 ∷ 0x80 ∷ 0x80 ∷ []) ≡ false)

-- THE TABLE
pub table : TableP
table = record {
  p01 = p1;
  p02 = p2;
  p03 = p3;
  p04 = p4;
  p05 = p5;
  p06 = layout_gives p6 1 [] 8 P6;
  p07 = layout_gives p7 1 p7rows 22 P7;
  p08 = layout_gives p8 1 p7rows 24 P8;
  p09 = layout-refuses p9 (refusal 51 8) P9;
  p10 = block_gives (listed (69 ∷ 83 ∷ 0 ∷ [])) (zero_fields 3 1) ((0 ∷ 108 ∷ 2 ∷ 0 ∷ 0 ∷ 0 ∷ []) ∷ []) 123 P10;
  p11 = block-refuses (listed (69 ∷ 0 ∷ 83 ∷ [])) (refusal 41 108) P11;
  dates = p12;
  texts = p13;
}
