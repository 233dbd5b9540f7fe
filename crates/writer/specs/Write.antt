-- What the writer answers and what it leaves of the output: 90 to 95, then the rules, then 96. Each is about no byte: its place is 0.
-- Assumes nothing.
use Rattle.std.specs.Prelude.{true, cond, ℕ, ◌≡◌, Result, Ok, Err, List, [], ◌∷◌, ◌++◌, length, drop, leb, eqb}
use Rattle.codec.specs.Codec.{refusal}
use Rattle.rules.specs.RowRules.{row_rule_numbers, rows_fault}
use Rattle.rows_check.specs.Check.{printed}
use Rattle.rows_check.specs.Tree.{skip}
use Rattle.rows_check.specs.Sections.{Spans, printed_name, printed_entry, printed_label}
use Rattle.put.specs.Output.{Wrote}
use Rattle.refusal.specs.declared.Refusal.{Refusal}

-- how many bytes were written, or what refuses
abbrev pub Written : Type 0
Written = Result ℕ Refusal

-- 90 to 95, then 60 to 83, or x
abbrev pub ruled : List ℕ → ℕ → List ℕ → List ℕ → Written → Written
ruled sheet width rows text x = cond (eqb 0 (rows_fault sheet width true rows text)) x (Err (refusal (rows_fault sheet width true rows text) 0))

-- 96, or x
abbrev pub roomy : List ℕ → ℕ → Written → Written
roomy bytes room x = cond (leb (length bytes) room) x (Err (refusal 96 0))

-- what refuses to write: the rows, their rules, the room
abbrev pub write_numbers : List ℕ
write_numbers = row_rule_numbers true ++ (96 ∷ [])

-- by the sheet, the symbol width, the layout version, the rows with their text, and how long the output is
unfoldable pub write_layout : List ℕ → ℕ → ℕ → List ℕ → List ℕ → ℕ → Written
write_layout sheet width version rows text room =
    ruled sheet width rows text (roomy (printed version rows text) room (Ok (length (printed version rows text))))

-- the bytes stand at the front of the output, and the rest of it is as it was; a refusal leaves it as it was
unfoldable pub out_after : Written → List ℕ → List ℕ → List ℕ
out_after (Ok n) bytes out = bytes ++ drop (length bytes) out
out_after (Err k) bytes out = out

-- what writing answers and leaves
pub record Writes (sheet : List ℕ) (width version : ℕ) (rows text out out' : List ℕ) (r : Written) : Type 0 where
  pub is : r ≡ write_layout sheet width version rows text (length out)
  pub leaves : out' ≡ out_after (write_layout sheet width version rows text (length out)) (printed version rows text) out

-- what writing some sections answers: the place after them, and the row after them
pub record WroteSections (kind : ℕ) (rows : List ℕ) (at : ℕ) (bs o o' : List ℕ) (q k : ℕ) (a p : ℕ) : Type 0 where
  pub wrote : Wrote at bs o o' a
  pub row : p ≡ skip kind rows q k

-- the bytes of the part of a section that row q is, by its kind: 11 an entry, 12 a field's name, else a label
unfoldable pub printed_part : ℕ → List ℕ → List ℕ → ℕ → List ℕ
printed_part kind rows text q = cond (eqb kind 11) (printed_entry rows q) (cond (eqb kind 12) (printed_name rows text q) (printed_label rows text q))

-- the texts of n rows of that kind lie in the text; a field row has none
pub record TextsInside (kind : ℕ) (rows text : List ℕ) (q n : ℕ) : Type 0 where
  pub spans : (kind ≡ 11 → ⊥) → Spans rows text q n

-- ---- the numbers of document 01

-- 0 for a written layout
abbrev pub written_number : Written → ℕ
written_number (Ok n) = 0
written_number (Err e) = e.number
