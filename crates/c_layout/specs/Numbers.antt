-- What the C functions of a layout give for each case of an answer: document 01's number, and the values in `out`.
-- Assumes nothing.
use Rattle.std.specs.Prelude.{ℕ, ◌/◌, ◌≡◌, List, length, set, Ok, Err}
use Rattle.c_texts.specs.Numbers.{place_out}
use Rattle.layout.specs.Answers.{Answer, Verdict, verdict, judge, leave, layout_number, verdict_number}
use Rattle.layout.specs.declared.ReadError.TheVariants.{Refused, Short}
use Rattle.rules.specs.Rules.{ruled_of}
use Rattle.rows_check.specs.Check.{printed}
use Rattle.writer.specs.Write.{Written, write_layout, out_after, written_number}

-- ---- a layout

-- version at 9 and rows at 11; with 3 the rows needed, at 11; of a refusal the place, at 13, where it has one
abbrev pub layout_out : Answer → List ℕ → List ℕ
layout_out (Ok a) o = set (set o 9 a.version) 11 a.rows
layout_out (Err (Short a)) o = set o 11 a.rows
layout_out (Err (Refused e)) o = place_out e o

-- THE PROMISE of dbn_layout: the layout s, ruled on with the width w and the sheet, its rows in the table t
pub record LayoutC (s : List ℕ) (w : ℕ) (sheet t o : List ℕ) (r : ℕ) (t' o' : List ℕ) : Type 0 where
  pub number : r ≡ layout_number (judge (length t / 9) (ruled_of sheet w s))
  pub out : o' ≡ layout_out (judge (length t / 9) (ruled_of sheet w s)) o
  pub rows : t' ≡ leave t (ruled_of sheet w s)

-- version at 9 and rows at 11; of a refusal the place, at 13, where it has one
abbrev pub verdict_out : Verdict → List ℕ → List ℕ
verdict_out (Ok a) o = set (set o 9 a.version) 11 a.rows
verdict_out (Err e) o = place_out e o

-- THE PROMISE of dbn_layout_plain: the layout s, ruled on with the width w and the sheet, and no table
pub record LayoutPlainC (s : List ℕ) (w : ℕ) (sheet o : List ℕ) (r : ℕ) (o' : List ℕ) : Type 0 where
  pub number : r ≡ verdict_number (verdict (ruled_of sheet w s))
  pub out : o' ≡ verdict_out (verdict (ruled_of sheet w s)) o

-- ---- a layout written

-- the length at 0
abbrev pub written_out : Written → List ℕ → List ℕ
written_out (Ok n) o = set o 0 n
written_out (Err e) o = o

-- THE PROMISE of dbn_write_layout: rows and text written as a layout of version v, for the width w, into the output u
pub record WriteC (rows text : List ℕ) (v w : ℕ) (sheet u o : List ℕ) (r : ℕ) (u' o' : List ℕ) : Type 0 where
  pub number : r ≡ written_number (write_layout sheet w v rows text (length u))
  pub out : o' ≡ written_out (write_layout sheet w v rows text (length u)) o
  pub output : u' ≡ out_after (write_layout sheet w v rows text (length u)) (printed v rows text) u
