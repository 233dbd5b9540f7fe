-- What the public readers answer, and what they leave in the table.
-- Assumes nothing.
use Rattle.std.specs.Prelude.{Bool, cond, ℕ, ◌*◌, ◌/◌, ◌≡◌, List, [], ◌∷◌, ◌++◌, length, drop, leb, Result, Ok, Err}
use Rattle.refusal.specs.declared.Refusal.{Refusal}
use Rattle.codec.specs.Codec.{Res, ok, refuse}
use Rattle.table.specs.Table.{flat}
use Rattle.layout.specs.Layout.{Layout}
use Rattle.layout.specs.Rows.{rows}
use Rattle.layout.specs.LayoutOf.{layout_by}
use Rattle.wire.specs.Reader.{tests_of}
use Rattle.layout.specs.declared.Accepted.{Accepted}
use Rattle.layout.specs.declared.ReadError.{ReadError}
use Rattle.layout.specs.declared.ReadError.TheVariants.{Refused, Short}

-- what refuses a layout: 13 for its size, else a number of its bytes
abbrev pub wire_numbers : List ℕ
wire_numbers = 50 ∷ 51 ∷ 52 ∷ 53 ∷ 54 ∷ 55 ∷ []

abbrev pub layout_numbers : List ℕ
layout_numbers = 13 ∷ wire_numbers

-- what an accepted layout has
abbrev pub accepted : ℕ → ℕ → Accepted
accepted v n = record { version = v; rows = n }

-- what is answered without a table, and with one
abbrev pub Verdict : Type 0
Verdict = Result Accepted Refusal

abbrev pub Answer : Type 0
Answer = Result Accepted ReadError

-- without a table
unfoldable pub verdict : Res Layout → Verdict
verdict (ok l j) = Ok (accepted l.version (length (rows l)))
verdict (refuse k) = Err k

-- a table of cap rows is long enough, or short
unfoldable pub judge : ℕ → Res Layout → Answer
judge cap (ok l j) = cond (leb (length (rows l)) cap) (Ok (accepted l.version (length (rows l)))) (Err (Short (accepted l.version (length (rows l)))))
judge cap (refuse k) = Err (Refused k)

-- the rows stand at the front of the table, and the rest of it is as it was
unfoldable pub leave : List ℕ → Res Layout → List ℕ
leave t (ok l j) = cond (leb (length (rows l)) (length t / 9)) (flat (rows l) ++ drop (9 * length (rows l)) t) t
leave t (refuse k) = t

-- what reading the layout s into the table t answers and leaves; where `light` holds the names' texts are not looked at
pub record Answers (light : Bool) (s t t' : List ℕ) (r : Answer) : Type 0 where
  pub is : r ≡ judge (length t / 9) (layout_by (tests_of light) s)
  pub leaves : t' ≡ leave t (layout_by (tests_of light) s)

-- ---- the numbers of document 01

-- 3 for a short table, 0 for an accepted layout
abbrev pub layout_number : Answer → ℕ
layout_number (Ok a) = 0
layout_number (Err (Short a)) = 3
layout_number (Err (Refused e)) = e.number

-- 0 for an accepted layout
abbrev pub verdict_number : Verdict → ℕ
verdict_number (Ok a) = 0
verdict_number (Err e) = e.number
