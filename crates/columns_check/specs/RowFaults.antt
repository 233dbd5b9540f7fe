-- What the walks over the rows find: the mappings, and the first number by which the reader would refuse a row's text. Assumes nothing.
use Rattle.std.specs.Prelude.{ℕ, zero, suc, ◌+◌, cond, List, leb, eqb, Result, Ok, Err}
use Rattle.refusal.specs.declared.Refusal.{Refusal}
use Rattle.codec.specs.Codec.{refusal}
use Rattle.codec.specs.Faults.{unless, first}
use Rattle.text.specs.Utf8.{utf8}
use Rattle.padded.specs.Padded.{nul_padded}
use Rattle.columns_check.specs.Tree.{kind_of, text_of}

-- 1 where row r is a mapping, else 0
abbrev pub head : List ℕ → ℕ → ℕ
head t r = cond (eqb (kind_of t r) 3) 1 0

-- how many of n rows from row r on are mappings
abbrev pub heads : List ℕ → ℕ → ℕ → ℕ
heads t r zero = 0
heads t r (suc n) = head t r + heads t (r + 1) n

-- k where a text is not UTF-8, then k' where another byte follows a NUL
abbrev pub text_fault : ℕ → ℕ → List ℕ → ℕ
text_fault k k' x = first (unless (utf8 x) k) (unless (nul_padded x) k')

-- of a list 31 where the width is 0, then 32 and 41; of a mapping 36 and 42; of an interval 40 and 43
unfoldable pub row_fault : ℕ → List ℕ → List ℕ → ℕ → ℕ
row_fault width t text r =
    cond (leb (kind_of t r) 2) (cond (eqb width 0) 31 (text_fault 32 41 (text_of t text r)))
    (cond (eqb (kind_of t r) 3) (text_fault 36 42 (text_of t text r)) (text_fault 40 43 (text_of t text r)))

-- of n rows from row r on
abbrev pub rows_fault : ℕ → List ℕ → List ℕ → ℕ → ℕ → ℕ
rows_fault width t text r zero = 0
rows_fault width t text r (suc n) = first (row_fault width t text r) (rows_fault width t text (r + 1) n)
