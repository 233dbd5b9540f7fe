-- The morning report, line by line, as document 02's request 12 has it. Texts are ASCII.
-- Assumes nothing.
use Rattle.std.specs.Prelude.{ℕ, zero, suc, ◌+◌, ◌/◌, ◌%◌, cond, List, [], ◌∷◌, ◌++◌, get_or, eqb, ltb}
use Rattle.count.specs.Count.{History, accepted, refused, cuts, rows, total, clipped}

-- ---- numbers

-- at most k decimal digits of n, the first not 0 unless it is the only one
unfoldable pub digits : ℕ → ℕ → List ℕ
digits zero n = []
digits (suc k) n = cond (ltb n 10) ((48 + n) ∷ []) (digits k (n / 10) ++ ((48 + n % 10) ∷ []))

-- a number as it is written; one of 64 bits has at most twenty digits
abbrev pub decimal : ℕ → List ℕ
decimal n = digits 20 n

-- ---- lines

-- 'kind count', a line
abbrev pub kind_line : List ℕ
kind_line = 107 ∷ 105 ∷ 110 ∷ 100 ∷ 32 ∷ 99 ∷ 111 ∷ 117 ∷ 110 ∷ 116 ∷ 10 ∷ []

-- 'accepted '
abbrev pub accepted_word : List ℕ
accepted_word = 97 ∷ 99 ∷ 99 ∷ 101 ∷ 112 ∷ 116 ∷ 101 ∷ 100 ∷ 32 ∷ []

-- 'refused '
abbrev pub refused_word : List ℕ
refused_word = 114 ∷ 101 ∷ 102 ∷ 117 ∷ 115 ∷ 101 ∷ 100 ∷ 32 ∷ []

-- 'cut '
abbrev pub cut_word : List ℕ
cut_word = 99 ∷ 117 ∷ 116 ∷ 32 ∷ []

-- 'rows '
abbrev pub rows_word : List ℕ
rows_word = 114 ∷ 111 ∷ 119 ∷ 115 ∷ 32 ∷ []

-- 'total '
abbrev pub total_word : List ℕ
total_word = 116 ∷ 111 ∷ 116 ∷ 97 ∷ 108 ∷ 32 ∷ []

-- a word with its blank, a number, the line's end
unfoldable pub line : List ℕ → ℕ → List ℕ
line word n = word ++ (decimal n ++ (10 ∷ []))

-- no line where the number is 0
abbrev pub unless_none : ℕ → List ℕ → List ℕ
unless_none n l = cond (eqb n 0) [] l

-- 'refused C N'
unfoldable pub refused_line : ℕ → ℕ → List ℕ
refused_line c n = refused_word ++ (decimal c ++ line (32 ∷ []) n)

-- for k numbers from c on, each that occurred; f gives how often
unfoldable pub refused_lines : (ℕ → ℕ) → ℕ → ℕ → List ℕ
refused_lines f c zero = []
refused_lines f c (suc k) = unless_none (f c) (refused_line c (f c)) ++ refused_lines f (suc c) k

-- 'kind count', 'accepted N', the refusal numbers that occurred, rising, 'cut N' if any, 'rows N', 'total N'
unfoldable pub lines : ℕ → (ℕ → ℕ) → ℕ → ℕ → ℕ → List ℕ
lines accepted refused cut rows total =
    kind_line
    ++ (line accepted_word accepted
    ++ (refused_lines refused 0 256
    ++ (unless_none cut (line cut_word cut)
    ++ (line rows_word rows
    ++ line total_word total))))

-- THE REPORT ON COUNTS
unfoldable pub report : List ℕ → List ℕ
report c = lines (get_or c 256 0) (λ n. get_or c n 0) (get_or c 257 0) (get_or c 258 0) (get_or c 259 0)

-- THE REPORT OF A HISTORY
unfoldable pub report_of : History → List ℕ
report_of h = lines (clipped (accepted h)) (λ n. clipped (refused n h)) (clipped (cuts h)) (clipped (rows h)) (clipped (total h))
