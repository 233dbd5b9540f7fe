-- Laws of the report: how long it is, and that the report on the counts of a history is the report of the history.
-- Assumes nothing.
use Rattle.std.specs.Prelude.{ℕ, zero, suc, ◌+◌, ◌*◌, ◌≤◌, ◌<◌, ◌≡◌, refl, List, [], ◌∷◌, length, get_or, replicate}
use Rattle.std.proofs.Common.{arith, length-append}
use Rattle.codec.specs.CaseLaws.{by_eqb}
use Rattle.count.specs.Count.{History, Below, counted_all}
use Rattle.count.specs.CountLaws.{CountsOf, history_counts}
use Rattle.report.specs.Report.{accepted_word, cut_word, rows_word, total_word, line, unless_none, refused_line, refused_lines, lines, report, report_of}
use Rattle.report.specs.DecimalLaws.{decimal-most, decimal-three}

-- ---- how long a report is

line-length : (word : List ℕ) (n : ℕ) → length (line word n) ≤ length word + 21
unfolding line
line-length word n = simp length-append (omega (arith, decimal-most n))

refused-length : (c n : ℕ) → c < 1000 → length (refused_line c n) ≤ 33
unfolding refused_line
refused-length c n h = simp length-append (omega (arith, decimal-three c h, line-length (32 ∷ []) n))

-- a line that may be left out
unless-length : (n m : ℕ) (l : List ℕ) → length l ≤ m → length (unless_none n l) ≤ m
unless-length n m l h = by_eqb n 0 (λ t _. rw t (omega arith)) (λ t _. rw t h)

numbers-length : (f : ℕ → ℕ) (c k : ℕ) → c + k ≤ 1000 → length (refused_lines f c k) ≤ 33 * k
unfolding refused_lines
numbers-length f c zero h = omega arith
numbers-length f c (suc k) h =
    simp length-append
    (omega (arith, unless-length (f c) 33 (refused_line c (f c)) (refused-length c (f c) (omega arith)), numbers-length f (suc c) k (omega arith)))

lines-length : (a : ℕ) (f : ℕ → ℕ) (cut r t : ℕ) → length (lines a f cut r t) ≤ 8567
unfolding lines
lines-length a f cut r t =
    simp length-append
    (omega (arith, line-length accepted_word a, numbers-length f 0 256 (omega arith), unless-length cut 25 (line cut_word cut) (line-length cut_word cut), line-length rows_word r, line-length total_word t))

-- A REPORT HAS AT MOST 8567 BYTES
pub report-length : (c : List ℕ) → length (report c) ≤ 8567
unfolding report
report-length c = lines-length (get_or c 256 0) (λ n. get_or c n 0) (get_or c 257 0) (get_or c 258 0) (get_or c 259 0)

-- ---- the report of a history

-- the lines go by how often each number below 256 occurred
numbers-same : (f g : ℕ → ℕ) (c k : ℕ) → ((n : ℕ) → n < c + k → f n ≡ g n) → refused_lines f c k ≡ refused_lines g c k
unfolding refused_lines
numbers-same f g c zero e = refl
numbers-same f g c (suc k) e = rw (e c (omega arith), numbers-same f g (suc c) k (λ n h. e n (omega arith)))

lines_same : (a₁ a₂ : ℕ) (f g : ℕ → ℕ) (c₁ c₂ r₁ r₂ t₁ t₂ : ℕ) → a₁ ≡ a₂ → ((n : ℕ) → n < 256 → f n ≡ g n) → c₁ ≡ c₂ → r₁ ≡ r₂ → t₁ ≡ t₂
    → lines a₁ f c₁ r₁ t₁ ≡ lines a₂ g c₂ r₂ t₂
unfolding lines
lines_same a₁ a₂ f g c₁ c₂ r₁ r₂ t₁ t₂ a e c r t = rw (a, numbers-same f g 0 256 e, c, r, t)

-- the report on counts that are those of a history
report-counts : (h : History) (c : List ℕ) → CountsOf h c → report c ≡ report_of h
unfolding report report_of
report-counts h c w = lines_same _ _ _ _ _ _ _ _ _ _ w.at-accepted w.at-number w.at_cut w.at_rows w.at-total

-- THE REPORT ON THE COUNTS OF A HISTORY IS THE REPORT OF THE HISTORY
pub report_history : (h : History) → Below 256 h → report (counted_all h (replicate 260 0)) ≡ report_of h
report_history h b = report-counts h (counted_all h (replicate 260 0)) (history_counts h b)
