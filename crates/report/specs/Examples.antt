-- Examples, a line of bytes to a line of text.
-- Assumes nothing.
use Rattle.std.specs.Prelude.{◌≡◌, refl, [], ◌∷◌}
use Rattle.count.specs.Count.{summed}
use Rattle.count.specs.declared.Outcome.TheVariants.{Accepted, Refused, Cut}
use Rattle.report.specs.Report.{digits, decimal, line, refused_line, refused_lines, lines, report_of}

-- 0, and the greatest number of 64 bits
pub numbers_written : (decimal 0 ≡ 48 ∷ []) × (decimal 18446744073709551615 ≡ 49 ∷ 56 ∷ 52 ∷ 52 ∷ 54 ∷ 55 ∷ 52 ∷ 52 ∷ 48 ∷ 55 ∷ 51 ∷ 55 ∷ 48 ∷ 57 ∷ 53 ∷ 53 ∷ 49 ∷ 54 ∷ 49 ∷ 53 ∷ [])
unfolding digits
numbers_written = (refl, refl)

-- nothing came: 'kind count', 'accepted 0', 'rows 0', 'total 0'
pub nothing_came :
    report_of [] ≡
    107 ∷ 105 ∷ 110 ∷ 100 ∷ 32 ∷ 99 ∷ 111 ∷ 117 ∷ 110 ∷ 116 ∷ 10
    ∷ 97 ∷ 99 ∷ 99 ∷ 101 ∷ 112 ∷ 116 ∷ 101 ∷ 100 ∷ 32 ∷ 48 ∷ 10
    ∷ 114 ∷ 111 ∷ 119 ∷ 115 ∷ 32 ∷ 48 ∷ 10
    ∷ 116 ∷ 111 ∷ 116 ∷ 97 ∷ 108 ∷ 32 ∷ 48 ∷ 10
    ∷ []
unfolding report_of lines refused_lines refused_line line digits summed
nothing_came = refl

-- two accepted with 9 and 3 rows, two refused by 50 and one by 7, the last cut:
-- 'kind count', 'accepted 2', 'refused 7 1', 'refused 50 2', 'cut 1', 'rows 12', 'total 6'
pub some_came :
    report_of (Accepted 9 ∷ Refused 50 ∷ Refused 7 ∷ Accepted 3 ∷ Refused 50 ∷ Cut ∷ []) ≡
    107 ∷ 105 ∷ 110 ∷ 100 ∷ 32 ∷ 99 ∷ 111 ∷ 117 ∷ 110 ∷ 116 ∷ 10
    ∷ 97 ∷ 99 ∷ 99 ∷ 101 ∷ 112 ∷ 116 ∷ 101 ∷ 100 ∷ 32 ∷ 50 ∷ 10
    ∷ 114 ∷ 101 ∷ 102 ∷ 117 ∷ 115 ∷ 101 ∷ 100 ∷ 32 ∷ 55 ∷ 32 ∷ 49 ∷ 10
    ∷ 114 ∷ 101 ∷ 102 ∷ 117 ∷ 115 ∷ 101 ∷ 100 ∷ 32 ∷ 53 ∷ 48 ∷ 32 ∷ 50 ∷ 10
    ∷ 99 ∷ 117 ∷ 116 ∷ 32 ∷ 49 ∷ 10
    ∷ 114 ∷ 111 ∷ 119 ∷ 115 ∷ 32 ∷ 49 ∷ 50 ∷ 10
    ∷ 116 ∷ 111 ∷ 116 ∷ 97 ∷ 108 ∷ 32 ∷ 54 ∷ 10
    ∷ []
unfolding report_of lines refused_lines refused_line line digits summed
some_came = refl
