-- The names of a symbology's rows: the bytes of each symbol before its first NUL. Assumes nothing.
use Rattle.std.specs.Prelude.{ℕ, ◌≡◌, Bool, true, List, length, get_or, take, drop}
use Rattle.std.proofs.Common.{sym, ap, ◌∙◌, subst, take-take}
use Rattle.text.specs.Trim.{trimmed_len}
use Rattle.text.specs.TrimLaws.{trimmed-le}
use Rattle.padded.specs.Padded.{nul_padded, before_nul}
use Rattle.padded.proofs.PaddedLaws.{Name, padded-name}
use Rattle.table.specs.EachLaws.{Each}
use Rattle.symbology_format.specs.Symbology.{Symbology, symbology}
use Rattle.symbology_format.specs.SymbologyRows.{symbology_rows}
use Rattle.symbology_format.proofs.EachRowLaws.{each_row}

-- the name by a row's start and length is that of the symbol of this width that begins there
abbrev pub NamedIn : List ℕ → ℕ → List ℕ → Type 0
NamedIn b width r = Name (take width (drop (get_or r 1 0) b)) (take (get_or r 2 0) (drop (get_or r 1 0) b))

-- the text u stands at place n of b
abbrev pub Stands : List ℕ → ℕ → List ℕ → Type 0
Stands b n u = take (length u) (drop n b) ≡ u

-- a text of this width that stands there and has only NULs after a NUL: the name is what is kept of it
pub name-stands : (b : List ℕ) (width n : ℕ) (u : List ℕ) → length u ≡ width → nul_padded u ≡ true → Stands b n u → Name (take width (drop n b)) (take (trimmed_len u) (drop n b))
name-stands b width n u wide padded e =
    let whole : take width (drop n b) ≡ u = subst (λ m. take m (drop n b) ≡ u) wide e in
    let part : take (trimmed_len u) (drop n b) ≡ before_nul u = sym (take-take (trimmed_len u) (length u) (drop n b) (trimmed-le u)) ∙ ap (take (trimmed_len u)) e ∙ (padded-name u padded).is in
    subst (λ t. Name t (take (trimmed_len u) (drop n b))) (sym whole) (subst (Name u) (sym part) (padded-name u padded))

-- of every row
pub symbology-named : (utf8 : List ℕ → Bool) (is_date : ℕ → Bool) (width : ℕ) (b : List ℕ) (t : Symbology) → (symbology utf8 nul_padded is_date width).codec.legal t → (symbology utf8 nul_padded is_date width).codec.each (Stands b) t → Each (NamedIn b width) (symbology_rows t)
symbology-named utf8 is_date width b = each_row utf8 nul_padded is_date width (Stands b) (NamedIn b width) (λ kind i x y owner s wide padded e. name-stands b width s.start s.text wide padded e)
