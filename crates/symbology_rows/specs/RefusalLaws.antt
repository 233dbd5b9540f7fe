-- Which numbers a symbology of a block gives, and where. Assumes nothing.
use Rattle.std.specs.Prelude.{Result, Err, ℕ, ◌+◌, ◌≡◌, Bool, List, ◌∷◌, leb}
use Rattle.std.proofs.Common.{zero-le}
use Rattle.std.proofs.Math.Path.{refl}
use Rattle.std.proofs.Math.ListN.{length}
use Rattle.refusal.specs.declared.Refusal.{Refusal}
use Rattle.codec.specs.Codec.{refuse, refusal}
use Rattle.codec.specs.CaseLaws.{by_bool}
use Rattle.codec.specs.Refusals.{Gives, In, Within, tells}
use Rattle.codec.proofs.RefusalLaws.{in_more, gives_is, gives_by}
use Rattle.text.specs.Utf8.{utf8}
use Rattle.padded.specs.Padded.{nul_padded}
use Rattle.dates.specs.Date.{is_date}
use Rattle.symbology_format.specs.Symbology.{symbology}
use Rattle.symbology_format.specs.Contents.{contents_numbers, symbology-numbers}
use Rattle.symbology_rows.specs.Reader.{symbology_of}
use Rattle.symbology_rows.specs.ReadLaws.{gave_refused}
use Rattle.symbology_rows.specs.Answers.{RowsPromise}
use Rattle.symbology_rows.specs.declared.Rows.{Rows}

-- 13 for its size, else a number of its contents
abbrev pub rows_numbers : List ℕ
rows_numbers = 13 ∷ contents_numbers

module _ (width base : ℕ) (s : List ℕ) where
  pub symbology_gives : Gives (In rows_numbers) (symbology_of width base s)
  unfolding symbology_of
  symbology_gives =
      gives_by (In rows_numbers) (leb (base + length s) 4294967295) ((symbology utf8 nul_padded is_date width).codec.parse base s 0) (refuse (refusal 13 0))
      ((symbology utf8 nul_padded is_date width).refuses (In rows_numbers) (symbology-numbers (In rows_numbers) (in_more contents_numbers rows_numbers refl) utf8 nul_padded is_date width) base s 0)
      refl

  -- the contents end within the bytes, and so does the place of a refusal
  pub symbology-within : Within 0 (length s) (symbology_of width base s)
  unfolding symbology_of
  symbology-within =
      by_bool (leb (base + length s) 4294967295)
      (λ e. rw e ((symbology utf8 nul_padded is_date width).inside base s 0 zero-le))
      (λ e. rw e (tells zero-le))

  -- what a reader's answer refuses with
  pub rows-refuse : {write : Bool} {least : ℕ} {t t' : List ℕ} {r : Result Rows Refusal} → RowsPromise write least (symbology_of width base s) t t' r → {k : Refusal} → r ≡ Err k → In rows_numbers k.number
  rows-refuse p e = gives_is (In rows_numbers) symbology_gives (gave_refused p e).0
