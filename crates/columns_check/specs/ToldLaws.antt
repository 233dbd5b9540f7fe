-- What an answer of the check tells of the rows. Assumes nothing.
use Rattle.std.specs.Prelude.{ℕ, ◌+◌, ◌≡◌, Bool, cond, List, length, Ok, Err}
use Rattle.std.proofs.Math.Path.{refl}
use Rattle.std.proofs.Common.{sym, subst}
use Rattle.std.proofs.Math.Bool.{true, false}
use Rattle.text.specs.Utf8.{utf8}
use Rattle.padded.specs.Padded.{nul_padded}
use Rattle.dates.specs.Date.{is_date}
use Rattle.symbology_format.specs.SymbologyFaults.{symbology_fault}
use Rattle.columns_check.specs.Tree.{symbol_rows, partial_rows, not_found_rows, symbology_of}
use Rattle.columns_check.specs.Check.{well_formed, narrow, Columns, columns_of}
use Rattle.columns_check.specs.RowLaws.{symbols-count}
use Rattle.codec.specs.Telling.{passed}
use Rattle.columns_check.specs.declared.Counts.{Counts}
use Rattle.columns_check.specs.declared.Unfit.TheVariants.{Malformed, Wide}

-- rows as they must be: how many each list has, how many mappings there are, and the reader's number
pub record Told (width : ℕ) (t : List ℕ) (n : ℕ) (text : List ℕ) (k : Counts) : Type 0 where
  pub formed : well_formed t n text ≡ true
  pub narrow : narrow width t n ≡ true
  pub symbols : k.symbols ≡ symbol_rows t n
  pub partial : k.partial ≡ partial_rows t n
  pub not_found : k.not_found ≡ not_found_rows t n
  pub mappings : k.mappings ≡ length (symbology_of width t n text).mappings
  pub fault : k.fault ≡ passed (symbology_fault utf8 nul_padded is_date width (symbology_of width t n text))

module _ (width : ℕ) (t : List ℕ) (n : ℕ) (text : List ℕ) where
  abbrev Says : Columns → Type 0
  Says (Err Malformed) = well_formed t n text ≡ false
  Says (Err Wide) = (well_formed t n text ≡ true) × (narrow width t n ≡ false)
  Says (Ok k) = Told width t n text k

  says : Says (columns_of width t n text)
  unfolding columns_of symbology_of
  says = go (well_formed t n text) refl (narrow width t n) refl
    where
      go : (w : Bool) → well_formed t n text ≡ w → (s : Bool) → narrow width t n ≡ s
          → let z = symbology_of width t n text in
          Says (cond w
          (cond s
          (Ok (record { symbols = length z.symbols; partial = length z.partial; not_found = length z.not_found; mappings = length z.mappings; fault = passed (symbology_fault utf8 nul_padded is_date width z) }))
          (Err Wide))
          (Err Malformed))
      go false e s f = e
      go true e false f = (e, f)
      go true e true f = record {
        formed = e;
        narrow = f;
        symbols = symbols-count width t text 0 (symbol_rows t n);
        partial = symbols-count width t text (symbol_rows t n) (partial_rows t n);
        not_found = symbols-count width t text (symbol_rows t n + partial_rows t n) (not_found_rows t n);
        mappings = refl;
        fault = refl;
      }

  pub told_malformed : Err Malformed ≡ columns_of width t n text → well_formed t n text ≡ false
  told_malformed e = subst Says (sym e) says

  pub told-wide : Err Wide ≡ columns_of width t n text → (well_formed t n text ≡ true) × (narrow width t n ≡ false)
  told-wide e = subst Says (sym e) says

  pub told-rows : (k : Counts) → Ok k ≡ columns_of width t n text → Told width t n text k
  told-rows k e = subst Says (sym e) says
