-- The rows of a symbology have six numbers each. Assumes nothing.
use Rattle.std.specs.Prelude.{ℕ, refl, List, [], ◌∷◌, ◌++◌}
use Rattle.table.proofs.TableLaws.{Wide, wide-append, wide-map, wide_from}
use Rattle.symbology_format.specs.Symbology.{Symbol, Symbology}
use Rattle.symbology_format.specs.SymbologyRows.{symbology_rows, list_row, list_rows, mapping_rows, interval_row}

pub rows-of-six : (t : Symbology) → Wide 6 (symbology_rows t)
unfolding symbology_rows
rows-of-six t = lists 0 t.symbols 0 _ (lists 1 t.partial _ _ (lists 2 t.not_found _ _ (wide_from 6 mapping_rows (λ m n. (refl, wide-map 6 (interval_row n) (λ i. refl) m.intervals)) t.mappings _)))
  where
    lists : (kind : ℕ) (xs : List Symbol) (n : ℕ) (rest : List (List ℕ)) → Wide 6 rest → Wide 6 (list_rows kind xs n ++ rest)
    lists kind xs n rest h = wide-append 6 (list_rows kind xs n) rest (wide_from 6 (λ s n. list_row kind s n ∷ []) (λ s n. (refl, tt)) xs n) h
