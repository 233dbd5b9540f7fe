-- What a well sized symbology is refused for: its first fault in wire order.
-- Assumes nothing.
use Rattle.std.specs.Prelude.{ℕ, ◌+◌, ◌^◌, ◌≤◌, ◌<◌, refl, Bool, List, length}
use Rattle.std.proofs.Common.{arith, length-append}
use Rattle.codec.specs.Codec.{raw, num, ◌then◌, named, placed, checked, asks, limited}
use Rattle.codec.proofs.Laws.{length-little}
use Rattle.codec.specs.Faults.{unless}
use Rattle.codec.proofs.FaultLaws.{Faults, faults_as, faults_then, faults_named, faults_placed, faults_asks, faults_limited, faults_filled, faults_raw_tests, faults_num_test}
use Rattle.symbology_format.specs.Symbology.{Symbol, Interval, Mapping, symbol, date, list, interval, mapping, symbology}
use Rattle.symbology_format.specs.SymbologyFaults.{Counted, SizedSymbol, SizedInterval, SizedMapping, SizedSymbology, symbol_fault, list_fault, interval_fault, mapping_fault, symbology_fault}

module _ (utf8 nul_padded : List ℕ → Bool) (is_date : ℕ → Bool) (width : ℕ) where
  -- ---- the law

  faults_symbol : (k k' k'' : ℕ) → 0 < k' → 0 < k'' → Faults (symbol utf8 nul_padded is_date width k k' k'').codec (SizedSymbol width) ((symbol_fault utf8 nul_padded is_date width) k' k'')
  unfolding symbol
  faults_symbol k k' k'' pos pos' = faults_named (faults_placed (faults_raw_tests utf8 k' nul_padded k'' k width pos pos')) _ _

  symbol-width : (k k' k'' : ℕ) (x : Symbol) → SizedSymbol width x → width ≤ length ((symbol utf8 nul_padded is_date width k k' k'').codec.print x)
  unfolding symbol named placed checked raw
  symbol-width k k' k'' x z = omega (arith, z.0)

  faults_date : (k : ℕ) → 0 < k → Faults (date utf8 nul_padded is_date width k).codec (λ n. n < 256 ^ 4) (λ n. unless (is_date n) k)
  unfolding date
  faults_date k pos = faults_num_test is_date k k 4 pos

  faults_list : Faults (list utf8 nul_padded is_date width).codec (Counted (SizedSymbol width)) (list_fault utf8 nul_padded is_date width)
  unfolding list
  faults_list = faults_limited (faults_symbol 31 32 41 (omega arith) (omega arith)) width (symbol-width 31 32 41) 30 31 4 (omega arith)

  faults_interval : Faults (interval utf8 nul_padded is_date width).codec (SizedInterval width) (interval_fault utf8 nul_padded is_date width)
  unfolding interval
  faults_interval = faults_named (faults_then (faults_date 38 (omega arith)) (faults_then (faults_date 39 (omega arith)) (faults_symbol 37 40 43 (omega arith) (omega arith)))) _ _

  interval-least : (x : Interval) → SizedInterval width x → width + 8 ≤ length ((interval utf8 nul_padded is_date width).codec.print x)
  unfolding interval named ◌then◌ date checked num
  interval-least x z = simp (length-append, length-little) (omega (arith, symbol-width 37 40 43 x.symbol z.1.1))

  mapping-least : (x : Mapping) → SizedMapping width x → width + 4 ≤ length ((mapping utf8 nul_padded is_date width).codec.print x)
  unfolding mapping named asks ◌then◌ limited
  mapping-least x z = simp (length-append, length-little) (omega (arith, symbol-width 35 36 42 x.raw_symbol z.0))

  faults_mapping : Faults (mapping utf8 nul_padded is_date width).codec (SizedMapping width) (mapping_fault utf8 nul_padded is_date width)
  unfolding mapping named asks
  faults_mapping =
      faults_named (faults_asks
      (faults_then (faults_symbol 35 36 42 (omega arith) (omega arith)) (faults_filled faults_interval (width + 8) interval-least 35 37 4 (omega arith) (omega arith)))
      35 (width + 4) (λ x. mapping-least (record { raw_symbol = x.0; intervals = x.1 }))) _ _

  -- the bytes of a well sized symbology are refused by its first fault, or read as that symbology
  pub faults_symbology : Faults (symbology utf8 nul_padded is_date width).codec (SizedSymbology width) (symbology_fault utf8 nul_padded is_date width)
  unfolding symbology
  faults_symbology =
      faults_as _ _ (λ t z. (z.symbols, (z.partial, (z.not_found, z.mappings)))) (λ t. refl)
      (faults_named (faults_then faults_list (faults_then faults_list (faults_then faults_list
      (faults_filled faults_mapping (width + 4) mapping-least 33 34 4 (omega arith) (omega arith))))) _ _)
