-- The symbology, as document 01's "Bytes on the wire" has it: the tree that keeps every byte, and the format of each part.
-- Assumes nothing.
use Rattle.std.specs.Prelude.{ℕ, ◌+◌, ◌≤◌, refl, Bool, true, List, length}
use Rattle.std.proofs.Common.{arith, length-append}
use Rattle.codec.specs.Codec
use Rattle.codec.proofs.Laws.{length-little}
use Rattle.codec.proofs.Format.{Format, ◌then◌, named, placed, raw_tests, num_test, asks, limited}

-- what refuses a section that its contents do not span
abbrev pub unspanned : ℕ
unspanned = 28

-- a symbol is its whole width; `start` is counted from the block
pub record Symbol : Type 0 where
  pub start : ℕ
  pub text : List ℕ

pub record Interval : Type 0 where
  pub from : ℕ
  pub to : ℕ
  pub symbol : Symbol

pub record Mapping : Type 0 where
  pub raw_symbol : Symbol
  pub intervals : List Interval

pub record Symbology : Type 0 where
  pub symbols : List Symbol
  pub partial : List Symbol
  pub not_found : List Symbol
  pub mappings : List Mapping

abbrev pub to_symbol : ℕ × List ℕ → Symbol
to_symbol z = record { start = z.0; text = z.1 }

abbrev pub to_interval : ℕ × (ℕ × Symbol) → Interval
to_interval z = record { from = z.0; to = z.1.0; symbol = z.1.1 }

abbrev pub to_mapping : Symbol × List Interval → Mapping
to_mapping z = record { raw_symbol = z.0; intervals = z.1 }

abbrev pub to_symbology : List Symbol × (List Symbol × (List Symbol × List Mapping)) → Symbology
to_symbology z = record { symbols = z.0; partial = z.1.0; not_found = z.1.1.0; mappings = z.1.1.1 }

module _ (utf8 nul_padded : List ℕ → Bool) (is_date : ℕ → Bool) (width : ℕ) where
  -- k where it is cut short, k' where it is not UTF-8, k'' where another byte follows a NUL
  unfoldable pub symbol : ℕ → ℕ → ℕ → Format Symbol true
  symbol k k' k'' = named to_symbol (λ s. (s.start, s.text)) (λ x. refl) (placed (raw_tests utf8 k' nul_padded k'' k width))

  pub symbol_big : (k k' k'' : ℕ) (x : Symbol) → (symbol k k' k'').codec.legal x → width ≤ length ((symbol k k' k'').codec.print x)
  unfolding symbol Codec.named Codec.placed Codec.checked Codec.raw
  symbol_big k k' k'' x lg = omega (arith, lg.0.0.0)

  -- year x 10000 + month x 100 + day in four bytes; k where they are cut short or no date
  unfoldable pub date : ℕ → Format ℕ true
  date k = num_test is_date k k 4

  -- u32 count, then fixed-width symbols; 30 where the count is missing, 31 where it is too large; in each symbol 32 where it is not UTF-8, then 41
  unfoldable pub list : Format (List Symbol) true
  list = limited (symbol 31 32 41) 30 31 4 width (symbol_big 31 32 41)

  -- start date (38), end date (39), symbol (40, then 43)
  unfoldable pub interval : Format Interval true
  interval = named to_interval (λ i. (i.from, (i.to, i.symbol))) (λ x. refl)
      (date 38 then date 39 then symbol 37 40 43)

  pub interval_big : (x : Interval) → interval.codec.legal x → width + 8 ≤ length (interval.codec.print x)
  unfolding interval Codec.named Codec.◌then◌ date Codec.checked Codec.num
  interval_big x lg = simp (length-append, length-little) (omega (arith, symbol_big 37 40 43 x.symbol lg.1.1))

  -- raw symbol (36, then 42), u32 interval count (37 where it is too large), intervals
  abbrev pub mapping_body : Format (Symbol × List Interval) true
  mapping_body = symbol 35 36 42 then limited interval 35 37 4 (width + 8) interval_big

  pub body_big : (x : Symbol × List Interval) → mapping_body.codec.legal x → width + 4 ≤ length (mapping_body.codec.print x)
  unfolding Codec.◌then◌ Codec.limited
  body_big x lg = simp (length-append, length-little) (omega (arith, symbol_big 35 36 42 x.0 lg.0))

  -- 35 where symbol and count do not fit, before anything in the item is judged
  unfoldable pub mapping : Format Mapping true
  mapping = named to_mapping (λ m. (m.raw_symbol, m.intervals)) (λ x. refl) (asks 35 (width + 4) mapping_body body_big)

  pub mapping_big : (x : Mapping) → mapping.codec.legal x → width + 4 ≤ length (mapping.codec.print x)
  unfolding mapping Codec.named Codec.asks
  mapping_big x lg = body_big (x.raw_symbol, x.intervals) lg

  -- lists symbols, partial, not found; then u32 mapping count (33 where it is missing, 34 where it is too large), mappings
  unfoldable pub symbology : Format Symbology true
  symbology = named to_symbology (λ s. (s.symbols, (s.partial, (s.not_found, s.mappings)))) (λ x. refl)
      (list then list then list then limited mapping 33 34 4 (width + 4) mapping_big)
