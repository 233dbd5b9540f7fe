-- The symbology's formats, as the code meets them. Assumes nothing.
use Rattle.std.specs.Prelude.{Ok, Err}
use Prim.Native.Nat.{ℕ, zero, suc, ◌+◌, ◌-◌, ◌*◌, ◌/◌, ◌≤◌, ◌<◌}
use mathlib.Core.Path.{◌≡◌, refl, sym, ap, ap₂, ◌∙◌}
use mathlib.Core.List.{List, [], map}
use mathlib.Core.Bool.{Bool, true, false, cond, ◌&&◌}
use native.Mathlib.Nat.{zero-add, div-zero, mul-div_cancel, le-div_iff_mul-le, zero-lt-suc}
use native.Mathlib.Omega.{arith}
use lib.ListN.{length, take, drop, take-append-drop}
use lib.Seq.{drop-drop}
use lib.Dec.{leb}
use borrow.Author.Tests.{le-leb, lt-leb, leb-true}
use Rattle.codec.specs.Lenient.{lax}
use Rattle.refusal.specs.declared.Refusal.{Refusal}
use Rattle.codec.specs.Codec.{Res, ok, refuse, refusal, ◌>>=◌, need, num, named, checked, placed, limited, asks, ◌then◌, times_parse}
use Rattle.codec.proofs.StepLaws.{raw_got, raw-bad, times-length}
use Rattle.codec.specs.CaseLaws.{by_bool, by_le}
use Rattle.text.specs.Utf8.{utf8}
use Rattle.text.specs.Ascii.{ascii}
use Rattle.text.specs.AndLaws.{and_left, and_right}
use Rattle.padded.specs.Padded.{nul_padded, each_padded}
use Rattle.padded.specs.EachPaddedLaws.{each_more, each-front}
use Rattle.padded.specs.PaddedAnswerLaws.{padded-ascii}
use Rattle.text.specs.Trim.{trimmed_len}
use Rattle.dates.specs.Date.{is_date}
use Rattle.dates.specs.Day.{day_of}
use Rattle.dates.specs.DayLaws.{first-date}
use Rattle.table.specs.Table.{said, row, seq_from, on_got, ◌and_then◌, each_from}
use Rattle.numbers.specs.Numbers.{got_of, got_on, num_at, part, Got}
use Rattle.numbers.specs.NumberLaws.{num_of, num-is, part_length, same_got}
use Rattle.table.specs.StepLaws.{items_end, items_row, items_no, rows_end, rows_row, rows-no, each-run, each-end, said-named, said_row, both, both-from, from-same}
use Rattle.symbology_format.specs.Symbology
use Rattle.symbology_format.specs.Symbology.{Symbol, Interval, Mapping, Symbology, to_mapping, to_symbology}
use Rattle.symbology_format.specs.ParseLaws.{parse-symbol, parse-date, parse-list, parse-interval, parse-mapping, parse-symbology}
use Rattle.symbology_format.specs.RowParts.{rows-parts}
use Rattle.symbology_format.specs.SymbologyRows.{list_row, list_rows, row6, interval_row, mapping_rows, symbology_rows}
use Rattle.symbology_rows.specs.Reader.{u32_at, symbol, symbol_at, symbols_at, list_at, interval, mapping, date_at, intervals_at, mapping_at, mappings_at, mapped_at, symbology_at, can_be}

-- a count within the room for it: none where an item has no bytes
pub can_0 : (count room : ℕ) → leb count 0 ≡ can_be count room 0
unfolding can_be
can_0 count room = rw div-zero

none_can : (count room : ℕ) → can_be count room 0 ≡ true → count ≡ 0
none_can count room h = omega (arith, leb-true count 0 (can_0 count room ∙ h))

-- ---- symbols

module _ (light : Bool) (width why not after : ℕ) (s : List ℕ) (at : ℕ) where
  -- what the code's symbol tells of the symbol, wherever the bytes stand
  abbrev pub symbol_of : ℕ → Got → Res Symbol
  symbol_of base (Ok (v, q)) = ok (record { start = base + at; text = take width (drop at s) }) q
  symbol_of base (Err k) = refuse k

  -- the tests, one after the other
  tried : Bool → Bool → Bool → Got
  tried false u p = Err (refusal why at)
  tried true false p = Err (refusal not at)
  tried true true false = Err (refusal after at)
  tried true true true = Ok (at, at + width)

  abbrev outcome : Got
  outcome = tried (leb (at + width) (length s)) (lax light utf8 (take width (drop at s))) (lax light nul_padded (take width (drop at s)))

  symbol-tried : (base : ℕ) → (symbol light width why not after).parse base s at ≡ symbol_of base outcome
  unfolding named placed checked tried
  symbol-tried base =
      parse-symbol (lax light utf8) (lax light nul_padded) (lax light is_date) width base s at why not after
      ∙ by_le (at + width) (length s)
      (λ h. by_bool (lax light utf8 (take width (drop at s)))
      (λ u. by_bool (lax light nul_padded (take width (drop at s)))
      (λ p. rw (raw_got why width base s at h, le-leb (at + width) (length s) h, u, p))
      (λ p. rw (raw_got why width base s at h, le-leb (at + width) (length s) h, u, p)))
      (λ u. rw (raw_got why width base s at h, le-leb (at + width) (length s) h, u)))
      (λ h. rw (raw-bad why width base s at h, lt-leb (at + width) (length s) h))

  symbol_got : symbol_at light width why not after s at ≡ outcome
  unfolding symbol_at tried
  symbol_got = ap (got_of λ x. x.start) (symbol-tried 0) ∙ go (leb (at + width) (length s)) (lax light utf8 (take width (drop at s))) (lax light nul_padded (take width (drop at s)))
    where
      go : (f u p : Bool) → got_of (λ x. x.start) (symbol_of 0 (tried f u p)) ≡ tried f u p
      go false u p = refl
      go true false p = refl
      go true true false = refl
      go true true true = rw zero-add

  pub symbol-is : (base : ℕ) → (symbol light width why not after).parse base s at ≡ symbol_of base (symbol_at light width why not after s at)
  symbol-is base = symbol-tried base ∙ ap (symbol_of base) (sym symbol_got)

  -- where it ends
  pub symbol-place : {v e : ℕ} → symbol_at light width why not after s at ≡ Ok (v, e) → e ≡ at + width
  unfolding tried
  symbol-place {v} {e} q = go (leb (at + width) (length s)) (lax light utf8 (take width (drop at s))) (lax light nul_padded (take width (drop at s))) (sym symbol_got ∙ q)
    where
      go : (f u p : Bool) → tried f u p ≡ Ok (v, e) → e ≡ at + width
      go false u p x = absurd (let z : ◌≡◌ {A = ℕ} 0 1 = cc in omega arith)
      go true false p x = absurd (let z : ◌≡◌ {A = ℕ} 0 1 = cc in omega arith)
      go true true false x = absurd (let z : ◌≡◌ {A = ℕ} 0 1 = cc in omega arith)
      go true true true x = sym (same_got x).1

  -- its text is the part of the slice
  pub symbol-part : {v e : ℕ} → symbol_at light width why not after s at ≡ Ok (v, e) → take width (drop at s) ≡ part s at e
  symbol-part {v} {e} q = let d : e - at ≡ width = omega (arith, symbol-place q) in rw d

  pub symbol-wide : {v e : ℕ} → symbol_at light width why not after s at ≡ Ok (v, e) → e ≤ length s → length (part s at e) ≡ width
  symbol-wide {v} {e} q h = part_length s at e h ∙ omega (arith, symbol-place q)

  -- the code's exits
  pub sym_why : length s - at < width → Err (refusal why at) ≡ symbol_at light width why not after s at
  unfolding tried
  sym_why h = let r : length s < at + width = omega arith in sym (symbol_got ∙ rw (lt-leb (at + width) (length s) r))

  module _ (i : at ≤ length s) (h : width ≤ length s - at) where
    sym_part : take width (drop at s) ≡ part s at (at + width)
    sym_part = let d : at + width - at ≡ width = omega arith in rw d

    there : leb (at + width) (length s) ≡ true
    there = let r : at + width ≤ length s = omega arith in le-leb (at + width) (length s) r

    pub sym_light : light ≡ true → Ok (at, at + width) ≡ symbol_at light width why not after s at
    unfolding tried
    sym_light e = sym (symbol_got ∙ rw (there, e))

    -- of what was told of the part
    module _ (e : light ≡ false) where
      pub sym_not : utf8 (part s at (at + width)) ≡ false → Err (refusal not at) ≡ symbol_at light width why not after s at
      unfolding tried
      sym_not u = sym (symbol_got ∙ rw (there, e, ap utf8 sym_part ∙ u))

      pub sym_after : (utf8 (part s at (at + width)) ≡ true) × (nul_padded (part s at (at + width)) ≡ false) → Err (refusal after at) ≡ symbol_at light width why not after s at
      unfolding tried
      sym_after (u, p) = sym (symbol_got ∙ rw (there, e, ap utf8 sym_part ∙ u, ap nul_padded sym_part ∙ p))

      pub sym_ok : (utf8 (part s at (at + width)) ≡ true) × (nul_padded (part s at (at + width)) ≡ true) → Ok (at, at + width) ≡ symbol_at light width why not after s at
      unfolding tried
      sym_ok (u, p) = sym (symbol_got ∙ rw (there, e, ap utf8 sym_part ∙ u, ap nul_padded sym_part ∙ p))

module _ (light : Bool) (width kind base m n : ℕ) (s : List ℕ) (at : ℕ) where
  pub symbols-end : n ≤ 0 → symbols_at light width kind base m n s at ≡ ok [] at
  unfolding symbols_at
  symbols-end h = rows_end (symbol light width 31 32 41) (list_row kind) (list_rows kind) (λ _. refl) (λ x xs _. refl) base s m n at h

  pub symbols-row : {v p : ℕ} → 0 < n → symbol_at light width 31 32 41 s at ≡ Ok (v, p) → symbols_at light width kind base m n s at ≡ row (row6 kind (base + at) (trimmed_len (part s at p)) 0 0 m) (symbols_at light width kind base (m + 1) (n - 1) s p)
  unfolding symbols_at
  symbols-row {v} {p} h e =
      rows_row (symbol light width 31 32 41) (list_row kind) (list_rows kind) (λ _. refl) (λ x xs _. refl) base s m n at h (symbol-is light width 31 32 41 s at base ∙ ap (symbol_of light width 31 32 41 s at base) e)
      ∙ ap (λ u. row (row6 kind (base + at) (trimmed_len u) 0 0 m) (said (λ xs. list_rows kind xs (m + 1)) (times_parse (symbol light width 31 32 41) (n - 1) base s p))) (symbol-part light width 31 32 41 s at e)

  -- the same, where `left` follow
  pub symbols-next : {v p left : ℕ} → suc left ≡ n → symbol_at light width 31 32 41 s at ≡ Ok (v, p) → symbols_at light width kind base m n s at ≡ row (row6 kind (base + at) (trimmed_len (part s at p)) 0 0 m) (symbols_at light width kind base (m + 1) left s p)
  symbols-next {p = p} h e = symbols-row (omega arith) e ∙ ap (λ (j : ℕ). row (row6 kind (base + at) (trimmed_len (part s at p)) 0 0 m) (symbols_at light width kind base (m + 1) j s p)) (omega arith)

  pub symbols_no : {k : Refusal} → 0 < n → symbol_at light width 31 32 41 s at ≡ Err k → symbols_at light width kind base m n s at ≡ refuse k
  unfolding symbols_at
  symbols_no h e = rows-no (symbol light width 31 32 41) (list_row kind) (list_rows kind) (λ _. refl) (λ x xs _. refl) base s m n at h (symbol-is light width 31 32 41 s at base ∙ ap (symbol_of light width 31 32 41 s at base) e)

-- ---- symbols that are judged together

-- as many can be there: their bytes are
pub count_fits_lem : (count room width : ℕ) → can_be count room width ≡ true → count * width ≤ room
unfolding can_be
count_fits_lem count room zero h = omega arith
count_fits_lem count room (suc w) h = (le-div_iff_mul-le (zero-lt-suc w)).0 (leb-true count (room / suc w) h)

-- and are those of no more
count-many : (count room width : ℕ) → can_be count room width ≡ true → count * width / width ≡ count
count-many count room zero h = rw div-zero (sym (none_can count room h))
count-many count room (suc w) h = mul-div_cancel count (zero-lt-suc w)

-- a symbol of bytes below 128, with only NULs after a NUL, passes its tests
easy_symbol : (width why not after : ℕ) (s : List ℕ) (at : ℕ) → (ascii (take width (drop at s)) && nul_padded (take width (drop at s))) ≡ true
    → symbol_at false width why not after s at ≡ symbol_at true width why not after s at
unfolding tried
easy_symbol width why not after s at h =
    let (u, p) = padded-ascii (take width (drop at s)) (sym h) in
    symbol_got false width why not after s at ∙ rw (u, p) (sym (symbol_got true width why not after s at))

module _ (width kind base : ℕ) (s : List ℕ) where
  -- so do as many as there are
  easy_symbols : (n m at : ℕ) → each_padded width n (drop at s) ≡ true → symbols_at false width kind base m n s at ≡ symbols_at true width kind base m n s at
  easy_symbols zero m at h = symbols-end false width kind base m 0 s at (omega arith) ∙ sym (symbols-end true width kind base m 0 s at (omega arith))
  easy_symbols (suc n) m at h = let one : suc n - 1 ≡ n = omega arith in go (symbol_at true width 31 32 41 s at) refl (rw one (easy_symbols n (m + 1) (at + width) rest))
    where
      first : symbol_at false width 31 32 41 s at ≡ symbol_at true width 31 32 41 s at
      first = easy_symbol width 31 32 41 s at (and_left _ _ (sym (each_more width n (drop at s)) ∙ h))

      rest : each_padded width n (drop (at + width) s) ≡ true
      rest = ap (each_padded width n) (sym (drop-drop width at s)) ∙ and_right (ascii (take width (drop at s)) && nul_padded (take width (drop at s))) (each_padded width n (drop width (drop at s))) (sym (each_more width n (drop at s)) ∙ h)

      go : (g : Got) → symbol_at true width 31 32 41 s at ≡ g → symbols_at false width kind base (m + 1) (suc n - 1) s (at + width) ≡ symbols_at true width kind base (m + 1) (suc n - 1) s (at + width)
          → symbols_at false width kind base m (suc n) s at ≡ symbols_at true width kind base m (suc n) s at
      go (Ok (v, p)) e more =
          let place = sym (symbol-place true width 31 32 41 s at e) in
          symbols-row false width kind base m (suc n) s at (omega arith) (first ∙ e)
          ∙ ap (row (row6 kind (base + at) (trimmed_len (part s at p)) 0 0 m)) (rw place at more)
          ∙ sym (symbols-row true width kind base m (suc n) s at (omega arith) e)
      go (Err k) e more = symbols_no false width kind base m (suc n) s at (omega arith) (first ∙ e) ∙ sym (symbols_no true width kind base m (suc n) s at (omega arith) e)

  -- the bytes of n symbols, where these can be there
  module _ (m n at : ℕ) (i : at ≤ length s) (h : can_be n (length s - at) width ≡ true) where
    abbrev whole : List ℕ
    whole = part s at (at + n * width)

    whole_length : length whole ≡ n * width
    whole_length = let f = count_fits_lem n (length s - at) width h in part_length s at (at + n * width) (omega arith) ∙ omega arith

    how_many : length whole / width ≡ n
    how_many = ap (λ (l : ℕ). l / width) whole_length ∙ count-many n (length s - at) width h

    in_whole : each_padded width n whole ≡ true → each_padded width n (drop at s) ≡ true
    in_whole e =
        let l = whole_length in
        ap (each_padded width n) (sym (take-append-drop (at + n * width - at) (drop at s))) ∙ each-front width n whole (drop (at + n * width - at) (drop at s)) (omega arith) ∙ e

    -- judged together or one by one, or not at all where `light` holds
    pub easy_same : (light easy : Bool) → easy ≡ lax light (each_padded width (length whole / width)) whole → symbols_at light width kind base m n s at ≡ symbols_at easy width kind base m n s at
    easy_same true easy e = rw e
    easy_same false true e = easy_symbols n m at (in_whole (sym (e ∙ ap (λ (k : ℕ). each_padded width k whole) how_many)))
    easy_same false false e = refl

module _ (light : Bool) (width kind base m : ℕ) (s : List ℕ) (at : ℕ) where
  pub list-no : {k : Refusal} → u32_at 30 s at ≡ Err k → list_at light width kind base m s at ≡ refuse k
  unfolding list_at limited
  list-no e = rw (parse-list (lax light utf8) (lax light nul_padded) (lax light is_date) width base s at, num-is 30 4 s at base, e)

  pub list_31 : {count p : ℕ} → u32_at 30 s at ≡ Ok (count, p) → can_be count (length s - p) width ≡ false → list_at light width kind base m s at ≡ refuse (refusal 31 at)
  unfolding can_be list_at limited
  list_31 e f = rw (parse-list (lax light utf8) (lax light nul_padded) (lax light is_date) width base s at, num-is 30 4 s at base, e, f)

  pub list-ok : {count p : ℕ} → u32_at 30 s at ≡ Ok (count, p) → can_be count (length s - p) width ≡ true → list_at light width kind base m s at ≡ symbols_at light width kind base m count s p
  unfolding can_be list_at symbols_at limited
  list-ok e f = rw (parse-list (lax light utf8) (lax light nul_padded) (lax light is_date) width base s at, num-is 30 4 s at base, e, f)

-- symbols that can be there have bytes
pub count-wide : (count room width : ℕ) → count < 4294967296 → can_be count room width ≡ true → count ≤ 4294967296 * width
count-wide count room zero b h = omega (arith, none_can count room h)
count-wide count room (suc w) b h = omega arith

-- ---- dates and intervals

-- a number, tested
dated : Bool → Refusal → Got → Got
dated light k g = got_on g λ v p. cond (lax light is_date v) (Ok (v, p)) (Err k)

date_got : (light : Bool) (why : ℕ) (s : List ℕ) (at : ℕ) → dated light (refusal why at) (num_at why 4 s at) ≡ date_at light why s at
unfolding date_at dated checked
date_got light why s at = rw (parse-date (lax light utf8) (lax light nul_padded) (lax light is_date) 0 0 s at why, num-is why 4 s at 0) (go (num_at why 4 s at))
  where
    test : (v p : ℕ) (b : Bool) → cond b (Ok (v, p)) (Err (refusal why at)) ≡ got_of (λ v. v) (need b why at >>= λ _ _. ok v p)
    test v p true = refl
    test v p false = refl

    go : (g : Got) → (got_on g λ v p. cond (lax light is_date v) (Ok (v, p)) (Err (refusal why at))) ≡ got_of (λ v. v) (num_of g >>= λ x j. need (lax light is_date x) why at >>= λ _ _. ok x j)
    go (Ok (v, p)) = test v p (lax light is_date v)
    go (Err k) = refl

module _ (light : Bool) (why : ℕ) (s : List ℕ) (at : ℕ) where
  pub date-ok : {v p : ℕ} → num_at why 4 s at ≡ Ok (v, p) → true ≡ lax light is_date v → Ok (v, p) ≡ date_at light why s at
  unfolding dated
  date-ok {v} {p} e d = sym (ap (λ b. cond b (Ok (v, p)) (Err (refusal why at))) (sym d)) ∙ ap (dated light (refusal why at)) (sym e) ∙ date_got light why s at

  pub date-bad : {v p : ℕ} → num_at why 4 s at ≡ Ok (v, p) → false ≡ lax light is_date v → Err (refusal why at) ≡ date_at light why s at
  unfolding dated
  date-bad {v} {p} e d = sym (ap (λ b. cond b (Ok (v, p)) (Err (refusal why at))) (sym d)) ∙ ap (dated light (refusal why at)) (sym e) ∙ date_got light why s at

  pub date-cut : {k : Refusal} → num_at why 4 s at ≡ Err k → Err k ≡ date_at light why s at
  unfolding dated
  date-cut e = ap (dated light (refusal why at)) (sym e) ∙ date_got light why s at

-- what is read as a date passes the test
abbrev passes : Bool → Got → Bool
passes light (Ok (v, p)) = lax light is_date v
passes light (Err k) = true

dated-passes : (light : Bool) (k : Refusal) (g : Got) → passes light (dated light k g) ≡ true
unfolding dated
dated-passes light k (Ok (v, p)) = go (lax light is_date v) refl
  where
    go : (b : Bool) → lax light is_date v ≡ b → passes light (cond b (Ok (v, p)) (Err k)) ≡ true
    go true e = e
    go false e = refl
dated-passes light k (Err j) = refl

pub date-passes : (light : Bool) (why : ℕ) (s : List ℕ) (at : ℕ) {v p : ℕ} → date_at light why s at ≡ Ok (v, p) → lax light is_date v ≡ true
date-passes light why s at e = sym (ap (passes light) (date_got light why s at ∙ e)) ∙ dated-passes light (refusal why at) (num_at why 4 s at)

-- 1 January of the year 0 does, whatever is tested
pub passes-first : (light : Bool) → lax light is_date 101 ≡ true
passes-first true = refl
passes-first false = first-date

-- a date that was tested before
pub date_again : (light : Bool) {u v : ℕ} → u ≡ v → lax light is_date v ≡ true → true ≡ lax light is_date u
date_again light e f = sym (ap (lax light is_date) e ∙ f)

date-is : (light : Bool) (width why base : ℕ) (s : List ℕ) (at : ℕ) → (Symbology.date (lax light utf8) (lax light nul_padded) (lax light is_date) width why).codec.parse base s at ≡ num_of (date_at light why s at)
unfolding date_at checked
date-is light width why base s at = rw (parse-date (lax light utf8) (lax light nul_padded) (lax light is_date) width base s at why, parse-date (lax light utf8) (lax light nul_padded) (lax light is_date) 0 0 s at why, num-is why 4 s at base, num-is why 4 s at 0) (go (num_at why 4 s at))
  where
    test : (v p : ℕ) (b : Bool) → (need b why at >>= λ _ _. ok v p) ≡ num_of (got_of (λ v. v) (need b why at >>= λ _ _. ok v p))
    test v p true = refl
    test v p false = refl

    go : (g : Got) → (num_of g >>= λ x j. need (lax light is_date x) why at >>= λ _ _. ok x j) ≡ num_of (got_of (λ v. v) (num_of g >>= λ x j. need (lax light is_date x) why at >>= λ _ _. ok x j))
    go (Ok (v, p)) = test v p (lax light is_date v)
    go (Err k) = refl

module _ (light : Bool) (width base : ℕ) (s : List ℕ) (at : ℕ) where
  interval_no1 : {k : Refusal} → date_at light 38 s at ≡ Err k → (interval light width).parse base s at ≡ refuse k
  unfolding named ◌then◌
  interval_no1 e = rw (parse-interval (lax light utf8) (lax light nul_padded) (lax light is_date) width base s at, date-is light width 38 base s at, e)

  interval_no2 : {a q : ℕ} {k : Refusal} → date_at light 38 s at ≡ Ok (a, q) → date_at light 39 s q ≡ Err k → (interval light width).parse base s at ≡ refuse k
  unfolding named ◌then◌
  interval_no2 {a} {q} e f = rw (parse-interval (lax light utf8) (lax light nul_padded) (lax light is_date) width base s at, date-is light width 38 base s at, e, date-is light width 39 base s q, f)

  interval_no3 : {a q b r : ℕ} {k : Refusal} → date_at light 38 s at ≡ Ok (a, q) → date_at light 39 s q ≡ Ok (b, r) → symbol_at light width 37 40 43 s r ≡ Err k → (interval light width).parse base s at ≡ refuse k
  unfolding named ◌then◌
  interval_no3 {a} {q} {b} {r} e f g = rw (parse-interval (lax light utf8) (lax light nul_padded) (lax light is_date) width base s at, date-is light width 38 base s at, e, date-is light width 39 base s q, f, symbol-is light width 37 40 43 s r base, g)

  interval-ok : (owner : ℕ) {a q b r v p : ℕ} → date_at light 38 s at ≡ Ok (a, q) → date_at light 39 s q ≡ Ok (b, r) → symbol_at light width 37 40 43 s r ≡ Ok (v, p)
      → (x : Interval) × ((interval light width).parse base s at ≡ ok x p) × (interval_row owner x ≡ row6 4 (base + r) (trimmed_len (part s r p)) (day_of a) (day_of b) owner)
  unfolding named ◌then◌
  interval-ok owner {a} {q} {b} {r} {v} {p} e f g = (
    record { from = a; to = b; symbol = record { start = base + r; text = take width (drop r s) } },
    rw (parse-interval (lax light utf8) (lax light nul_padded) (lax light is_date) width base s at, date-is light width 38 base s at, e, date-is light width 39 base s q, f, symbol-is light width 37 40 43 s r base, g),
    ap (λ u. row6 4 (base + r) (trimmed_len u) (day_of a) (day_of b) owner) (symbol-part light width 37 40 43 s r g),
  )

module _ (light : Bool) (width base owner n : ℕ) (s : List ℕ) (at : ℕ) where
  pub intervals-end : n ≤ 0 → intervals_at light width base owner n s at ≡ ok [] at
  unfolding intervals_at
  intervals-end h = items_end (interval light width) (interval_row owner) base s n at h

  pub intervals_no1 : {k : Refusal} → 0 < n → date_at light 38 s at ≡ Err k → intervals_at light width base owner n s at ≡ refuse k
  unfolding intervals_at
  intervals_no1 h e = items_no (interval light width) (interval_row owner) base s n at h (interval_no1 light width base s at e)

  pub intervals_no2 : {a q : ℕ} {k : Refusal} → 0 < n → date_at light 38 s at ≡ Ok (a, q) → date_at light 39 s q ≡ Err k → intervals_at light width base owner n s at ≡ refuse k
  unfolding intervals_at
  intervals_no2 h e f = items_no (interval light width) (interval_row owner) base s n at h (interval_no2 light width base s at e f)

  pub intervals_no3 : {a q b r : ℕ} {k : Refusal} → 0 < n → date_at light 38 s at ≡ Ok (a, q) → date_at light 39 s q ≡ Ok (b, r) → symbol_at light width 37 40 43 s r ≡ Err k → intervals_at light width base owner n s at ≡ refuse k
  unfolding intervals_at
  intervals_no3 h e f g = items_no (interval light width) (interval_row owner) base s n at h (interval_no3 light width base s at e f g)

  pub intervals-row : {a q b r v p : ℕ} → 0 < n → date_at light 38 s at ≡ Ok (a, q) → date_at light 39 s q ≡ Ok (b, r) → symbol_at light width 37 40 43 s r ≡ Ok (v, p)
      → intervals_at light width base owner n s at ≡ row (row6 4 (base + r) (trimmed_len (part s r p)) (day_of a) (day_of b) owner) (intervals_at light width base owner (n - 1) s p)
  unfolding intervals_at
  intervals-row {p = p} h e f g =
      let (x, e1, e2) = interval-ok light width base s at owner e f g in
      items_row (interval light width) (interval_row owner) base s n at h e1 ∙ ap (λ v. row v (said (map (interval_row owner)) (times_parse (interval light width) (n - 1) base s p))) e2

  -- the same, where `left` follow
  pub intervals-next : {a q b r v p left : ℕ} → suc left ≡ n → date_at light 38 s at ≡ Ok (a, q) → date_at light 39 s q ≡ Ok (b, r) → symbol_at light width 37 40 43 s r ≡ Ok (v, p)
      → intervals_at light width base owner n s at ≡ row (row6 4 (base + r) (trimmed_len (part s r p)) (day_of a) (day_of b) owner) (intervals_at light width base owner left s p)
  intervals-next {a = a} {b = b} {r = r} {p = p} h e f g =
      intervals-row (omega arith) e f g ∙ ap (λ (j : ℕ). row (row6 4 (base + r) (trimmed_len (part s r p)) (day_of a) (day_of b) owner) (intervals_at light width base owner j s p)) (omega arith)

-- ---- a mapping

module _ (light : Bool) (width base m : ℕ) (s : List ℕ) (at : ℕ) where
  pub mapping_35 : length s < at + (width + 4) → mapping_at light width base m s at ≡ refuse (refusal 35 at)
  unfolding mapping_at named asks
  mapping_35 h = rw (parse-mapping (lax light utf8) (lax light nul_padded) (lax light is_date) width base s at, lt-leb (at + (width + 4)) (length s) h)

  pub mapping-is : at + (width + 4) ≤ length s
      → mapping_at light width base m s at ≡ (on_got (symbol_at light width 35 36 42 s at) λ _ p. on_got (u32_at 35 s p) λ count q. cond (can_be count (length s - q) (width + 8)) (row (row6 3 (base + at) (trimmed_len (part s at p)) count 0 m) (intervals_at light width base m count s q)) (refuse (refusal 37 p)))
  unfolding can_be mapping_at intervals_at named asks ◌then◌ limited
  mapping-is h = rw (parse-mapping (lax light utf8) (lax light nul_padded) (lax light is_date) width base s at, le-leb (at + (width + 4)) (length s) h, symbol-is light width 35 36 42 s at base) (first (symbol_at light width 35 36 42 s at) refl)
    where
      last : (x : Symbol) (len p : ℕ) → x.start ≡ base + at → trimmed_len x.text ≡ len → (count q : ℕ) (b : Bool)
          → said (λ x. mapping_rows x m) ((◌>>=◌ {B = Symbol × List Interval} (need b 37 p >>= λ _ _. times_parse (interval light width) count base s q) λ y k. ok (x, y) k) >>= λ z j. ok (to_mapping z) j)
          ≡ cond b (row (row6 3 (base + at) len count 0 m) (said (map (interval_row m)) (times_parse (interval light width) count base s q))) (refuse (refusal 37 p))
      last x len p e l count q true =
          said-named (λ x. mapping_rows x m) to_mapping (◌>>=◌ {B = Symbol × List Interval} (times_parse (interval light width) count base s q) λ y k. ok (x, y) k)
          ∙ said-named (λ z. mapping_rows (to_mapping z) m) (λ y. (x, y)) (times_parse (interval light width) count base s q)
          ∙ said_row (λ k. row6 3 x.start (trimmed_len x.text) k 0 m) (map (interval_row m)) length count (times_parse (interval light width) count base s q) (λ xs j. times-length (interval light width) base s count q xs j)
          ∙ ap₂ (λ a b. row (row6 3 a b count 0 m) (said (map (interval_row m)) (times_parse (interval light width) count base s q))) e l
      last x len p e l count q false = refl

      second : (x : Symbol) (len p : ℕ) → x.start ≡ base + at → trimmed_len x.text ≡ len → (g : Got)
          → said (λ x. mapping_rows x m) ((◌>>=◌ {B = Symbol × List Interval} (num_of g >>= λ n j. need (leb n ((length s - j) / (width + 8))) 37 p >>= λ _ _. times_parse (interval light width) n base s j) λ y k. ok (x, y) k) >>= λ z j. ok (to_mapping z) j)
          ≡ on_got g (λ count q. cond (can_be count (length s - q) (width + 8)) (row (row6 3 (base + at) len count 0 m) (said (map (interval_row m)) (times_parse (interval light width) count base s q))) (refuse (refusal 37 p)))
      second x len p e l (Ok (count, q)) = last x len p e l count q (leb count ((length s - q) / (width + 8)))
      second x len p e l (Err k) = refl

      first : (g : Got) → symbol_at light width 35 36 42 s at ≡ g
          → said (λ x. mapping_rows x m) ((◌>>=◌ {B = Symbol × List Interval} (symbol_of light width 35 36 42 s at base g) λ x i. ((num 35 4).parse base s i >>= λ n j. need (leb n ((length s - j) / (width + 8))) 37 i >>= λ _ _. times_parse (interval light width) n base s j) >>= λ y k. ok (x, y) k) >>= λ z j. ok (to_mapping z) j)
          ≡ (on_got g λ _ p. on_got (u32_at 35 s p) λ count q. cond (can_be count (length s - q) (width + 8)) (row (row6 3 (base + at) (trimmed_len (part s at p)) count 0 m) (said (map (interval_row m)) (times_parse (interval light width) count base s q))) (refuse (refusal 37 p)))
      first (Ok (v, p)) e = rw (num-is 35 4 s p base) (second (record { start = base + at; text = take width (drop at s) }) (trimmed_len (part s at p)) p refl (ap trimmed_len (symbol-part light width 35 36 42 s at e)) (u32_at 35 s p))
      first (Err k) e = refl

-- ---- mappings

module _ (light : Bool) (width base m : ℕ) (s : List ℕ) (at : ℕ) where
  pub mappings-run : (n : ℕ) → 0 < n → mappings_at light width base m n s at ≡ seq_from m (mapping_at light width base m s at) (λ k p. mappings_at light width base k (n - 1) s p)
  unfolding mappings_at mapping_at
  mappings-run n h = each-run (mapping light width) mapping_rows base s m n at h

  -- the same, where `left` follow
  pub mappings-next : {left : ℕ} (n : ℕ) → suc left ≡ n → mappings_at light width base m n s at ≡ seq_from m (mapping_at light width base m s at) (λ k p. mappings_at light width base k left s p)
  mappings-next n h = mappings-run n (omega arith) ∙ ap (λ (j : ℕ). seq_from m (mapping_at light width base m s at) (λ k p. mappings_at light width base k j s p)) (omega arith)

  pub mappings-end : (n : ℕ) → n ≤ 0 → mappings_at light width base m n s at ≡ ok [] at
  unfolding mappings_at
  mappings-end n h = each-end (mapping light width) mapping_rows base s m n at h

  pub mapped-no : {k : Refusal} → u32_at 33 s at ≡ Err k → mapped_at light width base m s at ≡ refuse k
  unfolding mapped_at limited
  mapped-no e = rw (num-is 33 4 s at base, e)

  pub mapped_34 : {count p : ℕ} → u32_at 33 s at ≡ Ok (count, p) → can_be count (length s - p) (width + 4) ≡ false → mapped_at light width base m s at ≡ refuse (refusal 34 at)
  unfolding can_be mapped_at limited
  mapped_34 e f = rw (num-is 33 4 s at base, e, f)

  pub mapped-ok : {count p : ℕ} → u32_at 33 s at ≡ Ok (count, p) → can_be count (length s - p) (width + 4) ≡ true → mapped_at light width base m s at ≡ mappings_at light width base m count s p
  unfolding can_be mapped_at mappings_at limited
  mapped-ok e f = rw (num-is 33 4 s at base, e, f)

-- ---- the whole

-- rows that are told in other words
said_same : {A : Type 0} (f g : A → List (List ℕ)) → ((x : A) → f x ≡ g x) → (r : Res A) → said f r ≡ said g r
said_same f g h (ok x j) = ap (λ rs. ok rs j) (h x)
said_same f g h (refuse k) = refl

pub symbology-is : (light : Bool) (width base : ℕ) (s : List ℕ) (at : ℕ)
    → symbology_at light width base s at ≡ seq_from 0 (list_at light width 0 base 0 s at) (λ i p. seq_from i (list_at light width 1 base i s p) (λ j q. seq_from j (list_at light width 2 base j s q) (λ k r. mapped_at light width base k s r)))
unfolding symbology_at list_at mapped_at named ◌then◌
symbology-is light width base s at =
    let l : ℕ → Res (List Symbol) = λ p. (Symbology.list (lax light utf8) (lax light nul_padded) (lax light is_date) width).codec.parse base s p in
    let m : ℕ → Res (List Mapping) = λ p. (limited (mapping light width) 33 34 4 (width + 4)).parse base s p in
    ap (said symbology_rows) (parse-symbology (lax light utf8) (lax light nul_padded) (lax light is_date) width base s at)
    ∙ said-named symbology_rows to_symbology (both (l at) (λ p. both (l p) (λ q. both (l q) m)))
    ∙ said_same (λ z. symbology_rows (to_symbology z)) (λ z. (list_rows 0 z.0 and_then list_rows 1 z.1.0 and_then list_rows 2 z.1.1.0 and_then each_from mapping_rows z.1.1.1) 0) (λ z. rows-parts (to_symbology z)) (both (l at) (λ p. both (l p) (λ q. both (l q) m)))
    ∙ both-from (list_rows 0) (λ z. list_rows 1 z.0 and_then list_rows 2 z.1.0 and_then each_from mapping_rows z.1.1) 0 (l at) (λ p. both (l p) (λ q. both (l q) m))
    ∙ from-same 0 (said (λ xs. list_rows 0 xs 0) (l at)) _ _ (λ i p.
    both-from (list_rows 1) (λ z. list_rows 2 z.0 and_then each_from mapping_rows z.1) i (l p) (λ q. both (l q) m)
    ∙ from-same i (said (λ xs. list_rows 1 xs i) (l p)) _ _ (λ j q. both-from (list_rows 2) (each_from mapping_rows) j (l q) m))

-- what the code's test of a count says
pub can_here : (count least : ℕ) {room left : ℕ} {r b : Bool} → room ≡ left → r ≡ can_be count room least → r ≡ b → can_be count left least ≡ b
can_here count least e f g = ap (λ (m : ℕ). can_be count m least) (sym e) ∙ sym f ∙ g
