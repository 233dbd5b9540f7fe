-- What the tests of the fields come to, and by which number the reader would refuse the header that fields make. Assumes nothing.
use Prim.Native.Nat.{ℕ, ◌+◌, ◌-◌, ◌≤◌, ◌<◌}
use native.Mathlib.Omega.{arith}
use mathlib.Core.Path.{◌≡◌, refl, ap, ap₂, ◌∙◌}
use mathlib.Core.Bool.{Bool, true, false, ◌&&◌, ◌||◌, cond}
use mathlib.Core.List.{List}
use lib.ListN.{length, take, drop, length-drop}
use lib.Seq.{length-take-le}
use lib.Dec.{leb, ltb, eqb}
use borrow.Author.Tests.{leb-true, ltb-true, eqb-true, eq-eqb, ne_eqb, le-leb, lt-leb}
use Rattle.codec.specs.CaseLaws.{both_true, by_le}
use Rattle.codec.specs.Faults.{unless, first}
use Rattle.text.specs.Trim.{trimmed_len}
use Rattle.metadata_lengths.specs.Lengths.{lengths}
use Rattle.block_format.specs.BlockFaults.{header_fault}
use Rattle.block_format.specs.LengthsLaws.{header-fault}
use Rattle.columns_check.specs.RowFaults.{text_fault}
use Rattle.columns_check.specs.FaultLaws.{filled-fault}
use Rattle.header_bytes.specs.Numbers.{dataset_len, schema, end, limit, stype_in, stype_out, ts_out, width, layout_version, present, dataset_start, has}
use Rattle.block_writer.specs.Fields.{dataset_text, option_fits, options_fit, numbers_fit, dataset_fits, fields_fit}
use Rattle.header_bytes.specs.Header.{header_of}
use Rattle.header_bytes.specs.HeaderLaws.{header_is}
use Rattle.block_writer.specs.PlanLaws.{fields_fit_lem}

-- ---- the options

module _ (fs : List ℕ) where
  abbrev schema_fits : Bool
  schema_fits = option_fits (has 1 fs) (ltb (schema fs) 65535) (schema fs)

  abbrev end_fits : Bool
  end_fits = option_fits (has 2 fs) (ltb 0 (end fs) && ltb (end fs) 18446744073709551615) (end fs)

  abbrev limit_fits : Bool
  limit_fits = option_fits (has 4 fs) (ltb 0 (limit fs)) (limit fs)

  abbrev stype_in_fits : Bool
  stype_in_fits = option_fits (has 8 fs) (ltb (stype_in fs) 255) (stype_in fs)

-- the first that does not fit
module _ (fs : List ℕ) (h : present fs ≤ 15) where
  pub options_schema : schema_fits fs ≡ false → options_fit fs ≡ false
  unfolding options_fit
  options_schema a = rw (le-leb (present fs) 15 h, a)

  module _ (a : schema_fits fs ≡ true) where
    pub options_end : end_fits fs ≡ false → options_fit fs ≡ false
    unfolding options_fit
    options_end b = rw (le-leb (present fs) 15 h, a, b)

    module _ (b : end_fits fs ≡ true) where
      pub options_limit : limit_fits fs ≡ false → options_fit fs ≡ false
      unfolding options_fit
      options_limit d = rw (le-leb (present fs) 15 h, a, b, d)

      pub options_last : limit_fits fs ≡ true → options_fit fs ≡ stype_in_fits fs
      unfolding options_fit
      options_last d = rw (le-leb (present fs) 15 h, a, b, d)

-- ---- the numbers

-- no number is below 0
le-none : (x : ℕ) → eqb x 0 ≡ leb x 0
le-none x = by_le x 0 (λ h. rw (eq-eqb x 0 (omega arith), le-leb x 0 h)) (λ h. rw (ne_eqb x 0 (omega arith), lt-leb x 0 h))

module _ (version : ℕ) (fs : List ℕ) (o : stype_out fs ≤ 255) (l : ts_out fs ≤ 1) where
  pub numbers-wide : cond (eqb version 1) true (leb (width fs) 65535) ≡ false → numbers_fit version fs ≡ false
  unfolding numbers_fit
  numbers-wide w = rw (le-leb (stype_out fs) 255 o, le-leb (ts_out fs) 1 l, w)

  module _ (w : cond (eqb version 1) true (leb (width fs) 65535) ≡ true) where
    pub numbers-layout : version ≡ 4 → leb (layout_version fs) 65535 ≡ numbers_fit version fs
    unfolding numbers_fit
    numbers-layout v = rw (le-leb (stype_out fs) 255 o, le-leb (ts_out fs) 1 l, w, eq-eqb version 4 v)

    pub numbers-below : (version ≡ 4 → ⊥) → eqb (layout_version fs) 0 ≡ numbers_fit version fs
    unfolding numbers_fit
    numbers-below v = le-none (layout_version fs) ∙ rw (le-leb (stype_out fs) 255 o, le-leb (ts_out fs) 1 l, w, ne_eqb version 4 v)

-- ---- the dataset

-- a part of the text, by its start and its length
pub part-is : (at len : ℕ) (text : List ℕ) → take (at + len - at) (drop at text) ≡ take len (drop at text)
part-is at len text = let e : at + len - at ≡ len = omega arith in rw e

module _ (fs text : List ℕ) where
  -- the span of a dataset that fits lies in the text
  pub dataset-span : dataset_fits fs text ≡ true → dataset_start fs + dataset_len fs ≤ length text
  unfolding dataset_fits
  dataset-span e = leb-true (dataset_start fs + dataset_len fs) (length text) (both_true (leb (dataset_start fs + dataset_len fs) (length text)) _ e).0

  -- a span that does not lie in the text
  pub dataset-outside : length text < dataset_start fs + dataset_len fs → dataset_fits fs text ≡ false
  unfolding dataset_fits
  dataset-outside h = rw (lt-leb (dataset_start fs + dataset_len fs) (length text) h)

  -- one that does is looked at for its end
  pub dataset-inside : dataset_start fs + dataset_len fs ≤ length text
      → eqb (trimmed_len (take (dataset_start fs + dataset_len fs - dataset_start fs) (drop (dataset_start fs) text))) (dataset_len fs) ≡ dataset_fits fs text
  unfolding dataset_fits dataset_text
  dataset-inside h =
      let l = length-take-le (dataset_len fs) (drop (dataset_start fs) text) (omega (arith, length-drop (dataset_start fs) text)) in
      rw (part-is (dataset_start fs) (dataset_len fs) text, le-leb (dataset_start fs + dataset_len fs) (length text) h, l)

-- ---- the header

-- a code that may be absent is accepted where it is at most `top`, for it is 0 where it is absent
code_stored : (here : Bool) (x top absent : ℕ) → option_fits here (ltb x absent) x ≡ true
    → (leb (cond here x absent) top || eqb (cond here x absent) absent) ≡ leb x top
code_stored true x top absent e = rw (ne_eqb x absent (let h = ltb-true x absent e in omega arith)) (or_false (leb x top))
  where
    or_false : (b : Bool) → (b || false) ≡ b
    or_false true = refl
    or_false false = refl
code_stored false x top absent e = rw (eq-eqb absent absent refl, eqb-true x 0 e, le-leb 0 top (omega arith)) (or_true (leb absent top))
  where
    or_true : (b : Bool) → (b || true) ≡ true
    or_true true = refl
    or_true false = refl

-- the dataset's text, then the codes as they are given
pub header-fault-is : (version : ℕ) (fs text : List ℕ) → fields_fit version fs text ≡ true
    → header_fault (header_of version fs (dataset_text fs text)) ≡ first (text_fault 20 29 (dataset_text fs text)) (first (unless (leb (schema fs) 19) 21) (first (unless (leb (stype_in fs) 12) 22) (unless (leb (stype_out fs) 12) 23)))
header-fault-is version fs text e =
    let f = fields_fit_lem version fs text e in
    ap header_fault (header_is version fs (dataset_text fs text))
    ∙ header-fault _
    ∙ ap₂ first (filled-fault (lengths version).dataset_cstr_len 20 29 (dataset_text fs text))
    (ap₂ (λ a b. first (unless a 21) (first (unless b 22) (unless (leb (stype_out fs) 12) 23))) (code_stored (has 1 fs) (schema fs) 19 65535 f.schema_fits) (code_stored (has 8 fs) (stype_in fs) 12 255 f.stype_in_fits))
