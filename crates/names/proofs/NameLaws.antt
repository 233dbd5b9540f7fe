-- The spans of rows and their bytes, by the tests of the code. Assumes nothing.
use Rattle.std.specs.Prelude.{Err}
use Prim.Native.Nat.{ℕ, ◌+◌, ◌-◌, ◌≤◌, ◌<◌}
use native.Mathlib.Omega.{arith}
use mathlib.Core.Path.{◌≡◌, refl, sym, ◌∙◌}
use mathlib.Core.Bool.{Bool, true, false}
use mathlib.Core.List.{List, []}
use lib.ListN.{length, take, drop}
use borrow.Author.Tests.{le-leb, lt-leb, lt-ltb, le-ltb}
use Rattle.refusal.specs.declared.Refusal.{Refusal}
use Rattle.names.specs.Names.{no_text, text_span, span_of, part_in, spanned, Spanned}

-- the row is past the table, or in it
module _ (hasText : ℕ → Bool) (n count : ℕ) (number : ℕ → ℕ) (index : ℕ) where
  pub row-past : count ≤ index → no_text ≡ span_of hasText n count number index
  unfolding span_of
  row-past h = rw (le-ltb index count h)

  pub row-there : index < count → {kind start len : ℕ} → kind ≡ number 0 → start ≡ number 1 → len ≡ number 2 → text_span (hasText kind) n start len ≡ span_of hasText n count number index
  unfolding span_of
  row-there h e f g = rw (lt-ltb index count h, e, f, g)

-- a row in the table has no text, or has one within the bytes, or one that is not
module _ (n : ℕ) {has : Bool} (start len : ℕ) where
  pub span_none : has ≡ false → no_text ≡ text_span has n start len
  unfolding text_span
  span_none e = rw e

  module _ (e : has ≡ true) {a b : ℕ} (ea : a ≡ start) (eb : b ≡ len) where
    pub span_in : a + b ≤ n → spanned a b ≡ text_span has n start len
    unfolding text_span
    span_in h = rw (e, ← ea, ← eb, le-leb (a + b) n h)

    pub span-out : n < a + b → no_text ≡ text_span has n start len
    unfolding text_span
    span-out h = rw (e, ← ea, ← eb, lt-leb (a + b) n h)

module _ (b : List ℕ) {span : Spanned} where
  pub part_in_lem : {p n : ℕ} → span ≡ spanned p n → p + n ≤ length b → take (p + n - p) (drop p b) ≡ part_in b span
  unfolding part_in
  part_in_lem {p} {n} e h = let z : p + n - p ≡ n = omega arith in rw (e, le-leb (p + n) (length b) h, z)

  pub part_out : {p n : ℕ} → span ≡ spanned p n → length b < p + n → [] ≡ part_in b span
  unfolding part_in
  part_out {p} {n} e h = rw (e, lt-leb (p + n) (length b) h)

  pub part_none : {k : Refusal} → span ≡ Err k → [] ≡ part_in b span
  unfolding part_in
  part_none e = rw e
