-- Which part of the bytes a row names, by its numbers, and which kinds of rows have a text. Assumes nothing.
use Rattle.std.specs.Prelude.{ℕ, ◌+◌, ◌≤◌, ◌<◌, ◌≡◌, Bool, not, ◌&&◌, List, [], length, take, drop, leb, eqb, Err}
use Rattle.std.proofs.Common.{arith, sym, ap, ◌∙◌}
use Rattle.std.proofs.Math.Path.{refl}
use Rattle.std.proofs.Math.Bool.{true, false}
use Rattle.std.proofs.Math.Dec.{ltb, leb-zero}
use borrow.Author.Tests.{lt-ltb, le-leb, leb-true, ne_eqb}
use Rattle.refusal.specs.declared.Refusal.{Refusal}
use Rattle.names.specs.Names.{no_text, symbol_text, item_text, text_span, span_of, part_in, spanned}

module _ (hasText : ℕ → Bool) (n count : ℕ) (number : ℕ → ℕ) (i : ℕ) where
  -- a row with a text within n bytes gives its second and third number
  pub span-part : i < count → hasText (number 0) ≡ true → number 1 + number 2 ≤ n → span_of hasText n count number i ≡ spanned (number 1) (number 2)
  unfolding span_of text_span
  span-part l t h = rw (lt-ltb i count l, t, le-leb (number 1 + number 2) n h)

  -- a row without a text gives 90
  pub span_none : hasText (number 0) ≡ false → span_of hasText n count number i ≡ no_text
  unfolding span_of text_span
  span_none t = go (ltb i count) refl
    where
      go : (x : Bool) → ltb i count ≡ x → span_of hasText n count number i ≡ no_text
      go true q = rw (q, t)
      go false q = rw q

-- the bytes of a part that lies within them
pub part_bytes : (b : List ℕ) (start len : ℕ) → start + len ≤ length b → part_in b (spanned start len) ≡ take len (drop start b)
unfolding part_in
part_bytes b start len h = rw (le-leb (start + len) (length b) h)

-- a refusal has none
pub part_none : (b : List ℕ) (k : Refusal) → part_in b (Err k) ≡ []
unfolding part_in
part_none b k = refl

-- ---- which kinds have a text

-- every kind of symbology row
pub symbol-text : (k : ℕ) → (leb 0 k && leb k 4) ≡ true → symbol_text k ≡ true
symbol-text k e = rw (leb-zero k) at e

-- so none of them is 11
pub symbol-no_field : (k : ℕ) → symbol_text k ≡ true → eqb k 11 ≡ false
symbol-no_field k e = ne_eqb k 11 (λ q. let h = leb-true k 4 e in omega arith)

pub symbol-kinds : (k : ℕ) → (leb 0 k && leb k 4) ≡ true → symbol_text k ≡ not (eqb k 11)
symbol-kinds k e = symbol-text k e ∙ sym (ap not (symbol-no_field k (symbol-text k e)))

-- every kind of layout row but a field
pub item-kinds : (k : ℕ) → (leb 10 k && leb k 15) ≡ true → item_text k ≡ not (eqb k 11)
item-kinds k e = rw e (go (eqb k 11))
  where
    go : (x : Bool) → (not x && true) ≡ not x
    go true = refl
    go false = refl

-- so what has a text is no field
pub item-no_field : (k : ℕ) → item_text k ≡ true → eqb k 11 ≡ false
item-no_field k e = go (eqb k 11) (leb 10 k && leb k 15) e
  where
    go : (x y : Bool) → (not x && y) ≡ true → x ≡ false
    go true y q = sym q
    go false y q = refl
