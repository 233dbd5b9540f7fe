-- A weight of 0 marks nothing; any other is divided out of the flags. Assumes nothing.
use borrow.Author.Rules.{rules}
use Rattle.fields.specs.Sheet.{is_extension}
use Prim.Native.Nat.{ℕ}
use mathlib.Core.Path.{◌∙◌, ◌≡◌, sym}
use mathlib.Core.Bool.{false}
use mathlib.Core.List.{List}
use lib.ListN.{get_or}
use native.Mathlib.Nat.{div-zero}
use Rattle.fields.proofs.is_extension.Goals as goal

none : (sheet e : List ℕ) → get_or sheet 516 0 ≡ 0 → false ≡ is_extension sheet e
unfolding is_extension
none sheet e h = rw (h, div-zero)

pub returns-then-w-eq0 : goal.returns-then-w-eq0
returns-then-w-eq0 c = none _ _ (sym c.wide16-w.ensures.0 ∙ c.if-w-eq0.true)

pub returns : goal.returns
unfolding is_extension
returns c = rw (c.wide.ensures.0, c.wide16-w.ensures.0)
