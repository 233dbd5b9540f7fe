-- Bytes below 128 and letters of two bytes are rows by themselves, so what is left after them is judged as the whole is.
-- Assumes nothing.
use Prim.Native.Nat.{ℕ}
use native.Mathlib.Omega.{arith}
use mathlib.Core.Path.{◌≡◌, ◌∙◌, sym}
use mathlib.Core.List.{List, []}
use mathlib.Core.Option.{some}
use lib.ListN.{drop}
use Rattle.text.specs.Utf8.{goes, utf8}
use Rattle.text.specs.Runs.{Skipped}
use Rattle.text.proofs.Goes.{goes-skipped, goes_end}
use Rattle.text.proofs.utf8.is_utf8.Goals as goal

module _ (s : List ℕ) {a b : ℕ} (first : Skipped s 0 a) (second : Skipped s a b) where
  passed : goes (some []) s ≡ goes (some []) (drop b s)
  passed = goes-skipped s 0 a first ∙ goes-skipped s a b second

  -- and after letters and bytes below 128
  passed-more : {i d : ℕ} → goes (some []) (drop b s) ≡ goes (some []) (drop i s) → Skipped s i d → goes (some []) s ≡ goes (some []) (drop d s)
  passed-more {i} {d} letters third = passed ∙ letters ∙ goes-skipped s i d third

pub returns-then-is_low : goal.returns-then-is_low
unfolding utf8
returns-then-is_low c =
    let second = c.skip-b.ensures in
    let s = c.args.s.now in
    goes_end s _ second.within (c.is_low.ensures c.if-is_low.true) ∙ sym (passed s c.skip-a.ensures second)

pub returns-then-is_low-2 : goal.returns-then-is_low-2
unfolding utf8
returns-then-is_low-2 c =
    let third = c.skip-d.ensures in
    let s = c.args.s.now in
    goes_end s _ third.within (c.is_low-2.ensures c.if-is_low-2.true)
    ∙ sym (passed-more s c.skip-a.ensures c.skip-b.ensures c.pairs.ensures.same third)

pub returns-then-e-s : goal.returns-then-e-s
unfolding utf8
returns-then-e-s c =
    let s = c.args.s.now in
    let letters = c.letters-e.ensures in
    goes_end s _ letters.within (λ k lo hi. absurd (omega (arith, c.if-e-s.true)))
    ∙ sym (passed-more s c.skip-a.ensures c.skip-b.ensures c.pairs.ensures.same c.skip-d.ensures ∙ letters.same)

pub returns : goal.returns
unfolding utf8
returns c =
    let s = c.args.s.now in
    c.by_table.ensures
    ∙ sym (passed-more s c.skip-a.ensures c.skip-b.ensures c.pairs.ensures.same c.skip-d.ensures ∙ c.letters-e.ensures.same)
