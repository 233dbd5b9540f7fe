-- The verdict is a function of the held bytes, the store's length and what is lent: bytes of the store past the held ones are not looked at. Assumes nothing.
use Rattle.refusal.specs.declared.Refusal.{Refusal}
use Rattle.std.specs.Prelude.{ℕ, ◌+◌, ◌-◌, ◌≤◌, ◌≡◌, List, take, Result, Ok, Err}
use Rattle.std.proofs.Common.{arith, ◌∙◌, take-add, drop_at, length-take-le}
use Rattle.std.proofs.Math.Path.{refl, sym, ap}
use Rattle.std.proofs.Math.ListN.{length, drop}
use Rattle.block_format.specs.Read.{block_answer, block_symbology, block_layout}
use Rattle.feed.specs.Feeding.{start, stage_of, block_says, block_in, answer_at, symbology_at, layout_at}
use Rattle.feed.proofs.StageLaws.{start-law}
use Rattle.held.proofs.StageLaws as stage
use Rattle.held.specs.declared.Holding.{Holding}
use Rattle.held.specs.declared.Holding.TheVariants.{Needs, Whole}

-- the block is what is held past the prelude
pub block_held : (st : List ℕ) (n : ℕ) → 8 ≤ n → n ≤ length st → block_in st n ≡ drop 8 (take n st)
block_held st n h g =
    sym (ap (λ m. drop 8 (take m st)) (let e : n ≡ 8 + (n - 8) = omega arith in e)
    ∙ ap (drop 8) (take-add 8 (n - 8) st) ∙ drop_at (take 8 st) (take (n - 8) (drop 8 st)) 8 (length-take-le 8 st (omega arith)))

module _ (k : ℕ) (st st2 t s l : List ℕ) (same : length st ≡ length st2) (held : take k st ≡ take k st2) where
  stage-same : stage_of k st ≡ stage_of k st2
  stage-same = stage.held-only start k st st2 same held

  abbrev Alike : Result Holding Refusal → Type 0
  Alike z = (answer_at z st t s l ≡ answer_at z st2 t s l) × (symbology_at z st t s l ≡ symbology_at z st2 t s l) × (layout_at z st t s l ≡ layout_at z st2 t s l)

  alike : (z : Result Holding Refusal) → stage_of k st ≡ z → Alike z
  unfolding block_says answer_at symbology_at layout_at
  alike (Ok (Needs n)) e = (refl, refl, refl)
  alike (Err n) e = (refl, refl, refl)
  alike (Ok (Whole n v)) e =
      let w = stage.is_whole start start-law k st n v e in
      let kn : k ≡ n = w.sum in
      let many : 8 ≤ k = w.many in
      let room : n ≤ length st = w.room in
      let b : block_in st n ≡ block_in st2 n =
      block_held st n (omega arith) room ∙ ap (λ m. drop 8 (take m st)) (sym kn) ∙ ap (drop 8) held ∙ ap (λ m. drop 8 (take m st2)) kn ∙ sym (block_held st2 n (omega arith) (omega arith)) in
      (ap (λ x. block_says (block_answer v x t s l)) b, ap (λ x. block_symbology v x t s l) b, ap (λ x. block_layout v x t s l) b)

  pub held-only
      : (answer_at (stage_of k st) st t s l ≡ answer_at (stage_of k st2) st2 t s l)
      × (symbology_at (stage_of k st) st t s l ≡ symbology_at (stage_of k st2) st2 t s l)
      × (layout_at (stage_of k st) st t s l ≡ layout_at (stage_of k st2) st2 t s l)
  held-only =
      let h = alike (stage_of k st) refl in
      (h.0 ∙ ap (λ z. answer_at z st2 t s l) stage-same, h.1 ∙ ap (λ z. symbology_at z st2 t s l) stage-same, h.2 ∙ ap (λ z. layout_at z st2 t s l) stage-same)
