-- THE MORNING REPORT: however a night's bytes come in pieces, the report on what was counted is the report of its history, and in that
-- accepted, refused and cut sum to the total. Assumes nothing.
use Rattle.block_format.specs.declared.Fields.{Fields}
use Rattle.block_format.specs.declared.ReadError.{ReadError}
use Prim.Native.Nat.{ℕ, zero, suc, ◌+◌, ◌<◌}
use Rattle.std.specs.Prelude.{◌≡◌, Bool, cond, length, drop, replicate, eqb, Result, Ok, Err}
use Rattle.std.proofs.Math.Path.{refl}
use Rattle.std.proofs.Common.{sym, ap, ◌∙◌, leb-true}
use Rattle.std.proofs.Math.Bool.{true, false}
use mathlib.Core.List.{List, []}
use Rattle.std.proofs.lemmas.List.{length-replicate}
use Rattle.std.proofs.Math.Dec.{leb}
use Rattle.refusal.specs.declared.Refusal.{Refusal}
use Rattle.codec.proofs.RefusalLaws.{in_pass}
use Rattle.held.specs.Held.{first_of}
use Rattle.held.proofs.StreamLaws.{finds_first}
use Rattle.held.specs.declared.Holding.{Holding}
use Rattle.held.specs.declared.Holding.TheVariants.{Needs, Whole}
use Rattle.block_format.specs.Read.{block_numbers, block_answer}
use Rattle.block_format.proofs.RefusalLaws.{answer-refuses}
use Rattle.feed.specs.Feeding.{start, block_in}
use Rattle.feed.proofs.StageLaws.{start-law}
use Rattle.count.specs.Count.{accepted, cuts, total, refused_below, Below}
use Rattle.count.specs.CountLaws.{sums}
use Rattle.frames.proofs.CutLaws.{joined}
use Rattle.night.specs.Night.{after_block, goes_on, history_in, history_of, end_numbers}
use Rattle.report.specs.Report.{report, report_of}
use Rattle.report.specs.ReportLaws.{report_history}
use Rattle.demands.specs.NightCut.{passed}
use Rattle.demands.specs.NightHistory.{start-long, stage-ends, between, end_of, night-counted}

-- ---- every refusal number has a count

small : (e : Refusal) → leb (suc e.number) 256 ≡ true → e.number < 256
small e h = leb-true (suc e.number) 256 h

-- what refuses a start before its block is looked at
first_small : (n : ℕ) (s : List ℕ) (e : Refusal) → first_of start n s ≡ Err e → e.number < 256
first_small n s e q =
    let st : List ℕ = replicate {A = ℕ} n 0 in
    let f = finds_first start start-law start-long st s in
    let h : f.is ≡ Err e = sym f.first ∙ ap (λ i. first_of start i s) (length-replicate {A = ℕ} n 0) ∙ q in
    small e (in_pass (λ i. leb (suc i) 256) end_numbers refl e.number (stage-ends _ _ (f.alone.stage ∙ h)))

module _ (n : ℕ) (t y l : List ℕ) where
  block-below : (m : ℕ) (s : List ℕ) (w v : ℕ) (b : Result Fields ReadError) → ((r : List ℕ) → Below 256 (history_in m n t y l r)) → block_answer v (block_in s w) t y l ≡ b
      → Below 256 (after_block s (history_in m n t y l) w b)
  unfolding Below
  block-below m s w v (Ok f) again q = (tt, again (drop w s))
  block-below m s w v (Err (ReadError.Refused e)) again q =
      (small e (in_pass (λ i. leb (suc i) 256) block_numbers refl e.number (answer-refuses v (block_in s w) t y l (sym q))), again (drop w s))
  block-below m s w v (Err (ReadError.Short i j)) again q = (leb-true 4 256 refl, tt)

  goes-below : (m : ℕ) (s : List ℕ) (h : Result Holding Refusal) → ((r : List ℕ) → Below 256 (history_in m n t y l r)) → first_of start n s ≡ h → Below 256 (goes_on t y l s (history_in m n t y l) h)
  unfolding Below
  goes-below m s (Ok (Needs j)) again q = (tt, tt)
  goes-below m s (Err e) again q = (first_small n s e q, tt)
  goes-below m s (Ok (Whole w v)) again q = block-below m s w v (block_answer v (block_in s w) t y l) again refl

  below_in : (m : ℕ) (s : List ℕ) → Below 256 (history_in m n t y l s)
  unfolding history_in Below
  below_in zero s = tt
  below_in (suc m) s = go (below_in m) (eqb (length s) 0)
    where
      go : ((r : List ℕ) → Below 256 (history_in m n t y l r)) → (b : Bool) → Below 256 (cond b [] (goes_on t y l s (history_in m n t y l) (first_of start n s)))
      go again true = tt
      go again false = goes-below m s (first_of start n s) again refl

  pub history_below : (s : List ℕ) → Below 256 (history_of n t y l s)
  unfolding history_of
  history_below s = below_in (length s) s

  -- IN THE HISTORY OF ANY NIGHT accepted, refused and cut sum to the total
  pub night_sums : (s : List ℕ) → accepted (history_of n t y l s) + refused_below 256 (history_of n t y l s) + cuts (history_of n t y l s) ≡ total (history_of n t y l s)
  night_sums s = sums 256 (history_of n t y l s) (history_below s)

-- THE REPORT OF A NIGHT, its bytes in pieces ps, all counts 0 before the first
pub night_reported : (t st s l : List ℕ) (ps : List (List ℕ))
    → report (end_of (passed t (between st s l (replicate 260 0)) ps)) ≡ report_of (history_of (length st) t s l (joined ps))
night_reported t st s l ps =
    ap report (night-counted t st s l (replicate 260 0) ps) ∙ report_history (history_of (length st) t s l (joined ps)) (history_below (length st) t s l (joined ps))
