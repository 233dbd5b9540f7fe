-- What "needs n" promises of the feeds after it: fewer bytes leave exactly the rest needed, so many end the stage. Assumes nothing.
use Rattle.refusal.specs.declared.Refusal.{Refusal}
use Rattle.block_format.specs.declared.Fields.{Fields}
use Rattle.block_format.specs.declared.ReadError.{ReadError}
use Rattle.std.specs.Prelude.{ℕ, ◌-◌, ◌≤◌, ◌<◌, ◌≡◌, List, length, Result, Ok, Err}
use Rattle.std.proofs.Common.{arith, ap₂, ◌∙◌}
use Rattle.std.proofs.Math.Path.{sym, ap}
use Rattle.block_format.specs.Read.{block_answer}
use Rattle.feed.specs.Feeding.{start, stage_of, store_after, block_says, block_in, answer_at, Feeding, symbology_at, layout_at}
use Rattle.feed.proofs.StageLaws.{start-law}
use Rattle.held.proofs.LeastLaws as held
use Rattle.feed.specs.declared.Answer.{Answer}
use Rattle.feed.specs.declared.Fed.{Fed}
use Rattle.held.specs.declared.Holding.{Holding}
use Rattle.held.specs.declared.Holding.TheVariants.{Needs, Whole}

block-never : (a : Result Fields ReadError) (n : ℕ) → block_says a ≡ Ok (Answer.Needs n) → ⊥
unfolding block_says answer_at symbology_at layout_at
block-never (Ok f) n e = let z : ◌≡◌ {A = ℕ} 0 1 = cc in omega arith
block-never (Err (ReadError.Refused m)) n e = let z : ◌≡◌ {A = ℕ} 0 1 = cc in omega arith
block-never (Err (ReadError.Short a b)) n e = let z : ◌≡◌ {A = ℕ} 0 1 = cc in omega arith

-- only a stage says that bytes are needed
says_needs : (z : Result Holding Refusal) (st t s l : List ℕ) (n : ℕ) → answer_at z st t s l ≡ Ok (Answer.Needs n) → z ≡ Ok (Needs n)
unfolding block_says answer_at symbology_at layout_at
says_needs (Ok (Needs m)) st t s l n e = let q : m ≡ n = cc in ap (λ (i : ℕ). Ok (Needs i)) q
says_needs (Err m) st t s l n e = absurd (let z : ◌≡◌ {A = ℕ} 0 1 = cc in omega arith)
says_needs (Ok (Whole m v)) st t s l n e = absurd (block-never (block_answer v (block_in st m) t s l) n e)

needs_stage : (k : ℕ) (st p t s l : List ℕ) (x : Fed) (st1 s1 l1 : List ℕ) (n : ℕ) → Feeding k st p t s l x st1 s1 l1 → x.answer ≡ Ok (Answer.Needs n)
    → stage_of x.state.held st1 ≡ Ok (Needs n)
needs_stage k st p t s l x st1 s1 l1 n f e = ap₂ stage_of f.held f.store ∙ says_needs _ _ t s l n (sym f.verdict.answer ∙ e)

module _ (k : ℕ) (st : List ℕ) (n : ℕ) (e : stage_of k st ≡ Ok (Needs n)) (q t s l : List ℕ) (y : Fed) (st2 s2 l2 : List ℕ) (g : Feeding k st q t s l y st2 s2 l2) where
  abbrev of : held.Least start k st n q
  of = held.least start start-law k st n e q

  fewer-of : length q < n → (y.taken ≡ length q) × (y.answer ≡ Ok (Answer.Needs (n - length q)))
  unfolding block_says answer_at symbology_at layout_at
  fewer-of h = (g.taken ∙ (of.fewer h).0, g.verdict.answer ∙ ap (λ z. answer_at z (store_after k st q) t s l) (of.fewer h).1)

  prelude-of : n ≤ length q → k < 8 → 8 ≤ y.state.held
  prelude-of h few = omega (arith, of.head h few, g.held)

  block-of : n ≤ length q → 8 ≤ k → (y.taken ≡ n) × ((m : ℕ) → y.answer ≡ Ok (Answer.Needs m) → ⊥)
  unfolding block_says answer_at symbology_at layout_at
  block-of h many =
      let (all, (w, v, u)) = of.whole h many in (
        g.taken ∙ all,
        λ m i. block-never (block_answer v (block_in (store_after k st q) w) t s l) m
            (sym (ap (λ z. answer_at z (store_after k st q) t s l) u) ∙ sym g.verdict.answer ∙ i),
      )

-- THE LEAST COUNT. Where a feed that left k bytes held answered that n are needed, what a feed y of the piece q then gives:
-- of fewer all are taken and exactly the rest is needed; so many end the prelude, or take just the rest of the block, after which none is needed.
pub record Least (k n : ℕ) (q : List ℕ) (y : Fed) : Type 0 where
  pub fewer : length q < n → (y.taken ≡ length q) × (y.answer ≡ Ok (Answer.Needs (n - length q)))
  pub prelude : n ≤ length q → k < 8 → 8 ≤ y.state.held
  pub block : n ≤ length q → 8 ≤ k → (y.taken ≡ n) × ((m : ℕ) → y.answer ≡ Ok (Answer.Needs m) → ⊥)

pub least : (k : ℕ) (st p t s l : List ℕ) (x : Fed) (st1 s1 l1 : List ℕ) (n : ℕ) (q u s0 l0 : List ℕ) (y : Fed) (st2 s2 l2 : List ℕ)
    → Feeding k st p t s l x st1 s1 l1 → x.answer ≡ Ok (Answer.Needs n) → Feeding x.state.held st1 q u s0 l0 y st2 s2 l2
    → Least x.state.held n q y
least k st p t s l x st1 s1 l1 n q u s0 l0 y st2 s2 l2 f e g =
    let z = needs_stage k st p t s l x st1 s1 l1 n f e in
    record {
      fewer = fewer-of x.state.held st1 n z q u s0 l0 y st2 s2 l2 g;
      prelude = prelude-of x.state.held st1 n z q u s0 l0 y st2 s2 l2 g;
      block = block-of x.state.held st1 n z q u s0 l0 y st2 s2 l2 g;
    }
