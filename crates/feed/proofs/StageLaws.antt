-- The prelude is a head, and what that tells of a feed. Assumes nothing.
use Rattle.refusal.specs.declared.Refusal.{Refusal}
use Rattle.block_format.specs.declared.Fields.{Fields}
use Rattle.block_format.specs.declared.ReadError.{ReadError}
use Rattle.std.specs.Prelude.{ℕ, ◌+◌, ◌≡◌, List, Result, Ok, Err, refl}
use Rattle.std.proofs.Common.{arith, sym, ap, subst₂, ◌∙◌}
use Rattle.prelude.specs.Prelude.{prelude_of}
use Rattle.prelude.proofs.PreludeLaws.{prelude-few, prelude-first, prelude-never}
use Rattle.prelude.specs.declared.Stage.{Stage}
use Rattle.prelude.specs.declared.Stage.TheVariants as Stage'
use Rattle.held.proofs.StageLaws.{HeadLaw, Pours, refused_needs, whole_needs}
use Rattle.held.specs.declared.Holding.TheVariants.{Needs, Whole}
use Rattle.feed.specs.Feeding.{announced, start, stage_of, block_in, block_says, Judgement, Feeding, answer_at, symbology_at, layout_at}
use Rattle.block_format.specs.Read.{Promise}
use Rattle.feed.specs.declared.Answer.{Answer}

announced_needs : (x : Result Stage Refusal) (n : ℕ) → announced x ≡ Ok (Needs n) → x ≡ Ok (Stage'.Needs n)
announced_needs (Ok (Stage'.Needs m)) n e = let q : m ≡ n = cc in ap (λ (i : ℕ). Ok (Stage'.Needs i)) q
announced_needs (Err m) n e = absurd (refused_needs m n e)
announced_needs (Ok (Stage'.Whole v len)) n e = absurd (whole_needs _ v n e)

-- the prelude keeps the laws of heads
pub start-law : HeadLaw start
start-law = record {
  some = omega arith;
  few = λ s h. ap announced (prelude-few s h);
  first = λ s h. ap announced (prelude-first s h);
  never = λ s n h e. prelude-never s n h (announced_needs (prelude_of s) n e);
}

announced-whole : (x : Result Stage Refusal) (w v : ℕ) → announced x ≡ Ok (Whole w v) → (len : ℕ) × (x ≡ Ok (Stage'.Whole v len)) × (w ≡ 8 + len)
announced-whole (Ok (Stage'.Needs m)) w v e = absurd (whole_needs w v m (sym e))
announced-whole (Err m) w v e = absurd (let z : ◌≡◌ {A = ℕ} 0 1 = cc in omega arith)
announced-whole (Ok (Stage'.Whole v2 len)) w v e =
    let q : 8 + len ≡ w = cc in
    let r : v2 ≡ v = cc in
    (len, ap (λ x. Ok (Stage'.Whole x len)) r, sym q)

-- a whole that the prelude announces is eight bytes and a block
pub whole-prelude : (s : List ℕ) (w v : ℕ) → start.says s ≡ Ok (Whole w v) → (len : ℕ) × (prelude_of s ≡ Ok (Stage'.Whole v len)) × (w ≡ 8 + len)
whole-prelude s w v e = announced-whole (prelude_of s) w v e

-- a block that is not read is answered so
pub says_err : (e : ReadError) → block_says (Err e) ≡ Err e
unfolding block_says
says_err (ReadError.Refused e) = refl
says_err (ReadError.Short m n) = refl

-- the verdict where the whole is held: what the block's reader promises of that part of the store
pub judged-whole : (k : ℕ) (st t s l : List ℕ) (w v : ℕ) (a : Result Fields ReadError) (r : Result Answer ReadError) (s' l' : List ℕ)
    → stage_of k st ≡ Ok (Whole w v) → Promise v (block_in st w) t s l a s' l' → r ≡ block_says a → Judgement k st t s l r s' l'
unfolding block_says answer_at symbology_at layout_at
judged-whole k st t s l w v a r s' l' e p q = record {
  answer = q ∙ ap block_says p.answer ∙ simp e;
  symbology = p.symbology ∙ simp e;
  layout = p.layout ∙ simp e;
}

-- a feed: two pours, and the verdict
pub fed : (k : ℕ) (st p t s l : List ℕ) (a b : ℕ) (st2 s' l' : List ℕ) (r : Result Answer ReadError) → Pours start k st p a b st2
    → Judgement (k + a + b) st2 t s l r s' l'
    → Feeding k st p t s l (record { taken = a + b; state = record { held = k + a + b }; answer = r }) st2 s' l'
fed k st p t s l a b st2 s' l' r w j = record {
  taken = w.taken;
  store = w.store;
  held = w.held;
  verdict = subst₂ (λ x y. Judgement x y t s l r s' l') w.held w.store j;
}
