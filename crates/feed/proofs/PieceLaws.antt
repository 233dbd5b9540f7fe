-- ANY CUTTING of a stream into pieces: feeds one after the other take the same bytes and end with the same answer, a refusal's number and
-- place with it, store and tables as one feed of the whole stream. The state, the store and the tables are any. Assumes nothing.
use Rattle.refusal.specs.declared.Refusal.{Refusal}
use Rattle.block_format.specs.declared.ReadError.{ReadError}
use Rattle.std.specs.Prelude.{ℕ, ◌+◌, ◌≤◌, ◌≡◌, refl, List, ◌++◌, drop, Result, Ok, Err}
use Rattle.std.proofs.Common.{arith, sym, ap, ap₂, subst₂, ◌∙◌}
use Rattle.std.proofs.Math.Seq.{paste, paste-zero}
use Rattle.held.specs.Held.{need_of}
use Rattle.held.proofs.PieceLaws as pieces
use Rattle.feed.specs.Feeding.{start, stage_of, taken_of, block_says, block_in, answer_at, symbology_at, layout_at, Judgement, Feeding}
use Rattle.feed.proofs.StageLaws.{start-law}
use Rattle.feed.specs.Single.{Same, one_feed}
use Rattle.block_format.proofs.ReadLaws.{again}
use Rattle.feed.specs.declared.Answer.{Answer}
use Rattle.feed.specs.declared.Fed.{Fed}
use Rattle.held.specs.declared.Holding.{Holding}
use Rattle.held.specs.declared.Holding.TheVariants.{Needs, Whole}

-- what two feeds come to
abbrev pub joined : Fed → Fed → Fed
joined x y = record { taken = x.taken + y.taken; state = y.state; answer = y.answer }

-- FEEDS OF A STREAM, one after the other: state and store are handed back as they were left. A piece p of the stream p ++ q is fed; what it
-- did not take is offered again, from any place m on that is not before it. The last feed is offered all that is left.
-- Each feed may be lent its own sheet and tables; t, s and l are those of the last.
pub data Lent : ℕ → List ℕ → List ℕ → List ℕ → List ℕ → List ℕ → Fed → List ℕ → List ℕ → List ℕ → Type 0 where
  last : {k : ℕ} {st p t s l : List ℕ} {x : Fed} {st1 s1 l1 : List ℕ} → Feeding k st p t s l x st1 s1 l1 → Lent k st p t s l x st1 s1 l1
  more : {k : ℕ} {st p u s0 l0 : List ℕ} {x : Fed} {st1 s1 l1 t s l : List ℕ} {y : Fed} {st2 s2 l2 : List ℕ} (q : List ℕ) (m : ℕ)
      → Feeding k st p u s0 l0 x st1 s1 l1 → x.taken ≤ m → Lent x.state.held st1 (drop m p ++ q) t s l y st2 s2 l2
      → Lent k st (p ++ q) t s l (joined x y) st2 s2 l2

-- The same with the sheet kept and the tables handed on too, as each feed left them; s and l are those of the first.
pub data Handed : ℕ → List ℕ → List ℕ → List ℕ → List ℕ → List ℕ → Fed → List ℕ → List ℕ → List ℕ → Type 0 where
  last : {k : ℕ} {st p t s l : List ℕ} {x : Fed} {st1 s1 l1 : List ℕ} → Feeding k st p t s l x st1 s1 l1 → Handed k st p t s l x st1 s1 l1
  more : {k : ℕ} {st p t s l : List ℕ} {x : Fed} {st1 s1 l1 : List ℕ} {y : Fed} {st2 s2 l2 : List ℕ} (q : List ℕ) (m : ℕ)
      → Feeding k st p t s l x st1 s1 l1 → x.taken ≤ m → Handed x.state.held st1 (drop m p ++ q) t s1 l1 y st2 s2 l2
      → Handed k st (p ++ q) t s l (joined x y) st2 s2 l2

-- a feed whose stage needs nothing takes nothing
pub taken_none : (k : ℕ) (st p : List ℕ) → need_of (stage_of k st) ≡ 0 → taken_of k st p ≡ 0
taken_none = pieces.taken_none start start-law

-- two pieces: a feed of the first, and one of what may follow, are a feed of both
pub join : (k : ℕ) (st p q t u s l : List ℕ) (s0 l0 : List ℕ) (x y : Fed) (st1 s1 l1 st2 s2 l2 : List ℕ) (m : ℕ)
    → Feeding k st p u s0 l0 x st1 s1 l1 → x.taken ≤ m → Feeding x.state.held st1 (drop m p ++ q) t s l y st2 s2 l2
    → Feeding k st (p ++ q) t s l (joined x y) st2 s2 l2
join k st p q t u s l s0 l0 x y st1 s1 l1 st2 s2 l2 m f far g =
    let r = drop m p ++ q in
    let far2 : taken_of k st p ≤ m = omega (arith, f.taken) in
    let a : taken_of x.state.held st1 r ≡ taken_of (k + taken_of k st p) (paste st k p (taken_of k st p)) r = ap₂ (λ m n. taken_of m n r) f.held f.store in
    let n : taken_of k st (p ++ q) ≡ taken_of k st p + taken_of x.state.held st1 r = pieces.both-taken start start-law k st p q m far2 ∙ ap (λ m. taken_of k st p + m) (sym a) in
    let e : paste st k (p ++ q) (taken_of k st (p ++ q)) ≡ paste st1 x.state.held r (taken_of x.state.held st1 r) =
    pieces.both-store start start-law k st p q m far2 ∙ sym (ap₂ (λ m i. paste i m r (taken_of m i r)) f.held f.store) in
    let h : x.state.held + taken_of x.state.held st1 r ≡ k + taken_of k st (p ++ q) = omega (arith, f.held) in
    record {
      taken = omega (arith, f.taken, g.taken);
      store = g.store ∙ sym e;
      held = g.held ∙ h;
      verdict = subst₂ (λ m i. Judgement m i t s l y.answer s2 l2) h (sym e) g.verdict;
    }

-- FEEDS OF A STREAM ARE ONE FEED OF IT, with what the last was lent
pub lent_is-one : {k : ℕ} {st p t s l : List ℕ} {y : Fed} {st2 s2 l2 : List ℕ} → Lent k st p t s l y st2 s2 l2 → Feeding k st p t s l y st2 s2 l2
lent_is-one (last f) = f
lent_is-one (more q m f far r) = join _ _ _ q _ _ _ _ _ _ _ _ _ _ _ _ _ _ m f far (lent_is-one r)

-- the verdict again, with the tables as a verdict left them
again_at : (r : Result Holding Refusal) (st t s l : List ℕ)
    → (answer_at r st t (symbology_at r st t s l) (layout_at r st t s l) ≡ answer_at r st t s l)
    × (symbology_at r st t (symbology_at r st t s l) (layout_at r st t s l) ≡ symbology_at r st t s l)
    × (layout_at r st t (symbology_at r st t s l) (layout_at r st t s l) ≡ layout_at r st t s l)
unfolding block_says answer_at symbology_at layout_at
again_at (Ok (Needs n)) st t s l = (refl, refl, refl)
again_at (Err e) st t s l = (refl, refl, refl)
again_at (Ok (Whole n v)) st t s l = let h = again v (block_in st n) t s l in (ap block_says h.answer, h.symbology, h.layout)

judged_again : (k : ℕ) (st t s l s1 l1 : List ℕ) (x r : Result Answer ReadError) (s2 l2 : List ℕ) → Judgement k st t s l x s1 l1 → Judgement k st t s1 l1 r s2 l2 → Judgement k st t s l r s2 l2
judged_again k st t s l s1 l1 x r s2 l2 f g =
    let z = stage_of k st in
    let h = again_at z st t s l in
    record {
      answer = g.answer ∙ ap₂ (answer_at z st t) f.symbology f.layout ∙ h.0;
      symbology = g.symbology ∙ ap₂ (symbology_at z st t) f.symbology f.layout ∙ h.1;
      layout = g.layout ∙ ap₂ (layout_at z st t) f.symbology f.layout ∙ h.2;
    }

-- the tables handed on too: the second verdict is that with the first tables
handed_of : (k : ℕ) (st q t s l s1 l1 : List ℕ) (x r : Result Answer ReadError) (s2 l2 : List ℕ) (z : Result Holding Refusal) → stage_of k st ≡ z
    → Judgement k st t s l x s1 l1 → Judgement (k + taken_of k st q) (paste st k q (taken_of k st q)) t s1 l1 r s2 l2
    → Judgement (k + taken_of k st q) (paste st k q (taken_of k st q)) t s l r s2 l2
unfolding block_says answer_at symbology_at layout_at
handed_of k st q t s l s1 l1 x r s2 l2 (Ok (Needs n)) e f g =
    subst₂ (λ m i. Judgement (k + taken_of k st q) (paste st k q (taken_of k st q)) t m i r s2 l2) (f.symbology ∙ simp e) (f.layout ∙ simp e) g
handed_of k st q t s l s1 l1 x r s2 l2 (Err n) e f g =
    subst₂ (λ m i. Judgement (k + taken_of k st q) (paste st k q (taken_of k st q)) t m i r s2 l2) (f.symbology ∙ simp e) (f.layout ∙ simp e) g
handed_of k st q t s l s1 l1 x r s2 l2 (Ok (Whole n v)) e f g =
    let none : taken_of k st q ≡ 0 = taken_none k st q (ap need_of e) in
    let hk : k ≡ k + taken_of k st q = omega arith in
    let hs : st ≡ paste st k q (taken_of k st q) = paste-zero st k q ∙ ap (paste st k q) (sym none) in
    judged_again (k + taken_of k st q) (paste st k q (taken_of k st q)) t s l s1 l1 x r s2 l2 (subst₂ (λ m i. Judgement m i t s l x s1 l1) hk hs f) g

join_handed : (k : ℕ) (st p q t s l : List ℕ) (x y : Fed) (st1 s1 l1 st2 s2 l2 : List ℕ) (m : ℕ)
    → Feeding k st p t s l x st1 s1 l1 → x.taken ≤ m → Feeding x.state.held st1 (drop m p ++ q) t s1 l1 y st2 s2 l2
    → Feeding k st (p ++ q) t s l (joined x y) st2 s2 l2
join_handed k st p q t s l x y st1 s1 l1 st2 s2 l2 m f far g =
    let v1 : Judgement x.state.held st1 t s l x.answer s1 l1 = subst₂ (λ m i. Judgement m i t s l x.answer s1 l1) (sym f.held) (sym f.store) f.verdict in
    let v2 = handed_of x.state.held st1 (drop m p ++ q) t s l s1 l1 x.answer y.answer s2 l2 (stage_of x.state.held st1) refl v1 g.verdict in
    join k st p q t t s l s l x y st1 s1 l1 st2 s2 l2 m f far (record { taken = g.taken; store = g.store; held = g.held; verdict = v2 })

-- and with the tables first lent, where they are handed on
pub handed_is-one : {k : ℕ} {st p t s l : List ℕ} {y : Fed} {st2 s2 l2 : List ℕ} → Handed k st p t s l y st2 s2 l2 → Feeding k st p t s l y st2 s2 l2
handed_is-one (last f) = f
handed_is-one (more q m f far r) = join_handed _ _ _ q _ _ _ _ _ _ _ _ _ _ _ m f far (handed_is-one r)

-- ANY CUTTING: the outcome is that of the whole
pub any_cutting : {k : ℕ} {st p t s l : List ℕ} {x y : Fed} {st1 s1 l1 st2 s2 l2 : List ℕ}
    → Lent k st p t s l x st1 s1 l1 → Feeding k st p t s l y st2 s2 l2 → Same x y st1 s1 l1 st2 s2 l2
any_cutting r f = one_feed _ _ _ _ _ _ _ _ _ _ _ _ _ _ (lent_is-one r) f

pub any_cutting_handed : {k : ℕ} {st p t s l : List ℕ} {x y : Fed} {st1 s1 l1 st2 s2 l2 : List ℕ}
    → Handed k st p t s l x st1 s1 l1 → Feeding k st p t s l y st2 s2 l2 → Same x y st1 s1 l1 st2 s2 l2
any_cutting_handed r f = one_feed _ _ _ _ _ _ _ _ _ _ _ _ _ _ (handed_is-one r) f
