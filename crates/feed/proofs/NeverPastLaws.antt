-- What a feed never takes: a byte past the block, or any byte where the held ones already give done or a refusal.
-- Assumes nothing.
use Rattle.refusal.specs.declared.Refusal.{Refusal}
use Rattle.std.specs.Prelude.{ℕ, ◌+◌, ◌≤◌, ◌⊎◌, ◌≡◌, refl, List, ◌++◌, length, take, drop, Result, Ok, Err}
use Rattle.std.proofs.Common.{add-zero, arith, inl, inr, ⊎_elim, sym, ap, subst₂, ◌∙◌, take-take}
use Rattle.std.proofs.Math.Seq.{paste, paste-zero}
use Rattle.block_format.specs.declared.Fields.{Fields}
use Rattle.prelude.specs.Prelude.{prelude_of}
use Rattle.prelude.specs.declared.Stage.TheVariants as Stage'
use Rattle.held.specs.Held.{need_of}
use Rattle.held.proofs.StageLaws.{is_whole, taken-most}
use Rattle.held.proofs.AloneLaws.{front_paste}
use Rattle.held.proofs.NeverPastLaws as held
use Rattle.held.proofs.NeverPastLaws.{Inside}
use Rattle.held.specs.declared.Holding.{Holding}
use Rattle.held.specs.declared.Holding.TheVariants.{Needs, Whole}
use Rattle.feed.specs.Feeding.{start, stage_of, taken_of, held_after, store_after, answer_at, Judgement, Feeding, block_says, symbology_at, layout_at}
use Rattle.feed.proofs.StageLaws.{start-law, whole-prelude}
use Rattle.feed.proofs.PieceLaws.{taken_none, join}
use Rattle.feed.specs.Single.{Same, one_feed}
use Rattle.feed.specs.declared.Answer.{Answer}
use Rattle.feed.specs.declared.Answer.TheVariants.{Done}
use Rattle.feed.specs.declared.Fed.{Fed}

-- NEVER PAST THE BLOCK: a feed takes nothing, or what is then held does not reach past the prelude, or past the block that it announces
pub never-past : (k : ℕ) (st p t s l : List ℕ) (x : Fed) (st1 s1 l1 : List ℕ) → Feeding k st p t s l x st1 s1 l1 → (x.taken ≡ 0) ⊎ Inside start x.state.held st1
never-past k st p t s l x st1 s1 l1 f =
    ⊎_elim (λ e. inl (f.taken ∙ e)) (λ i. inr (subst₂ (Inside start) (sym f.held) (sym f.store) i)) (held.never-past start start-law k st p)

done-stage : (z : Result Holding Refusal) (st t s l : List ℕ) (f : Fields) → answer_at z st t s l ≡ Ok (Done f) → (w : ℕ) × (v : ℕ) × (z ≡ Ok (Whole w v))
unfolding block_says answer_at symbology_at layout_at
done-stage (Ok (Needs n)) st t s l f e = absurd (let z : ◌≡◌ {A = ℕ} 0 1 = cc in omega arith)
done-stage (Err n) st t s l f e = absurd (let z : ◌≡◌ {A = ℕ} 0 1 = cc in omega arith)
done-stage (Ok (Whole w v)) st t s l f e = (w, v, refl)

need-or : (z : Result Holding Refusal) (st t s l : List ℕ) → ((n : ℕ) → answer_at z st t s l ≡ Ok (Answer.Needs n) → ⊥) → need_of z ≡ 0
unfolding block_says answer_at symbology_at layout_at
need-or (Ok (Needs n)) st t s l h = absurd (h n refl)
need-or (Err e) st t s l h = refl
need-or (Ok (Whole n v)) st t s l h = refl

-- NOTHING MORE: a feed whose held bytes already give done or a refusal, with what is lent now, takes nothing
pub nothing_more : (k : ℕ) (st p t s l : List ℕ) (x : Fed) (st1 s1 l1 : List ℕ) → Feeding k st p t s l x st1 s1 l1
    → ((n : ℕ) → answer_at (stage_of k st) st t s l ≡ Ok (Answer.Needs n) → ⊥) → x.taken ≡ 0
nothing_more k st p t s l x st1 s1 l1 f h = f.taken ∙ taken_none k st p (need-or (stage_of k st) st t s l h)

-- and so a longer stream changes nothing once the answer is done or a refusal
pub settled : (k : ℕ) (st p q t s l : List ℕ) (x y : Fed) (st1 s1 l1 st2 s2 l2 : List ℕ) → Feeding k st p t s l x st1 s1 l1
    → ((n : ℕ) → x.answer ≡ Ok (Answer.Needs n) → ⊥) → Feeding k st (p ++ q) t s l y st2 s2 l2 → Same x y st1 s1 l1 st2 s2 l2
settled k st p q t s l x y st1 s1 l1 st2 s2 l2 f h g =
    let r = drop x.taken p ++ q in
    let held = x.state.held in
    let v : Judgement held st1 t s l x.answer s1 l1 = subst₂ (λ m i. Judgement m i t s l x.answer s1 l1) (sym f.held) (sym f.store) f.verdict in
    let none : taken_of held st1 r ≡ 0 = taken_none held st1 r (need-or (stage_of held st1) st1 t s l (λ n e. h n (v.answer ∙ e))) in
    let hk : held ≡ held + taken_of held st1 r = omega arith in
    let hs : st1 ≡ paste st1 held r (taken_of held st1 r) = paste-zero st1 held r ∙ ap (paste st1 held r) (sym none) in
    let again : Feeding held st1 r t s l (record { taken = 0; state = x.state; answer = x.answer }) st1 s1 l1 = record {
      taken = sym none;
      store = hs;
      held = hk;
      verdict = subst₂ (λ m i. Judgement m i t s l x.answer s1 l1) hk hs v;
    } in
    let one = one_feed k st (p ++ q) t s l _ y st1 s1 l1 st2 s2 l2 (join k st p q t t s l s l x _ st1 s1 l1 st1 s1 l1 x.taken f (omega arith) again) g in
    record {
      result = ap (λ n. record { taken = n; state = x.state; answer = x.answer }) (sym (add-zero x.taken)) ∙ one.result;
      store = one.store;
      symbology = one.symbology;
      layout = one.layout;
    }

-- DONE: a feed from the start that is done took the prelude and the block that it announces, and no more
pub done-whole : (st p t s l : List ℕ) (x : Fed) (st1 s1 l1 : List ℕ) (f : Fields) → Feeding 0 st p t s l x st1 s1 l1 → x.answer ≡ Ok (Done f)
    → (v : ℕ) × (len : ℕ) × (prelude_of (take 8 p) ≡ Ok (Stage'.Whole v len)) × (x.taken ≡ 8 + len) × (x.taken ≤ length p)
done-whole st p t s l x st1 s1 l1 f g e =
    let n = taken_of 0 st p in
    let (w, v, q) = done-stage (stage_of (held_after 0 st p) (store_after 0 st p)) (store_after 0 st p) t s l f (sym g.verdict.answer ∙ e) in
    let i = is_whole start start-law (held_after 0 st p) (store_after 0 st p) w v q in
    let most : n ≤ length p = taken-most start start-law 0 st p in
    let many : 8 ≤ held_after 0 st p = i.many in
    let sum : held_after 0 st p ≡ w = i.sum in
    let front : take 8 (store_after 0 st p) ≡ take 8 p =
    sym (take-take 8 n (store_after 0 st p) (omega arith)) ∙ ap (take 8) (front_paste st p n most) ∙ take-take 8 n p (omega arith) in
    let (len, said, m) = whole-prelude (take 8 p) w v (ap start.says (sym front) ∙ i.says) in
    (v, len, said, omega (arith, g.taken), omega (arith, g.taken))
