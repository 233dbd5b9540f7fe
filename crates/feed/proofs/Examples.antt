-- Document 01's examples P1 to P5, checked by hand, for any store that is long enough, any sheet and any tables; and what a feed of a
-- whole stream start leaves. Assumes nothing.
use Rattle.block_format.specs.declared.ReadError.{ReadError}
use Rattle.std.specs.Prelude.{ℕ, ◌+◌, ◌-◌, ◌≤◌, ◌<◌, ◌≡◌, refl, List, [], ◌∷◌, ◌++◌, length, take, drop, Result, Ok, Err}
use Rattle.std.proofs.Common.{zero-add, arith, sym, ap, ap₂, ◌∙◌, subst, subst₂, length-drop, take_all, take_at}
use Rattle.std.proofs.Math.Seq.{paste}
use Rattle.std.proofs.lemmas.List.{drop-append-le}
use Rattle.refusal.specs.declared.Refusal.{Refusal}
use Rattle.codec.specs.Codec.{refusal, ◌then◌, named, checked, fixed, num, raw}
use Rattle.block_format.specs.Read.{Promise}
use Rattle.block_format.specs.declared.Fields.{Fields}
use Rattle.prelude.specs.Prelude.{magic, prelude, prelude_of}
use Rattle.prelude.specs.declared.Stage.{Stage}
use Rattle.held.proofs.AloneLaws.{Alone, alone-few, alone-refused, alone_rest, alone-whole}
use Rattle.held.specs.declared.Holding.{Holding}
use Rattle.feed.specs.Feeding.{announced, start, stage_of, store_after, block_in, answer_at, Judgement, Feeding, symbology_at, layout_at, block_says}
use Rattle.feed.proofs.StageLaws.{start-law, judged-whole}
use Rattle.feed.specs.declared.Answer.{Answer}
use Rattle.feed.specs.declared.Answer.TheVariants.{Needs, Done}
use Rattle.feed.specs.declared.Fed.{Fed}

-- a store whose first bytes are p, the rest of it as it was
abbrev front : List ℕ → List ℕ → List ℕ
front p st = p ++ drop (length p) st

-- a feed of p from the start that answers r: all of p is taken and held, at the front of the store; the tables are s and l after it
pub record Leaves (st p s l : List ℕ) (r : Result Answer ReadError) (x : Fed) (st1 s1 l1 : List ℕ) : Type 0 where
  pub answer : x.answer ≡ r
  pub taken : x.taken ≡ length p
  pub held : x.state.held ≡ length p
  pub store : st1 ≡ p ++ drop (length p) st
  pub symbology : s1 ≡ s
  pub layout : l1 ≡ l

-- fed p from the start, any store of n bytes or more answers r and is left so, whatever sheet and tables are lent
abbrev pub Gives : ℕ → List ℕ → Result Answer ReadError → Type 0
Gives n p r = (st t s l : List ℕ) (x : Fed) (st1 s1 l1 : List ℕ) → n ≤ length st → Feeding 0 st p t s l x st1 s1 l1 → Leaves st p s l r x st1 s1 l1

-- all of p copied to the front of a store
pasted : (st p : List ℕ) → paste st 0 p (length p) ≡ front p st
pasted st p = ap₂ (λ y n. y ++ drop n st) (take_all (length p) p (omega arith)) (zero-add (length p))

-- where all of p is taken and is x, the verdict on x decides
fed_all : (st p t s l : List ℕ) {s' l' : List ℕ} (x : Result Holding Refusal) (r : Result Answer ReadError) (y : Fed) (st1 s1 l1 : List ℕ) → Alone start st p (length p) x
    → (stage_of (length p) (front p st) ≡ x → Judgement (length p) (front p st) t s l r s' l')
    → Feeding 0 st p t s l y st1 s1 l1 → Leaves st p s' l' r y st1 s1 l1
fed_all st p t s l x r y st1 s1 l1 a judged f =
    let q : store_after 0 st p ≡ front p st = ap (paste st 0 p) a.taken ∙ pasted st p in
    let j = judged (ap (stage_of (length p)) (sym q) ∙ a.stage) in
    let v : Judgement (length p) (front p st) t s l y.answer s1 l1 = subst₂ (λ k d. Judgement k d t s l y.answer s1 l1) a.held q f.verdict in
    record {
      answer = v.answer ∙ sym j.answer;
      taken = f.taken ∙ a.taken;
      held = f.held ∙ a.held;
      store = f.store ∙ q;
      symbology = v.symbology ∙ sym j.symbology;
      layout = v.layout ∙ sym j.layout;
    }

-- where more bytes are needed the tables are as they were
needs_judged : (k : ℕ) (st t s l : List ℕ) (n : ℕ) → stage_of k st ≡ Ok (Holding.Needs n) → Judgement k st t s l (Ok (Needs n)) s l
unfolding answer_at symbology_at layout_at
needs_judged k st t s l n e = record { answer = rw e; symbology = rw e; layout = rw e }

-- so they are where the held bytes are refused before the block
refused-judged : (k : ℕ) (st t s l : List ℕ) (n : Refusal) → stage_of k st ≡ Err n → Judgement k st t s l (Err (ReadError.Refused n)) s l
unfolding answer_at symbology_at layout_at
refused-judged k st t s l n e = record { answer = rw e; symbology = rw e; layout = rw e }

-- fewer than eight bytes
few : (p : List ℕ) → length p < 8 → Gives 8 p (Ok (Needs (8 - length p)))
few p h st t s l x st1 s1 l1 room = fed_all st p t s l _ _ x st1 s1 l1 (alone-few start start-law st p room h) (needs_judged _ _ t s l _)

-- a whole prelude that is refused
eight_refused : (p : List ℕ) (e : Refusal) → length p ≡ 8 → prelude_of (take 8 p) ≡ Err e → Gives 8 p (Err (ReadError.Refused e))
eight_refused p e h q st t s l x st1 s1 l1 room =
    let many : 8 ≤ length p = omega arith in
    fed_all st p t s l _ _ x st1 s1 l1
    (subst (λ n. Alone start st p n (Err e)) (sym h) (alone-refused start start-law st p room many e (ap announced q)))
    (refused-judged _ _ t s l e)

-- P1: an empty feed
pub p1 : Gives 8 [] (Ok (Needs 8))
p1 = few [] (omega arith)

-- P2: two bytes
pub p2 : Gives 8 (68 ∷ 66 ∷ []) (Ok (Needs 6))
p2 = few (68 ∷ 66 ∷ []) (omega arith)

-- P3's bytes announce a block of 100
abbrev three : List ℕ
three = 68 ∷ 66 ∷ 78 ∷ 2 ∷ 100 ∷ 0 ∷ 0 ∷ 0 ∷ []

three-says : start.says (take 8 three) ≡ Ok (Holding.Whole 108 2)
unfolding prelude_of prelude magic ◌then◌ named checked fixed num raw
three-says = refl

-- P3: a whole prelude
pub p3 : Gives 108 (68 ∷ 66 ∷ 78 ∷ 2 ∷ 100 ∷ 0 ∷ 0 ∷ 0 ∷ []) (Ok (Needs 100))
p3 st t s l x st1 s1 l1 room =
    fed_all st three t s l _ _ x st1 s1 l1
    (alone_rest start start-law st three (omega arith) (omega arith) 108 2 three-says room (omega arith) (omega arith)) (needs_judged _ _ t s l 100)

-- P4: a length below 100
pub p4 : Gives 8 (68 ∷ 66 ∷ 78 ∷ 2 ∷ 99 ∷ 0 ∷ 0 ∷ 0 ∷ []) (Err (ReadError.Refused (refusal 12 4)))
unfolding prelude_of prelude magic ◌then◌ named checked fixed num raw
p4 = eight_refused (68 ∷ 66 ∷ 78 ∷ 2 ∷ 99 ∷ 0 ∷ 0 ∷ 0 ∷ []) (refusal 12 4) refl refl

-- P5: a version past 4
pub p5 : Gives 8 (68 ∷ 66 ∷ 78 ∷ 5 ∷ 0 ∷ 0 ∷ 0 ∷ 0 ∷ []) (Err (ReadError.Refused (refusal 11 3)))
unfolding prelude_of prelude magic ◌then◌ named checked fixed num raw
p5 = eight_refused (68 ∷ 66 ∷ 78 ∷ 5 ∷ 0 ∷ 0 ∷ 0 ∷ 0 ∷ []) (refusal 11 3) refl refl

-- ---- a whole stream start in one piece

-- the block in the store is what comes after the prelude
whole-block : (st p : List ℕ) (len : ℕ) → length p ≡ 8 + len → block_in (front p st) (8 + len) ≡ drop 8 p
whole-block st p len long =
    ap (take (8 + len - 8)) (drop-append-le 8 p (drop (length p) st) (omega arith))
    ∙ take_at (drop 8 p) (drop (length p) st) (8 + len - 8) (length-drop 8 p ∙ omega arith)

-- a whole stream start is done where its block is read, with the block's fields and the tables that reading leaves
pub fed_read : (st p t s l s' l' : List ℕ) (v len : ℕ) (f : Fields) (x : Fed) (st1 s1 l1 : List ℕ) → prelude_of (take 8 p) ≡ Ok (Stage.Whole v len) → length p ≡ 8 + len → 0 < len
    → Promise v (drop 8 p) t s l (Ok f) s' l' → 8 + len ≤ length st → Feeding 0 st p t s l x st1 s1 l1 → Leaves st p s' l' (Ok (Done f)) x st1 s1 l1
unfolding block_says
fed_read st p t s l s' l' v len f x st1 s1 l1 names long some reads room =
    fed_all st p t s l _ (Ok (Done f)) x st1 s1 l1
    (subst (λ n. Alone start st p n (Ok (Holding.Whole (8 + len) v))) (sym long)
    (alone-whole start start-law st p (omega arith) (omega arith) (8 + len) v (ap announced names) room (omega arith) (omega arith)))
    (λ e. judged-whole (length p) (front p st) t s l (8 + len) v (Ok f) (Ok (Done f)) s' l' e (subst (λ b. Promise v b t s l (Ok f) s' l') (sym (whole-block st p len long)) reads) refl)

-- one whose block has no rows leaves the tables as they were
pub fed_done : (p : List ℕ) (v len : ℕ) (f : Fields) → prelude_of (take 8 p) ≡ Ok (Stage.Whole v len) → length p ≡ 8 + len → 0 < len
    → ((t s l : List ℕ) → Promise v (drop 8 p) t s l (Ok f) s l) → Gives (8 + len) p (Ok (Done f))
fed_done p v len f names long some reads st t s l x st1 s1 l1 room = fed_read st p t s l s l v len f x st1 s1 l1 names long some (reads t s l) room
