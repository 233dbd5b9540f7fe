-- Where a refusal is, over the public promises: one number at one place, within what was given, whatever tables are lent and however a
-- stream is cut.
-- Assumes nothing.
use Rattle.block_format.specs.declared.Fields.{Fields}
use Rattle.block_format.specs.declared.ReadError.{ReadError}
use Rattle.std.specs.Prelude.{ℕ, ◌/◌, ◌≤◌, ◌≡◌, ◌⊎◌, List, length, Result, Err}
use Rattle.std.proofs.Common.{sym, ap, ◌∙◌}
use Rattle.refusal.specs.declared.Refusal.{Refusal}
use Rattle.codec.specs.Codec.{refusal}
use Rattle.prelude.specs.Prelude.{prelude_of}
use Rattle.prelude.proofs.RefusalLaws.{prelude-place}
use Rattle.prelude.specs.declared.Stage.TheVariants as Stage'
use Rattle.layout.specs.Answers.{Answer, judge}
use Rattle.layout.specs.declared.ReadError.TheVariants as ReadError'
use Rattle.layout.specs.AnswerLaws.{judge-no}
use Rattle.layout.specs.RefusalLaws.{judge-refused}
use Rattle.rules.specs.Rules.{ruled_of}
use Rattle.given_layout.specs.Ruled.{Ruled}
use Rattle.given_layout.proofs.RuledLaws.{ruled-layout-within}
use Rattle.block_format.specs.Read.{Promise}
use Rattle.block_format.proofs.RefusalLaws.{answer-within, refused_anyway}
use Rattle.feed.specs.Feeding.{Feeding}
use Rattle.feed.proofs.RefusalLaws.{feed_place, feed_anyway}
use Rattle.feed.proofs.PieceLaws.{Lent, any_cutting}
use Rattle.feed.specs.declared.Answer.TheVariants as Feed'
use Rattle.feed.specs.declared.Fed.{Fed}

-- ---- within what was given

-- a prelude; the version that refuses a block given with it counts from the prelude too
pub prelude-within : (s : List ℕ) {k : Refusal} → Err k ≡ prelude_of s → k.place ≤ length s
prelude-within s e = prelude-place s (sym e)

pub block_within : (v : ℕ) (b t s l s' l' : List ℕ) {k : Refusal} → Promise v b t s l (Err (ReadError.Refused k)) s' l' → (k ≡ refusal 11 3) ⊎ (k.place ≤ length b)
block_within v b t s l s' l' p = answer-within v b t s l p.answer

pub layout-within : (s : List ℕ) (w : ℕ) (sheet t t' : List ℕ) (k : Refusal) → Ruled s w sheet t t' (Err (ReadError'.Refused k)) → k.place ≤ length s
layout-within = ruled-layout-within

-- of what is then held of a stream
pub feed_within : (k : ℕ) (st p t s l : List ℕ) (r : Fed) (st' s' l' : List ℕ) {e : Refusal} → Feeding k st p t s l r st' s' l' → r.answer ≡ Err (ReadError.Refused e) → e.place ≤ r.state.held
feed_within k st p t s l r st' s' l' f q = feed_place k st p t s l r st' s' l' f q

-- ---- whatever tables are lent

pub block_anyway : (v : ℕ) (b t s l s' l' : List ℕ) {k : Refusal} → Promise v b t s l (Err (ReadError.Refused k)) s' l'
    → (s₂ l₂ s₂' l₂' : List ℕ) (r : Result Fields ReadError) → Promise v b t s₂ l₂ r s₂' l₂' → r ≡ Err (ReadError.Refused k)
block_anyway v b t s l s' l' p s₂ l₂ s₂' l₂' r q = q.answer ∙ refused_anyway v b t s l p.answer s₂ l₂

pub layout_anyway : (s : List ℕ) (w : ℕ) (sheet t t' : List ℕ) {k : Refusal} → Ruled s w sheet t t' (Err (ReadError'.Refused k))
    → (t₂ t₂' : List ℕ) (r : Answer) → Ruled s w sheet t₂ t₂' r → r ≡ Err (ReadError'.Refused k)
layout_anyway s w sheet t t' {k} p t₂ t₂' r q =
    let e = judge-refused (length t / 9) (ruled_of sheet w s) p.is in
    q.is ∙ ap (judge (length t₂ / 9)) e ∙ judge-no (length t₂ / 9) k

pub feed_same : {k : ℕ} {st p t s l : List ℕ} {x : Fed} {st' s' l' : List ℕ} {e : Refusal} → Feeding k st p t s l x st' s' l' → x.answer ≡ Err (ReadError.Refused e)
    → (s₂ l₂ : List ℕ) {y : Fed} {st₂ s₂' l₂' : List ℕ} → Feeding k st p t s₂ l₂ y st₂ s₂' l₂' → y.answer ≡ Err (ReadError.Refused e)
feed_same {k} {st} {p} {t} {s} {l} {x} {st'} {s'} {l'} f q s₂ l₂ g = feed_anyway k st p t s l x st' s' l' f q s₂ l₂ g

-- ---- however a stream is cut

pub cut-place : {k : ℕ} {st p t s l : List ℕ} {x y : Fed} {st1 s1 l1 st2 s2 l2 : List ℕ} {e : Refusal}
    → Lent k st p t s l x st1 s1 l1 → Feeding k st p t s l y st2 s2 l2 → y.answer ≡ Err (ReadError.Refused e) → x.answer ≡ Err (ReadError.Refused e)
cut-place c f q = ap (λ (r : Fed). r.answer) (any_cutting c f).result ∙ q
