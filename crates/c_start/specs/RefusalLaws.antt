-- Which numbers the C functions of a stream's start give.
-- Assumes nothing.
use Rattle.block_format.specs.declared.Fields.{Fields}
use Rattle.block_format.specs.declared.ReadError.{ReadError}
use Rattle.std.specs.Prelude.{ℕ, ◌≡◌, refl, List, ◌∷◌, Result, Ok, Err}
use Rattle.std.proofs.Common.{sym, subst}
use Rattle.refusal.specs.declared.Refusal.{Refusal}
use Rattle.codec.specs.Refusals.{In}
use Rattle.codec.proofs.RefusalLaws.{in_more}
use Rattle.block_format.specs.Read.{block_numbers, block_answer, block_number}
use Rattle.block_format.proofs.RefusalLaws.{answer-refuses}
use Rattle.feed.specs.Feeding.{stage_of, held_after, store_after, answer_at, answer_number, feed_numbers}
use Rattle.feed.proofs.RefusalLaws.{answer-refused}
use Rattle.feed.specs.declared.Answer.{Answer}
use Rattle.feed.specs.declared.Answer.TheVariants as Answer'
use Rattle.c_start.specs.Numbers.{BlockC, FeedC}

-- dbn_block: 0, 3 or a block's refusal
pub block-number : (v : ℕ) (b t s l o : List ℕ) (r : ℕ) (s' l' o' : List ℕ) → BlockC v b t s l o r s' l' o' → In (0 ∷ 3 ∷ block_numbers) r
block-number v b t s l o r s' l' o' p = subst (In (0 ∷ 3 ∷ block_numbers)) (sym p.number) (go (block_answer v b t s l) (λ k e. answer-refuses v b t s l e))
  where
    go : (a : Result Fields ReadError) → ((k : Refusal) → Err (ReadError.Refused k) ≡ a → In block_numbers k.number) → In (0 ∷ 3 ∷ block_numbers) (block_number a)
    go (Ok f) h = refl
    go (Err (ReadError.Refused k)) h = in_more block_numbers (0 ∷ 3 ∷ block_numbers) refl k.number (h k refl)
    go (Err (ReadError.Short m n)) h = refl

-- dbn_feed: 0, 3 or a feed's refusal
pub feed_number : (k : ℕ) (st p t s l o : List ℕ) (r : ℕ) (st' s' l' o' : List ℕ) → FeedC k st p t s l o r st' s' l' o' → In (0 ∷ 3 ∷ feed_numbers) r
feed_number k st p t s l o r st' s' l' o' f =
    subst (In (0 ∷ 3 ∷ feed_numbers)) (sym f.number)
    (go (answer_at (stage_of (held_after k st p) (store_after k st p)) (store_after k st p) t s l) (λ e i. answer-refused (held_after k st p) (store_after k st p) t s l i))
  where
    go : (a : Result Answer ReadError) → ((e : Refusal) → a ≡ Err (ReadError.Refused e) → In feed_numbers e.number) → In (0 ∷ 3 ∷ feed_numbers) (answer_number a)
    go (Ok (Answer'.Needs n)) h = refl
    go (Ok (Answer'.Done f)) h = refl
    go (Err (ReadError.Refused e)) h = in_more feed_numbers (0 ∷ 3 ∷ feed_numbers) refl e.number (h e refl)
    go (Err (ReadError.Short m n)) h = refl
