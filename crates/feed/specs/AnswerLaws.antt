-- What held bytes are answered, stage by stage. Assumes nothing.
use Rattle.block_format.specs.declared.ReadError.{ReadError}
use Rattle.std.specs.Prelude.{ℕ, ◌≡◌, List, Ok, Err}
use Rattle.std.proofs.Math.Path.{refl}
use Rattle.std.proofs.Common.{ap, ◌∙◌}
use Rattle.refusal.specs.declared.Refusal.{Refusal}
use Rattle.block_format.specs.Read.{block_answer}
use Rattle.block_format.specs.declared.Fields.{Fields}
use Rattle.held.specs.declared.Holding.TheVariants.{Needs, Whole}
use Rattle.feed.specs.Feeding.{block_in, block_says, answer_at}
use Rattle.feed.specs.declared.Answer.{Answer}

module _ (st t s l : List ℕ) where
  pub answer_needs : (n : ℕ) → answer_at (Ok (Needs n)) st t s l ≡ Ok (Answer.Needs n)
  unfolding answer_at
  answer_needs n = refl

  pub answer-kept : (e : Refusal) → answer_at (Err e) st t s l ≡ Err (ReadError.Refused e)
  unfolding answer_at
  answer-kept e = refl

  pub answer-whole : (n v : ℕ) → answer_at (Ok (Whole n v)) st t s l ≡ block_says (block_answer v (block_in st n) t s l)
  unfolding answer_at
  answer-whole n v = refl

-- a block's answer is the answer
pub says-read : (f : Fields) → block_says (Ok f) ≡ Ok (Answer.Done f)
unfolding block_says
says-read f = refl

pub says-refused : (e : Refusal) → block_says (Err (ReadError.Refused e)) ≡ Err (ReadError.Refused e)
unfolding block_says
says-refused e = refl

pub says-short : (m n : ℕ) → block_says (Err (ReadError.Short m n)) ≡ Err (ReadError.Short m n)
unfolding block_says
says-short m n = refl
