-- What the C functions of a stream's start give for each case of an answer: document 01's number, and the values in `out`.
-- Assumes nothing.
use Rattle.block_format.specs.declared.Fields.{Fields}
use Rattle.block_format.specs.declared.ReadError.{ReadError}
use Rattle.std.specs.Prelude.{ℕ, ◌≡◌, List, set, Result, Ok, Err}
use Rattle.block_format.specs.Read.{block_answer, block_symbology, block_layout, block_number}
use Rattle.feed.specs.Feeding.{stage_of, taken_of, held_after, store_after, answer_at, symbology_at, layout_at, answer_number}
use Rattle.feed.specs.declared.Answer.{Answer}
use Rattle.c_texts.specs.Numbers.{place_out}
use Rattle.c_answer.specs.Numbers.{fields_out, answer_out}

-- ---- the block

-- the fields; with 3 the rows needed, at 10 and 11; a refusal's place where it has one
abbrev pub block_out : Result Fields ReadError → List ℕ → List ℕ
block_out (Ok f) o = fields_out f
block_out (Err (ReadError.Refused e)) o = place_out e o
block_out (Err (ReadError.Short s l)) o = set (set o 10 s) 11 l

-- THE PROMISE of dbn_block
pub record BlockC (v : ℕ) (b t s l o : List ℕ) (r : ℕ) (s' l' o' : List ℕ) : Type 0 where
  pub number : r ≡ block_number (block_answer v b t s l)
  pub out : o' ≡ block_out (block_answer v b t s l) o
  pub symbology : s' ≡ block_symbology v b t s l
  pub layout : l' ≡ block_layout v b t s l

-- ---- a feed

-- taken at 16, held at 17, needed at 18, 0 unless bytes are needed
abbrev pub fed_out : ℕ → ℕ → Result Answer ReadError → List ℕ → List ℕ
fed_out taken held a o = answer_out a (set (set (set o 16 taken) 17 held) 18 0)

-- the answer after a feed of p
abbrev pub fed_answer : ℕ → List ℕ → List ℕ → List ℕ → List ℕ → List ℕ → Result Answer ReadError
fed_answer k st p t s l = answer_at (stage_of (held_after k st p) (store_after k st p)) (store_after k st p) t s l

-- THE PROMISE of dbn_feed
pub record FeedC (k : ℕ) (st p t s l o : List ℕ) (r : ℕ) (st' s' l' o' : List ℕ) : Type 0 where
  pub number : r ≡ answer_number (fed_answer k st p t s l)
  pub out : o' ≡ fed_out (taken_of k st p) (held_after k st p) (fed_answer k st p t s l) o
  pub store : st' ≡ store_after k st p
  pub symbology : s' ≡ symbology_at (stage_of (held_after k st p) (store_after k st p)) (store_after k st p) t s l
  pub layout : l' ≡ layout_at (stage_of (held_after k st p) (store_after k st p)) (store_after k st p) t s l
