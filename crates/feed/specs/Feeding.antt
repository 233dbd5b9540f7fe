-- Feeding, as document 01's section has it: what held bytes say, what a feed takes of a piece, and what it answers.
-- Assumes nothing.
use Rattle.refusal.specs.declared.Refusal.{Refusal}
use Rattle.block_format.specs.declared.Fields.{Fields}
use Rattle.block_format.specs.declared.ReadError.{ReadError}
use Rattle.std.specs.Prelude.{ℕ, ◌+◌, ◌-◌, ◌≡◌, List, ◌∷◌, ◌++◌, take, drop, Result, Ok, Err}
use Rattle.block_format.specs.Read.{block_numbers, block_answer, block_symbology, block_layout}
use Rattle.prelude.specs.Prelude.{prelude_numbers, prelude_of}
use Rattle.prelude.specs.declared.Stage.{Stage}
use Rattle.held.specs.Held as held
use Rattle.held.specs.Held.{Head, held_of}
use Rattle.held.specs.declared.Holding.{Holding}
use Rattle.held.specs.declared.Holding.TheVariants.{Needs, Whole}
use Rattle.feed.specs.declared.Answer.{Answer}
use Rattle.feed.specs.declared.Answer.TheVariants.{Done}
use Rattle.feed.specs.declared.Fed.{Fed}

-- ---- the held bytes

-- eight bytes held name a whole: prelude and block
abbrev pub announced : Result Stage Refusal → Result Holding Refusal
announced (Ok (Stage.Needs n)) = Ok (Needs n)
announced (Err e) = Err e
announced (Ok (Stage.Whole v len)) = Ok (Whole (8 + len) v)

-- the start of a stream: its head is the prelude; 2 refuses a store below 8 bytes, or below 8 + length
abbrev pub start : Head
start = record { size = 8; short = 2; says = λ s. announced (prelude_of s) }

-- the first k bytes of a store, up to the block's own verdict: 1 beyond the store, 2 below 8, then the prelude; with eight held 2 below
-- the whole, 1 beyond it, what is missing of it, or the whole, n bytes, and its version
abbrev pub stage_of : ℕ → List ℕ → Result Holding Refusal
stage_of = held_of start

-- the block of a whole of n bytes: what comes after the prelude
abbrev pub block_in : List ℕ → ℕ → List ℕ
block_in st n = take (n - 8) (drop 8 st)

-- the block's answer is the answer
unfoldable pub block_says : Result Fields ReadError → Result Answer ReadError
block_says (Ok f) = Ok (Done f)
block_says (Err (ReadError.Refused e)) = Err (ReadError.Refused e)
block_says (Err (ReadError.Short s l)) = Err (ReadError.Short s l)

-- the answer by stage: t is the sheet, s and l are the tables lent now
unfoldable pub answer_at : Result Holding Refusal → List ℕ → List ℕ → List ℕ → List ℕ → Result Answer ReadError
answer_at (Ok (Needs n)) st t s l = Ok (Answer.Needs n)
answer_at (Err e) st t s l = Err (ReadError.Refused e)
answer_at (Ok (Whole n v)) st t s l = block_says (block_answer v (block_in st n) t s l)

-- the symbology table by stage: only a whole block may change it
unfoldable pub symbology_at : Result Holding Refusal → List ℕ → List ℕ → List ℕ → List ℕ → List ℕ
symbology_at (Ok (Needs n)) st t s l = s
symbology_at (Err e) st t s l = s
symbology_at (Ok (Whole n v)) st t s l = block_symbology v (block_in st n) t s l

-- the layout table by stage
unfoldable pub layout_at : Result Holding Refusal → List ℕ → List ℕ → List ℕ → List ℕ → List ℕ
layout_at (Ok (Needs n)) st t s l = l
layout_at (Err e) st t s l = l
layout_at (Ok (Whole n v)) st t s l = block_layout v (block_in st n) t s l

-- what refuses held bytes: the count or the store, the prelude, the block
abbrev pub feed_numbers : List ℕ
feed_numbers = 1 ∷ 2 ∷ (prelude_numbers ++ block_numbers)

-- THE VERDICT on k held bytes of a store, with the sheet and the tables lent now: what it answers, and the tables after it
pub record Judgement (k : ℕ) (st t s l : List ℕ) (r : Result Answer ReadError) (s' l' : List ℕ) : Type 0 where
  pub answer : r ≡ answer_at (stage_of k st) st t s l
  pub symbology : s' ≡ symbology_at (stage_of k st) st t s l
  pub layout : l' ≡ layout_at (stage_of k st) st t s l

-- ---- a feed

-- a feed takes what the prelude, then the block, still needs, at most the whole piece
abbrev pub taken_of : ℕ → List ℕ → List ℕ → ℕ
taken_of = held.taken_of start

-- the held count and the store after a feed
abbrev pub held_after : ℕ → List ℕ → List ℕ → ℕ
held_after = held.held_after start

abbrev pub store_after : ℕ → List ℕ → List ℕ → List ℕ
store_after = held.store_after start

-- A FEED of the piece p: the count taken; those bytes right after the held ones, the rest of the store as it was; the new count; the verdict on that
pub record Feeding (k : ℕ) (st p t s l : List ℕ) (r : Fed) (st' s' l' : List ℕ) : Type 0 where
  pub taken : r.taken ≡ taken_of k st p
  pub store : st' ≡ store_after k st p
  pub held : r.state.held ≡ held_after k st p
  pub verdict : Judgement (held_after k st p) (store_after k st p) t s l r.answer s' l'

-- ---- the numbers of document 01

-- an answer's refusal number; 3 for short tables, 0 where it is none
abbrev pub answer_number : Result Answer ReadError → ℕ
answer_number (Ok (Answer.Needs n)) = 0
answer_number (Ok (Done f)) = 0
answer_number (Err (ReadError.Refused e)) = e.number
answer_number (Err (ReadError.Short s l)) = 3
