-- A night, as document 02's request 12 has it: preludes with their blocks, end on end. Its history is what comes of each input that is begun.
-- Assumes nothing.
use Rattle.refusal.specs.declared.Refusal.{Refusal}
use Rattle.block_format.specs.declared.Fields.{Fields}
use Rattle.block_format.specs.declared.ReadError.{ReadError}
use Rattle.std.specs.Prelude.{ℕ, zero, suc, Bool, true, false, ◌||◌, cond, ◌≡◌, List, [], ◌∷◌, length, drop, eqb, Result, Ok, Err}
use Rattle.codec.specs.Codec.{among}
use Rattle.block_format.specs.Read.{block_answer}
use Rattle.prelude.specs.Prelude.{prelude_numbers}
use Rattle.held.specs.Held.{first_of}
use Rattle.held.specs.declared.Holding.{Holding}
use Rattle.feed.specs.Feeding.{start, stage_of, block_in, answer_at, symbology_at, layout_at, taken_of, held_after, store_after}
use Rattle.feed.specs.declared.Answer.{Answer}
use Rattle.feed.specs.declared.Answer.TheVariants.{Needs, Done}
use Rattle.count.specs.Count.{History, counted_all}
use Rattle.count.specs.declared.Outcome.TheVariants as Outcome'
use Rattle.night.specs.declared.State.{State}

-- ---- the history of a night's bytes

-- a block of the night s, with w bytes of prelude and block: accepted or refused it is counted, and the next input begins after it; 3, where a
-- table is short, ends the reading
abbrev pub after_block : List ℕ → (List ℕ → History) → ℕ → Result Fields ReadError → History
after_block s rest w (Ok f) = Outcome'.Accepted f.symbology_rows ∷ rest (drop w s)
after_block s rest w (Err (ReadError.Refused e)) = Outcome'.Refused e.number ∷ rest (drop w s)
after_block s rest w (Err (ReadError.Short m n)) = Outcome'.Refused 3 ∷ []

-- what stands first in s decides: bytes that are needed and do not come are a cut; 2 or a prelude that is refused ends the reading; t is the
-- sheet, y and l are the tables
abbrev pub goes_on : List ℕ → List ℕ → List ℕ → List ℕ → (List ℕ → History) → Result Holding Refusal → History
goes_on t y l s rest (Ok (Holding.Needs n)) = Outcome'.Cut ∷ []
goes_on t y l s rest (Err e) = Outcome'.Refused e.number ∷ []
goes_on t y l s rest (Ok (Holding.Whole w v)) = after_block s rest w (block_answer v (block_in s w) t y l)

-- at most m inputs, with a store of n bytes; no bytes begin none
unfoldable pub history_in : ℕ → ℕ → List ℕ → List ℕ → List ℕ → List ℕ → History
history_in zero n t y l s = []
history_in (suc m) n t y l s = cond (eqb (length s) 0) [] (goes_on t y l s (history_in m n t y l) (first_of start n s))

-- THE HISTORY OF A NIGHT s. An input that another follows has eight bytes or more, so there are not more than bytes
unfoldable pub history_of : ℕ → List ℕ → List ℕ → List ℕ → List ℕ → History
history_of n t y l s = history_in (length s) n t y l s

-- ---- what an answer of the reader comes to

-- while bytes are needed nothing, else one outcome
abbrev pub outcomes : Result Answer ReadError → History
outcomes (Ok (Needs n)) = []
outcomes (Ok (Done f)) = Outcome'.Accepted f.symbology_rows ∷ []
outcomes (Err (ReadError.Refused e)) = Outcome'.Refused e.number ∷ []
outcomes (Err (ReadError.Short m n)) = Outcome'.Refused 3 ∷ []

-- after these numbers the next start is unknown: the held count, the store, the prelude
abbrev pub end_numbers : List ℕ
end_numbers = 1 ∷ 2 ∷ prelude_numbers

-- whether the reading is over; 3 ends it too
abbrev pub ends : Result Answer ReadError → Bool
ends (Ok (Needs n)) = false
ends (Ok (Done f)) = false
ends (Err (ReadError.Refused e)) = among e.number end_numbers
ends (Err (ReadError.Short m n)) = true

-- how many of k held bytes are held on: all where more are needed; else the next input begins
abbrev pub kept : ℕ → Result Answer ReadError → ℕ
kept k (Ok (Needs n)) = k
kept k (Ok (Done f)) = 0
kept k (Err (ReadError.Refused e)) = 0
kept k (Err (ReadError.Short m n)) = 0

-- ---- a piece

-- where a night stands: its state, and all that is lent
pub record Night : Type 0 where
  pub held : ℕ
  pub ended : Bool
  pub store : List ℕ
  pub symbology : List ℕ
  pub layout : List ℕ
  pub counts : List ℕ

abbrev pub standing : State → List ℕ → List ℕ → List ℕ → List ℕ → Night
standing x st s l c = record { held = x.held; ended = x.ended; store = st; symbology = s; layout = l; counts = c }

-- where it stands after the answer a on k held bytes
abbrev pub met : Night → ℕ → Result Answer ReadError → List ℕ → List ℕ → List ℕ → Night
met x k a st s l = record { held = kept k a; ended = ends a; store = st; symbology = s; layout = l; counts = counted_all (outcomes a) x.counts }

-- where it stands once k bytes are held in the store st
abbrev pub judged : List ℕ → Night → ℕ → List ℕ → Night
judged t x k st =
    let h = stage_of k st in
    met x k (answer_at h st t x.symbology x.layout) st (symbology_at h st t x.symbology x.layout) (layout_at h st t x.symbology x.layout)

-- ONE TURN: a feed of p, and what it comes to
unfoldable pub turned : List ℕ → Night → List ℕ → Night
turned t x p = judged t x (held_after x.held x.store p) (store_after x.held x.store p)

-- at most m turns, each over what the last did not take, until nothing is left or the reading is over
unfoldable pub turns : ℕ → List ℕ → Night → List ℕ → Night
turns zero t x p = x
turns (suc m) t x p = cond (eqb (length p) 0 || x.ended) x (turns m t (turned t x p) (drop (taken_of x.held x.store p) p))

-- A PIECE p. Each turn takes a byte or more, but for the first, which may be offered a whole input that is held already
unfoldable pub through : List ℕ → Night → List ℕ → Night
through t x p = turns (suc (length p)) t x p

-- what `read_piece` promises: the state, and each buffer that is lent
pub record Passed (t : List ℕ) (x : Night) (p : List ℕ) (r : State) (st s l c : List ℕ) : Type 0 where
  pub held : r.held ≡ (through t x p).held
  pub ended : r.ended ≡ (through t x p).ended
  pub store : st ≡ (through t x p).store
  pub symbology : s ≡ (through t x p).symbology
  pub layout : l ≡ (through t x p).layout
  pub counts : c ≡ (through t x p).counts
