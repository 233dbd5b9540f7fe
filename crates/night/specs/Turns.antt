-- What the private functions promise: an answer that is counted, and a turn. Assumes nothing.
use Rattle.block_format.specs.declared.ReadError.{ReadError}
use Rattle.std.specs.Prelude.{ℕ, ◌<◌, ◌≡◌, List, Result, Ok, Err}
use Rattle.feed.specs.Feeding.{taken_of}
use Rattle.feed.specs.declared.Answer.{Answer}
use Rattle.feed.specs.declared.Answer.TheVariants.{Needs, Done}
use Rattle.count.specs.Count.{counted_all}
use Rattle.night.specs.Night.{outcomes, ends, kept, Night, standing, turned}
use Rattle.night.specs.declared.State.{State}
use Rattle.night.specs.declared.Turn.{Turn}

-- a number that refuses is below 256, so that it has a count
abbrev pub Small : Result Answer ReadError → Type 0
Small (Ok (Needs n)) = Unit {0}
Small (Ok (Done f)) = Unit {0}
Small (Err (ReadError.Refused e)) = e.number < 256
Small (Err (ReadError.Short m n)) = Unit {0}

-- an answer on k held bytes is counted, and the state after it
pub record Judged (k : ℕ) (a : Result Answer ReadError) (c : List ℕ) (r : State) (c2 : List ℕ) : Type 0 where
  pub held : r.held ≡ kept k a
  pub ended : r.ended ≡ ends a
  pub counts : c2 ≡ counted_all (outcomes a) c

-- a turn, as the code makes it
pub record TurnIs (t : List ℕ) (x : Night) (p : List ℕ) (r : Turn) (st s l c : List ℕ) : Type 0 where
  pub taken : r.taken ≡ taken_of x.held x.store p
  pub stands : standing r.state st s l c ≡ turned t x p
