-- Each way out is a law of the bounds at the tests that led there.
-- Assumes nothing.
use native.Mathlib.Omega.{arith}
use mathlib.Core.Path.{sym, ◌∙◌}
use Rattle.held.proofs.StageLaws.{bounded-short, bounded_beyond, bounded-rest, bounded-whole}
use Rattle.held.proofs.bounded.Goals as goal

pub returns-then-room-len : goal.returns-then-room-len
returns-then-room-len c = let a = c.args in c.refused.ensures ∙ sym (bounded-short a.short a.room a.held a.len a.kind (omega arith))

pub returns-then-len-held : goal.returns-then-len-held
returns-then-len-held c = let a = c.args in c.refused-then-len-held.ensures ∙ sym (bounded_beyond a.short a.room a.held a.len a.kind (omega arith) (omega arith))

pub returns-then-held-len : goal.returns-then-held-len
returns-then-held-len c = let a = c.args in sym (bounded-rest a.short a.room a.held a.len a.kind (omega arith) (omega arith))

pub returns : goal.returns
returns c = let a = c.args in sym (bounded-whole a.short a.room a.held a.len a.kind (omega arith) (omega arith))
