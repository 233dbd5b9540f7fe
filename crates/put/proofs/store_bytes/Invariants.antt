-- The invariant: what is left to store after the first four. The last four go over what is there of them.
-- Assumes nothing.
use Prim.Native.Nat.{◌+◌, ◌-◌, ◌≤◌}
use native.Mathlib.Omega.{arith}
use mathlib.Core.Path.{◌≡◌, sym, ◌∙◌}
use lib.ListN.{length, drop, length-drop}
use Rattle.put.specs.OutputLaws.{Left, left-start, left_step, left-room, left-all, left-on, left_over, wrote-is, wrote-length}
use Rattle.put.proofs.StoreLaws.{drop-next-four, drop-last-four}
use borrow.Author.Rules.{rules}
use Rattle.put.proofs.store_bytes.Given as goal

abbrev pub invariant-loop-j : goal.invariant-loop-j
invariant-loop-j l = (l.last + 4 ≡ length l.src) × (l.j ≤ length l.src) × Left l.initial.a (drop 4 l.src) l.initial.out l.a (drop l.j l.src) l.out

abbrev pub decreases-loop-j : goal.decreases-loop-j
decreases-loop-j l = length l.src - l.j
