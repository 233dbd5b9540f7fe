use Rattle.std.proofs.Common.{◌≤◌}
use Rattle.command_line.proofs.escape.escaped.Given as goal

abbrev pub invariant-loop-i : goal.invariant-loop-i
invariant-loop-i g l = l.from ≤ l.i
