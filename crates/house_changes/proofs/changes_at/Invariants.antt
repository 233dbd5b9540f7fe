use Rattle.std.proofs.Common.{length, ◌<◌}
use Rattle.house_changes.proofs.changes_at.Given as goal

abbrev pub invariant-loop-by : goal.invariant-loop-by
invariant-loop-by l = l.at < length l.file
