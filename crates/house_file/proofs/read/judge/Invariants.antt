-- What refuses the blocks that are left refuses all. Assumes nothing.
use Rattle.std.proofs.Common.{◌≡◌, ◌-◌, ◌*◌}
use Rattle.house_file.specs.House.{file_fault}
use Rattle.house_file.specs.BlockLaws.{blocks_at}
use Rattle.house_file.proofs.read.judge.Given as goal

abbrev pub invariant-loop-index : goal.invariant-loop-index
invariant-loop-index l = file_fault 0 (blocks_at l.n 0 l.file) ≡ file_fault l.index (blocks_at (l.n - l.index) (512 * l.index) l.file)
