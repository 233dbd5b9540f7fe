-- What is left to write is what the blocks that are left hold. Assumes nothing.
use Rattle.std.proofs.Common.{◌≡◌, ◌-◌, ◌*◌}
use Rattle.put.specs.OutputLaws.{Left}
use Rattle.house_file.specs.House.{file_fault, payload_of}
use Rattle.house_file.specs.BlockLaws.{blocks_at}
use Rattle.house_file.proofs.read.put_payload.Given as goal

abbrev pub invariant-loop-index : goal.invariant-loop-index
invariant-loop-index l =
    Left 0 (payload_of (blocks_at l.n 0 l.file)) l.initial.store l.to (payload_of (blocks_at (l.n - l.index) (512 * l.index) l.file)) l.store
    × (file_fault l.index (blocks_at (l.n - l.index) (512 * l.index) l.file) ≡ 0)
