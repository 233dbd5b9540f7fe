-- What is copied of blocks that nothing refuses. Assumes nothing.
use Rattle.std.specs.Prelude.{ℕ, ◌*◌, ◌≤◌, ◌≡◌, List, length}
use Rattle.house_file.specs.House.{file_fault, payload_of}
use Rattle.house_file.specs.BlockLaws.{blocks_at}

-- n blocks that nothing refuses, and room for the bytes that they hold
pub record Sound (s : List ℕ) (n : ℕ) (store : List ℕ) : Type 0 where
  pub long : length s ≡ 512 * n
  pub fine : file_fault 0 (blocks_at n 0 s) ≡ 0
  pub room : length (payload_of (blocks_at n 0 s)) ≤ length store
