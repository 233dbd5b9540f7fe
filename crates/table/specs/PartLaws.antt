-- Rows of a part of a slice. Assumes nothing.
use Rattle.std.specs.Prelude.{ℕ, ◌^◌, ◌+◌, ◌≤◌, ◌<◌, List, length}
use Rattle.std.proofs.Common.{arith}
use Rattle.numbers.specs.Numbers.{part}
use Rattle.table.specs.Table.{Room}
use Rattle.numbers.specs.NumberLaws.{part_length}

pub part_room : (s : List ℕ) (b e : ℕ) {k : ℕ} → 0 + length s < 2 ^ 32 → k ≤ b → b ≤ e → e ≤ length s → Room b (part s b e) 0 k
part_room s b e h i j l = let q = part_length s b e l in omega arith

pub part-few : (s : List ℕ) (b e : ℕ) {m q : ℕ} → (m ≤ b + q) × (q ≤ length (part s b e)) → b ≤ e → e ≤ length s → (m ≤ 0 + e) × (e ≤ length s)
part-few s b e h i j = let q = part_length s b e j in omega arith
