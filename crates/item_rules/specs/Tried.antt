-- What a function answers that may give up. Assumes nothing.
use Rattle.std.specs.Prelude.{ℕ, ◌≡◌, List, length}

-- the answer r is v; or it is 65536, which says that a search gave up or a span ends too far, and there are no 65,536 owners to
-- go on with
pub data Tried (owners : List ℕ) (v r : ℕ) : Type 0 where
  answered : r ≡ v → Tried owners v r
  gave_up : r ≡ 65536 → (length owners ≡ 65536 → ⊥) → Tried owners v r
