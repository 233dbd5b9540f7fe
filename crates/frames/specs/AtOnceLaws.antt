-- The length of a frame that comes whole in one piece, with nothing held. A tool of the code and no promise. Assumes nothing.
use Rattle.std.specs.Prelude.{ℕ, ◌*◌, Bool, cond, List, length, get_or, leb, Option, Some, None}

-- the tests in their order: the header is there, the length is one, the frame is there, the store has room
abbrev pub tried : Bool → Bool → Bool → Bool → ℕ → Option ℕ
tried a b c d w = cond a (cond b (cond c (cond d (Some w) None) None) None) None

-- the length of the frame that p begins with, where all of it is there and a store of n bytes has room for it
unfoldable pub whole_in : ℕ → List ℕ → Option ℕ
whole_in n p = let w = 4 * get_or p 0 0 in tried (leb 16 (length p)) (leb 16 w) (leb w (length p)) (leb w n) w
