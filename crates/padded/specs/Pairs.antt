-- Bytes looked at with the one before. Assumes nothing.
use Rattle.std.specs.Prelude.{ℕ, zero, suc, Bool, true, ◌&&◌, ◌||◌, List, ltb, eqb, get_or, drop}

-- a byte below 128, which follows no NUL where it is none
abbrev pub good_pair : ℕ → ℕ → Bool
good_pair before b = (ltb 0 before || eqb b 0) && ltb b 128

-- each of the n bytes after the first
abbrev pub good_pairs : ℕ → List ℕ → Bool
good_pairs zero s = true
good_pairs (suc n) s = good_pair (get_or s 0 0) (get_or s 1 0) && good_pairs n (drop 1 s)

-- a first byte below 128, and each of the n bytes after it
abbrev pub good_text : ℕ → List ℕ → Bool
good_text n s = ltb (get_or s 0 0) 128 && good_pairs n s
