-- Which refusals are about a place. Assumes nothing.
use Rattle.std.specs.Prelude.{ℕ, Bool, ◌&&◌, ◌||◌, leb}

-- every refusal from reading, 10 to 12 and 20 to 55, and what is untidy in a layout, 120 to 123
abbrev pub has_place : ℕ → Bool
has_place n = (leb 10 n && leb n 12) || (leb 20 n && leb n 55) || (leb 120 n && leb n 123)
