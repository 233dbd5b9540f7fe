-- What the C functions give for each case of a span: document 01's number, and the values in `out`.
-- Assumes nothing.
use Rattle.names.specs.Names.{Spanned}
use Rattle.std.specs.Prelude.{ℕ, List, [], ◌∷◌, length, Ok, Err}

-- start and length, or zeros
abbrev pub span_out : Spanned → List ℕ
span_out (Ok s) = s.start ∷ s.len ∷ []
span_out (Err e) = 0 ∷ 0 ∷ []
