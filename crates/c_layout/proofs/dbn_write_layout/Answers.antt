-- Case by case on what the writer answers; the output is as it left it.
-- Assumes nothing.
use mathlib.Core.Path.{sym, ◌∙◌}
use Rattle.c_layout.proofs.dbn_write_layout.Goals as goal

pub returns-in-Ok : goal.returns-in-Ok
returns-in-Ok c = let p = c.write_layout.ensures in let e = sym p.is ∙ c.in-Ok.is in record { number = simp e; out = simp e; output = p.leaves }

pub returns-in-Err : goal.returns-in-Err
returns-in-Err c = let p = c.write_layout.ensures in let e = sym p.is ∙ c.in-Err.is in record { number = simp e; out = simp e; output = p.leaves }
