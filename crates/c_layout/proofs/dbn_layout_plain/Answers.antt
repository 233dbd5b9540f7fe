-- Case by case on the verdict. Assumes nothing.
use mathlib.Core.Path.{sym, ◌∙◌}
use Rattle.c_layout.proofs.dbn_layout_plain.Goals as goal

pub returns-in-Ok : goal.returns-in-Ok
returns-in-Ok c = let e = sym c.check_layout_plain.ensures ∙ c.in-Ok.is in record { number = simp e; out = simp e }

pub returns-in-Err : goal.returns-in-Err
returns-in-Err c = let e = sym c.check_layout_plain.ensures ∙ c.in-Err.is in record { number = simp e; out = rw e c.put_place.ensures }
