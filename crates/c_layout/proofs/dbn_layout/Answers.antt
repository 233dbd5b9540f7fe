-- Case by case on what the layout is read as; the table is as its reader left it.
-- Assumes nothing.
use mathlib.Core.Path.{sym, ap, ◌∙◌}
use Rattle.std.specs.Prelude.{Err}
use Rattle.c_layout.proofs.dbn_layout.Goals as goal

pub returns-in-Ok : goal.returns-in-Ok
returns-in-Ok c = let p = c.read_layout.ensures in let e = sym p.is ∙ c.in-Ok.is in record { number = simp e; out = simp e; rows = p.leaves }

pub returns-in-Err-Short : goal.returns-in-Err-Short
returns-in-Err-Short c = let p = c.read_layout.ensures in let e = sym p.is ∙ c.in-Err-Short.is ∙ ap Err c.in-Err-Short.field-0-is in record { number = simp e; out = simp e; rows = p.leaves }

pub returns-in-Err-Refused : goal.returns-in-Err-Refused
returns-in-Err-Refused c = let p = c.read_layout.ensures in let e = sym p.is ∙ c.in-Err-Refused.is ∙ ap Err c.in-Err-Refused.field-0-is in record { number = simp e; out = rw e c.put_place.ensures; rows = p.leaves }
