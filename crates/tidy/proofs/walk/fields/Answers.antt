-- Entries, and then names. Assumes nothing.
use native.Mathlib.Omega.{arith}
use mathlib.Core.Path.{sym, ap, ◌∙◌}
use Rattle.std.specs.Prelude.{Ok}
use Rattle.std.proofs.lemmas.Result.{err_from_is_err_and}
use Rattle.tidy.proofs.Laws.{near_clear, items_fields}
use Rattle.tidy.proofs.walk.fields.Goals as goal

pub entries-requires : goal.entries-requires
entries-requires c = (omega (arith, c.requires), c.requires.1)

pub names_end-requires : goal.names_end-requires
names_end-requires c = (omega (arith, c.requires, near_clear c.entries.ensures.1 c.in_ok-p.was), c.requires.1)

pub returns : goal.returns
returns c = ap Ok c.names_end.ensures ∙ sym (items_fields _ _ _ _ (omega arith) (sym c.entries.ensures.0 ∙ c.in_ok-p.was))

pub returns-in_err-p : goal.returns-in_err-p
returns-in_err-p c =
    let p = err_from_is_err_and c.from_residual.result c.from_residual.ensures.1 in
    rw (p.1, p.2) (sym (items_fields _ _ _ _ (omega arith) (sym c.entries.ensures.0 ∙ c.in_err-p.was)))
