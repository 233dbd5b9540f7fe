-- The sixteen stand before what was there.
-- Assumes nothing.
use Rattle.std.specs.Prelude.{length}
use Rattle.std.proofs.Common.{arith, rules, sym, ◌∙◌}
use Rattle.std.proofs.lemmas.List.Edits.{sets-eq}
use Rattle.c_answer.specs.Numbers.{fields_out}
use Rattle.c_answer.proofs.put_fields.Goals as goal

pub returns : goal.returns
unfolding fields_out
returns c = rw (c.copy_from_slice.ensures.after, c.fields_out.ensures) (sym (sets-eq (fields_out c.args.f) c.args.out.now 0 (omega arith)))
