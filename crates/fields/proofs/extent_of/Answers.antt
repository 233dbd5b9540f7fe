-- By the first test. Assumes nothing.
use mathlib.Core.Path.{sym, ◌∙◌}
use Rattle.fields.proofs.Outcomes.{differs-is}
use Rattle.fields.proofs.extent_of.Goals as goal

pub returns : goal.returns
returns c = record {
  other = rw c.past_base.ensures (differs-is _ _);
  off = c.off_of.ensures.0;
  end = c.end_of.ensures.0;
  off-low = c.off_of.ensures.1;
  end_low = c.end_of.ensures.1;
}
