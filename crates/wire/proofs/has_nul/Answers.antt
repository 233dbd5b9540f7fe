-- Some byte is 0 where 0 is among them. Assumes nothing.
use Rattle.std.proofs.Common.{◌∙◌}
use Rattle.wire.proofs.Scan.{any_nul}
use Rattle.wire.proofs.has_nul.Goals as goal

pub returns : goal.returns
returns c = c.contains.ensures.value ∙ any_nul c.args.s.now
