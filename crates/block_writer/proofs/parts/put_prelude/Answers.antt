-- The magic and the version, then the length.
-- Assumes nothing.
use native.Mathlib.Omega.{arith}
use Rattle.put.specs.OutputLaws.{left-start, left_stored, left-last}
use Rattle.block_writer.specs.PutLaws.{prelude-bytes}
use Rattle.block_writer.proofs.parts.put_prelude.Goals as goal

pub returns : goal.returns
returns c = left-last (left_stored (left-start c.requires) _ (prelude-bytes c.args.version c.args.len (omega arith)) c.put_bytes-a.ensures) c.put_little.ensures
