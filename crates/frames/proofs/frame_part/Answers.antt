-- Past the store's end there is nothing more to take.
-- Assumes nothing.
use native.Mathlib.Omega.{arith}
use mathlib.Core.Path.{sym}
use lib.Seq.{take_all, length-take-le}
use Rattle.frames.proofs.frame_part.Goals as goal

pub returns-then-store-len : goal.returns-then-store-len
returns-then-store-len c = sym (take_all c.args.len c.args.store.now (omega arith))

pub slice_bounds-result-end : goal.slice_bounds-result-end
slice_bounds-result-end c = sym (length-take-le c.args.len c.args.store.now (omega arith))
