-- The width stands in front of the reserved bytes; a version without one has 22. Assumes nothing.
use mathlib.Core.Path.{◌≡◌}
use native.Mathlib.Omega.{arith}
use Rattle.block_format.specs.Block.{width_of}
use Rattle.block.proofs.HeaderLaws.{of-header}
use borrow.Author.Rules.{rules}
use Rattle.block.proofs.header.symbol_width.Goals as goal

pub returns-then-v-eq0 : goal.returns-then-v-eq0
returns-then-v-eq0 c = λ h j q. rw c.if-v-eq0.true

pub half-requires : goal.half-requires
half-requires c =
    let pre = c.requires in
    let t = pre.two (omega (arith, c.if-v-eq0.false)) in omega (arith, t, pre.total, pre.long)

pub returns : goal.returns
returns c =
    let t = c.requires.two (omega (arith, c.if-v-eq0.false)) in of-header c.args.v c.args.block.now c.requires (λ h. c.half.result ≡ width_of c.args.v h) (rw t c.half.ensures.0)
