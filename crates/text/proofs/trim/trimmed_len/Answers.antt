-- `trimmed_len` meets its contract: what is less than one too long is the length.
-- Assumes nothing.
use native.Mathlib.Omega.{arith}
use Rattle.text.proofs.trim.trimmed_len.Goals as goal

pub without-b-requires : goal.without-b-requires
without-b-requires c = (c.by_sixteen-a.ensures, omega arith)

pub without-c-requires : goal.without-c-requires
without-c-requires c = (c.without-b.ensures, omega arith)

pub without-d-requires : goal.without-d-requires
without-d-requires c = (c.without-c.ensures, omega arith)

pub without-requires : goal.without-requires
without-requires c = (c.without-d.ensures, omega arith)

pub returns : goal.returns
returns c = omega (arith, c.without.ensures.least, c.without.ensures.near)
