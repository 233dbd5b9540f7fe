-- `without` meets its contract: n bytes are passed over just where none of them is kept.
-- Assumes nothing.
use native.Mathlib.Omega.{arith}
use borrow.Author.Rules.{rules}
use Rattle.text.proofs.Nears.{not-kept, some-kept}
use Rattle.text.proofs.trim.without.Goals as goal

pub returns-then-end-n : goal.returns-then-end-n
returns-then-end-n c = record { least = c.requires.0.least; within = c.requires.0.within; near = omega arith }

pub or_all-requires : goal.or_all-requires
or_all-requires c = omega (arith, c.requires.0.within)

pub returns-then-or_all-ne0 : goal.returns-then-or_all-ne0
returns-then-or_all-ne0 c = record {
  least = c.requires.0.least;
  within = c.requires.0.within;
  near = omega (arith, some-kept c.args.s.now c.args.end c.args.n _ c.requires.0.least c.requires.0.within (search rules) c.or_all.ensures c.if-or_all-ne0.true);
}

pub returns : goal.returns
returns c = record {
  least = not-kept c.args.s.now c.args.end c.args.n _ c.requires.0.least c.requires.0.within (search rules) c.or_all.ensures c.if-or_all-ne0.false;
  within = omega (arith, c.requires.0.within);
  near = omega (arith, c.requires.0.near);
}
