-- What is there beside the text, the text, and what is before them.
-- Assumes nothing.
use Prim.Native.Nat.{◌+◌, ◌-◌}
use native.Mathlib.Omega.{arith}
use mathlib.Core.Path.{sym, ◌∙◌}
use borrow.Author.Tests.{le-leb, lt-leb}
use Rattle.codec.specs.CaseLaws.{by_le}
use borrow.Author.Rules.{rules}
use Rattle.row_bytes.proofs.has_room.Goals as goal

pub returns-then-len-more : goal.returns-then-len-more
returns-then-len-more c = sym (lt-leb (c.args.at + (c.args.width + c.args.more)) c.args.len (omega (arith, c.if-len-more.true)))

pub returns-then-len-more-2 : goal.returns-then-len-more-2
returns-then-len-more-2 c = sym (lt-leb (c.args.at + (c.args.width + c.args.more)) c.args.len (omega (arith, c.if-len-more.false, c.if-len-more-2.true)))

pub returns : goal.returns
returns c =
    let args = c.args in
    let rest = args.len - args.more - args.width in
    by_le args.at rest
    (λ h. le-leb args.at rest h ∙ sym (le-leb (args.at + (args.width + args.more)) args.len (omega (arith, c.if-len-more.false, c.if-len-more-2.false))))
    (λ h. lt-leb args.at rest h ∙ sym (lt-leb (args.at + (args.width + args.more)) args.len (omega (arith, c.if-len-more.false, c.if-len-more-2.false))))
