-- The loop keeps: the bits so far, or-ed with what is left, are those of all the bytes.
-- Assumes nothing.
use mathlib.Core.Path.{◌≡◌, ◌∙◌, sym}
use Prim.Native.Nat.{◌-◌}
use native.Mathlib.Nat.{add-zero, sub-zero}
use native.Mathlib.Omega.{arith}
use Rattle.text.proofs.Or.{ored-one}
use borrow.Author.Rules.{rules}
use Rattle.text.proofs.utf8.or_all.Goals as goal

pub loop-j-init : goal.loop-j-init
loop-j-init c = (search rules, simp (add-zero, sub-zero))

pub loop-j-preserved : goal.loop-j-preserved
loop-j-preserved c =
    let args = c.args in (
      search rules,
      c.loop-j.invariant.1
          ∙ ored-one args.s.now args.a args.n c.loop-j.j c.loop-j.all (search rules) (search rules),
    )

pub returns : goal.returns
returns c =
    let none : c.args.n - c.loop-j.j ≡ 0 = omega arith in
    sym (rw none at c.loop-j.invariant.1)
