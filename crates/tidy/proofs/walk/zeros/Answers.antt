-- The bytes that are left give what all give. Assumes nothing.
use native.Mathlib.Omega.{arith}
use mathlib.Core.Path.{sym, ap, ◌∙◌}
use Rattle.std.specs.Prelude.{Ok}
use Rattle.tidy.specs.Walk.{zeros_from}
use Rattle.tidy.proofs.Laws.{near-at, near-untidy, zeros-end, zeros-on, zeros-stop, one_fewer}
use Rattle.tidy.proofs.walk.zeros.Goals as goal

pub loop-p-init : goal.loop-p-init
loop-p-init c = ap (zeros_from _ _) (omega arith)

pub returns-then-u8_of-ne0 : goal.returns-then-u8_of-ne0
returns-then-u8_of-ne0 c =
    let stop = c.loop-p.invariant ∙ zeros-stop _ _ _ (omega arith) (λ e. c.if-u8_of-ne0.true (c.u8_of.ensures.0 ∙ e)) in
    (c.refuse.ensures ∙ sym stop, near-untidy c.refuse.ensures)

pub loop-p-preserved : goal.loop-p-preserved
loop-p-preserved c = c.loop-p.invariant ∙ zeros-on _ _ _ (omega arith) (sym c.u8_of.ensures.0 ∙ c.if-u8_of-ne0.false) ∙ ap (zeros_from _ _) (one_fewer _ c.loop-p.p)

pub returns : goal.returns
returns c = (let e = zeros-end _ c.loop-p.p _ (omega arith) in sym (c.loop-p.invariant ∙ e ∙ ap Ok (omega arith)), near-at (omega arith))
