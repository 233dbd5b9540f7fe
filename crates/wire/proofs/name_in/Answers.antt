-- Each way out is an exit of the format of names. Assumes nothing.
use native.Mathlib.Omega.{arith}
use Rattle.std.proofs.Common.{sym, ◌∙◌, refl}
use Rattle.codec.specs.Telling.{fault_some, fault_none}
use Rattle.numbers.specs.Numbers.{refused}
use Rattle.numbers.specs.NumberLaws.{past-mk}
use Rattle.wire.proofs.NameLaws.{name-none-at, name-cut-at, name-bad-at, name-end-at, name_open_at, name_got_at}
use borrow.Author.Rules.{rules}
use Rattle.wire.proofs.name_in.Goals as goal

pub returns-then-left-lt1 : goal.returns-then-left-lt1
returns-then-left-lt1 c = rw c.refuse.ensures (name-none-at _ _ _ (omega arith), refused)

pub returns-then-left-len : goal.returns-then-left-len
returns-then-left-len c = rw c.refuse-then-left-len.ensures (name-cut-at _ _ _ (omega arith) c.wide-len.ensures.0 (omega arith), refused)

pub returns-in-Some : goal.returns-in-Some
returns-in-Some c =
    let (same, some) = fault_some (sym c.text_fault.ensures ∙ c.in-Some.is) in
    rw c.refuse-in-Some.ensures (name-bad-at _ _ _ (omega arith) c.wide-len.ensures.0 (omega arith) same some, refused)

pub returns-then-left-lt1-2 : goal.returns-then-left-lt1-2
returns-then-left-lt1-2 c = rw c.refuse-then-left-lt1-2.ensures (name-end-at _ _ _ (omega arith) c.wide-len.ensures.0 (omega arith) (sym (fault_none c.text_fault.ensures c.in_default.not-Some)) refl (omega arith), refused)

pub returns-then-s-e-ne0 : goal.returns-then-s-e-ne0
returns-then-s-e-ne0 c = rw c.refuse-then-s-e-ne0.ensures (name_open_at _ _ _ (omega arith) c.wide-len.ensures.0 (omega arith) (sym (fault_none c.text_fault.ensures c.in_default.not-Some)) refl (omega arith) c.if-s-e-ne0.true, refused)

pub returns : goal.returns
returns c =
    let wide = c.wide-len.ensures in
    (name_got_at _ _ _ (omega arith) wide.0 (omega arith) (sym (fault_none c.text_fault.ensures c.in_default.not-Some)) refl (omega arith) c.if-s-e-ne0.false, past-mk (omega arith) (omega arith) (omega (arith, wide.1)))
