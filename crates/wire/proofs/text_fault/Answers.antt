-- Where nothing is asked no text has a fault. Plain texts have none; others are tried for 52, then 53. Assumes nothing.
use Prim.Native.Nat.{ℕ}
use mathlib.Core.Path.{◌≡◌, sym, ap, ◌∙◌}
use mathlib.Core.Bool.{Bool, false}
use mathlib.Core.List.{List}
use Rattle.std.proofs.Common.{arith}
use Rattle.codec.specs.Telling.{fault, fault_zero, fault_not}
use Rattle.wire.specs.Reader.{all_tests, tests_of, text_fault}
use Rattle.wire.proofs.NameLaws.{text_52, text_53, text-fine, text-plain, text_light}
use borrow.Author.Rules.{rules}
use Rattle.wire.proofs.text_fault.Goals as goal

asked : {light : Bool} {k : ℕ} (t : List ℕ) → light ≡ false → k ≡ text_fault all_tests t → fault k ≡ fault (text_fault (tests_of light) t)
asked t e q = ap fault (rw e q)

pub returns-then-light : goal.returns-then-light
returns-then-light c = sym fault_zero ∙ ap fault (text_light _ c.if-light.true)

pub returns-then-is_plain : goal.returns-then-is_plain
returns-then-is_plain c = sym fault_zero ∙ asked _ c.if-light.false (text-plain _ (sym c.is_plain.ensures ∙ c.if-is_plain.true))

pub returns-then-has_nul : goal.returns-then-has_nul
returns-then-has_nul c = sym (fault_not 52 (λ z. omega arith)) ∙ asked _ c.if-light.false (text_52 all_tests _ (rw (sym c.has_nul.ensures ∙ c.if-has_nul.true)))

pub returns-then-is_utf8 : goal.returns-then-is_utf8
returns-then-is_utf8 c = sym fault_zero ∙ asked _ c.if-light.false (text-fine all_tests _ (rw (sym c.has_nul.ensures ∙ c.if-has_nul.false)) (sym c.is_utf8.ensures ∙ c.if-is_utf8.true))

pub returns-else-is_utf8 : goal.returns-else-is_utf8
returns-else-is_utf8 c = sym (fault_not 53 (λ z. omega arith)) ∙ asked _ c.if-light.false (text_53 all_tests _ (rw (sym c.has_nul.ensures ∙ c.if-has_nul.false)) (sym c.is_utf8.ensures ∙ c.if-is_utf8.false))
