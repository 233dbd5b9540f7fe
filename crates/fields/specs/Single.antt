-- Two answers that meet a public promise are equal. Assumes nothing.
use Rattle.std.specs.Prelude.{ℕ, ◌≡◌, Bool, List, Option}
use Rattle.std.proofs.Common.{sym, ap, ◌∙◌}
use Rattle.fields.specs.Field.{field_fault}
use Rattle.codec.specs.Telling.{fault}
use Rattle.fields.specs.Answers.{ExtentIs, ClassIs}
use Rattle.fields.specs.declared.Extent.{Extent}
use Rattle.fields.specs.declared.Class.{Class}

pub extent_of-one : {isRecord ext : Bool} {base : ℕ} {e : List ℕ} {r r' : Extent} → ExtentIs isRecord base ext e r → ExtentIs isRecord base ext e r' → r ≡ r'
extent_of-one {r = r} {r'} f g =
    ap (λ x. record { other = x; off = r.off; end = r.end }) (f.other ∙ sym g.other)
    ∙ ap (λ x. record { other = r'.other; off = x; end = r.end }) (f.off ∙ sym g.off)
    ∙ ap (λ x. record { other = r'.other; off = r'.off; end = x }) (f.end ∙ sym g.end)

pub class-of-one : {sheet e : List ℕ} {r r' : Class} → ClassIs sheet e r → ClassIs sheet e r' → r ≡ r'
class-of-one {r = r} {r'} f g =
    ap (λ x. record { id = x; padding = r.padding; align = r.align }) (f.id ∙ sym g.id)
    ∙ ap (λ x. record { id = r'.id; padding = x; align = r.align }) (f.padding ∙ sym g.padding)
    ∙ ap (λ x. record { id = r'.id; padding = r'.padding; align = x }) (f.align ∙ sym g.align)

pub check_field_one : (sheet : List ℕ) (width labels : ℕ) (aligns : List ℕ) (isRecord : Bool) (base : ℕ) (seen : Bool) (e : List ℕ) {r r' : Option ℕ}
    → r ≡ fault (field_fault sheet width labels aligns isRecord base seen e) → r' ≡ fault (field_fault sheet width labels aligns isRecord base seen e) → r ≡ r'
check_field_one sheet width labels aligns isRecord base seen e p q = p ∙ sym q
