-- Two sequences of the same parts are one; the first of two verdicts. Assumes nothing.
use Rattle.std.specs.Prelude.{ℕ, ◌≡◌, List, eqb}
use Rattle.std.proofs.Common.{eqb-true}
use Rattle.std.proofs.lemmas.Bool.{eqb-false}
use Rattle.codec.specs.CaseLaws.{by_bool}
use Rattle.item_rules.specs.Rules.{first, Seq}

-- two sequences of the same parts
pub seq-eq : {a a' b b' : ℕ} {es es' : List (List ℕ)} → a ≡ a' → b ≡ b' → es ≡ es'
    → ◌≡◌ {A = Seq} (record { rtype = a; base = b; entries = es }) (record { rtype = a'; base = b'; entries = es' })
seq-eq p1 p2 p3 = rw (p1, p2, p3)

-- the first of two verdicts is 0 where both are
pub halves : (a b : ℕ) → first a b ≡ 0 → (a ≡ 0) × (b ≡ 0)
halves a b h = by_bool (eqb a 0) (λ t. (eqb-true a 0 t, rw t at h)) (λ t. absurd (eqb-false a 0 t (rw t at h)))
