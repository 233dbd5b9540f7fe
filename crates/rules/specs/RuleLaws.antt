-- What a layout with its rules is, and that the rules see no start and no skipped byte. Assumes nothing.
use Rattle.std.specs.Prelude.{ℕ, ◌≡◌, refl, List, eqb}
use Rattle.codec.specs.Codec.{ok, ◌>>=◌, need}
use Rattle.wire.specs.Reader.{all_tests}
use Rattle.layout.specs.Layout.{Parts, from_layout, parts}
use Rattle.layout.specs.PlaceLaws.{structs-bare, records-bare, labels-bare}
use Rattle.layout.specs.LayoutOf.{D, layout_of}
use Rattle.item_rules.specs.Rules.{Seq}
use Rattle.rules.specs.Rules.{rules_of, ruled_of}

-- a layout with a fault is refused by its number
pub ruled-is : (sheet : List ℕ) (width : ℕ) (s : List ℕ) → ruled_of sheet width s
    ≡ (layout_of s >>= λ t j. need (eqb 0 (rules_of sheet width (from_layout t).0)) (rules_of sheet width (from_layout t).0) 0 >>= λ _ _. ok t j)
unfolding ruled_of
ruled-is sheet width s = refl

seq : ℕ → ℕ → List (List ℕ) → Seq
seq rtype base es = record { rtype = rtype; base = base; entries = es }

-- the rules see no start and no skipped byte
pub rules_blind : (sheet : List ℕ) (w : ℕ) (x : Parts) → rules_of sheet w ((parts all_tests D).codec.bare x) ≡ rules_of sheet w x
unfolding rules_of seq
rules_blind sheet w x = rw (structs-bare seq x, records-bare seq x, labels-bare x)
