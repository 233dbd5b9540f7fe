-- Bytes that hold a NUL. Assumes nothing.
use Rattle.std.specs.Prelude.{ℕ, ◌≡◌, List, [], ◌∷◌, ◌||◌, nat_eq, eqb}
use Rattle.std.specs.List.{list_any}
use Rattle.std.proofs.Common.{refl, sym, ◌∙◌, ap₂}
use borrow.Author.Tests.{ne_eqb}
use Rattle.codec.specs.CaseLaws.{by_eqb}
use Rattle.codec.specs.Codec.{among}

is_nul : (b : ℕ) → nat_eq b 0 ≡ eqb 0 b
is_nul b = by_eqb b 0 (λ _ z. rw z refl) (λ e h. e ∙ sym (ne_eqb 0 b (λ z. h (sym z))))

-- some byte is 0 where 0 is among them
pub any_nul : (s : List ℕ) → list_any (λ b. nat_eq b 0) s ≡ among 0 s
any_nul [] = refl
any_nul (b ∷ s) = ap₂ ◌||◌ (is_nul b) (any_nul s)
