-- What is read at a place depends on the bytes from there on. Assumes nothing.
use Rattle.std.specs.Prelude.{ℕ, ◌≡◌, List, get_or, take, drop}
use Rattle.std.proofs.Common.{sym, ap, ◌∙◌}
use Rattle.codec.specs.Codec.{value}
use Rattle.numbers.specs.Numbers.{le16, le32}
use Rattle.numbers.specs.NumberLaws.{u8_is, u16-is, u32_is}

module _ (s : List ℕ) (i j : ℕ) (e : drop i s ≡ drop j s) where
  pub u8_on : get_or s i 0 ≡ get_or s j 0
  u8_on = sym (u8_is s i) ∙ ap (λ t. value (take 1 t)) e ∙ u8_is s j

  pub u16-on : le16 s i ≡ le16 s j
  u16-on = sym (u16-is s i) ∙ ap (λ t. value (take 2 t)) e ∙ u16-is s j

  pub u32_on : le32 s i ≡ le32 s j
  u32_on = sym (u32_is s i) ∙ ap (λ t. value (take 4 t)) e ∙ u32_is s j
