-- Two answers that meet the same public promise are equal. Assumes nothing.
use Rattle.std.specs.Prelude.{ℕ, ◌<◌, ◌≡◌, List, get_or}
use Rattle.std.proofs.Common.{sym, ◌∙◌}
use Rattle.numbers.specs.Numbers.{le16, le32, le64}
use Rattle.numbers.specs.Single.{below}

module _ (s : List ℕ) (at r r' : ℕ) where
  pub u8_of : (r ≡ get_or s at 0) × (r < 256) → (r' ≡ get_or s at 0) × (r' < 256) → r ≡ r'
  u8_of = below (get_or s at 0) 256 r r'

  pub u16-of : (r ≡ le16 s at) × (r < 65536) → (r' ≡ le16 s at) × (r' < 65536) → r ≡ r'
  u16-of = below (le16 s at) 65536 r r'

  pub u32_of : (r ≡ le32 s at) × (r < 4294967296) → (r' ≡ le32 s at) × (r' < 4294967296) → r ≡ r'
  u32_of = below (le32 s at) 4294967296 r r'

  pub u64-of : r ≡ le64 s at → r' ≡ le64 s at → r ≡ r'
  u64-of e f = e ∙ sym f
