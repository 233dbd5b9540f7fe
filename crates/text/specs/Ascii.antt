-- Bytes below 128. Assumes nothing.
use Rattle.std.specs.Prelude.{ℕ, Bool, List, ltb}
use Rattle.text.specs.All.{all}

-- every byte is below 128
abbrev pub ascii : List ℕ → Bool
ascii s = all (λ b. ltb b 128) s
