-- A text that NULs fill up to a width: its length, its bytes, and that it comes back without them. Assumes nothing.
use Rattle.std.specs.Prelude.{ℕ, ◌-◌, ◌≤◌, ◌≡◌, refl, List, ◌++◌, length, take, replicate}
use Rattle.std.proofs.Common.{arith, length-append}
use Rattle.std.proofs.lemmas.List.{length-replicate}
use Rattle.std.proofs.Math.Seq.{take-append_seam}
use Rattle.codec.specs.Codec.{Bytes}
use Rattle.codec.proofs.Laws.{bytes-append}
use Rattle.text.specs.Trim.{trimmed_len}
use Rattle.text.specs.TrimLaws.{after_kept, zeros-trimmed, padded-trimmed}
use Rattle.columns_check.specs.Tree.{filled}

-- the text, then NULs
pub filled_is : (w : ℕ) (x : List ℕ) → filled w x ≡ x ++ replicate (w - length x) 0
unfolding filled
filled_is w x = refl

-- it has the width
pub filled-length : (w : ℕ) (x : List ℕ) → length x ≤ w → length (filled w x) ≡ w
unfolding filled
filled-length w x h = omega (arith, length-append x (replicate (w - length x) 0), length-replicate {A = ℕ} (w - length x) 0)

-- NULs are bytes
pub nuls-bytes : (n : ℕ) → Bytes (replicate n 0)
nuls-bytes n k = omega (arith, after_kept (replicate n 0) k (omega (arith, zeros-trimmed n)))

-- of bytes it is bytes
pub filled-bytes : (w : ℕ) (x : List ℕ) → Bytes x → Bytes (filled w x)
unfolding filled
filled-bytes w x b = bytes-append x (replicate (w - length x) 0) b (nuls-bytes (w - length x))

-- NULs at its end are not counted
pub filled-trimmed : (w : ℕ) (x : List ℕ) → trimmed_len (filled w x) ≡ trimmed_len x
unfolding filled
filled-trimmed w x = padded-trimmed x (w - length x)

-- and a text that does not end in one comes back
pub filled-back : (w : ℕ) (x : List ℕ) → trimmed_len x ≡ length x → take (trimmed_len (filled w x)) (filled w x) ≡ x
unfolding filled
filled-back w x e = rw (padded-trimmed x (w - length x), e) (take-append_seam x (replicate (w - length x) 0))
