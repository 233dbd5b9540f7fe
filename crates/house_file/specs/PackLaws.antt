-- The bytes of blocks, and how many they are. Assumes nothing.
use Rattle.std.specs.Prelude.{ℕ, zero, suc, ◌-◌, ◌*◌, ◌≤◌, ◌≡◌, refl, List, ◌++◌, length, take, drop, replicate}
use Rattle.std.proofs.Common.{arith, ap, ◌∙◌, append_assoc, length-append, length-take}
use Rattle.std.proofs.lemmas.List.{length-replicate}
use Rattle.codec.specs.Codec.{little, named, num, raw, judged, times_print, times, ◌then◌}
use Rattle.sums.specs.Sums.{words, check_a, check_b}
use Rattle.house_file.specs.House.{Block, block, file, sealed, blocks_from, count, file_of}

-- ---- one block

-- the 508 bytes before the check words of block i of the bytes p
abbrev pub body : ℕ → List ℕ → List ℕ
body i p = little 2 i ++ (little 2 (length p) ++ (p ++ replicate (504 - length p) 0))

pub body-length : (i : ℕ) (p : List ℕ) → length p ≤ 504 → length (body i p) ≡ 508
body-length i p h = simp (length-append, length-replicate) (omega arith)

-- and then they
pub sealed-print : (i : ℕ) (p : List ℕ) → block.codec.print (sealed i p) ≡ body i p ++ (little 2 (check_a (words (body i p))) ++ little 2 (check_b (words (body i p))))
unfolding block named ◌then◌ num raw sealed
sealed-print i p = simp append_assoc

-- a block is 512 bytes
pub print-length : (x : Block) → length x.payload ≡ 504 → length (block.codec.print x) ≡ 512
unfolding block named ◌then◌ num raw
print-length x e = simp (length-append) (omega arith)

-- ---- the blocks of bytes

pub take-few : (s : List ℕ) → length (take 504 s) ≤ 504
take-few s = omega (arith, length-take 504 s)

pub sealed-length : (i : ℕ) (p : List ℕ) → length p ≤ 504 → length (block.codec.print (sealed i p)) ≡ 512
unfolding sealed
sealed-length i p h = print-length (sealed i p) (length-append p (replicate (504 - length p) 0) ∙ simp length-replicate (omega arith))

pub from-length : (n i : ℕ) (s : List ℕ) → length (times_print block.codec (blocks_from n i s)) ≡ 512 * n
from-length zero i s = refl
from-length (suc n) i s =
    length-append (block.codec.print (sealed i (take 504 s))) (times_print block.codec (blocks_from n (suc i) (drop 504 s)))
    ∙ omega (arith, sealed-length i (take 504 s) (take-few s), from-length n (suc i) (drop 504 s))

-- ---- the file of bytes

pub file-print : (s : List ℕ) → file_of s ≡ times_print block.codec (blocks_from (count s) 0 s)
unfolding file_of file judged times
file-print s = refl

pub file-length : (s : List ℕ) → length (file_of s) ≡ 512 * count s
file-length s = ap length (file-print s) ∙ from-length (count s) 0 s
