-- A file read block by block, from place to place. Assumes nothing.
use Rattle.std.specs.Prelude.{ℕ, zero, suc, ◌+◌, ◌*◌, ◌/◌, ◌%◌, ◌≤◌, ◌≡◌, refl, true, false, List, [], ◌∷◌, ◌++◌, length, take, drop}
use Rattle.std.proofs.Common.{arith, ap, ◌∙◌, append_assoc, length-take, length-drop, take_at, eqb-true, leb-true}
use Rattle.std.proofs.Math.Nat.{add_assoc}
use Rattle.std.proofs.Math.Dec.{eqb-zero-suc}
use Rattle.codec.specs.Codec.{ok, refuse, refusal, Bytes, value, little, named, num, raw, judged, times_parse, times, ◌then◌}
use Rattle.codec.proofs.StepLaws.{num_got, raw_got}
use Rattle.codec.specs.CaseLaws.{both_true}
use Rattle.sums.specs.Sums.{words}
use Rattle.house_file.specs.House.{Block, block, before, file_fault, file, is_length, blocks_of}

-- ---- where they stand

-- the block at a place
abbrev pub block_at : ℕ → List ℕ → Block
block_at p s = record {
  index = value (take 2 (drop p s));
  used = value (take 2 (drop (p + 2) s));
  payload = take 504 (drop (p + 4) s);
  a = value (take 2 (drop (p + 508) s));
  b = value (take 2 (drop (p + 510) s));
}

-- n blocks from a place on
abbrev pub blocks_at : ℕ → ℕ → List ℕ → List Block
blocks_at zero p s = []
blocks_at (suc n) p s = block_at p s ∷ blocks_at n (p + 512) s

pub blocks_count : (n p : ℕ) (s : List ℕ) → length (blocks_at n p s) ≡ n
blocks_count zero p s = refl
blocks_count (suc n) p s = ap suc (blocks_count n (p + 512) s)

module _ (base : ℕ) (s : List ℕ) where
  pub block_got : (p : ℕ) → p + 512 ≤ length s → block.codec.parse base s p ≡ ok (block_at p s) (p + 512)
  unfolding block named ◌then◌
  block_got p h =
      simp (num_got 130 2 base s p (omega arith), num_got 130 2 base s (p + 2) (omega arith), add_assoc, raw_got 130 504 base s (p + 4) (omega arith), num_got 130 2 base s (p + 508) (omega arith), num_got 130 2 base s (p + 510) (omega arith))

  pub blocks_got : (n p : ℕ) → p + 512 * n ≤ length s → times_parse block.codec n base s p ≡ ok (blocks_at n p s) (p + 512 * n)
  blocks_got zero p h = ap (ok []) (omega arith)
  blocks_got (suc n) p h =
      let e : p + 512 + 512 * n ≡ p + 512 * suc n = omega arith in
      simp (block_got p (omega arith), blocks_got n (p + 512) (omega arith)) (ap (ok (blocks_at (suc n) p s)) e)

-- the bytes of a block are its own
pub block-bytes : (s : List ℕ) (p : ℕ) → Bytes s → p + 512 ≤ length s → drop p s ≡ block.codec.print (block_at p s) ++ drop (p + 512) s
block-bytes s p b h = (block.law.back 0 s p (block_at p s) (p + 512) b (block_got 0 s p h)).bytes

print-is : (x : Block) → block.codec.print x ≡ (little 2 x.index ++ (little 2 x.used ++ x.payload)) ++ (little 2 x.a ++ little 2 x.b)
unfolding block named ◌then◌ num raw
print-is x = simp append_assoc

-- the 508 bytes before the check words are its words
pub block_words : (s : List ℕ) (p : ℕ) → Bytes s → p + 512 ≤ length s → words (take 508 (drop p s)) ≡ before (value (take 2 (drop p s))) (value (take 2 (drop (p + 2) s))) (take 504 (drop (p + 4) s))
block_words s p b h =
    let x = block_at p s in
    let u : List ℕ = little 2 x.index ++ (little 2 x.used ++ x.payload) in
    let v : List ℕ = little 2 x.a ++ little 2 x.b in
    let n : length u ≡ 508 = simp (length-take, length-drop) (omega arith) in
    let e : drop p s ≡ u ++ (v ++ drop (p + 512) s) = block-bytes s p b h ∙ ap (λ (l : List ℕ). l ++ drop (p + 512) s) (print-is x) ∙ append_assoc u v (drop (p + 512) s) in
    ap (λ (l : List ℕ). words (take 508 l)) e ∙ ap words (take_at u (v ++ drop (p + 512) s) 508 n)

-- ---- a file

-- how many blocks a file has
abbrev pub number : List ℕ → ℕ
number s = length s / 512

pub is-length : (n : ℕ) → is_length n ≡ true → (n ≡ 512 * (n / 512)) × ((1 ≤ n / 512) × (n / 512 ≤ 65536))
is-length n e =
    let (m, l) = both_true _ _ e in
    let (a, b) = both_true _ _ l in
    let r = eqb-true (n % 512) 0 m in
    let lo = leb-true 1 n a in
    let hi = leb-true n (512 * 65536) b in
    (omega arith, (omega arith, omega arith))

module _ (s : List ℕ) where
  pub length-refused : is_length (length s) ≡ false → blocks_of s ≡ refuse (refusal 130 0)
  unfolding blocks_of
  length-refused e = rw e

  module _ (e : is_length (length s) ≡ true) where
    read : times_parse block.codec (number s) 0 s 0 ≡ ok (blocks_at (number s) 0 s) (512 * number s)
    read = let (m, _) = is-length (length s) e in blocks_got 0 s (number s) 0 (omega arith) ∙ ap (ok (blocks_at (number s) 0 s)) (omega arith)

    pub blocks_refused : (k : ℕ) → file_fault 0 (blocks_at (number s) 0 s) ≡ suc k → blocks_of s ≡ refuse (refusal (suc k) 0)
    unfolding blocks_of file judged times
    blocks_refused k f = rw e (simp (read, f, eqb-zero-suc))

    pub blocks_fine : file_fault 0 (blocks_at (number s) 0 s) ≡ 0 → blocks_of s ≡ ok (blocks_at (number s) 0 s) (512 * number s)
    unfolding blocks_of file judged times
    blocks_fine f = rw e (simp (read, f))
