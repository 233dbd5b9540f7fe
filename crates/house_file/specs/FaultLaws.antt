-- What refuses a block, test by test, and what is known where nothing does. Assumes nothing.
use Rattle.std.specs.Prelude.{ℕ, zero, suc, ◌+◌, ◌*◌, ◌≤◌, ◌≡◌, Bool, true, false, ◌&&◌, List, length, take, drop, leb, eqb}
use Rattle.std.proofs.Common.{arith, sym, ap, ap₂, ◌∙◌, length-append, length-take, length-drop, length-take-le, eqb-true, leb-true}
use Rattle.std.proofs.Math.Dec.{eqb-suc-zero}
use Rattle.codec.specs.Codec.{Bytes}
use Rattle.codec.specs.Faults.{unless, first, first_some, first-zero, unless-zero}
use Rattle.codec.specs.CaseLaws.{both_true}
use Rattle.numbers.specs.Numbers.{le16}
use Rattle.numbers.specs.NumberLaws.{u16-is}
use Rattle.sums.specs.Sums.{words, check_a, check_b}
use Rattle.house_file.specs.House.{Block, sound, zeros, filled, block_fault, file_fault, payload_of}
use Rattle.house_file.specs.BlockLaws.{block_at, blocks_at, blocks_count, block_words}

-- the check words of a block are those of the 508 bytes before them
pub sound-is : (s : List ℕ) (p : ℕ) → Bytes s → p + 512 ≤ length s
    → sound (block_at p s) ≡ (eqb (le16 s (p + 508)) (check_a (words (take 508 (drop p s)))) && eqb (le16 s (p + 510)) (check_b (words (take 508 (drop p s)))))
unfolding sound
sound-is s p b h =
    ap₂ ◌&&◌
    (ap₂ eqb (u16-is s (p + 508)) (ap check_a (sym (block_words s p b h))))
    (ap₂ eqb (u16-is s (p + 510)) (ap check_b (sym (block_words s p b h))))

-- and so where it has them
pub sound-words : (s : List ℕ) (p : ℕ) → Bytes s → p + 512 ≤ length s → sound (block_at p s) ≡ true
    → (le16 s (p + 508) ≡ check_a (words (take 508 (drop p s)))) × (le16 s (p + 510) ≡ check_b (words (take 508 (drop p s))))
sound-words s p b h e =
    let (x, y) = both_true (eqb (le16 s (p + 508)) (check_a (words (take 508 (drop p s))))) (eqb (le16 s (p + 510)) (check_b (words (take 508 (drop p s))))) (sym (sound-is s p b h) ∙ e) in
    (eqb-true (le16 s (p + 508)) (check_a (words (take 508 (drop p s)))) x, eqb-true (le16 s (p + 510)) (check_b (words (take 508 (drop p s)))) y)

module _ (i : ℕ) (last : Bool) (x : Block) where
  -- 131, then 132, then 133
  pub fault_check : sound x ≡ false → block_fault i last x ≡ 131
  unfolding block_fault
  fault_check e = rw e

  pub fault-index : sound x ≡ true → eqb x.index i ≡ false → block_fault i last x ≡ 132
  unfolding block_fault
  fault-index e f = rw (e, f)

  pub fault-filled : sound x ≡ true → eqb x.index i ≡ true → block_fault i last x ≡ unless (filled last x) 133
  unfolding block_fault
  fault-filled e f = rw (e, f)

  -- nothing refuses it
  pub fault-none : sound x ≡ true → eqb x.index i ≡ true → filled last x ≡ true → block_fault i last x ≡ 0
  fault-none e f g = fault-filled e f ∙ ap (λ t. unless t 133) g

  pub none-fault : block_fault i last x ≡ 0 → (sound x ≡ true) × ((eqb x.index i ≡ true) × (filled last x ≡ true))
  unfolding block_fault
  none-fault e =
      let (a, r) = first-zero (unless (sound x) 131) _ e in
      let (b, c) = first-zero (unless (eqb x.index i) 132) _ r in
      (unless-zero _ 131 (omega arith) a, (unless-zero _ 132 (omega arith) b, unless-zero _ 133 (omega arith) c))

-- a full block, and the last one
pub filled-few : (last : Bool) (x : Block) → filled last x ≡ true → x.used ≤ 504
unfolding filled
filled-few false x e = omega (arith, eqb-true x.used 504 e)
filled-few true x e =
    let (_, r) = both_true (leb 1 x.used) (leb x.used 504 && zeros (drop x.used x.payload)) e in
    let (b, _) = both_true (leb x.used 504) (zeros (drop x.used x.payload)) r in
    leb-true x.used 504 b

pub full_is : (x : Block) → filled false x ≡ true → x.used ≡ 504
unfolding filled
full_is x e = eqb-true x.used 504 e

-- ---- blocks from a place on

module _ (s : List ℕ) where
  -- the first block, and the rest where nothing refuses it
  pub fault-step : (i n p : ℕ) → file_fault i (blocks_at (suc n) p s) ≡ first (block_fault i (eqb n 0) (block_at p s)) (file_fault (suc i) (blocks_at n (p + 512) s))
  fault-step i n p = ap (λ m. first (block_fault i (eqb m 0) (block_at p s)) (file_fault (suc i) (blocks_at n (p + 512) s))) (blocks_count n (p + 512) s)

  pub fault-on : (i n p : ℕ) → block_fault i (eqb n 0) (block_at p s) ≡ 0 → file_fault i (blocks_at (suc n) p s) ≡ file_fault (suc i) (blocks_at n (p + 512) s)
  fault-on i n p e = fault-step i n p ∙ ap (λ k. first k (file_fault (suc i) (blocks_at n (p + 512) s))) e

  pub fault-stop : (i n p k : ℕ) → block_fault i (eqb n 0) (block_at p s) ≡ suc k → file_fault i (blocks_at (suc n) p s) ≡ suc k
  fault-stop i n p k e = fault-step i n p ∙ ap (λ k. first k (file_fault (suc i) (blocks_at n (p + 512) s))) e ∙ first_some k (file_fault (suc i) (blocks_at n (p + 512) s))

  -- nothing refuses the first, nor the rest
  pub fine-step : (i n p : ℕ) → file_fault i (blocks_at (suc n) p s) ≡ 0 → (block_fault i (eqb n 0) (block_at p s) ≡ 0) × (file_fault (suc i) (blocks_at n (p + 512) s) ≡ 0)
  fine-step i n p e = first-zero (block_fault i (eqb n 0) (block_at p s)) _ (sym (fault-step i n p) ∙ e)

  -- of blocks that nothing refuses each has at most 504 used bytes
  pub fine-few : (i n p : ℕ) → file_fault i (blocks_at (suc n) p s) ≡ 0 → (block_at p s).used ≤ 504
  fine-few i n p e = let (a, _) = fine-step i n p e in let (_, (_, f)) = none-fault i (eqb n 0) (block_at p s) a in filled-few (eqb n 0) (block_at p s) f

  -- the bytes that it holds
  pub held-length : (p : ℕ) → p + 512 ≤ length s → (block_at p s).used ≤ 504 → length (take (block_at p s).used (block_at p s).payload) ≡ (block_at p s).used
  held-length p h f =
      let n : length (block_at p s).payload ≡ 504 = simp (length-take, length-drop) (omega arith) in
      length-take-le (block_at p s).used (block_at p s).payload (omega (arith, f))

  -- all but the last are full
  pub fine-length : (i n p : ℕ) → p + 512 * suc n ≤ length s → file_fault i (blocks_at (suc n) p s) ≡ 0 → length (payload_of (blocks_at (suc n) p s)) ≡ 504 * n + (block_at (p + 512 * n) s).used
  fine-length i zero p h e =
      let q = held-length p (omega arith) (fine-few i 0 p e) in
      let w : p ≡ p + 512 * 0 = omega arith in
      let v : (block_at p s).used ≡ (block_at (p + 512 * 0) s).used = ap (λ m. (block_at m s).used) w in
      simp (length-append, q) (omega (arith, v))
  fine-length i (suc n) p h e =
      let (a, r) = fine-step i (suc n) p e in
      let (_, (_, f)) = none-fault i (eqb (suc n) 0) (block_at p s) a in
      let u = full_is (block_at p s) (sym (ap (λ t. filled t (block_at p s)) (eqb-suc-zero n)) ∙ f) in
      let q = held-length p (omega arith) (omega (arith, u)) in
      let l = fine-length (suc i) n (p + 512) (omega arith) r in
      let w : p + 512 + 512 * n ≡ p + 512 * suc n = omega arith in
      let v : (block_at (p + 512 + 512 * n) s).used ≡ (block_at (p + 512 * suc n) s).used = ap (λ m. (block_at m s).used) w in
      length-append (take (block_at p s).used (block_at p s).payload) (payload_of (blocks_at (suc n) (p + 512) s)) ∙ omega (arith, q, l, u, v)
