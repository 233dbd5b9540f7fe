-- WHAT WAS STORED IS READ: the file of bytes has the blocks that it was made of, and these hold exactly the bytes. Assumes nothing.
use Prim.Native.Nat.{ℕ, zero, suc, ◌+◌, ◌-◌, ◌*◌, ◌/◌, ◌%◌, ◌≤◌, ◌<◌}
use native.Mathlib.Omega.{arith}
use Rattle.std.proofs.Common.{zero-add, ap, ◌∙◌, length-append, length-take, length-drop, take-append-drop}
use Rattle.std.specs.Prelude.{◌≡◌, Bool, take, drop, leb, eqb}
use Rattle.std.proofs.Math.Path.{refl, sym, ap₂}
use Rattle.std.proofs.Math.Bool.{true, false}
use mathlib.Core.List.{List, [], ◌∷◌, ◌++◌, append-nil}
use Rattle.std.proofs.Math.ListN.{length, replicate, length-replicate}
use Rattle.std.proofs.Math.Seq.{take-append_seam, drop-append_seam}
use Rattle.std.proofs.Math.Dec.{eqb-suc-zero}
use borrow.Author.Tests.{leb-true, le-leb, eq-eqb}
use Rattle.codec.specs.Codec.{ok, Bytes, named, num, raw, judged, TimesLegal, times, ◌then◌}
use Rattle.codec.proofs.Laws.{Here, bytes-append, bytes_take, bytes_drop}
use Rattle.codec.specs.CaseLaws.{both_true, no_true}
use Rattle.codec.specs.Faults.{first}
use Rattle.sums.specs.SumLaws.{a-below, b-below}
use Rattle.house_file.specs.House.{Block, block, before, sound, zeros, filled, block_fault, file_fault, file, is_length, blocks_of, payload_of, sealed, blocks_from, count, file_of, is_count}
use Rattle.house_file.specs.FaultLaws.{fault-none}
use Rattle.house_file.specs.PackLaws.{take-few, file-length}

-- ---- one block

zeros-replicate : (n : ℕ) → zeros (replicate n 0) ≡ true
zeros-replicate zero = refl
zeros-replicate (suc n) = zeros-replicate n

bytes-zeros : (n : ℕ) → Bytes (replicate n 0)
bytes-zeros zero k = omega arith
bytes-zeros (suc n) zero = omega arith
bytes-zeros (suc n) (suc k) = bytes-zeros n k

module _ (i : ℕ) (p : List ℕ) (few : length p ≤ 504) where
  sealed-sound : sound (sealed i p) ≡ true
  unfolding sound sealed
  sealed-sound = rw (eq-eqb (sealed i p).a _ refl, eq-eqb (sealed i p).b _ refl)

  sealed-index : eqb (sealed i p).index i ≡ true
  unfolding sealed
  sealed-index = eq-eqb i i refl

  sealed-filled : (last : Bool) → (last ≡ true → 1 ≤ length p) → (last ≡ false → length p ≡ 504) → filled last (sealed i p) ≡ true
  unfolding filled sealed
  sealed-filled false some full = eq-eqb (length p) 504 (full refl)
  sealed-filled true some full = rw (le-leb 1 (length p) (some refl), le-leb (length p) 504 few, drop-append_seam p (replicate (504 - length p) 0)) (zeros-replicate (504 - length p))

  -- it is the block at its index, full where it is not the last, and with a used byte where it is
  pub sealed-fine : (last : Bool) → (last ≡ true → 1 ≤ length p) → (last ≡ false → length p ≡ 504) → block_fault i last (sealed i p) ≡ 0
  sealed-fine last some full = fault-none i last (sealed i p) sealed-sound sealed-index (sealed-filled last some full)

  -- it has bytes
  pub sealed-legal : Bytes p → i < 65536 → block.codec.legal (sealed i p)
  unfolding block named ◌then◌ num raw sealed
  sealed-legal b h =
      let q : List ℕ = p ++ replicate (504 - length p) 0 in
      (omega arith, (omega arith, (((length-append p (replicate (504 - length p) 0) ∙ (simp length-replicate (omega arith))), bytes-append p (replicate (504 - length p) 0) b (bytes-zeros (504 - length p))), (omega (arith, a-below (before i (length p) q)), omega (arith, b-below (before i (length p) q))))))

  -- and holds p
  pub sealed_holds : take (sealed i p).used (sealed i p).payload ≡ p
  unfolding sealed
  sealed_holds = take-append_seam p (replicate (504 - length p) 0)

-- a block has no places
located : (n p : ℕ) (xs : List Block) → (times block.codec n).locate p xs ≡ xs
unfolding block named ◌then◌ num raw times
located n p [] = refl
located n p (x ∷ xs) = ap (λ (ys : List Block). x ∷ ys) (located n (p + length (block.codec.print x)) xs)

-- ---- the blocks of bytes

pub from-count : (n i : ℕ) (s : List ℕ) → length (blocks_from n i s) ≡ n
from-count zero i s = refl
from-count (suc n) i s = ap suc (from-count n (suc i) (drop 504 s))

-- they hold exactly the bytes
pub from_holds : (n i : ℕ) (s : List ℕ) → length s ≤ 504 * n → payload_of (blocks_from n i s) ≡ s
from_holds zero i [] h = refl
from_holds zero i (x ∷ s) h = absurd (omega arith)
from_holds (suc n) i s h =
    ap₂ (λ (u v : List ℕ). u ++ v) (sealed_holds i (take 504 s) (take-few s)) (from_holds n (suc i) (drop 504 s) (omega (arith, length-drop 504 s)))
    ∙ take-append-drop 504 s

-- nothing refuses them
pub from-fine : (n i : ℕ) (s : List ℕ) → 504 * n < length s → length s ≤ 504 * suc n → file_fault i (blocks_from (suc n) i s) ≡ 0
from-fine zero i s lo hi =
    ap (λ k. first k 0) (sealed-fine i (take 504 s) (take-few s) true (λ _. omega (arith, length-take 504 s)) (λ e. absurd (no_true e)))
from-fine (suc n) i s lo hi =
    let d = length-drop 504 s in
    let m = from-count (suc n) (suc i) (drop 504 s) in
    let a = sealed-fine i (take 504 s) (take-few s) false (λ e. absurd (no_true (sym e))) (λ _. omega (arith, length-take 504 s)) in
    let b = from-fine n (suc i) (drop 504 s) (omega arith) (omega arith) in
    ap (λ k. first (block_fault i (eqb k 0) (sealed i (take 504 s))) (file_fault (suc i) (blocks_from (suc n) (suc i) (drop 504 s)))) m
    ∙ ap₂ first (ap (λ t. block_fault i t (sealed i (take 504 s))) (eqb-suc-zero n) ∙ a) b

pub from-legal : (n i : ℕ) (s : List ℕ) → Bytes s → i + n ≤ 65536 → TimesLegal block.codec (blocks_from n i s)
from-legal zero i s b h = tt
from-legal (suc n) i s b h = (sealed-legal i (take 504 s) (take-few s) (bytes_take 504 s b) (omega arith), from-legal n (suc i) (drop 504 s) (bytes_drop 504 s b) (omega arith))

-- ---- the file of bytes

module _ (s : List ℕ) (b : Bytes s) (e : is_count (count s) ≡ true) where
  some : 1 ≤ count s
  some = let (a, _) = both_true (leb 1 (count s)) (leb (count s) 65536) e in leb-true 1 (count s) a

  most : count s ≤ 65536
  most = let (_, a) = both_true (leb 1 (count s)) (leb (count s) 65536) e in leb-true (count s) 65536 a

  fine : file_fault 0 (blocks_from (count s) 0 s) ≡ 0
  fine = go (count s) refl some
    where
      go : (n : ℕ) → n ≡ count s → 1 ≤ n → file_fault 0 (blocks_from n 0 s) ≡ 0
      go zero q h = absurd (omega arith)
      go (suc n) q h = from-fine n 0 s (omega arith) (omega arith)

  legal : (file (count s)).codec.legal (blocks_from (count s) 0 s)
  unfolding file judged times
  legal = ((from-count (count s) 0 s, from-legal (count s) 0 s b (omega (arith, most))), rw fine)

  is-length : is_length (length (file_of s)) ≡ true
  is-length =
      let n = file-length s in
      let h = most in
      let g = some in
      rw (eq-eqb (length (file_of s) % 512) 0 (omega arith), le-leb 1 (length (file_of s)) (omega arith), le-leb (length (file_of s)) (512 * 65536) (omega arith))

  here : Here (file_of s) 0 ((file (count s)).codec.print (blocks_from (count s) 0 s)) []
  unfolding file_of
  here = record { inside = omega arith; bytes = sym (append-nil (file_of s)) }

  parsed : (file (count s)).codec.parse 0 (file_of s) 0 ≡ ok (blocks_from (count s) 0 s) (512 * count s)
  unfolding file judged times file_of
  parsed =
      (file (count s)).law.reads 0 (file_of s) 0 (blocks_from (count s) 0 s) [] legal here
      ∙ ap₂ (λ xs j. ok xs j) (located (count s) 0 (blocks_from (count s) 0 s)) (zero-add (length (file_of s)) ∙ file-length s)

  -- THE FILE OF BYTES is read as its blocks
  pub file-read : blocks_of (file_of s) ≡ ok (blocks_from (count s) 0 s) (512 * count s)
  unfolding blocks_of
  file-read =
      let n = file-length s in
      let m : length (file_of s) / 512 ≡ count s = omega arith in
      rw is-length (ap (λ k. (file k).codec.parse 0 (file_of s) 0) m ∙ parsed)

  -- which hold exactly these
  pub file_holds : payload_of (blocks_from (count s) 0 s) ≡ s
  file_holds = from_holds (count s) 0 s (omega arith)
