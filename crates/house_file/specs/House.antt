-- The house file, as request 13 of document 02 has it: bytes in blocks of 512.
-- Assumes nothing.
use Rattle.std.specs.Prelude.{ℕ, zero, suc, ◌+◌, ◌-◌, ◌*◌, ◌/◌, ◌%◌, ◌≡◌, refl, Bool, true, false, ◌&&◌, cond, List, [], ◌∷◌, ◌++◌, length, take, drop, replicate, leb, eqb, Result, Ok, Err}
use Rattle.std.proofs.Common.{ap}
use Rattle.codec.specs.Codec as Codec
use Rattle.refusal.specs.declared.Refusal.{Refusal}
use Rattle.codec.specs.Codec.{Res, ok, refuse, refusal, ◌>>=◌, need, little}
use Rattle.codec.specs.Faults.{unless, first}
use Rattle.codec.proofs.Format.{Format, num, raw, ◌then◌, named, judged, times}
use Rattle.sums.specs.Sums.{words, check_a, check_b}

-- ---- a block

-- its index, how many bytes of the payload are used, the payload, the two check words
pub record Block : Type 0 where
  pub index : ℕ
  pub used : ℕ
  pub payload : List ℕ
  pub a : ℕ
  pub b : ℕ

-- u16 index, u16 used bytes, 504 payload bytes, u16 a and u16 b
unfoldable pub block : Format Block false
block = named
    (λ z. record { index = z.0; used = z.1.0; payload = z.1.1.0; a = z.1.1.1.0; b = z.1.1.1.1 })
    (λ x. (x.index, (x.used, (x.payload, (x.a, x.b)))))
    (λ z. refl)
    (num 130 2 then num 130 2 then raw 130 504 then num 130 2 then num 130 2)

-- the 254 words before a and b
abbrev pub before : ℕ → ℕ → List ℕ → List ℕ
before i u p = words (little 2 i ++ (little 2 u ++ p))

-- a is their sum and b the sum of the running sums of a, both modulo 65535
unfoldable pub sound : Block → Bool
sound x = eqb x.a (check_a (before x.index x.used x.payload)) && eqb x.b (check_b (before x.index x.used x.payload))

-- nothing but zeros
abbrev pub zeros : List ℕ → Bool
zeros [] = true
zeros (x ∷ xs) = eqb x 0 && zeros xs

-- every block but the last is full; the last has at least one used byte, and zeros after the used ones
unfoldable pub filled : Bool → Block → Bool
filled false x = eqb x.used 504
filled true x = leb 1 x.used && (leb x.used 504 && zeros (drop x.used x.payload))

-- what refuses the block at index i, 0 for nothing: 131 its check words, 132 its index, 133 its used count or its filler, in that order
unfoldable pub block_fault : ℕ → Bool → Block → ℕ
block_fault i last x = first (unless (sound x) 131) (first (unless (eqb x.index i) 132) (unless (filled last x) 133))

-- ---- a file

-- what refuses blocks, the first of which has index i; in order
abbrev pub file_fault : ℕ → List Block → ℕ
file_fault i [] = 0
file_fault i (x ∷ xs) = first (block_fault i (eqb (length xs) 0) x) (file_fault (suc i) xs)

-- blocks have no places and no skipped bytes
pub blocks_bare : (n : ℕ) (xs : List Block) → (times block n).codec.bare xs ≡ xs
unfolding block Codec.named Codec.◌then◌ Codec.num Codec.raw Codec.times
blocks_bare n [] = refl
blocks_bare n (x ∷ xs) = ap (λ (ys : List Block). x ∷ ys) (blocks_bare n xs)

-- n blocks, indexes from 0
unfoldable pub file : ℕ → Format (List Block) false
file n = judged (file_fault 0) (times block n) (λ xs. ap (file_fault 0) (blocks_bare n xs))

-- a length of 512, not zero, of at most 65,536 blocks
abbrev pub is_length : ℕ → Bool
is_length n = eqb (n % 512) 0 && (leb 1 n && leb n (512 * 65536))

-- THE BLOCKS OF A FILE: 130 its length, then its blocks
unfoldable pub blocks_of : List ℕ → Res (List Block)
blocks_of s = need (is_length (length s)) 130 0 >>= λ _ _. (file (length s / 512)).codec.parse 0 s 0

-- the bytes that blocks hold: the used ones of each
abbrev pub payload_of : List Block → List ℕ
payload_of [] = []
payload_of (x ∷ xs) = take x.used x.payload ++ payload_of xs

-- ---- out of a file

-- the bytes that a file holds, in a store of n: 130 to 133; 1 where they are more than n; or how many they are
unfoldable pub unpacked_in : ℕ → Res (List Block) → Result ℕ Refusal
unpacked_in n (refuse e) = Err (refusal e.number 0)
unpacked_in n (ok xs j) = cond (leb (length (payload_of xs)) n) (Ok (length (payload_of xs))) (Err (refusal 1 0))

-- the store after it: the bytes at its front, or as it was
unfoldable pub store_in : List ℕ → Res (List Block) → List ℕ
store_in st (refuse e) = st
store_in st (ok xs j) = cond (leb (length (payload_of xs)) (length st)) (payload_of xs ++ drop (length (payload_of xs)) st) st

-- UNPACKING the file s into the store st
pub record Unpacking (s st : List ℕ) (r : Result ℕ Refusal) (st' : List ℕ) : Type 0 where
  pub answer : r ≡ unpacked_in (length st) (blocks_of s)
  pub store : st' ≡ store_in st (blocks_of s)

-- ---- into a file

-- block i of the bytes p, at most 504: zeros after them, and its check words
unfoldable pub sealed : ℕ → List ℕ → Block
sealed i p =
    let q : List ℕ = p ++ replicate (504 - length p) 0 in
    record { index = i; used = length p; payload = q; a = check_a (before i (length p) q); b = check_b (before i (length p) q) }

-- n blocks of the bytes s, from index i on
abbrev pub blocks_from : ℕ → ℕ → List ℕ → List Block
blocks_from zero i s = []
blocks_from (suc n) i s = sealed i (take 504 s) ∷ blocks_from n (suc i) (drop 504 s)

-- how many blocks bytes take
abbrev pub count : List ℕ → ℕ
count s = (length s + 503) / 504

-- THE FILE of bytes
unfoldable pub file_of : List ℕ → List ℕ
file_of s = (file (count s)).codec.print (blocks_from (count s) 0 s)

-- there is one: not of nothing, and of at most 65,536 blocks
abbrev pub is_count : ℕ → Bool
is_count n = leb 1 n && leb n 65536

-- the file of s in an output of n bytes: 130 where there is none, 112 where it is longer; or its length
unfoldable pub packed_in : ℕ → List ℕ → Result ℕ Refusal
packed_in n s = cond (is_count (count s)) (cond (leb (512 * count s) n) (Ok (512 * count s)) (Err (refusal 112 0))) (Err (refusal 130 0))

-- the output after it: the file at its front, or as it was
unfoldable pub output_in : List ℕ → List ℕ → List ℕ
output_in o s = cond (is_count (count s)) (cond (leb (512 * count s) (length o)) (file_of s ++ drop (512 * count s) o) o) o

-- PACKING the bytes s into the output o
pub record Packing (s o : List ℕ) (r : Result ℕ Refusal) (o' : List ℕ) : Type 0 where
  pub answer : r ≡ packed_in (length o) s
  pub output : o' ≡ output_in o s
