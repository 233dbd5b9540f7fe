-- What the code meets, step by step. Assumes nothing.
use Prim.Native.Nat.{ℕ, zero, suc, ◌+◌, ◌-◌, ◌*◌, ◌≤◌, ◌<◌, min}
use Rattle.std.specs.Prelude.{Ok, Err}
use native.Mathlib.Omega.{arith}
use mathlib.Core.Path.{◌≡◌, refl, sym, ap, ap₂, ◌∙◌}
use mathlib.Core.Bool.{true, false, ◌&&◌}
use mathlib.Core.List.{List, [], ◌∷◌, ◌++◌}
use lib.ListN.{length, take, drop, length-drop, drop_of_length-le}
use Rattle.std.specs.List.{list_all}
use Rattle.std.proofs.lemmas.List.{nil_from_length}
use Rattle.std.proofs.Common.{append-nil, length-append, take_at}
use lib.Seq.{length-take-le, take_all, take-take, take-add, drop_at, drop-drop}
use lib.Dec.{eqb, eqb-suc-suc}
use borrow.Author.Tests.{eq-eqb, ne_eqb, le-leb, lt-leb}
use Rattle.codec.specs.Codec.{ok, refuse, refusal, Bytes, little, times_print}
use Rattle.codec.specs.CaseLaws.{by_le}
use Rattle.put.specs.Output.{Wrote}
use Rattle.put.specs.OutputLaws.{wrote-part, wrote-filled}
use Rattle.numbers.specs.Numbers.{le16}
use Rattle.numbers.specs.NumberLaws.{u16-is}
use Rattle.sums.specs.Sums.{sums_of}
use Rattle.sums.specs.declared.Sums.{Sums}
use Rattle.house_file.specs.House.{sound, zeros, filled, block_fault, file_fault, payload_of, Block, block, is_length, blocks_of, unpacked_in, store_in, Unpacking, sealed, blocks_from, count, is_count, packed_in, output_in, Packing}
use Rattle.house_file.specs.BlockLaws.{block_at, blocks_at, number, is-length, blocks_refused}
use Rattle.house_file.specs.PackLaws.{body, sealed-print, from-length, file-print}
use Rattle.house_file.specs.FaultLaws.{sound-is, fault-on, fault-stop, fine-few, fine-step, fine-length}

pub all-zeros : (s : List ℕ) → list_all (λ x. eqb x 0) s ≡ zeros s
all-zeros [] = refl
all-zeros (x ∷ s) = ap (λ b. eqb x 0 && b) (all-zeros s)

module _ (s : List ℕ) (p : ℕ) (b : Bytes s) (h : p + 512 ≤ length s) where
  tests : {t : Sums} → t ≡ sums_of (take (p + 508 - p) (drop p s)) → sound (block_at p s) ≡ (eqb (le16 s (p + 508)) t.a && eqb (le16 s (p + 510)) t.b)
  tests {t} e =
      let k : p + 508 - p ≡ 508 = omega arith in
      let f : t ≡ sums_of (take 508 (drop p s)) = e ∙ ap (λ m. sums_of (take m (drop p s))) k in
      sound-is s p b h ∙ sym (ap (λ (u : Sums). eqb (le16 s (p + 508)) u.a && eqb (le16 s (p + 510)) u.b) f)

  pub sound_second : {x y : ℕ} {t : Sums} → t ≡ sums_of (take (p + 508 - p) (drop p s)) → x ≡ le16 s (p + 508) → y ≡ le16 s (p + 510) → x ≡ t.a → eqb y t.b ≡ sound (block_at p s)
  sound_second {t = t} e f g q = sym (tests e ∙ rw (eq-eqb (le16 s (p + 508)) t.a (sym f ∙ q), ← g))

  pub sound-not : {x : ℕ} {t : Sums} → t ≡ sums_of (take (p + 508 - p) (drop p s)) → x ≡ le16 s (p + 508) → (x ≡ t.a → ⊥) → false ≡ sound (block_at p s)
  sound-not {t = t} e f q = sym (tests e ∙ rw (ne_eqb (le16 s (p + 508)) t.a (λ z. q (f ∙ z))))

-- ---- what a block is filled with

module _ (s : List ℕ) (p : ℕ) (h : p + 512 ≤ length s) where
  -- the rest of the payload
  rest : (n : ℕ) → n ≤ 504 → drop n (take 504 (drop (p + 4) s)) ≡ take (p + 508 - (p + 4 + n)) (drop (p + 4 + n) s)
  rest n g =
      let m : n + (504 - n) ≡ 504 = omega arith in
      let k : 504 - n ≡ p + 508 - (p + 4 + n) = omega arith in
      let u : List ℕ = drop (p + 4) s in
      let l : length (take n u) ≡ n = length-take-le n u (simp length-drop (omega arith)) in
      ap (λ i. drop n (take i u)) (sym m) ∙ ap (λ (v : List ℕ). drop n v) (take-add n (504 - n) u) ∙ drop_at (take n u) (take (504 - n) (drop n u)) n l
      ∙ ap₂ (λ i (v : List ℕ). take i v) k (drop-drop n (p + 4) s)

  pub filled-full : {x : ℕ} → x ≡ le16 s (p + 2) → eqb x 504 ≡ filled false (block_at p s)
  unfolding filled
  filled-full e = ap (λ i. eqb i 504) (e ∙ sym (u16-is s (p + 2)))

  pub filled_none : {x : ℕ} → x ≡ le16 s (p + 2) → x < 1 → false ≡ filled true (block_at p s)
  unfolding filled
  filled_none e g = let q = u16-is s (p + 2) in rw (lt-leb 1 (block_at p s).used (omega arith))

  pub filled-over : {x : ℕ} → x ≡ le16 s (p + 2) → 504 < x → false ≡ filled true (block_at p s)
  unfolding filled
  filled-over e g = let q = u16-is s (p + 2) in rw (le-leb 1 (block_at p s).used (omega arith), lt-leb (block_at p s).used 504 (omega arith))

  pub filled-last : {x : ℕ} → x ≡ le16 s (p + 2) → 1 ≤ x → x ≤ 504 → zeros (take (p + 508 - (p + 4 + x)) (drop (p + 4 + x) s)) ≡ filled true (block_at p s)
  unfolding filled
  filled-last {x} e g l =
      let q : x ≡ (block_at p s).used = e ∙ sym (u16-is s (p + 2)) in
      let r : zeros (drop (block_at p s).used (block_at p s).payload) ≡ zeros (take (p + 508 - (p + 4 + x)) (drop (p + 4 + x) s)) =
      ap (λ i. zeros (drop i (block_at p s).payload)) (sym q) ∙ ap zeros (rest x l) in
      rw (le-leb 1 (block_at p s).used (omega arith), le-leb (block_at p s).used 504 (omega arith)) (sym r)

-- ---- blocks, counted down

eqb_pred : (n : ℕ) → eqb (suc n) 1 ≡ eqb n 0
eqb_pred n = eqb-suc-suc n 0

module _ (s : List ℕ) (i p : ℕ) where
  down : (n : ℕ) → file_fault (suc i) (blocks_at n (p + 512) s) ≡ file_fault (i + 1) (blocks_at (suc n - 1) (p + 512) s)
  down n =
      let a : suc i ≡ i + 1 = omega arith in
      let b : n ≡ suc n - 1 = omega arith in
      ap₂ (λ j m. file_fault j (blocks_at m (p + 512) s)) a b

  pub faults_on : (n : ℕ) {k : ℕ} → 0 < n → k ≡ block_fault i (eqb n 1) (block_at p s) → k ≡ 0 → file_fault i (blocks_at n p s) ≡ file_fault (i + 1) (blocks_at (n - 1) (p + 512) s)
  faults_on zero h e z = absurd (omega arith)
  faults_on (suc n) h e z = fault-on s i n p (sym (ap (λ t. block_fault i t (block_at p s)) (eqb_pred n)) ∙ sym e ∙ z) ∙ down n

  pub faults_stop : (n k : ℕ) → 0 < n → k ≡ block_fault i (eqb n 1) (block_at p s) → (k ≡ 0 → ⊥) → k ≡ file_fault i (blocks_at n p s)
  faults_stop zero k h e z = absurd (omega arith)
  faults_stop (suc n) zero h e z = absurd (z refl)
  faults_stop (suc n) (suc k) h e z = sym (fault-stop s i n p k (sym (ap (λ t. block_fault i t (block_at p s)) (eqb_pred n)) ∙ sym e))

  pub faults_end : (n : ℕ) → (0 < n → ⊥) → file_fault i (blocks_at n p s) ≡ 0
  faults_end zero h = refl
  faults_end (suc n) h = absurd (h (omega arith))

  -- the bytes that they hold, and which are left
  pub held-few : (n : ℕ) → 0 < n → file_fault i (blocks_at n p s) ≡ 0 → le16 s (p + 2) ≤ 504
  held-few zero h e = absurd (omega arith)
  held-few (suc n) h e = omega (arith, fine-few s i n p e, u16-is s (p + 2))

  pub held_on : (n : ℕ) → 0 < n → file_fault i (blocks_at n p s) ≡ 0 → file_fault (i + 1) (blocks_at (n - 1) (p + 512) s) ≡ 0
  held_on zero h e = absurd (omega arith)
  held_on (suc n) h e = sym (down n) ∙ (fine-step s i n p e).1

  pub held_next : (n : ℕ) {x : ℕ} → 0 < n → p + 512 ≤ length s → x ≡ le16 s (p + 2) → x ≤ 504
      → payload_of (blocks_at n p s) ≡ take (p + 4 + x - (p + 4)) (drop (p + 4) s) ++ payload_of (blocks_at (n - 1) (p + 512) s)
  held_next zero h g e f = absurd (omega arith)
  held_next (suc n) {x} h g e f =
      let m : n ≡ suc n - 1 = omega arith in
      let k : (block_at p s).used ≡ p + 4 + x - (p + 4) = omega (arith, u16-is s (p + 2)) in
      let w : take (block_at p s).used (take 504 (drop (p + 4) s)) ≡ take (p + 4 + x - (p + 4)) (drop (p + 4) s) =
      take-take (block_at p s).used 504 (drop (p + 4) s) (omega (arith, u16-is s (p + 2))) ∙ ap (λ j. take j (drop (p + 4) s)) k in
      ap₂ (λ (u : List ℕ) j. u ++ payload_of (blocks_at j (p + 512) s)) w m

  pub held-end : (n : ℕ) → (0 < n → ⊥) → payload_of (blocks_at n p s) ≡ []
  held-end zero h = refl
  held-end (suc n) h = absurd (h (omega arith))

-- ---- blocks, stored

-- the check words of what stands there
pub sums_are : {at : ℕ} {bs o o' : List ℕ} {r : ℕ} {t : Sums} → Wrote at bs o o' r → t ≡ sums_of (take (r - at) (drop at o')) → t ≡ sums_of bs
sums_are w e = e ∙ ap sums_of (wrote-part w)

-- a block is its body and these
pub seal_is : (i : ℕ) (p : List ℕ) {t : Sums} → t ≡ sums_of (body i p) → block.codec.print (sealed i p) ≡ body i p ++ (little 2 t.a ++ little 2 t.b)
seal_is i p e = sealed-print i p ∙ sym (ap (λ (u : Sums). body i p ++ (little 2 u.a ++ little 2 u.b)) e)

-- the next part of s, which is 504 bytes or all, and the blocks of the rest
module _ (s u left : List ℕ) (e : s ≡ u ++ left) (h : length u ≡ min 504 (length s)) where
  part-is : (u ≡ take 504 s) × (left ≡ drop 504 s)
  part-is =
      let n = ap length e ∙ length-append u left in
      by_le 504 (length s)
      (λ g. let k : length u ≡ 504 = omega arith in (sym (ap (take 504) e ∙ take_at u left 504 k), sym (ap (drop 504) e ∙ drop_at u left 504 k)))
      (λ g.
      let few : length s ≤ 504 = omega arith in
      let none : left ≡ [] = nil_from_length left (omega arith) in
      let all : s ≡ u = e ∙ ap (λ (v : List ℕ). u ++ v) none ∙ append-nil u in
      (sym all ∙ sym (take_all 504 s (omega arith)), none ∙ sym (drop_of_length-le s few)))

  pub blocks_next : (i n : ℕ) → 0 < n → times_print block.codec (blocks_from n i s) ≡ block.codec.print (sealed i u) ++ times_print block.codec (blocks_from (n - 1) (i + 1) left)
  blocks_next i zero g = absurd (omega arith)
  blocks_next i (suc n) g =
      let a : suc i ≡ i + 1 = omega arith in
      let b : n ≡ suc n - 1 = omega arith in
      let (p, q) = part-is in
      rw (p, q, ← a, ← b)

pub blocks_last : (i n : ℕ) (s : List ℕ) → (0 < n → ⊥) → times_print block.codec (blocks_from n i s) ≡ []
blocks_last i zero s h = refl
blocks_last i (suc n) s h = absurd (h (omega arith))

-- ---- the answers

pub blocks_told : (s : List ℕ) → is_length (length s) ≡ true → (k : ℕ) → k ≡ file_fault 0 (blocks_at (number s) 0 s) → (k ≡ 0 → ⊥) → blocks_of s ≡ refuse (refusal k 0)
blocks_told s e zero f z = absurd (z refl)
blocks_told s e (suc k) f z = blocks_refused s e k (sym f)

module _ {s st : List ℕ} where
  pub unpack_refused : {k : ℕ} → blocks_of s ≡ refuse (refusal k 0) → Unpacking s st (Err (refusal k 0)) st
  unfolding unpacked_in store_in
  unpack_refused e = record { answer = sym (ap (unpacked_in (length st)) e); store = sym (ap (store_in st) e) }

  pub unpack_short : {xs : List Block} {j : ℕ} → blocks_of s ≡ ok xs j → length st < length (payload_of xs) → Unpacking s st (Err (refusal 1 0)) st
  unfolding unpacked_in store_in
  unpack_short {xs} e h =
      let t = lt-leb (length (payload_of xs)) (length st) h in
      record { answer = sym (ap (unpacked_in (length st)) e ∙ rw t); store = sym (ap (store_in st) e ∙ rw t) }

  pub unpack_done : {xs : List Block} {j r : ℕ} {st' : List ℕ} → blocks_of s ≡ ok xs j → Wrote 0 (payload_of xs) st st' r → Unpacking s st (Ok r) st'
  unfolding unpacked_in store_in
  unpack_done {xs} e w =
      let f = wrote-filled w in
      let t = le-leb (length (payload_of xs)) (length st) f.room in
      record { answer = ap Ok f.count ∙ sym (ap (unpacked_in (length st)) e ∙ rw t); store = f.bytes ∙ sym (ap (store_in st) e ∙ rw t) }

-- how many bytes a file holds
pub whole_length : (s : List ℕ) → is_length (length s) ≡ true → file_fault 0 (blocks_at (number s) 0 s) ≡ 0
    → length (payload_of (blocks_at (number s) 0 s)) ≡ 504 * (number s - 1) + le16 s (512 * (number s - 1) + 2)
whole_length s e f = let (a, (b, c)) = is-length (length s) e in go (number s) b (omega arith) f
  where
    go : (n : ℕ) → 1 ≤ n → 512 * n ≤ length s → file_fault 0 (blocks_at n 0 s) ≡ 0 → length (payload_of (blocks_at n 0 s)) ≡ 504 * (n - 1) + le16 s (512 * (n - 1) + 2)
    go zero b h f = absurd (omega arith)
    go (suc n) b h f =
        let m : 0 + 512 * n + 2 ≡ 512 * (suc n - 1) + 2 = omega arith in
        fine-length s 0 n 0 (omega arith) f ∙ omega (arith, u16-is s (0 + 512 * n + 2), ap (le16 s) m)

count-is : (s : List ℕ) → 1 ≤ length s → length s ≤ 33030144 → is_count (count s) ≡ true
count-is s lo hi = rw (le-leb 1 (count s) (omega arith), le-leb (count s) 65536 (omega arith))

module _ (s : List ℕ) {o : List ℕ} where
  pub pack_none : length s < 1 → Packing s o (Err (refusal 130 0)) o
  unfolding packed_in output_in
  pack_none h = let t = lt-leb 1 (count s) (omega arith) in record { answer = rw t; output = rw t }

  pub pack_over : 33030144 < length s → Packing s o (Err (refusal 130 0)) o
  unfolding packed_in output_in
  pack_over h = let t = le-leb 1 (count s) (omega arith) in let u = lt-leb (count s) 65536 (omega arith) in record { answer = rw (t, u); output = rw (t, u) }

  module _ (lo : 1 ≤ length s) (hi : length s ≤ 33030144) where
    pub pack_short : length o < 512 * count s → Packing s o (Err (refusal 112 0)) o
    unfolding packed_in output_in
    pack_short h = let t = lt-leb (512 * count s) (length o) h in record { answer = rw (count-is s lo hi, t); output = rw (count-is s lo hi, t) }

    pub pack_done : {r : ℕ} {o' : List ℕ} → Wrote 0 (times_print block.codec (blocks_from (count s) 0 s)) o o' r → Packing s o (Ok r) o'
    unfolding packed_in output_in
    pack_done {r} w =
        let f = wrote-filled w in
        let n = from-length (count s) 0 s in
        let t = le-leb (512 * count s) (length o) (omega (arith, f.room, n)) in
        let k : r ≡ 512 * count s = f.count ∙ n in
        record { answer = rw (count-is s lo hi, t) (ap Ok k); output = rw (count-is s lo hi, t) (f.bytes ∙ ap₂ (λ (u : List ℕ) m. u ++ drop m o) (sym (file-print s)) n) }
