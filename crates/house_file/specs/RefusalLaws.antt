-- Which numbers refuse a house file, and bytes that are to become one. Assumes nothing.
use Rattle.std.specs.Prelude.{ℕ, zero, suc, ◌/◌, ◌*◌, ◌≡◌, refl, Bool, true, false, cond, List, [], ◌∷◌, length, leb, eqb, Ok, Err}
use Rattle.std.proofs.Common.{arith, sym, subst}
use Rattle.refusal.specs.declared.Refusal.{Refusal}
use Rattle.codec.specs.Codec.{refusal, Res, ok, refuse}
use Rattle.codec.specs.Faults.{unless, first, first_some}
use Rattle.codec.specs.Refusals.{In, Gives, Fault}
use Rattle.codec.proofs.RefusalLaws.{in_more, gives_test}
use Rattle.house_file.specs.House.{Block, block, sound, filled, block_fault, file_fault, file, is_length, blocks_of, payload_of, unpacked_in, count, is_count, packed_in}

-- what refuses a file: its length, check words, an index, a used count or filler
abbrev pub file_numbers : List ℕ
file_numbers = 130 ∷ 131 ∷ 132 ∷ 133 ∷ []

-- what refuses bytes that are to become a file: a short output, and their count
abbrev pub pack_numbers : List ℕ
pack_numbers = 112 ∷ 130 ∷ []

abbrev P : ℕ → Type 0
P = In file_numbers

first_in : (a b : ℕ) → Fault P a → Fault P b → Fault P (first a b)
first_in zero b f g = g
first_in (suc a) b f g = subst (λ (n : ℕ). Fault P n) (sym (first_some a b)) f

unless_in : (t : Bool) (k : ℕ) → P k → Fault P (unless t k)
unless_in true k p = λ z. absurd (z refl)
unless_in false k p = λ z. p

block_in_lem : (i : ℕ) (last : Bool) (x : Block) → Fault P (block_fault i last x)
unfolding block_fault
block_in_lem i last x =
    first_in (unless (sound x) 131) (first (unless (eqb x.index i) 132) (unless (filled last x) 133)) (unless_in (sound x) 131 refl)
    (first_in (unless (eqb x.index i) 132) (unless (filled last x) 133) (unless_in (eqb x.index i) 132 refl) (unless_in (filled last x) 133 refl))

file_in : (i : ℕ) (xs : List Block) → Fault P (file_fault i xs)
file_in i [] = λ z. absurd (z refl)
file_in i (x ∷ xs) = first_in (block_fault i (eqb (length xs) 0) x) (file_fault (suc i) xs) (block_in_lem i (eqb (length xs) 0) x) (file_in (suc i) xs)

file-numbers : (n : ℕ) → (file n).numbers P
unfolding file block
file-numbers n = ((refl, (refl, (refl, (refl, refl)))), λ xs. file_in 0 xs)

pub blocks_give : (s : List ℕ) → Gives P (blocks_of s)
unfolding blocks_of
blocks_give s =
    gives_test P (is_length (length s)) 130 0 (λ _ _. (file (length s / 512)).codec.parse 0 s 0) refl
    ((file (length s / 512)).refuses P (file-numbers (length s / 512)) 0 s 0)

-- 1, or what refuses the file
pub unpacked_refuses : (n : ℕ) (s : List ℕ) {k : Refusal} → unpacked_in n (blocks_of s) ≡ Err k → In (1 ∷ file_numbers) k.number
unfolding unpacked_in
unpacked_refuses n s {k} = go (blocks_of s) (blocks_give s)
  where
    is : (m : ℕ) → In (1 ∷ file_numbers) m → refusal m 0 ≡ k → In (1 ∷ file_numbers) k.number
    is m g i = subst (λ (j : Refusal). In (1 ∷ file_numbers) j.number) i g

    room : (b : Bool) (m : ℕ) → cond b (Ok m) (Err (refusal 1 0)) ≡ Err k → In (1 ∷ file_numbers) k.number
    room true m q = let z : ◌≡◌ {A = ℕ} 0 1 = cc in absurd (omega arith)
    room false m q = is 1 refl (cc)

    go : (r : Res (List Block)) → Gives P r → unpacked_in n r ≡ Err k → In (1 ∷ file_numbers) k.number
    go (refuse e) g q = is e.number (in_more file_numbers (1 ∷ file_numbers) refl e.number g) (cc)
    go (ok xs j) g q = room (leb (length (payload_of xs)) n) (length (payload_of xs)) q

pub packed_refuses : (n : ℕ) (s : List ℕ) {k : Refusal} → packed_in n s ≡ Err k → In pack_numbers k.number
unfolding packed_in
packed_refuses n s {k} = go (is_count (count s)) (leb (512 * count s) n) (512 * count s)
  where
    is : (m : ℕ) → In pack_numbers m → refusal m 0 ≡ k → In pack_numbers k.number
    is m g i = subst (λ (j : Refusal). In pack_numbers j.number) i g

    go : (b c : Bool) (m : ℕ) → cond b (cond c (Ok m) (Err (refusal 112 0))) (Err (refusal 130 0)) ≡ Err k → In pack_numbers k.number
    go false c m q = is 130 refl (cc)
    go true false m q = is 112 refl (cc)
    go true true m q = let z : ◌≡◌ {A = ℕ} 0 1 = cc in absurd (omega arith)
