-- ANY ONE CHANGED BYTE IS REFUSED: of a file that is read, with one byte set to another, a check word is wrong, and 131 refuses it.
-- Assumes nothing.
use Rattle.std.specs.Prelude.{ℕ, zero, suc, ◌+◌, ◌-◌, ◌*◌, ◌/◌, ◌≤◌, ◌<◌, ◌≡◌, refl, true, List, ◌∷◌, ◌++◌, length, get_or, take, drop, set, eqb}
use Rattle.std.proofs.Common.{arith, sym, ap, ◌∙◌, length-set, length-take, length-drop, drop-set-lt, get_or-take, get_or-drop, get_or-set_same, get_or-set_other}
use Rattle.std.proofs.Math.Seq.{split_at, set_out, take-set-lt}
use Rattle.std.proofs.lemmas.List.{set_split, take-set-le, drop-set-add}
use Rattle.refusal.specs.declared.Refusal.{Refusal}
use Rattle.codec.specs.Codec.{ok, refuse, refusal, Bytes}
use Rattle.codec.specs.CaseLaws.{by_le, by_order, by_bool}
use Rattle.numbers.specs.Numbers.{le16}
use Rattle.sums.specs.Sums.{words, check_a, check_b}
use Rattle.sums.specs.SumLaws.{a_changed}
use Rattle.house_file.specs.House.{Block, sound, block_fault, file_fault, is_length, blocks_of}
use Rattle.house_file.specs.BlockLaws.{block_at, blocks_at, number, is-length, length-refused, blocks_refused}
use Rattle.house_file.specs.FaultLaws.{sound-words, fault_check, none-fault, fault-on, fault-stop, fine-step}

-- bytes with one set to another byte are bytes
pub bytes-set : (s : List ℕ) (j v : ℕ) → Bytes s → v < 256 → Bytes (set s j v)
bytes-set s j v b h k =
    by_le (length s) j
    (λ out. omega (arith, ap (λ (l : List ℕ). get_or l k 0) (set_out s j v out), b k))
    (λ inside. by_order k j
    (λ l. omega (arith, get_or-set_other s j k v 0 (λ e. omega arith), b k))
    (λ e. omega (arith, ap (λ i. get_or (set s j v) i 0) e, get_or-set_same s j v 0 inside))
    (λ l. omega (arith, get_or-set_other s j k v 0 (λ e. omega arith), b k)))

module _ (s : List ℕ) (b : Bytes s) (j v : ℕ) (within : j < length s) (byte : v < 256) (other : v ≡ get_or s j 0 → ⊥) where
  -- a word that the byte does not stand in is the same
  word_apart : (q : ℕ) → (q ≡ j → ⊥) → (q + 1 ≡ j → ⊥) → le16 (set s j v) q ≡ le16 s q
  word_apart q x y = omega (arith, get_or-set_other s j q v 0 x, get_or-set_other s j (q + 1) v 0 y)

  -- one that it stands in is another
  word_changed : (q : ℕ) → q ≤ j → j < q + 2 → le16 (set s j v) q ≡ le16 s q → ⊥
  word_changed q lo hi e =
      by_order q j
      (λ l.
      let w : q + 1 ≡ j = omega arith in
      other (omega (arith, e, get_or-set_other s j q v 0 (λ z. omega arith), ap (λ i. get_or (set s j v) i 0) w, ap (λ i. get_or s i 0) w, get_or-set_same s j v 0 within)))
      (λ w. other (omega (arith, e, get_or-set_other s j (q + 1) v 0 (λ z. omega arith), ap (λ i. get_or (set s j v) i 0) w, ap (λ i. get_or s i 0) w, get_or-set_same s j v 0 within)))
      (λ l. omega arith)

  -- the words before the check words change with it
  words_changed : (p : ℕ) → p ≤ j → j < p + 508 → check_a (words (take 508 (drop p (set s j v)))) ≡ check_a (words (take 508 (drop p s))) → ⊥
  words_changed p lo hi e =
      let i : ℕ = j - p in
      let w : p + i ≡ j = omega arith in
      let u : List ℕ = take 508 (drop p s) in
      let n : i < length u = simp (length-take, length-drop) (omega arith) in
      let x : get_or u i 0 ≡ get_or s j 0 = get_or-take 508 (drop p s) i 0 (omega arith) ∙ get_or-drop p s i 0 ∙ ap (λ m. get_or s m 0) w in
      let f : take 508 (drop p (set s j v)) ≡ take i u ++ (v ∷ drop (suc i) u) =
      ap (λ m. take 508 (drop p (set s m v))) (sym w) ∙ ap (λ (l : List ℕ). take 508 l) (drop-set-add p s i v) ∙ take-set-lt 508 (drop p s) i v (omega arith) ∙ set_split u i v n in
      let g : u ≡ take i u ++ (get_or u i 0 ∷ drop (suc i) u) = split_at u i 0 n in
      a_changed (take i u) (drop (suc i) u) v (get_or u i 0) byte (omega (arith, x, b j)) (λ z. other (z ∙ x))
      (ap (λ (l : List ℕ). check_a (words l)) (sym f) ∙ e ∙ ap (λ (l : List ℕ). check_a (words l)) g)

  -- the bytes before a place do not change with a later one
  front-apart : (p n : ℕ) → p + n ≤ j → take n (drop p (set s j v)) ≡ take n (drop p s)
  front-apart p n h =
      let w : p + (j - p) ≡ j = omega arith in
      ap (λ m. take n (drop p (set s m v))) (sym w) ∙ ap (λ (l : List ℕ). take n l) (drop-set-add p s (j - p) v) ∙ take-set-le n (drop p s) (j - p) v (omega arith)

  -- so the block of the byte cannot have them still
  pub block_wrong : (p : ℕ) → p ≤ j → j < p + 512 → p + 512 ≤ length s → sound (block_at p s) ≡ true → sound (block_at p (set s j v)) ≡ true → ⊥
  block_wrong p lo hi h e f =
      let bt = bytes-set s j v b byte in
      let ht : p + 512 ≤ length (set s j v) = omega (arith, length-set s j v) in
      let (a₀, b₀) = sound-words s p b h e in
      let (a₁, b₁) = sound-words (set s j v) p bt ht f in
      by_le (p + 508) j
      (λ past.
      let same : words (take 508 (drop p (set s j v))) ≡ words (take 508 (drop p s)) = ap words (front-apart p 508 past) in
      by_le (p + 510) j
      (λ far. word_changed (p + 510) far (omega arith) (b₁ ∙ ap check_b same ∙ sym b₀))
      (λ near. word_changed (p + 508) past (omega arith) (a₁ ∙ ap check_a same ∙ sym a₀)))
      (λ early. words_changed p lo early (sym a₁ ∙ word_apart (p + 508) (λ z. omega arith) (λ z. omega arith) ∙ a₀))

  -- ---- blocks

  block-after : (p : ℕ) → j < p → block_at p (set s j v) ≡ block_at p s
  block-after p h = simp (drop-set-lt p s j v h, drop-set-lt (p + 2) s j v (omega arith), drop-set-lt (p + 4) s j v (omega arith), drop-set-lt (p + 508) s j v (omega arith), drop-set-lt (p + 510) s j v (omega arith))

  block-before : (p : ℕ) → p + 512 ≤ j → block_at p (set s j v) ≡ block_at p s
  block-before p h = simp (front-apart p 2 (omega arith), front-apart (p + 2) 2 (omega arith), front-apart (p + 4) 504 (omega arith), front-apart (p + 508) 2 (omega arith), front-apart (p + 510) 2 (omega arith))

  -- the first fault of the blocks is the check of the changed one
  blocks_wrong : (i n p : ℕ) → p ≤ j → j < p + 512 * n → p + 512 * n ≤ length s → file_fault i (blocks_at n p s) ≡ 0 → file_fault i (blocks_at n p (set s j v)) ≡ 131
  blocks_wrong i zero p lo hi h e = absurd (omega arith)
  blocks_wrong i (suc n) p lo hi h e =
      let (x, r) = fine-step s i n p e in
      by_le (p + 512) j
      (λ far. fault-on (set s j v) i n p (ap (block_fault i (eqb n 0)) (block-before p far) ∙ x) ∙ blocks_wrong (suc i) n (p + 512) far (omega arith) (omega arith) r)
      (λ near.
      let (good, _) = none-fault i (eqb n 0) (block_at p s) x in
      let wrong = by_bool (sound (block_at p (set s j v))) (λ t. absurd (block_wrong p lo near (omega arith) good t)) (λ t. t) in
      fault-stop (set s j v) i n p 130 (fault_check i (eqb n 0) (block_at p (set s j v)) wrong))

  -- THE CHANGED FILE IS REFUSED by 131
  pub changed_refused : (xs : List Block) (k : ℕ) → blocks_of s ≡ ok xs k → blocks_of (set s j v) ≡ refuse (refusal 131 0)
  changed_refused xs k e =
      by_bool (is_length (length s))
      (λ good.
      let (n, (_, _)) = is-length (length s) good in
      let l = length-set s j v in
      let goodt : is_length (length (set s j v)) ≡ true = ap is_length l ∙ good in
      by_zero (file_fault 0 (blocks_at (number s) 0 s))
      (λ z. blocks_refused (set s j v) goodt 130 (ap (λ m. file_fault 0 (blocks_at (m / 512) 0 (set s j v))) l ∙ blocks_wrong 0 (number s) 0 (omega arith) (omega arith) (omega arith) z))
      (λ q z. absurd (no_ok (sym (blocks_refused s good q z) ∙ e))))
      (λ bad. absurd (no_ok (sym (length-refused s bad) ∙ e)))
    where
      no_ok : {r : Refusal} {ys : List Block} {m : ℕ} → refuse r ≡ ok ys m → ⊥
      no_ok q = let z : ◌≡◌ {A = ℕ} 0 1 = cc in omega arith

      by_zero : {P : Type 0} (n : ℕ) → (n ≡ 0 → P) → ((q : ℕ) → n ≡ suc q → P) → P
      by_zero zero f g = f refl
      by_zero (suc n) f g = g n refl
