-- WHAT WAS STORED LOADS to exactly those bytes, and the reader accepts them; any one changed byte is refused; a refusal leaves what it must.
-- Assumes nothing.
use Rattle.block_format.specs.declared.ReadError.{ReadError}
use Rattle.std.specs.Prelude.{ℕ, ◌+◌, ◌*◌, ◌≤◌, ◌<◌, Bool, true, false, cond, length, get_or, take, drop, set, leb, eqb, Result, Ok, Err}
use Rattle.std.proofs.Common.{arith, sym, ap₂, ◌∙◌, length-append, take_at, take_all}
use Rattle.std.proofs.Math.Path.{◌≡◌, refl, ap}
use mathlib.Core.List.{List, [], ◌++◌}
use Rattle.std.proofs.Math.Seq.{take-append_seam}
use borrow.Author.Tests.{eqb-true, leb-true, le-leb, eq-eqb}
use Rattle.refusal.specs.declared.Refusal.{Refusal}
use Rattle.house.specs.declared.Held.{Held}
use Rattle.codec.specs.Codec.{Res, ok, refuse, refusal, Bytes, among}
use Rattle.codec.specs.CaseLaws.{by_bool, no_true}
use Rattle.codec.specs.Refusals.{In}
use Rattle.prelude.specs.Prelude.{prelude_of}
use Rattle.prelude.specs.declared.Stage.{Stage}
use Rattle.prelude.specs.declared.Stage.TheVariants as Stage'
use Rattle.held.specs.Held.{within}
use Rattle.held.proofs.StageLaws.{bounded-whole, stage_in}
use Rattle.held.specs.declared.Holding.{Holding}
use Rattle.held.specs.declared.Holding.TheVariants.{Needs, Whole}
use Rattle.feed.specs.Feeding.{start, announced, stage_of, answer_at, block_in, block_says, feed_numbers}
use Rattle.feed.proofs.RefusalLaws.{answer-refused, answer_anyway}
use Rattle.block_format.specs.Read.{block_answer}
use Rattle.block_format.specs.declared.Fields.{Fields}
use Rattle.feed.proofs.HeldLaws.{block_held}
use Rattle.feed.specs.AnswerLaws.{answer-whole}
use Rattle.feed.specs.declared.Answer.{Answer}
use Rattle.feed.specs.declared.Answer.TheVariants as Answer'
use Rattle.house_file.specs.House.{Block, blocks_of, payload_of, unpacked_in, store_in, packed_in, output_in, blocks_from, count, file_of, is_count}
use Rattle.house_file.specs.PackLaws.{file-length}
use Rattle.house.specs.Start.{start_stage, refusal_of, start_fault, stored_in, output_after, Storing, loaded_as, symbology_as, layout_as, Loading}
use Rattle.house.specs.StartLaws.{whole-said, stage-all, fault_needs, fault-refused}
use Rattle.house.specs.RefusalLaws.{stage_numbers, stage-refuses}
use Rattle.demands.specs.HouseRead.{file-read, file_holds}
use Rattle.demands.specs.HouseChanged.{changed_refused}

-- ---- the file

-- so many bytes
abbrev holding : ℕ → Result ℕ Refusal
holding n = Ok n

-- what a file holds, where its blocks are known
module _ (f st : List ℕ) {xs : List Block} {j : ℕ} (e : blocks_of f ≡ ok xs j) (room : length (payload_of xs) ≤ length st) where
  unpacked_is : unpacked_in (length st) (blocks_of f) ≡ Ok (length (payload_of xs))
  unfolding unpacked_in
  unpacked_is = ap (unpacked_in (length st)) e ∙ rw (le-leb (length (payload_of xs)) (length st) room)

  store_is : store_in st (blocks_of f) ≡ payload_of xs ++ drop (length (payload_of xs)) st
  unfolding store_in
  store_is = ap (store_in st) e ∙ rw (le-leb (length (payload_of xs)) (length st) room)

-- a file that is refused changes nothing, and its number is the answer
module _ {f st t s l : List ℕ} {k : ℕ} (e : blocks_of f ≡ refuse (refusal k 0)) where
  pub refused_load : {r : Result Held Refusal} {st' s' l' : List ℕ} → Loading f st t s l r st' s' l' → (r ≡ Err (refusal k 0)) × ((st' ≡ st) × ((s' ≡ s) × (l' ≡ l)))
  unfolding unpacked_in store_in
  refused_load w =
      let u : unpacked_in (length st) (blocks_of f) ≡ Err (refusal k 0) = ap (unpacked_in (length st)) e in
      let v : store_in st (blocks_of f) ≡ st = ap (store_in st) e in (
        w.answer ∙ ap (λ x. loaded_as x (store_in st (blocks_of f)) t s l) u,
        (
          w.store ∙ v,
          (
            w.symbology ∙ ap (λ x. symbology_as x (store_in st (blocks_of f)) t s l) u,
            w.layout ∙ ap (λ x. layout_as x (store_in st (blocks_of f)) t s l) u,
          ),
        ),
      )

-- ANY ONE CHANGED BYTE of a file that is read is refused by 131, and store and tables stay as they were
pub changed_load : (f : List ℕ) → Bytes f → (xs : List Block) (m : ℕ) → blocks_of f ≡ ok xs m → (j v : ℕ) → j < length f → v < 256 → (v ≡ get_or f j 0 → ⊥)
    → {st t s l : List ℕ} {r : Result Held Refusal} {st' s' l' : List ℕ} → Loading (set f j v) st t s l r st' s' l' → (r ≡ Err (refusal 131 0)) × ((st' ≡ st) × ((s' ≡ s) × (l' ≡ l)))
changed_load f b xs m e j v h byte other w = refused_load (changed_refused f b j v h byte other xs m e) w

-- ---- what a stored start is

-- no number of a list is 0 that 0 is not among
no_zero : (ns : List ℕ) (e : Refusal) → among 0 ns ≡ false → In ns e.number → e.number ≡ 0 → ⊥
no_zero ns e o i z = no_true (sym (ap (λ k. among k ns) (sym z) ∙ i) ∙ o)

-- a start that nothing refuses is a prelude and all of its block
pub start-whole : (s t : List ℕ) → (start_fault s t).number ≡ 0 → (v len : ℕ) × (prelude_of s ≡ Ok (Stage.Whole v len)) × (8 + len ≡ length s)
start-whole s t z = go (start_stage s) refl
  where
    go : (x : Result Holding Refusal) → start_stage s ≡ x → (v len : ℕ) × (prelude_of s ≡ Ok (Stage.Whole v len)) × (8 + len ≡ length s)
    go (Ok (Needs n)) q = let k = sym (ap (λ (e : Refusal). e.number) (fault_needs s t q)) ∙ z in absurd (omega arith)
    go (Err e) q = absurd (no_zero stage_numbers e refl (stage-refuses s q) (sym (ap (λ (k : Refusal). k.number) (fault-refused s t q)) ∙ z))
    go (Ok (Whole n v)) q = let (len, a, b, _) = whole-said s n v q in (v, len, a, b)

-- held in a store with room it is whole
pub held_whole : (s st : List ℕ) (v len : ℕ) → prelude_of s ≡ Ok (Stage.Whole v len) → 8 + len ≡ length s → length s ≤ length st → take (length s) st ≡ s → stage_of (length s) st ≡ Ok (Whole (length s) v)
held_whole s st v len p n room same =
    stage_in start (length s) st room (omega arith) ∙ ap (λ (u : List ℕ). within 2 (length st) (length s) (announced (prelude_of u))) same
    ∙ ap (λ x. within 2 (length st) (length s) (announced x)) p ∙ bounded-whole 2 (length st) (length s) (8 + len) v (omega arith) (sym n) ∙ ap (λ m. Ok (Whole m v)) n

-- an answer to a start that is accepted: its fields, or the rows that the tables would need
pub data Accepted : Result Answer ReadError → Type 0 where
  done : {f : Fields} → Accepted (Ok (Answer.Done f))
  short : {m n : ℕ} → Accepted (Err (ReadError.Short m n))

says_needs : (a : Result Fields ReadError) (n : ℕ) → block_says a ≡ Ok (Answer.Needs n) → ⊥
unfolding block_says
says_needs (Ok f) n q = let z : ◌≡◌ {A = ℕ} 0 1 = cc in absurd (omega arith)
says_needs (Err (ReadError.Refused e)) n q = let z : ◌≡◌ {A = ℕ} 0 1 = cc in absurd (omega arith)
says_needs (Err (ReadError.Short a b)) n q = let z : ◌≡◌ {A = ℕ} 0 1 = cc in absurd (omega arith)

-- THE READER ACCEPTS IT, whatever tables are lent
module _ (s t st y l : List ℕ) (z : (start_fault s t).number ≡ 0) (room : length s ≤ length st) (same : take (length s) st ≡ s) (v len : ℕ) (said : prelude_of s ≡ Ok (Stage.Whole v len)) (long : 8 + len ≡ length s) where
  held : stage_of (length s) st ≡ Ok (Whole (length s) v)
  held = held_whole s st v len said long room same

  block_same : block_in st (length s) ≡ block_in s (length s)
  block_same =
      let n = long in
      block_held st (length s) (omega arith) room ∙ ap (λ (u : List ℕ). drop 8 u) (same ∙ sym (take_all (length s) s (omega arith))) ∙ sym (block_held s (length s) (omega arith) (omega arith))

  lent : answer_at (stage_of (length s) st) st t [] [] ≡ answer_at (start_stage s) s t [] []
  lent =
      let n = long in
      ap (λ x. answer_at x st t [] []) held ∙ answer-whole st t [] [] (length s) v ∙ ap (λ (u : List ℕ). block_says (block_answer v u t [] [])) block_same
      ∙ sym (ap (λ x. answer_at x s t [] []) (stage-all s v len said (omega arith) (omega arith)) ∙ answer-whole s t [] [] (length s) v)

  accepted-whole : Accepted (answer_at (stage_of (length s) st) st t y l)
  unfolding start_fault
  accepted-whole = go (answer_at (stage_of (length s) st) st t y l) refl
    where
      go : (a : Result Answer ReadError) → answer_at (stage_of (length s) st) st t y l ≡ a → Accepted a
      go (Ok (Answer'.Needs n)) q = absurd (says_needs _ n (sym (ap (λ x. answer_at x st t y l) held ∙ answer-whole st t y l (length s) v) ∙ q))
      go (Err (ReadError.Refused e)) q =
          let f : start_fault s t ≡ e = ap refusal_of (sym lent ∙ answer_anyway (length s) st t y l q [] []) in
          absurd (no_zero feed_numbers e refl (answer-refused (length s) st t y l q) (sym (ap (λ (k : Refusal). k.number) f) ∙ z))
      go (Ok (Answer'.Done f)) q = done
      go (Err (ReadError.Short m n)) q = short

pub start-accepted : (s t st y l : List ℕ) → (start_fault s t).number ≡ 0 → length s ≤ length st → take (length s) st ≡ s → Accepted (answer_at (stage_of (length s) st) st t y l)
start-accepted s t st y l z room same = let (v, len, said, long) = start-whole s t z in accepted-whole s t st y l z room same v len said long

-- ---- storing

-- where a file was written nothing refuses the stream, there is a file of it, and n is its length
module _ (s t : List ℕ) {m n : ℕ} where
  pub written_fine : Ok n ≡ stored_in m s t → ((start_fault s t).number ≡ 0) × ((is_count (count s) ≡ true) × ((n ≡ 512 * count s) × (512 * count s ≤ m)))
  unfolding stored_in packed_in
  written_fine q =
      by_bool (eqb (start_fault s t).number 0)
      (λ e. by_bool (is_count (count s))
      (λ c. by_bool (leb (512 * count s) m)
      (λ h.
      let x : ◌≡◌ {A = Result ℕ Refusal} (Ok n) (Ok (512 * count s)) = q ∙ rw (e, c, h) in
      let k : n ≡ 512 * count s = cc in
      (eqb-true (start_fault s t).number 0 e, (c, (k, leb-true (512 * count s) m h))))
      (λ h. let x : ◌≡◌ {A = Result ℕ Refusal} (Ok n) (Err (refusal 112 0)) = q ∙ rw (e, c, h) in let y : ◌≡◌ {A = ℕ} 0 1 = cc in absurd (omega arith)))
      (λ c. let x : ◌≡◌ {A = Result ℕ Refusal} (Ok n) (Err (refusal 130 0)) = q ∙ rw (e, c) in let y : ◌≡◌ {A = ℕ} 0 1 = cc in absurd (omega arith)))
      (λ e. let x : ◌≡◌ {A = Result ℕ Refusal} (Ok n) (Err (start_fault s t)) = q ∙ rw e in let y : ◌≡◌ {A = ℕ} 0 1 = cc in absurd (omega arith))

-- the file stands at the front of the output
pub written_file : {s t o : List ℕ} {n : ℕ} {o' : List ℕ} → Storing s t o (Ok n) o' → take n o' ≡ file_of s
unfolding output_after output_in
written_file {s} {t} {o} {n} w =
    let (z, (c, (k, h))) = written_fine s t w.answer in
    let e : output_after o s t ≡ file_of s ++ drop (512 * count s) o = rw (eq-eqb (start_fault s t).number 0 z, c, le-leb (512 * count s) (length o) h) in
    ap (take n) (w.output ∙ e) ∙ take_at (file_of s) (drop (512 * count s) o) n (file-length s ∙ sym k)

-- ---- and loading

-- WHAT WAS STORED LOADS: in any store with room the same bytes stand at its front, they are what is held, and the reader accepts them, with the tables
-- that are lent; no other byte of the store changes
module _ {s t o : List ℕ} {n : ℕ} {o' : List ℕ} (b : Bytes s) (w : Storing s t o (Ok n) o') {st y l : List ℕ} (room : length s ≤ length st) where
  pub stored_loads : {r : Result Held Refusal} {st' y' l' : List ℕ} → Loading (take n o') st t y l r st' y' l'
      → (st' ≡ s ++ drop (length s) st) × ((a : Result Answer ReadError) × (r ≡ Ok (record { len = length s; answer = a })) × Accepted a)
  stored_loads {r} {st'} {y'} {l'} g =
      let (z, (c, _)) = written_fine s t w.answer in
      let f = written_file w in
      let e : blocks_of (take n o') ≡ ok (blocks_from (count s) 0 s) (512 * count s) = ap blocks_of f ∙ file-read s b c in
      let p : payload_of (blocks_from (count s) 0 s) ≡ s = file_holds s b c in
      let h : length (payload_of (blocks_from (count s) 0 s)) ≤ length st = rw p room in
      let u = unpacked_is (take n o') st e h ∙ ap (λ (x : List ℕ). holding (length x)) p in
      let q = store_is (take n o') st e h ∙ ap (λ (x : List ℕ). x ++ drop (length x) st) p in
      let st₁ : List ℕ = s ++ drop (length s) st in
      let k : length s ≤ length st₁ = omega (arith, length-append s (drop (length s) st)) in
      (g.store ∙ q, (answer_at (stage_of (length s) st₁) st₁ t y l, g.answer ∙ ap₂ (λ x v. loaded_as x v t y l) u q, start-accepted s t st₁ y l z k (take-append_seam s (drop (length s) st))))

-- ---- refusals leave what they must

-- storing: the output
pub store-leaves : {s t o : List ℕ} {e : Refusal} {o' : List ℕ} → Storing s t o (Err e) o' → o' ≡ o
unfolding stored_in packed_in output_after output_in
store-leaves {s} {t} {o} {e} w = w.output ∙ go (eqb (start_fault s t).number 0) (is_count (count s)) (leb (512 * count s) (length o)) w.answer
  where
    go : (x c h : Bool) → Err e ≡ cond x (cond c (cond h (Ok (512 * count s)) (Err (refusal 112 0))) (Err (refusal 130 0))) (Err (start_fault s t)) → cond x (cond c (cond h (file_of s ++ drop (512 * count s) o) o) o) o ≡ o
    go false c h q = refl
    go true false h q = refl
    go true true false q = refl
    go true true true q = let y : ◌≡◌ {A = ℕ} 0 1 = cc in absurd (omega arith)

-- loading: store and tables, where the file or the store's length is refused
module _ (st t s l : List ℕ) (k : Refusal) where
  leaves : (x : Res (List Block)) → Err k ≡ loaded_as (unpacked_in (length st) x) (store_in st x) t s l
      → (store_in st x ≡ st) × ((symbology_as (unpacked_in (length st) x) (store_in st x) t s l ≡ s) × (layout_as (unpacked_in (length st) x) (store_in st x) t s l ≡ l))
  unfolding unpacked_in store_in
  leaves (refuse e) q = (refl, (refl, refl))
  leaves (ok xs j) q =
      by_bool (leb (length (payload_of xs)) (length st))
      (λ h.
      let u : unpacked_in (length st) (ok xs j) ≡ Ok (length (payload_of xs)) = rw h in
      let x : Err k ≡ Ok (record { len = length (payload_of xs); answer = _ }) = q ∙ ap (λ y. loaded_as y (store_in st (ok xs j)) t s l) u in
      let z : ◌≡◌ {A = ℕ} 0 1 = cc in
      absurd (omega arith))
      (λ h. (rw h, (rw h, rw h)))

  pub load_leaves : (f : List ℕ) {st' s' l' : List ℕ} → Loading f st t s l (Err k) st' s' l' → (st' ≡ st) × ((s' ≡ s) × (l' ≡ l))
  load_leaves f w = let (a, (b, c)) = leaves (blocks_of f) w.answer in (w.store ∙ a, (w.symbology ∙ b, w.layout ∙ c))
