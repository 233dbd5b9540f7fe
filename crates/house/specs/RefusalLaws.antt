-- Which numbers storing and loading give. Assumes nothing.
use Rattle.block_format.specs.declared.Fields.{Fields}
use Rattle.block_format.specs.declared.ReadError.{ReadError}
use Rattle.std.specs.Prelude.{ℕ, ◌+◌, ◌≡◌, refl, cond, List, [], ◌∷◌, ◌++◌, length, Result, Ok, Err}
use Rattle.std.proofs.Common.{arith, sym, ap, ◌∙◌, subst}
use Rattle.refusal.specs.declared.Refusal.{Refusal}
use Rattle.codec.specs.Codec.{refusal}
use Rattle.codec.specs.CaseLaws.{by_eqb}
use Rattle.codec.specs.Refusals.{In, Fault}
use Rattle.codec.proofs.RefusalLaws.{in_more}
use Rattle.prelude.specs.Prelude.{prelude_numbers, prelude_of}
use Rattle.prelude.proofs.RefusalLaws.{prelude-refuses}
use Rattle.prelude.specs.declared.Stage.{Stage}
use Rattle.prelude.specs.declared.Stage.TheVariants as Stage'
use Rattle.block_format.specs.Read.{block_numbers, block_answer}
use Rattle.block_format.proofs.RefusalLaws.{answer-refuses}
use Rattle.held.proofs.StageLaws.{by-bound, bounded_beyond, bounded-rest, bounded-whole}
use Rattle.held.specs.declared.Holding.{Holding}
use Rattle.held.specs.declared.Holding.TheVariants.{Needs, Whole}
use Rattle.feed.specs.Feeding.{announced, stage_of, block_in, answer_at, feed_numbers}
use Rattle.feed.specs.AnswerLaws.{says-read, says-refused, says-short}
use Rattle.feed.proofs.RefusalLaws.{answer-refused}
use Rattle.feed.specs.declared.Answer.{Answer}
use Rattle.feed.specs.declared.Answer.TheVariants as Answer'
use Rattle.house_file.specs.House.{blocks_of, unpacked_in, packed_in}
use Rattle.house_file.specs.RefusalLaws.{file_numbers, pack_numbers, unpacked_refuses, packed_refuses}
use Rattle.house.specs.Start.{roomy, start_stage, refusal_of, start_fault, stored_in, number_of, load_number, loaded_as}
use Rattle.house.specs.StartLaws.{fault_needs, fault-refused, fault-block}

-- what refuses a stream as a start that is whole: 134 where bytes are needed, 1 beyond the block, the prelude, the block; no 2, since the store is long enough
abbrev pub kept_numbers : List ℕ
kept_numbers = 134 ∷ 1 ∷ (prelude_numbers ++ block_numbers)

-- what refuses a start that is whole: 134, or what refuses held bytes
abbrev pub start_numbers : List ℕ
start_numbers = 134 ∷ feed_numbers

-- what refuses storing: the output, the count of blocks, the start
abbrev pub store_numbers : List ℕ
store_numbers = pack_numbers ++ start_numbers

-- what refuses loading: 1 for the store, the file, what it holds
abbrev pub load_numbers : List ℕ
load_numbers = 1 ∷ (file_numbers ++ start_numbers)

-- ---- storing

-- before the block is looked at: 1, or the prelude
abbrev pub stage_numbers : List ℕ
stage_numbers = 1 ∷ prelude_numbers

pub stage-refuses : (s : List ℕ) {e : Refusal} → start_stage s ≡ Err e → In stage_numbers e.number
unfolding start_stage
stage-refuses s {e} = go (prelude_of s) refl
  where
    go : (x : Result Stage Refusal) → prelude_of s ≡ x → roomy (length s) (announced x) ≡ Err e → In stage_numbers e.number
    go (Ok (Stage'.Needs m)) h q = let z : ◌≡◌ {A = ℕ} 0 1 = cc in absurd (omega arith)
    go (Err k) h q = let i : k ≡ e = cc in subst (λ (j : Refusal). In stage_numbers j.number) i (in_more prelude_numbers stage_numbers refl k.number (prelude-refuses s h))
    go (Ok (Stage'.Whole b len)) h q = by-bound 2 (8 + len) (length s) (8 + len) b
        (λ a. absurd (omega arith))
        (λ a d. let j = sym (bounded_beyond 2 (8 + len) (length s) (8 + len) b a d) ∙ q in let i : refusal 1 0 ≡ e = cc in subst (λ (j : Refusal). In stage_numbers j.number) i refl)
        (λ a d. let j = sym (bounded-rest 2 (8 + len) (length s) (8 + len) b a d) ∙ q in let z : ◌≡◌ {A = ℕ} 0 1 = cc in absurd (omega arith))
        (λ a d. let j = sym (bounded-whole 2 (8 + len) (length s) (8 + len) b a d) ∙ q in let z : ◌≡◌ {A = ℕ} 0 1 = cc in absurd (omega arith))

pub fault_kept : (s t : List ℕ) → Fault (In kept_numbers) (start_fault s t).number
fault_kept s t = go (start_stage s) refl
  where
    is : {k : Refusal} → start_fault s t ≡ k → Fault (In kept_numbers) k.number → Fault (In kept_numbers) (start_fault s t).number
    is q h = subst (λ (j : Refusal). Fault (In kept_numbers) j.number) (sym q) h

    whole : (n v : ℕ) → start_stage s ≡ Ok (Whole n v) → (a : Result Fields ReadError) → block_answer v (block_in s n) t [] [] ≡ a → Fault (In kept_numbers) (start_fault s t).number
    whole n v h (Ok f) q = is (fault-block s t h q ∙ ap refusal_of (says-read f)) (λ z. absurd (z refl))
    whole n v h (Err (ReadError.Refused k)) q =
        is (fault-block s t h q ∙ ap refusal_of (says-refused k)) (λ z. in_more block_numbers kept_numbers refl k.number (answer-refuses v (block_in s n) t [] [] (sym q)))
    whole n v h (Err (ReadError.Short a b)) q = is (fault-block s t h q ∙ ap refusal_of (says-short a b)) (λ z. absurd (z refl))

    go : (x : Result Holding Refusal) → start_stage s ≡ x → Fault (In kept_numbers) (start_fault s t).number
    go (Ok (Needs n)) h = is (fault_needs s t h) (λ z. refl)
    go (Err k) h = is (fault-refused s t h) (λ z. in_more stage_numbers kept_numbers refl k.number (stage-refuses s h))
    go (Ok (Whole n v)) h = whole n v h (block_answer v (block_in s n) t [] []) refl

pub fault_in : (s t : List ℕ) → Fault (In start_numbers) (start_fault s t).number
fault_in s t z = in_more kept_numbers start_numbers refl (start_fault s t).number (fault_kept s t z)

pub stored_refuses : (n : ℕ) (s t : List ℕ) {e : Refusal} → stored_in n s t ≡ Err e → In store_numbers e.number
unfolding stored_in
stored_refuses n s t {e} q =
    by_eqb (start_fault s t).number 0
    (λ b z. in_more pack_numbers store_numbers refl e.number (packed_refuses n s (sym (ap (λ x. cond x (packed_in n s) (Err (start_fault s t))) b) ∙ q)))
    (λ b z. faulty (start_fault s t) (fault_kept s t z) (sym (ap (λ x. cond x (packed_in n s) (Err (start_fault s t))) b) ∙ q))
  where
    faulty : (k : Refusal) → In kept_numbers k.number → ◌≡◌ {A = Result ℕ Refusal} (Err k) (Err e) → In store_numbers e.number
    faulty k h q = let i : k ≡ e = cc in subst (λ (j : Refusal). In store_numbers j.number) i (in_more kept_numbers store_numbers refl k.number h)

-- ---- loading

-- 0, 3 for a table too short, or what refuses loading
pub load_in : (n : ℕ) (f st t s l : List ℕ) → In (0 ∷ 3 ∷ load_numbers) (load_number (loaded_as (unpacked_in n (blocks_of f)) st t s l))
load_in n f st t s l = go (unpacked_in n (blocks_of f)) refl
  where
    held : (a : Result Answer ReadError) → ((e : Refusal) → a ≡ Err (ReadError.Refused e) → In feed_numbers e.number) → In (0 ∷ 3 ∷ load_numbers) (number_of a)
    held (Ok (Answer'.Needs m)) h = refl
    held (Ok (Answer'.Done f)) h = refl
    held (Err (ReadError.Refused e)) h = in_more feed_numbers (0 ∷ 3 ∷ load_numbers) refl e.number (h e refl)
    held (Err (ReadError.Short a b)) h = refl

    go : (u : Result ℕ Refusal) → unpacked_in n (blocks_of f) ≡ u → In (0 ∷ 3 ∷ load_numbers) (load_number (loaded_as u st t s l))
    go (Err e) h = in_more (1 ∷ file_numbers) (0 ∷ 3 ∷ load_numbers) refl e.number (unpacked_refuses n f h)
    go (Ok m) h = held (answer_at (stage_of m st) st t s l) (λ e i. answer-refused m st t s l i)
