-- Which numbers the block writer gives; none is about a byte, and a refusal leaves the output as it was.
-- Assumes nothing.
use Rattle.std.specs.Prelude.{ℕ, ◌≡◌, Bool, cond, List, [], ◌∷◌, ◌++◌, leb, eqb}
use Rattle.std.proofs.Math.Path.{refl}
use Rattle.std.proofs.Common.{sym, ap, ◌∙◌}
use Rattle.std.proofs.Math.Bool.{true}
use Rattle.std.proofs.Math.ListN.{length}
use Rattle.refusal.specs.declared.Refusal.{Refusal}
use Rattle.codec.specs.Codec.{Res, ok, refuse, refusal, fault_of}
use Rattle.codec.specs.Refusals.{Gives, In, Fault}
use Rattle.codec.proofs.RefusalLaws.{in_more, gives_more, fault-by}
use Rattle.codec.specs.Faults.{unless, first}
use Rattle.prelude.specs.Prelude.{is_version}
use Rattle.rows_check.specs.Check.{row_numbers, fault}
use Rattle.rows_check.proofs.RefusalLaws.{check_fault}
use Rattle.block_format.specs.Block.{block_of}
use Rattle.block_format.specs.Read.{block_numbers}
use Rattle.block_format.proofs.RefusalLaws.{block_gives}
use Rattle.writer.specs.Write.{out_after}
use Rattle.writer.proofs.RoundTripLaws.{out-refused}
use Rattle.writer.proofs.RefusalLaws.{Placeless, judged-refuses, room-refuses}
use Rattle.std.specs.Prelude.{Ok, Err}
use Rattle.block_writer.specs.Tree.{block_bytes}
use Rattle.block_writer.specs.Write.{formed, slim, start_bytes, write_fault, write_block, WritesBlock}

-- what refuses to write: the version, the rows and fields, the layout rows, what the reader refuses, the room
abbrev pub start_numbers : List ℕ
start_numbers = 11 ∷ 110 ∷ 111 ∷ (row_numbers ++ (block_numbers ++ (112 ∷ [])))

abbrev P : ℕ → Type 0
P = In start_numbers

-- the number of a test that fails
test_fault : (t : Bool) (k : ℕ) → P k → Fault P (unless t k)
test_fault t k h = fault-by P t 0 k (λ z. absurd (z refl)) (λ _. h)

-- of the first of two
first-fault : (a b : ℕ) → Fault P a → Fault P b → Fault P (first a b)
first-fault a b f g = fault-by P (eqb a 0) b a g f

-- of what is read
read-fault : {A : Type 0} (r : Res A) → Gives P r → Fault P (fault_of r)
read-fault (ok x j) g z = absurd (z refl)
read-fault (refuse k) g z = g

module _ (sheet : List ℕ) (version : ℕ) (fs t : List ℕ) (n : ℕ) (rows text : List ℕ) where
  write_fault_lem : Fault P (write_fault sheet version fs t n rows text)
  unfolding write_fault
  write_fault_lem =
      let r = block_of version sheet (block_bytes sheet version fs t n rows text) in
      first-fault (unless (is_version version) 11) _ (test_fault (is_version version) 11 refl)
      (first-fault (unless (formed version fs t n text) 110) _ (test_fault (formed version fs t n text) 110 refl)
      (first-fault (unless (slim version fs t n) 111) _ (test_fault (slim version fs t n) 111 refl)
      (first-fault (fault true rows text) (fault_of r) (λ z. in_more row_numbers start_numbers refl (fault true rows text) (check_fault true rows text z))
      (read-fault r (gives_more (In block_numbers) P (in_more block_numbers start_numbers refl) r (block_gives version sheet (block_bytes sheet version fs t n rows text)))))))

  answer_placeless : (room : ℕ) {k : Refusal} → write_block sheet version fs t n rows text room ≡ Err k → Placeless start_numbers k
  unfolding write_block
  answer_placeless room e =
      let m = length (start_bytes sheet version fs t n rows text) in
      judged-refuses start_numbers (write_fault sheet version fs t n rows text) (cond (leb m room) (Ok m) (Err (refusal 112 0))) write_fault_lem (room-refuses start_numbers (leb m room) m 112 refl) e

  pub answer-refuses : (room : ℕ) {k : Refusal} → write_block sheet version fs t n rows text room ≡ Err k → In start_numbers k.number
  answer-refuses room e = (answer_placeless room e).0

  module _ (out out' : List ℕ) {k : Refusal} (p : WritesBlock sheet version fs t n rows text out out' (Err k)) where
    -- what the writer's answer refuses with
    pub write_refuses : In start_numbers k.number
    write_refuses = answer-refuses (length out) (sym p.is)

    -- a refusal to write is about no byte
    pub write_placeless : k.place ≡ 0
    write_placeless = (answer_placeless (length out) (sym p.is)).1

    -- and leaves the output
    pub write_untouched : out' ≡ out
    write_untouched =
        let s = start_bytes sheet version fs t n rows text in
        p.leaves ∙ ap (λ r. out_after r s out) (sym p.is) ∙ out-refused k s out
