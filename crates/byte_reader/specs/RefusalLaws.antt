-- Which numbers the steps of a reader give.
-- Assumes nothing.
use Rattle.std.specs.Prelude.{ℕ, ◌≡◌, refl, List, Ok, Err}
use Rattle.std.proofs.Common.{sym, ◌∙◌, ap}
use Rattle.refusal.specs.declared.Refusal.{Refusal}
use Rattle.codec.specs.Refusals.{In}
use Rattle.numbers.specs.Numbers.{u16_at, got_on, Got}
use Rattle.numbers.specs.RefusalLaws.{num-refuses}
use Rattle.wire.specs.Reader.{all_tests, name_at, name_numbers}
use Rattle.wire.proofs.RefusalLaws.{name-refuses}
use Rattle.byte_reader.specs.Reader.{Stepped, LabelIs}
use Rattle.byte_reader.specs.declared.ByteReader.{ByteReader}
use Rattle.byte_reader.specs.declared.Label.{Label}

-- a step refuses with what refuses at its place
pub step-refuses : (P : ℕ → Type 0) {b m : ℕ} {f : List ℕ → ℕ → Got} {d d' : ByteReader} {k : Refusal}
    → ((s : List ℕ) (at : ℕ) (j : Refusal) → f s at ≡ Err j → P j.number) → Stepped b m f d d' (Err k) → P k.number
step-refuses P {d = d} {k = k} h p = h d.buf.now d.pos k (sym p.answer)

module _ (s : List ℕ) (at : ℕ) (r : Label) {k : Refusal} where
  -- a label's code
  pub code-refuses : LabelIs s at r → r.code ≡ Err k → k.number ≡ 50
  code-refuses p e = num-refuses 50 2 s at (sym p.after.code ∙ e)

  -- and its name, which is the code's refusal where there is one
  pub label-refuses : LabelIs s at r → r.name ≡ Err k → In name_numbers k.number
  label-refuses p e = go (u16_at s at) (λ j q. num-refuses 50 2 s at q) (sym p.after.name ∙ e)
    where
      go : (c : Got) → ((j : Refusal) → c ≡ Err j → j.number ≡ 50) → got_on c (λ _ q. name_at all_tests s q) ≡ Err k → In name_numbers k.number
      go (Ok (v, q)) h e = name-refuses s q all_tests e
      go (Err j) h e =
          let i : j ≡ k = cc in
          let n : k.number ≡ 50 = ap (λ (r : Refusal). r.number) (sym i) ∙ h j refl in
          rw n refl
