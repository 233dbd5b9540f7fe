-- Each public promise allows one answer: two outcomes that meet it are equal.
-- Assumes nothing.
use Rattle.numbers.specs.Numbers.{Got}
use Rattle.std.specs.Prelude.{ℕ, ◌≡◌, List}
use Rattle.std.proofs.Common.{sym, ap, ◌∙◌}
use Rattle.std.specs.Borrow.{Bor}
use Rattle.byte_reader.specs.Reader.{moved, Stepped, LabelIs}
use Rattle.byte_reader.specs.declared.ByteReader.{ByteReader}
use Rattle.byte_reader.specs.declared.Label.{Label}

-- of `new`
pub new_one : (s : Bor (List ℕ)) (x y : ByteReader) → (x.buf ≡ s) × (x.pos ≡ 0) → (y.buf ≡ s) × (y.pos ≡ 0) → x ≡ y
new_one s x y e f = λ i. record { buf = (e.0 ∙ sym f.0) i; pos = (e.1 ∙ sym f.1) i }

-- of `take`, `u16` and `name`: the answer, and the reader after it
pub step-one : {b m : ℕ} {f : List ℕ → ℕ → Got} {d x y : ByteReader} {r q : Got} → Stepped b m f d x r → Stepped b m f d y q → (r ≡ q) × (x ≡ y)
step-one {d = d} g h =
    let e = g.answer ∙ sym h.answer in
    (e, g.reader ∙ (ap (moved d) e ∙ sym h.reader))

-- of `label_in`
pub label-one : {s : List ℕ} {at : ℕ} {x y : Label} → LabelIs s at x → LabelIs s at y → x ≡ y
label-one g h = λ i. record { code = (g.after.code ∙ sym h.after.code) i; name = (g.after.name ∙ sym h.after.name) i }
