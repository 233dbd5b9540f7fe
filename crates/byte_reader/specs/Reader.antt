-- A reader that keeps its section and its place together: where it stands after a step, and what a step promises.
-- What is read is said by the definitions of the slice's readers (`wire`'s Reader.antt).
-- Assumes nothing.
use Rattle.std.specs.Prelude.{ℕ, ◌≡◌, List, Ok, Err}
use Rattle.numbers.specs.Numbers.{u16_at, got_on, Past, Got}
use Rattle.wire.specs.Reader.{all_tests, name_at}
use Rattle.byte_reader.specs.declared.ByteReader.{ByteReader}
use Rattle.byte_reader.specs.declared.Label.{Label}

-- past what was read, or where it stood when nothing was
abbrev pub after : Got → ℕ → ℕ
after (Ok (v, p)) at = p
after (Err k) at = at

-- the reader of the same section, at the place after the answer
abbrev pub moved : ByteReader → Got → ByteReader
moved d g = record { buf = d.buf; pos = after g d.pos }

-- a step of the reader d that reads by f: its answer r is f's at d's place, d' is the reader after it, and the number read is below b, from m bytes or more
pub record Stepped (b m : ℕ) (f : List ℕ → ℕ → Got) (d d' : ByteReader) (r : Got) : Type 0 where
  pub answer : r ≡ f d.buf.now d.pos
  pub reader : d' ≡ moved d r
  pub past : Past b m d.buf.now d.pos r

-- the label of a code c: its name after the code, or the code's refusal
pub record LabelAfter (s : List ℕ) (c : Got) (r : Label) : Type 0 where
  pub code : r.code ≡ c
  pub name : r.name ≡ got_on c (λ _ p. name_at all_tests s p)
  pub past : (v p : ℕ) → c ≡ Ok (v, p) → Past 256 2 s p r.name

-- the label at `at`
pub record LabelIs (s : List ℕ) (at : ℕ) (r : Label) : Type 0 where
  pub after : LabelAfter s (u16_at s at) r
  pub past : Past 65536 2 s at r.code
