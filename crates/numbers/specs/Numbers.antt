-- What reading a number or some bytes at a place of a slice answers.
-- Assumes nothing.
use Rattle.std.specs.Prelude.{ℕ, ◌+◌, ◌-◌, ◌*◌, ◌≤◌, ◌<◌, Bool, List, length, get_or, take, drop, leb, Result, Ok, Err}
use Rattle.refusal.specs.declared.Refusal.{Refusal}
use Rattle.codec.specs.Codec.{Res, ok, refuse, raw, num}

-- what was read, as a number, and the place after it; or the refusal
abbrev pub Got : Type 0
Got = Result (ℕ × ℕ) Refusal

-- a number of what was read, and the place after it
abbrev pub got_of : {A : Type 0} → (A → ℕ) → Res A → Got
got_of f (ok x p) = Ok (f x, p)
got_of f (refuse k) = Err k

-- n bytes; why where they run past the end
unfoldable pub take_at : ℕ → ℕ → List ℕ → ℕ → Got
take_at why n s at = got_of (λ _. n) ((raw why n).parse 0 s at)

-- a little-endian number of w bytes; why where they run past the end
unfoldable pub num_at : ℕ → ℕ → List ℕ → ℕ → Got
num_at why w s at = got_of (λ v. v) ((num why w).parse 0 s at)

-- a u16 of a layout
abbrev pub u16_at : List ℕ → ℕ → Got
u16_at s at = num_at 50 2 s at

-- n bytes are left at `at`
abbrev pub has : List ℕ → ℕ → ℕ → Bool
has s at n = leb n (length s - at)

-- the bytes from b up to e
abbrev pub part : List ℕ → ℕ → ℕ → List ℕ
part s b e = take (e - b) (drop b s)

abbrev pub got_on : Got → (ℕ → ℕ → Got) → Got
got_on (Ok (v, p)) f = f v p
got_on (Err k) f = Err k

-- a number that was read past `at`: at least m bytes, within the section, and the number is below b
pub data Past (b m : ℕ) (s : List ℕ) (at : ℕ) : Got → Type 0 where
  past : {v p : ℕ} → at + m ≤ p → p ≤ length s → v < b → Past b m s at (Ok (v, p))
  refused : {k : Refusal} → Past b m s at (Err k)

-- little-endian numbers, 0 for a byte past the end
abbrev pub le16 : List ℕ → ℕ → ℕ
le16 b i = get_or b i 0 + 256 * get_or b (i + 1) 0

abbrev pub le32 : List ℕ → ℕ → ℕ
le32 b i = le16 b i + 65536 * le16 b (i + 2)

abbrev pub le64 : List ℕ → ℕ → ℕ
le64 b i = le32 b i + 4294967296 * le32 b (i + 4)

-- the number of document 01: 0 for what was read
abbrev pub got_number : Got → ℕ
got_number (Ok (v, p)) = 0
got_number (Err k) = k.number
