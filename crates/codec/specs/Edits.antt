-- How the bytes of a value may be changed so that it is read as before: which bytes are kept, which are skipped, and where
-- bytes may be put in. A format says it of its values by `Edits`.
-- Assumes nothing.
use Rattle.std.specs.Prelude.{ℕ, ◌+◌, ◌-◌, ◌^◌, ◌≤◌, ◌<◌, ◌≡◌, cond, List, ◌++◌, length, leb}
use Rattle.codec.specs.Codec.{Bytes, Codec, little}

infixr 25 ◌and◌
-- the bytes of a value by what may become of them: bytes that are read; bytes that nobody looks at; one after the other; and
-- a length of w bytes that counts `own` bytes more than follow, with contents and then leftovers
pub data Marked : Type 0 where
  kept : List ℕ → Marked
  free : List ℕ → Marked
  ◌and◌ : Marked → Marked → Marked
  box : ℕ → ℕ → Marked → List ℕ → Marked

abbrev pub bytes_of : Marked → List ℕ
bytes_of (kept x) = x
bytes_of (free x) = x
bytes_of (a and b) = bytes_of a ++ bytes_of b
bytes_of (box w own m r) = little w (own + length (bytes_of m ++ r)) ++ (bytes_of m ++ r)

-- an edit: kept bytes stay; free bytes are filled at will; leftovers are filled at will and bytes are put in at their end, and
-- the length in front is raised to match and still fits its w bytes
pub data Edit : Marked → Marked → Type 0 where
  keep : (x : List ℕ) → Edit (kept x) (kept x)
  fill : (x y : List ℕ) → length y ≡ length x → Bytes y → Edit (free x) (free y)
  pair : (a a' b b' : Marked) → Edit a a' → Edit b b' → Edit (a and b) (a' and b')
  grow : (w own : ℕ) (m m' : Marked) (r r' : List ℕ) → 0 < w → Edit m m' → length r ≤ length r' → Bytes r'
      → own + length (bytes_of m' ++ r') < 256 ^ w → Edit (box w own m r) (box w own m' r')

-- how many bytes an edit puts in before place n
abbrev pub put : {m m' : Marked} → Edit m m' → ℕ → ℕ
put (keep x) n = 0
put (fill x y e b) n = 0
put (pair a a' b b' e f) n = put e n + put f (n - length (bytes_of a))
put (grow w own m m' r r' o e l b h) n = put e (n - w) + cond (leb (w + length (bytes_of m ++ r)) n) (length r' - length r) 0

-- y is what the edited bytes m are: the same as x without places and skipped bytes, and legal
pub record Edited {A : Type 0} (c : Codec A) (marks : A → Marked) (x : A) (m : Marked) : Type 0 where
  pub value : A
  pub is : marks value ≡ m
  pub same : c.bare value ≡ c.bare x
  pub legal : c.legal value

module _ {A : Type 0} (c : Codec A) (marks : A → Marked) where
  -- every edit of a legal value is a legal value
  abbrev pub Keeps : Type 0
  Keeps = (x : A) (m : Marked) → c.legal x → Edit (marks x) m → Edited c marks x m

  -- an edit moves each place by what it puts in before it, where `moves f x y` says that y is x with its places moved by f. With k = 1
  -- the place at the end of the value counts too
  abbrev pub Shifts : ℕ → ((ℕ → ℕ) → A → A → Type 0) → Type 0
  Shifts k moves = (f : ℕ → ℕ) (p q : ℕ) (x y : A) (e : Edit (marks x) (marks y)) → c.legal x → c.bare y ≡ c.bare x
      → ((n : ℕ) → n < length (c.print x) + k → f (p + n) ≡ q + (n + put e n)) → moves f (c.locate p x) (c.locate q y)

-- a format says which of its bytes are kept and which are free, and how an edit moves its places
pub record Edits {A : Type 0} (c : Codec A) (k : ℕ) : Type 1 where
  pub marks : A → Marked
  pub marked : (x : A) → bytes_of (marks x) ≡ c.print x
  pub edited : Keeps c marks
  pub moves : (ℕ → ℕ) → A → A → Type 0
  pub moved : Shifts c marks k moves
