-- Bytes that come in pieces and are held in a store that the caller lends: what the held ones are, what of a piece is taken, and where it
-- goes. Feeding the start of a stream and cutting frames are both this, each with a head of its own.
-- Assumes nothing.
use Rattle.refusal.specs.declared.Refusal.{Refusal}
use Rattle.std.specs.Prelude.{ℕ, ◌+◌, ◌-◌, min, cond, List, length, take, ltb, Result, Ok, Err}
use Rattle.std.proofs.Math.Seq.{paste}
use Rattle.codec.specs.Codec.{refusal}
use Rattle.held.specs.declared.Holding.{Holding}
use Rattle.held.specs.declared.Holding.TheVariants.{Needs, Whole}

-- ---- the held bytes

-- what comes begins with a head of `size` bytes; `says` is the verdict on it; `short` refuses a store that is too short
pub record Head : Type 0 where
  pub size : ℕ
  pub short : ℕ
  pub says : List ℕ → Result Holding Refusal

-- k bytes held, in a store of n, of a whole of w: `short` where the store is below the whole, 1 where they go beyond it, what is missing of
-- it, or the whole
unfoldable pub bounded : ℕ → ℕ → ℕ → ℕ → ℕ → Result Holding Refusal
bounded short n k w b =
    cond (ltb n w) (Err (refusal short 0))
    (cond (ltb w k) (Err (refusal 1 0))
    (cond (ltb k w) (Ok (Needs (w - k)))
    (Ok (Whole w b))))

-- the same of what a head says: below its size it needs the rest, or it is refused, or it announces a whole
abbrev pub within : ℕ → ℕ → ℕ → Result Holding Refusal → Result Holding Refusal
within short n k (Ok (Needs m)) = Ok (Needs m)
within short n k (Err e) = Err e
within short n k (Ok (Whole w b)) = bounded short n k w b

-- THE FIRST k BYTES OF A STORE: 1 beyond the store, `short` below the head, then what the head says
unfoldable pub held_of : Head → ℕ → List ℕ → Result Holding Refusal
held_of H k st =
    cond (ltb (length st) k) (Err (refusal 1 0))
    (cond (ltb (length st) H.size) (Err (refusal H.short 0))
    (within H.short (length st) k (H.says (take k st))))

-- ---- a piece

-- how many bytes are still needed
abbrev pub need_of : Result Holding Refusal → ℕ
need_of (Ok (Needs n)) = n
need_of (Err e) = 0
need_of (Ok (Whole w b)) = 0

-- of n bytes that are offered, so many are taken at once
unfoldable pub poured : Head → ℕ → List ℕ → ℕ → ℕ
poured H k st n = min (need_of (held_of H k st)) n

-- what is taken of a piece: what the head, then the whole, still needs, at most the whole piece
unfoldable pub taken_of : Head → ℕ → List ℕ → List ℕ → ℕ
taken_of H k st p =
    let a = poured H k st (length p) in
    a + poured H (k + a) (paste st k p a) (length p - a)

-- the held count after it
abbrev pub held_after : Head → ℕ → List ℕ → List ℕ → ℕ
held_after H k st p = k + taken_of H k st p

-- and the store: those bytes right after the held ones, the rest as it was
abbrev pub store_after : Head → ℕ → List ℕ → List ℕ → List ℕ
store_after H k st p = paste st k p (taken_of H k st p)

-- ---- putting bytes into a store

-- so many bytes of the piece p go after the k held ones: what is needed, at most what there is, and what there is room for
unfoldable pub put_of : ℕ → List ℕ → List ℕ → Result Holding Refusal → ℕ
put_of k st p x = min (min (need_of x) (length p)) (length st - k)

-- ---- a stream

-- what a head announces, with a store of n bytes and m bytes of the stream left: `short` below the whole; what is missing of it; or the whole
abbrev pub fits : ℕ → ℕ → ℕ → Result Holding Refusal → Result Holding Refusal
fits short n m (Ok (Needs j)) = Ok (Needs j)
fits short n m (Err e) = Err e
fits short n m (Ok (Whole w b)) = cond (ltb n w) (Err (refusal short 0)) (cond (ltb m w) (Ok (Needs (w - m))) (Ok (Whole w b)))

-- WHAT STANDS FIRST IN A STREAM, with a store of n bytes: `short` below the head, then what the head says
unfoldable pub first_of : Head → ℕ → List ℕ → Result Holding Refusal
first_of H n s = cond (ltb n H.size) (Err (refusal H.short 0)) (fits H.short n (length s) (H.says s))

-- how many bytes are held where it is refused: the head's; none where the store is below it
abbrev pub refused_at : Head → ℕ → ℕ
refused_at H n = cond (ltb n H.size) 0 H.size
