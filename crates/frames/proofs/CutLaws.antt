-- ANY CUTTING: however the records come in pieces, the caller is handed the frames of the whole stream, in order, and the same bytes are
-- taken. The store is any. Assumes nothing.
use Rattle.std.specs.Prelude.{ℕ, zero, suc, ◌+◌, ◌≤◌, ◌≡◌, length, drop, Result, Ok, Err}
use Rattle.std.proofs.Common.{zero-le, add-zero, le_refl, arith, ◌∙◌, length-append, take_all, take-add, drop-drop}
use Rattle.std.proofs.Math.Path.{refl, sym, ap, ap₂}
use mathlib.Core.List.{List, [], ◌∷◌, ◌++◌, append_assoc}
use Rattle.std.proofs.Math.ListN.{take}
use Rattle.std.proofs.lemmas.List.{drop-append-le}
use Rattle.std.proofs.Math.Seq.{length-take-le, paste, paste-zero}
use Rattle.refusal.specs.declared.Refusal.{Refusal}
use Rattle.codec.specs.CaseLaws.{by_le}
use Rattle.held.specs.Held.{held_of, need_of, taken_of, held_after, store_after}
use Rattle.held.proofs.StageLaws.{is_whole, after-length, taken-most, taken-fits}
use Rattle.held.proofs.PieceLaws.{taken_none, both-taken, both-store}
use Rattle.held.specs.declared.Holding.{Holding}
use Rattle.held.specs.declared.Holding.TheVariants as Holding'
use Rattle.frames.specs.Frames.{frame, first_of, Frames, ◌before◌, refused_at, goes_on, frames_in, frames_of, Framing}
use Rattle.frames.proofs.HeaderLaws.{frame-law}
use Rattle.frames.proofs.FramingLaws.{held_after_lem, after_needs, after_frame, after-refused}
use Rattle.frames.proofs.StreamLaws.{first-whole, goes_after, frames_from, from_start}
use Rattle.frames.specs.declared.Answer.TheVariants.{Needs, Frame}
use Rattle.frames.specs.declared.Framed.{Framed}

-- A READING of a stream, piece by piece, k bytes of the store being held: what the caller is handed, and how many bytes were taken in all.
-- Each call is offered some piece p of what is left, p ++ q; what it did not take is offered again, cut anew. State and store are handed back
-- as they were left. After a frame, which is the store's front, the next begins with nothing held. A refusal ends it, and so does the end of
-- the stream.
pub data Reading : ℕ → List ℕ → List ℕ → Frames → ℕ → Type 0 where
  over : {k : ℕ} {st : List ℕ} {x : Framed} {st1 : List ℕ} {n : ℕ}
      → Framing k st [] x st1 → x.answer ≡ Ok (Needs n)
      → Reading k st [] (record { whole = []; left = take x.state.held st1; ends = Ok (Holding'.Needs n) }) x.taken
  more : {k : ℕ} {st p : List ℕ} {x : Framed} {st1 : List ℕ} {n : ℕ} {r : Frames} {c : ℕ} (q : List ℕ)
      → Framing k st p x st1 → x.answer ≡ Ok (Needs n) → Reading x.state.held st1 (drop x.taken p ++ q) r c
      → Reading k st (p ++ q) r (x.taken + c)
  whole : {k : ℕ} {st p : List ℕ} {x : Framed} {st1 : List ℕ} {w t : ℕ} {r : Frames} {c : ℕ} (q : List ℕ)
      → Framing k st p x st1 → x.answer ≡ Ok (Frame w t) → Reading 0 st1 (drop x.taken p ++ q) r c
      → Reading k st (p ++ q) (take w st1 before r) (x.taken + c)
  refused : {k : ℕ} {st p : List ℕ} {x : Framed} {st1 : List ℕ} {e : Refusal} (q : List ℕ)
      → Framing k st p x st1 → x.answer ≡ Err e
      → Reading k st (p ++ q) (record { whole = []; left = take x.state.held st1; ends = Err e }) x.taken

-- ---- a piece, and then the rest

module _ (k : ℕ) (st p q : List ℕ) where
  abbrev t1 : ℕ
  t1 = taken_of frame k st p

  abbrev s1 : List ℕ
  s1 = store_after frame k st p

  abbrev s2 : List ℕ
  s2 = drop t1 p ++ q

  abbrev t2 : ℕ
  t2 = taken_of frame (k + t1) s1 s2

  taken-both : taken_of frame k st (p ++ q) ≡ t1 + t2
  taken-both = both-taken frame frame-law k st p q t1 (le_refl t1)

  rest_both : drop t2 s2 ≡ drop (taken_of frame k st (p ++ q)) (p ++ q)
  rest_both =
      ap (drop t2) (sym (drop-append-le t1 p q (taken-most frame frame-law k st p)))
      ∙ drop-drop t2 t1 (p ++ q) ∙ ap (λ n. drop n (p ++ q)) (sym taken-both)

  -- the frames are those of both in one
  from-both : frames_from (k + t1) s1 s2 ≡ frames_from k st (p ++ q)
  unfolding frames_from
  from-both =
      let held : k + t1 + t2 ≡ held_after frame k st (p ++ q) = omega (arith, taken-both) in
      let store = sym (both-store frame frame-law k st p q t1 (le_refl t1)) in
      on (k + t1 + t2) _ (store_after frame (k + t1) s1 s2) _ held store
    where
      on : (a b : ℕ) (u v : List ℕ) → a ≡ b → u ≡ v
          → goes_after a u t2 s2 (held_of frame a u) ≡ goes_after b v (taken_of frame k st (p ++ q)) (p ++ q) (held_of frame b v)
      on a b u v e f = ap₂ (λ i j. goes_after i j t2 s2 (held_of frame i j)) e f ∙ rests (held_of frame b v)
        where
          rests : (x : Result Holding Refusal) → goes_after b v t2 s2 x ≡ goes_after b v (taken_of frame k st (p ++ q)) (p ++ q) x
          rests (Ok (Holding'.Needs j)) = refl
          rests (Err j) = refl
          rests (Ok (Holding'.Whole w t)) = ap (λ r. take w v before frames_of (length v) r) rest_both

-- where nothing more is needed, the held bytes decide
from_settled : (k : ℕ) (st s : List ℕ) (x : Result Holding Refusal) → held_of frame k st ≡ x → need_of x ≡ 0 → frames_from k st s ≡ goes_after k st 0 s x
unfolding frames_from
from_settled k st s x e z =
    let none : taken_of frame k st s ≡ 0 = taken_none frame frame-law k st s (ap need_of e ∙ z) in
    ap (λ n. goes_after (k + n) (paste st k s n) n s (held_of frame (k + n) (paste st k s n))) none
    ∙ ap₂ (λ i j. goes_after i j 0 s (held_of frame i j)) (add-zero k) (sym (paste-zero st k s))
    ∙ ap (goes_after k st 0 s) e

-- ---- the reading is the frames of the stream

module _ (k : ℕ) (st p q : List ℕ) (x : Framed) (st1 : List ℕ) (f : Framing k st p x st1) where
  -- from what a piece left, the rest gives the frames of both
  from-after : frames_from x.state.held st1 (drop x.taken p ++ q) ≡ frames_from k st (p ++ q)
  from-after = ap₂ (λ i j. frames_from i j (drop x.taken p ++ q)) f.held f.store ∙ ap (λ n. frames_from (held_after frame k st p) (store_after frame k st p) (drop n p ++ q)) f.taken ∙ from-both k st p q

  from-stage : (y : Result Holding Refusal) → held_of frame (held_after frame k st p) (store_after frame k st p) ≡ y → need_of y ≡ 0
      → goes_after x.state.held st1 0 (drop x.taken p ++ q) y ≡ frames_from k st (p ++ q)
  from-stage y e z = sym (from_settled x.state.held st1 _ y (held_after_lem k st p x st1 f ∙ e) z) ∙ from-after

-- WHAT THE CALLER IS HANDED, from any state
pub reading_from : {k : ℕ} {st s : List ℕ} {r : Frames} {c : ℕ} → Reading k st s r c → r ≡ frames_from k st s
unfolding frames_from
reading_from (over {k} {st} {x} {st1} {n} f e) =
    ap₂ (λ i j. record { whole = []; left = take i j; ends = Ok (Holding'.Needs n) }) f.held f.store
    ∙ sym (ap (goes_after (held_after frame k st []) (store_after frame k st []) (taken_of frame k st []) []) (after_needs k st [] x st1 f n e))
reading_from (more {k} {st} {p} {x} {st1} q f e g) = reading_from g ∙ from-after k st p q x st1 f
reading_from (whole {k} {st} {p} {x} {st1} {w} {t} q f e g) =
    ap (λ r. take w st1 before r) (reading_from g ∙ from_start st1 _) ∙ from-stage k st p q x st1 f (Ok (Holding'.Whole w t)) (after_frame k st p x st1 f w t e) refl
reading_from (refused {k} {st} {p} {x} {st1} {e} q f i) = from-stage k st p q x st1 f (Err e) (after-refused k st p x st1 f e i) refl

-- ANY CUTTING gives the frames of the whole stream, and ends as it does
pub any_cutting : {st s : List ℕ} {r : Frames} {c : ℕ} → Reading 0 st s r c → r ≡ frames_of (length st) s
any_cutting {st} {s} g = reading_from g ∙ from_start st s

-- ---- the same bytes are taken

-- the bytes of frames and what is left
unfoldable pub joined : List (List ℕ) → List ℕ
joined [] = []
joined (f ∷ fs) = f ++ joined fs

abbrev pub bytes_of : Frames → List ℕ
bytes_of r = joined r.whole ++ r.left

bytes-before : (f : List ℕ) (r : Frames) → bytes_of (f before r) ≡ f ++ bytes_of r
unfolding joined
bytes-before f r = append_assoc f (joined r.whole) r.left

module _ (k : ℕ) (st p : List ℕ) (x : Framed) (st1 : List ℕ) (f : Framing k st p x st1) (h : k ≤ length st) where
  held-inside : (x.state.held ≡ k + x.taken) × (x.state.held ≤ length st1)
  held-inside =
      let n : length st1 ≡ length st = ap length f.store ∙ after-length frame frame-law k st p in
      (omega (arith, f.held, f.taken), omega (arith, f.held, taken-fits frame frame-law k st p))

  left-length : (y : Result Holding Refusal) → length (bytes_of (record { whole = []; left = take x.state.held st1; ends = y })) ≡ x.taken + k
  unfolding joined
  left-length y = length-take-le x.state.held st1 held-inside.1 ∙ omega (arith, held-inside.0)

-- THE BYTES TAKEN, with those held before, are the frames' and what is left
pub reading_bytes : {k : ℕ} {st s : List ℕ} {r : Frames} {c : ℕ} → Reading k st s r c → k ≤ length st → length (bytes_of r) ≡ c + k
reading_bytes (over {k} {st} {x} {st1} {n} f e) h = left-length k st [] x st1 f h (Ok (Holding'.Needs n))
reading_bytes (more {k} {st} {p} {x} {st1} q f e g) h =
    let i = held-inside k st p x st1 f h in
    reading_bytes g i.1 ∙ omega (arith, i.0)
reading_bytes (whole {k} {st} {p} {x} {st1} {w} {t} {r} {c} q f e g) h =
    let i = held-inside k st p x st1 f h in
    let v = is_whole frame frame-law x.state.held st1 w t (held_after_lem k st p x st1 f ∙ after_frame k st p x st1 f w t e) in
    let m : x.state.held ≡ w = v.sum in
    let a : length (take w st1) ≡ w = length-take-le w st1 v.room in
    let b : length (bytes_of r) ≡ c + 0 = reading_bytes g zero-le in
    ap length (bytes-before (take w st1) r) ∙ length-append (take w st1) (bytes_of r) ∙ omega (arith, i.0)
reading_bytes (refused {k} {st} {p} {x} {st1} {e} q f i) h = left-length k st p x st1 f h (Err e)

take-taken : (m : ℕ) (s : List ℕ) → take m s ≡ take (length (take m s)) s
take-taken m s =
    by_le m (length s)
    (λ h. ap (λ n. take n s) (sym (length-take-le m s h)))
    (λ h.
    let all : take m s ≡ s = take_all m s (omega arith) in
    all ∙ sym (take_all (length (take m s)) s (omega (arith, ap length all))))

-- those bytes are the front of the stream, in its order
pub frames-front : (m n : ℕ) (s : List ℕ) → bytes_of (frames_in m n s) ≡ take (length (bytes_of (frames_in m n s))) s
unfolding frames_in joined
frames-front zero n s = sym (take_all (length s) s (le_refl (length s)))
frames-front (suc m) n s = go (frames-front m n) (first_of n s) refl
  where
    go : ((r : List ℕ) → bytes_of (frames_in m n r) ≡ take (length (bytes_of (frames_in m n r))) r) → (x : Result Holding Refusal) → first_of n s ≡ x
        → bytes_of (goes_on n s (frames_in m n) (first_of n s)) ≡ take (length (bytes_of (goes_on n s (frames_in m n) (first_of n s)))) s
    go again (Ok (Holding'.Needs j)) e = rw e (sym (take_all (length s) s (le_refl (length s))))
    go again (Err j) e = rw e (take-taken (refused_at n) s)
    go again (Ok (Holding'.Whole w t)) e =
        let (long, there, _) = first-whole n s w t e in
        let r = frames_in m n (drop w s) in
        let a : length (take w s ++ bytes_of r) ≡ w + length (bytes_of r) = length-append (take w s) (bytes_of r) ∙ ap (λ i. i + length (bytes_of r)) (length-take-le w s there) in
        rw (e, bytes-before (take w s) r)
        (ap (λ b. take w s ++ b) (again (drop w s)) ∙ sym (take-add w (length (bytes_of r)) s) ∙ ap (λ i. take i s) (sym a))

-- ANY CUTTING TAKES THE SAME BYTES: the front of the stream, as many as its frames and what is left have
pub same_bytes : {st s : List ℕ} {r : Frames} {c : ℕ} → Reading 0 st s r c
    → (c ≡ length (bytes_of (frames_of (length st) s))) × (bytes_of (frames_of (length st) s) ≡ take c s)
unfolding frames_of
same_bytes {st} {s} {r} {c} g =
    let b : length (bytes_of r) ≡ c + 0 = reading_bytes g zero-le in
    let n : c ≡ length (bytes_of (frames_of (length st) s)) = sym (add-zero c) ∙ sym b ∙ ap (λ i. length (bytes_of i)) (any_cutting g) in
    (n, frames-front (suc (length s)) (length st) s ∙ ap (λ i. take i s) (sym n))
