-- Laws of stores: what is written one after the other is written at once, and what a part that is lent is filled with stands in the whole.
-- Assumes nothing.
use Rattle.std.specs.Prelude.{ℕ, ◌+◌, ◌-◌, ◌≤◌, ◌≡◌, refl, Bool, true, false, List, [], ◌++◌, length, take, drop, leb}
use Rattle.std.proofs.Common.{add-zero, zero-add, add_assoc, arith, sym, ap, ◌∙◌, ap₂, append_assoc, append-nil, length-append, length-take, length-drop, take-append-drop, drop_of_length-le, length-take-le, take_at, drop_at, take-take, drop-drop, take_all, leb-true, le-leb}
use Rattle.std.proofs.Math.Seq.{take-append_seam}
use Rattle.std.proofs.lemmas.List.{take-append-le}
use Rattle.put.specs.Output.{put, RoomFor, Wrote, Filled, Stored}

put-nil : (at : ℕ) (o : List ℕ) → put at [] o ≡ o
unfolding put
put-nil at o = rw (add-zero, take-append-drop)

put-length : (at : ℕ) (bs o : List ℕ) → at + length bs ≤ length o → length (put at bs o) ≡ length o
unfolding put
put-length at bs o h = simp (length-append, length-take, length-drop) (omega arith)

-- past a first part of n elements
drop-front : (a o : List ℕ) (n m : ℕ) → length a ≡ n → drop (n + m) (a ++ drop n o) ≡ drop (n + m) o
drop-front a o n m e = sym (drop-drop m n (a ++ drop n o)) ∙ ap (λ (l : List ℕ). drop m l) (drop_at a (drop n o) n e) ∙ drop-drop m n o

-- what comes next is stored after what is there
put-put : (at : ℕ) (xs ys o : List ℕ) → at ≤ length o → put (at + length xs) ys (put at xs o) ≡ put at (xs ++ ys) o
unfolding put
put-put at xs ys o h =
    let front : length (take at o ++ xs) ≡ at + length xs = length-append (take at o) xs ∙ ap (λ (k : ℕ). k + length xs) (length-take-le at o h) in
    rw (← append_assoc (take at o) xs (drop (at + length xs) o), take_at (take at o ++ xs) (drop (at + length xs) o) (at + length xs) front, drop-front (take at o ++ xs) o (at + length xs) (length ys) front)
    (simp (append_assoc, length-append, add_assoc))

-- what comes before is stored after what follows it
put-before : (at : ℕ) (xs ys o : List ℕ) → at + length xs ≤ length o → put at xs (put (at + length xs) ys o) ≡ put at (xs ++ ys) o
unfolding put
put-before at xs ys o h =
    let n : length (take (at + length xs) o) ≡ at + length xs = length-take-le (at + length xs) o h in
    let k : at ≤ length (take (at + length xs) o) = omega arith in
    let m : at ≤ at + length xs = omega arith in
    rw (take-append-le at (take (at + length xs) o), take-take at (at + length xs) o, drop_at (take (at + length xs) o) (ys ++ drop (at + length xs + length ys) o) (at + length xs) n)
    (simp (append_assoc, length-append, add_assoc))

-- before and after what is stored nothing changes
put-take : (a m : ℕ) (bs o : List ℕ) → m ≤ a → a ≤ length o → take m (put a bs o) ≡ take m o
unfolding put
put-take a m bs o h g =
    let k : m ≤ length (take a o) = omega (arith, h, length-take-le a o g) in
    rw (take-append-le m (take a o), take-take m a o)

put-drop : (a : ℕ) (bs o : List ℕ) → a ≤ length o → drop (a + length bs) (put a bs o) ≡ drop (a + length bs) o
unfolding put
put-drop a bs o h =
    let front : length (take a o ++ bs) ≡ a + length bs = length-append (take a o) bs ∙ ap (λ (k : ℕ). k + length bs) (length-take-le a o h) in
    rw (← append_assoc (take a o) bs (drop (a + length bs) o)) (drop_at (take a o ++ bs) (drop (a + length bs) o) (a + length bs) front)

-- what stood where bs is stored does not count
put_same : (a : ℕ) (bs o o' : List ℕ) → take a o ≡ take a o' → drop (a + length bs) o ≡ drop (a + length bs) o' → put a bs o ≡ put a bs o'
unfolding put
put_same a bs o o' e f = rw (e, f)

-- a part from a on is lent, and comes back
put_lent : (a : ℕ) (bs o : List ℕ) → a ≤ length o → take a o ++ (bs ++ drop (length bs) (drop a o)) ≡ put a bs o
unfolding put
put_lent a bs o h = rw drop-drop

-- ---- what is written

pub wrote-length : {at : ℕ} {bs o o' : List ℕ} {r : ℕ} → Wrote at bs o o' r → length o' ≡ length o
wrote-length {at} {bs} {o} w = ap length w.bytes ∙ put-length at bs o w.room

pub wrote-is : {at : ℕ} {xs ys o o' : List ℕ} {a : ℕ} → Wrote at xs o o' a → xs ≡ ys → Wrote at ys o o' a
wrote-is w e = rw e at w

-- what was stored stands there
pub wrote-part : {at : ℕ} {bs o o' : List ℕ} {r : ℕ} → Wrote at bs o o' r → take (r - at) (drop at o') ≡ bs
unfolding put
wrote-part {at} {bs} {o} {r = r} w =
    let n : r - at ≡ length bs = omega (arith, w.next) in
    let h : length (take at o) ≡ at = length-take-le at o (omega (arith, w.room)) in
    ap₂ (λ m (l : List ℕ). take m l) n (ap (λ (l : List ℕ). drop at l) w.bytes ∙ drop_at (take at o) (bs ++ drop (at + length bs) o) at h) ∙ take-append_seam bs (drop (at + length bs) o)

-- one after the other
pub wrote_then : {at : ℕ} {xs ys o o' o'' : List ℕ} {a b : ℕ} → Wrote at xs o o' a → Wrote a ys o' o'' b → Wrote at (xs ++ ys) o o'' b
wrote_then {at} {xs} {ys} {o} {o'} v w =
    let n : length (xs ++ ys) ≡ length xs + length ys = length-append xs ys in
    let k : length o' ≡ length o = wrote-length v in
    let h : at ≤ length o = omega (arith, v.room) in
    record {
      room = omega (arith, v.next, w.room);
      next = omega (arith, v.next, w.next);
      bytes = w.bytes ∙ rw (v.next, v.bytes, put-put at xs ys o h);
    }

-- ---- what is stored where there is room

pub room-front : {bs o : List ℕ} → length bs ≤ length o → RoomFor 0 bs o
room-front h = record { fits = omega (arith, h) }

pub stored_wrote : {at : ℕ} {bs o o' : List ℕ} {r : ℕ} → RoomFor at bs o → Stored at bs o o' r → Wrote at bs o o' r
stored_wrote {at} {bs} {o} h s =
    let t = le-leb (at + length bs) (length o) h.fits in
    record { room = h.fits; next = rw t at s.next; bytes = rw t at s.bytes }

pub wrote_stored : {at : ℕ} {bs o o' : List ℕ} {r : ℕ} → Wrote at bs o o' r → Stored at bs o o' r
wrote_stored {at} {bs} {o} w =
    let t = le-leb (at + length bs) (length o) w.room in
    record { next = rw t w.next; bytes = rw t w.bytes }

pub stored_is : {at : ℕ} {xs ys o o' : List ℕ} {r : ℕ} → Stored at xs o o' r → xs ≡ ys → Stored at ys o o' r
stored_is s e = rw e at s

-- what stands before is stored last
pub stored_before : {at : ℕ} {xs ys o o' o'' : List ℕ} {a b : ℕ} → Wrote (at + length xs) ys o o' b → Stored at xs o' o'' a → Wrote at (xs ++ ys) o o'' b
stored_before {at} {xs} {ys} {o} v s =
    let n : length (xs ++ ys) ≡ length xs + length ys = length-append xs ys in
    let h : at + length xs ≤ length o = omega (arith, v.room) in
    let w = stored_wrote (record { fits = omega (arith, h, wrote-length v) }) s in
    record {
      room = omega (arith, v.room);
      next = omega (arith, v.next);
      bytes = w.bytes ∙ rw (v.bytes, put-before at xs ys o h);
    }

-- by a test of the n bytes that bs has
pub room-told : {at n : ℕ} {bs o : List ℕ} → length bs ≡ n → leb (at + n) (length o) ≡ true → RoomFor at bs o
room-told {at} {n} {bs} {o} l e = record { fits = omega (arith, l, leb-true (at + n) (length o) e) }

-- where there is no room all stays
pub stored_short : {at n : ℕ} {bs o : List ℕ} → length bs ≡ n → leb (at + n) (length o) ≡ false → Stored at bs o o at
stored_short l e = record { next = rw (l, e); bytes = rw (l, e) }

-- no bytes change nothing
pub stored_none : (at : ℕ) (o : List ℕ) → Stored at [] o o at
stored_none at o = go (leb (at + 0) (length o)) refl
  where
    go : (b : Bool) → leb (at + 0) (length o) ≡ b → Stored at [] o o at
    go true e = record { next = rw (e, add-zero); bytes = rw (e, put-nil at o) }
    go false e = stored_short {n = 0} refl e

-- ---- what is still to be written

-- Of bs₀, which is to stand in o₀ from `at`, the rest is bs: it is still to be written, from a, into o.
pub record Left (at : ℕ) (bs₀ o₀ : List ℕ) (a : ℕ) (bs o : List ℕ) : Type 0 where
  pub room : at + length bs₀ ≤ length o₀
  pub ends : a + length bs ≡ at + length bs₀
  pub long : length o ≡ length o₀
  pub bytes : put a bs o ≡ put at bs₀ o₀

pub left-start : {at : ℕ} {bs o : List ℕ} → RoomFor at bs o → Left at bs o at bs o
left-start h = record { room = h.fits; ends = refl; long = refl; bytes = refl }

pub left-on : {at : ℕ} {bs₀ o₀ : List ℕ} {b : ℕ} {bs₁ o₁ : List ℕ} {a : ℕ} {bs o : List ℕ} → Left at bs₀ o₀ b bs₁ o₁ → Left b bs₁ o₁ a bs o → Left at bs₀ o₀ a bs o
left-on l m = record { room = l.room; ends = m.ends ∙ l.ends; long = m.long ∙ l.long; bytes = m.bytes ∙ l.bytes }

module _ {at : ℕ} {bs₀ o₀ : List ℕ} {a : ℕ} {bs o : List ℕ} (l : Left at bs₀ o₀ a bs o) where
  -- there is room for what comes first
  pub left-room : {xs : List ℕ} (ys : List ℕ) → bs ≡ xs ++ ys → RoomFor a xs o
  left-room {xs} ys e =
      let n : length bs ≡ length xs + length ys = ap length e ∙ length-append xs ys in
      record { fits = omega (arith, l.room, l.ends, l.long) }

  -- xs has been written
  pub left_step : {xs ys o' : List ℕ} {a' : ℕ} → bs ≡ xs ++ ys → Wrote a xs o o' a' → Left at bs₀ o₀ a' ys o'
  left_step {xs} {ys} e w =
      let n : length bs ≡ length xs + length ys = ap length e ∙ length-append xs ys in
      let h : a ≤ length o = omega (arith, w.room) in
      record {
        room = l.room;
        ends = omega (arith, l.ends, w.next);
        long = wrote-length w ∙ l.long;
        bytes = rw (w.next, w.bytes, put-put a xs ys o h, ← e) l.bytes;
      }

  -- xs has been stored
  pub left_stored : {xs o' : List ℕ} {a' : ℕ} (ys : List ℕ) → bs ≡ xs ++ ys → Stored a xs o o' a' → Left at bs₀ o₀ a' ys o'
  left_stored ys e s = left_step e (stored_wrote (left-room ys e) s)

  -- nothing is left
  pub left-done : bs ≡ [] → Wrote at bs₀ o₀ o a
  left-done e =
      let n : length bs ≡ 0 = ap length e in
      record { room = l.room; next = omega (arith, l.ends); bytes = sym (put-nil a o) ∙ (rw e at l.bytes) }

  -- what comes from place k of bs₀ on is written, over some that is there
  pub left_over : {o' : List ℕ} {r : ℕ} (k : ℕ) → k ≤ length bs₀ → at + k ≤ a → Wrote (at + k) (drop k bs₀) o o' r → Wrote at bs₀ o₀ o' r
  left_over k q h w =
      let d = drop k bs₀ in
      let p = put at (take k bs₀) o₀ in
      let n : length d ≡ length bs₀ - k = length-drop k bs₀ in
      let t : length (take k bs₀) ≡ k = length-take-le k bs₀ q in
      let g : at ≤ length o₀ = omega (arith, l.room) in
      let u : a ≤ length o = omega (arith, l.room, l.ends, l.long) in
      let v : at + k ≤ length p = omega (arith, l.room, put-length at (take k bs₀) o₀ (omega (arith, l.room))) in
      let x : a + length bs ≡ at + k + length d = omega (arith, l.ends) in
      let e : put (at + k) d p ≡ put at bs₀ o₀ = (rw t at (put-put at (take k bs₀) d o₀ g)) ∙ ap (λ (b : List ℕ). put at b o₀) (take-append-drop k bs₀) in
      let i : put a bs o ≡ put (at + k) d p = l.bytes ∙ sym e in
      let front : take (at + k) o ≡ take (at + k) p = sym (put-take a (at + k) bs o h u) ∙ ap (take (at + k)) i ∙ put-take (at + k) (at + k) d p (omega arith) v in
      let back : drop (at + k + length d) o ≡ drop (at + k + length d) p = sym (rw x at (put-drop a bs o u)) ∙ ap (drop (at + k + length d)) i ∙ put-drop (at + k) d p v in
      record {
        room = l.room;
        next = omega (arith, w.next);
        bytes = w.bytes ∙ put_same (at + k) d o p front back ∙ e;
      }

  -- all that is left is written at once
  pub left-all : RoomFor a bs o
  left-all = left-room [] (sym (append-nil bs))

pub left-rest : {at : ℕ} {bs₀ o₀ : List ℕ} {a : ℕ} {bs o o' : List ℕ} {r : ℕ} → Left at bs₀ o₀ a bs o → Wrote a bs o o' r → Wrote at bs₀ o₀ o' r
left-rest {bs = bs} l w = left-done (left_step l (sym (append-nil bs)) w) refl

pub left-last : {at : ℕ} {bs₀ o₀ : List ℕ} {a : ℕ} {bs o o' : List ℕ} {r : ℕ} → Left at bs₀ o₀ a bs o → Stored a bs o o' r → Wrote at bs₀ o₀ o' r
left-last l s = left-rest l (stored_wrote (left-all l) s)

-- ---- a part that is lent

pub wrote-filled : {bs o o' : List ℕ} {r : ℕ} → Wrote 0 bs o o' r → Filled bs o o' r
unfolding put
wrote-filled {bs} {o} w =
    record { room = omega (arith, w.room); count = omega (arith, w.next); bytes = simp zero-add at w.bytes }

-- `&mut o[a..]` is lent to what fills it with bs, and comes back
pub lent_length : (a : ℕ) (o : List ℕ) → length (take (length o - a) (drop a o)) ≡ length o - a
lent_length a o = simp (length-take, length-drop) (omega arith)

pub lent_wrote : (a : ℕ) (o : List ℕ) {bs p : List ℕ} {n : ℕ} → a ≤ length o → Filled bs (take (length o - a) (drop a o)) p n → Wrote a bs o (take a o ++ (p ++ drop (length o - a) (drop a o))) (a + n)
lent_wrote a o {bs} h w =
    let k : length (drop a o) ≤ length o - a = simp length-drop (omega arith) in
    record {
      room = omega (arith, w.room, lent_length a o);
      next = ap (λ (j : ℕ). a + j) w.count;
      bytes = rw (w.bytes, drop_of_length-le (drop a o) k, append-nil, take_all (length o - a) (drop a o) k, put_lent a bs o h);
    }
