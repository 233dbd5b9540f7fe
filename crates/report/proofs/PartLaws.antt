-- Parts stored one after the other, and what the lines and the report are made of.
-- Assumes nothing.
use Rattle.std.proofs.Common.{◌+◌}
use Prim.Native.Nat.{ℕ, suc, ◌-◌, ◌≤◌, ◌<◌}
use native.Mathlib.Omega.{arith}
use mathlib.Core.Path.{◌≡◌, refl, subst, ap₂}
use mathlib.Core.List.{List, [], ◌∷◌, ◌++◌, append-nil}
use lib.ListN.{length, get_or}
use borrow.Author.Tests.{eq-eqb, ne_eqb}
use Rattle.put.specs.Output.{RoomFor, Wrote, Stored}
use Rattle.put.specs.OutputLaws.{room-front, stored_wrote, Left, left-start, left-room, left_step, left-done}
use Rattle.report.specs.Report.{decimal, kind_line, accepted_word, refused_word, cut_word, rows_word, total_word, line, unless_none, refused_line, refused_lines, lines, report}
use Rattle.report.specs.ReportLaws.{report-length}

-- ---- parts stored one after the other

-- parts end on end
unfoldable pub joined : List (List ℕ) → List ℕ
joined [] = []
joined (x ∷ xs) = x ++ joined xs

-- of bs, which is to stand in o₀ from `at`, the parts xs are still to be written, from a, into o
pub record Parts (at : ℕ) (bs o₀ : List ℕ) (a : ℕ) (xs : List (List ℕ)) (o : List ℕ) : Type 0 where
  left : Left at bs o₀ a (joined xs) o

pub parts-start : {at : ℕ} {bs o : List ℕ} (xs : List (List ℕ)) → bs ≡ joined xs → RoomFor at bs o → Parts at bs o at xs o
parts-start {at} {bs} {o} xs e r = record { left = subst (λ (l : List ℕ). Left at bs o at l o) e (left-start r) }

module _ {at : ℕ} {bs o₀ : List ℕ} {a : ℕ} {x : List ℕ} {xs : List (List ℕ)} {o : List ℕ} (p : Parts at bs o₀ a (x ∷ xs) o) where
  -- there is room for the next part
  pub part_room : RoomFor a x o
  unfolding joined
  part_room = left-room p.left (joined xs) refl

  -- it has been written
  pub part-wrote : {o' : List ℕ} {a' : ℕ} → Wrote a x o o' a' → Parts at bs o₀ a' xs o'
  unfolding joined
  part-wrote w = record { left = left_step p.left refl w }

  -- it has been stored
  pub part_stored : {o' : List ℕ} {a' : ℕ} → Stored a x o o' a' → Parts at bs o₀ a' xs o'
  part_stored s = part-wrote (stored_wrote part_room s)

-- nothing is left
pub parts-done : {at : ℕ} {bs o₀ : List ℕ} {a : ℕ} {o : List ℕ} → Parts at bs o₀ a [] o → Wrote at bs o₀ o a
unfolding joined
parts-done p = left-done p.left refl

-- ---- what the lines and the report are made of

pub line-parts : (word : List ℕ) (n : ℕ) → line word n ≡ joined (word ∷ decimal n ∷ (10 ∷ []) ∷ [])
unfolding line joined
line-parts word n = refl

pub refused-parts : (c n : ℕ) → refused_line c n ≡ joined (refused_word ∷ decimal c ∷ line (32 ∷ []) n ∷ [])
unfolding refused_line joined
refused-parts c n = rw append-nil

pub report-parts : (c : List ℕ) →
    report c ≡
    joined (kind_line
    ∷ line accepted_word (get_or c 256 0)
    ∷ refused_lines (λ n. get_or c n 0) 0 256
    ∷ unless_none (get_or c 257 0) (line cut_word (get_or c 257 0))
    ∷ line rows_word (get_or c 258 0)
    ∷ line total_word (get_or c 259 0)
    ∷ [])
unfolding report lines joined
report-parts c = rw append-nil

-- the output is long enough for any report
pub report-room : (c o : List ℕ) → length o ≡ 16384 → RoomFor 0 (report c) o
report-room c o n = room-front (omega (arith, report-length c))

-- ---- a line that may be left out, and the refusal numbers

pub none_of : (n : ℕ) (l : List ℕ) → n ≡ 0 → unless_none n l ≡ []
none_of n l e = rw (eq-eqb n 0 e)

pub some_of : (n : ℕ) (l : List ℕ) → (n ≡ 0 → ⊥) → unless_none n l ≡ l
some_of n l d = rw (ne_eqb n 0 d)

pub room-is : {at : ℕ} {xs ys o : List ℕ} → RoomFor at xs o → xs ≡ ys → RoomFor at ys o
room-is r e = rw e at r

-- the next of the numbers from c on, of which there are m
numbers-next : (f : ℕ → ℕ) (c m k : ℕ) → m - c ≡ suc k → refused_lines f c (m - c) ≡ unless_none (f c) (refused_line c (f c)) ++ refused_lines f (c + 1) (m - (c + 1))
unfolding refused_lines
numbers-next f c m k h =
    let e : suc c ≡ c + 1 = omega arith in
    let q : k ≡ m - (c + 1) = omega arith in
    rw h (ap₂ (λ (i j : ℕ). unless_none (f c) (refused_line c (f c)) ++ refused_lines f i j) e q)

-- the lines of the numbers from c on are still to be written
module _ (f : ℕ → ℕ) (c m : ℕ) {at : ℕ} {bs o₀ : List ℕ} {a : ℕ} {o : List ℕ} (l : Left at bs o₀ a (refused_lines f c (m - c)) o) where
  pub number-room : c < m → RoomFor a (unless_none (f c) (refused_line c (f c))) o
  number-room p = left-room l (refused_lines f (c + 1) (m - (c + 1))) (numbers-next f c m (m - c - 1) (omega arith))

  pub number-wrote : {o' : List ℕ} {a' : ℕ} → c < m → Wrote a (unless_none (f c) (refused_line c (f c))) o o' a' → Left at bs o₀ a' (refused_lines f (c + 1) (m - (c + 1))) o'
  number-wrote p w = left_step l (numbers-next f c m (m - c - 1) (omega arith)) w

  pub numbers-done : m ≤ c → Wrote at bs o₀ o a
  unfolding refused_lines
  numbers-done h = let z : m - c ≡ 0 = omega arith in left-done l (rw z)
