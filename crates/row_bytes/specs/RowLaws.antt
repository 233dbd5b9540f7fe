-- What a row that can be stored says, how many bytes it has, and what storing it comes to. Assumes nothing.
use Rattle.std.specs.Prelude.{ℕ, ◌+◌, ◌-◌, ◌≤◌, ◌<◌, ◌≡◌, refl, true, false, ◌&&◌, List, length, take, drop, leb, ltb}
use Rattle.std.proofs.Common.{arith, sym, ap, subst, ◌∙◌, length-append, length-take}
use borrow.Author.Tests.{leb-true, ltb-true, le-leb, lt-leb, lt-ltb, eq-eqb, ne_eqb}
use Rattle.codec.specs.Codec.{little}
use Rattle.codec.specs.CaseLaws.{both_true, by_eqb}
use Rattle.codec.proofs.Laws.{length-little}
use Rattle.dates.specs.Day.{date_of_day}
use Rattle.put.specs.Output.{RoomFor, Wrote, Stored}
use Rattle.put.specs.OutputLaws.{Left, left-start, left-room, left_step, left_stored, left-last, room-told, wrote_stored, stored_is, stored_short, stored_none}
use Rattle.columns_check.specs.Tree.{kind_of, start_of, len_of, x_of, y_of, text_of, filled}
use Rattle.columns_check.specs.Check.{is_day}
use Rattle.columns_check.specs.FilledLaws.{filled-length}
use Rattle.columns_check.specs.FitLaws.{Good, text-is}
use Rattle.columns_check.specs.PrintLaws.{printed_row, list-row, mapping-row, interval-row}
use Rattle.row_bytes.specs.Row.{row_stands, more_of, row_bytes}

-- ---- which row can be stored

-- its text is there, and no wider than the width; of a kind that there is; an interval's days are days
pub record Standing (width : ℕ) (t text : List ℕ) (r : ℕ) : Type 0 where
  pub span : start_of t r + len_of t r ≤ length text
  pub narrow : len_of t r ≤ width
  pub kind : kind_of t r ≤ 4
  pub from : kind_of t r ≡ 4 → x_of t r ≤ 3652424
  pub to : kind_of t r ≡ 4 → y_of t r ≤ 3652424

module _ (width : ℕ) (t text : List ℕ) (r : ℕ) where
  -- by the test
  pub standing : row_stands width t text r ≡ true → Standing width t text r
  unfolding row_stands
  standing e =
      let (a, b) = both_true (leb (start_of t r + len_of t r) (length text)) _ e in
      let (c, d) = both_true (leb (len_of t r) width) _ b in
      by_eqb (kind_of t r) 4
      (λ k y. let (f, g) = both_true (is_day (x_of t r)) (is_day (y_of t r)) (rw k at d) in record {
        span = leb-true (start_of t r + len_of t r) (length text) a;
        narrow = leb-true (len_of t r) width c;
        kind = omega (arith, y);
        from = λ _. leb-true (x_of t r) 3652424 f;
        to = λ _. leb-true (y_of t r) 3652424 g;
      })
      (λ k n. let l = ltb-true (kind_of t r) 4 (rw k at d) in record {
        span = leb-true (start_of t r + len_of t r) (length text) a;
        narrow = leb-true (len_of t r) width c;
        kind = omega (arith, l);
        from = λ y. absurd (n y);
        to = λ y. absurd (n y);
      })

  -- a text that is not there, or too wide
  pub outside : length text < start_of t r + len_of t r → row_stands width t text r ≡ false
  unfolding row_stands
  outside h = rw (lt-leb (start_of t r + len_of t r) (length text) h)

  module _ (s : start_of t r + len_of t r ≤ length text) where
    pub wide : width < len_of t r → row_stands width t text r ≡ false
    unfolding row_stands
    wide h = rw (le-leb (start_of t r + len_of t r) (length text) s, lt-leb (len_of t r) width h)

    -- by the kind
    module _ (n : len_of t r ≤ width) where
      pub stands-interval : kind_of t r ≡ 4 → (is_day (x_of t r) && is_day (y_of t r)) ≡ row_stands width t text r
      unfolding row_stands
      stands-interval k = rw (le-leb (start_of t r + len_of t r) (length text) s, le-leb (len_of t r) width n, eq-eqb (kind_of t r) 4 k)

      pub stands-other : (kind_of t r ≡ 4 → ⊥) → ltb (kind_of t r) 4 ≡ row_stands width t text r
      unfolding row_stands
      stands-other k = rw (le-leb (start_of t r + len_of t r) (length text) s, le-leb (len_of t r) width n, ne_eqb (kind_of t r) 4 k)

  -- a good row of a kind that there is
  pub good-stands : Good width t text r → kind_of t r ≤ 4 → row_stands width t text r ≡ true
  good-stands g k =
      by_eqb (kind_of t r) 4
      (λ _ y. sym (stands-interval g.0.span g.1 y) ∙ rw (le-leb (x_of t r) 3652424 (g.0.from y), le-leb (y_of t r) 3652424 (g.0.to y)))
      (λ _ n. sym (stands-other g.0.span g.1 n) ∙ lt-ltb (kind_of t r) 4 (omega (arith, n)))

-- ---- how many bytes it has

-- by its kind
pub more-interval : (kind : ℕ) → kind ≡ 4 → more_of kind ≡ 8
unfolding more_of
more-interval kind e = rw e

pub more-mapping : (kind : ℕ) → kind ≡ 3 → more_of kind ≡ 4
unfolding more_of
more-mapping kind e = rw e

pub more-list : (kind : ℕ) → (kind ≡ 4 → ⊥) → (kind ≡ 3 → ⊥) → more_of kind ≡ 0
unfolding more_of
more-list kind e f = rw (ne_eqb kind 4 e, ne_eqb kind 3 f)

module _ {width : ℕ} {t text : List ℕ} {r : ℕ} (s : Standing width t text r) where
  text-short : length (text_of t text r) ≤ width
  text-short = omega (arith, ap length (text-is t text r), length-take (len_of t r) (drop (start_of t r) text), s.narrow)

  text-filled : length (filled width (text_of t text r)) ≡ width
  text-filled = filled-length width (text_of t text r) text-short

  pub row-length : length (printed_row width t text r) ≡ width + more_of (kind_of t r)
  row-length =
      by_eqb (kind_of t r) 4
      (λ _ k. rw (more-interval (kind_of t r) k) (ap length (interval-row width t text r k) ∙ simp (length-append, length-little) (omega (arith, text-filled))))
      (λ _ n. by_eqb (kind_of t r) 3
      (λ _ k. rw (more-mapping (kind_of t r) k) (ap length (mapping-row width t text r k) ∙ simp (length-append, length-little) (omega (arith, text-filled))))
      (λ _ m. rw (more-list (kind_of t r) n m) (ap length (list-row width t text r (omega (arith, s.kind, n, m))) ∙ omega (arith, text-filled))))

-- ---- what storing it comes to

module _ (width : ℕ) (t text : List ℕ) (r : ℕ) where
  pub row-refused : (at : ℕ) (o : List ℕ) → row_stands width t text r ≡ false → Stored at (row_bytes width t text r) o o at
  unfolding row_bytes
  row-refused at o e = rw e (stored_none at o)

  module _ (e : row_stands width t text r ≡ true) where
    row-bytes : row_bytes width t text r ≡ printed_row width t text r
    unfolding row_bytes
    row-bytes = rw e

    -- there is room
    pub row_room : {at : ℕ} {o : List ℕ} → leb (at + (width + more_of (kind_of t r))) (length o) ≡ true → RoomFor at (printed_row width t text r) o
    row_room h = room-told (row-length (standing width t text r e)) h

    -- or not
    pub row-short : {at : ℕ} {o : List ℕ} → leb (at + (width + more_of (kind_of t r))) (length o) ≡ false → Stored at (row_bytes width t text r) o o at
    row-short h = stored_short (ap length row-bytes ∙ row-length (standing width t text r e)) h

    -- it is written
    pub row_written : {at : ℕ} {o o' : List ℕ} {a : ℕ} → Wrote at (printed_row width t text r) o o' a → Stored at (row_bytes width t text r) o o' a
    row_written w = stored_is (wrote_stored w) (sym row-bytes)

    -- what is stored are its bytes
    pub row_stored : {at : ℕ} {o o' : List ℕ} {a : ℕ} → Stored at (row_bytes width t text r) o o' a → Stored at (printed_row width t text r) o o' a
    row_stored s = stored_is s row-bytes

-- ---- its parts, as they are stored

module _ (width : ℕ) (t text : List ℕ) (r : ℕ) {at : ℕ} {o : List ℕ} (h : RoomFor at (printed_row width t text r) o) where
  -- an interval's dates are stored: its text is left
  pub interval-left : {x y a b : ℕ} {p q : List ℕ} → kind_of t r ≡ 4 → x ≡ date_of_day (x_of t r) → y ≡ date_of_day (y_of t r) → Stored at (little 4 x) o p a → Stored a (little 4 y) p q b
      → Left at (printed_row width t text r) o b (filled width (text_of t text r)) q
  interval-left k e f v w = left_stored (left_stored (left-start h) _ (interval-row width t text r k) (rw e at v)) _ refl (rw f at w)

  -- of any other row the text comes first
  pub other-room : kind_of t r ≤ 4 → (kind_of t r ≡ 4 → ⊥) → RoomFor at (filled width (text_of t text r)) o
  other-room k n =
      by_eqb (kind_of t r) 3
      (λ _ e. left-room (left-start h) (little 4 (x_of t r)) (mapping-row width t text r e))
      (λ _ m. subst (λ (bs : List ℕ). RoomFor at bs o) (list-row width t text r (omega arith)) h)

  -- then a mapping's count
  pub mapping-wrote : {x a b : ℕ} {p q : List ℕ} → kind_of t r ≡ 3 → x ≡ x_of t r → Wrote at (filled width (text_of t text r)) o p a → Stored a (little 4 x) p q b → Wrote at (printed_row width t text r) o q b
  mapping-wrote k e v w = left-last (left_step (left-start h) (mapping-row width t text r k) v) (rw e at w)

-- the part of the text that a row names
pub part-is : (t text : List ℕ) (r : ℕ) {s l : ℕ} → s ≡ start_of t r → l ≡ len_of t r → take (s + l - s) (drop s text) ≡ text_of t text r
part-is t text r {s} {l} a b = let k : s + l - s ≡ len_of t r = omega arith in rw (k, a) (sym (text-is t text r))

-- what storing it asks
pub text-ready : {width : ℕ} {t text : List ℕ} {r at : ℕ} {part o : List ℕ} → part ≡ text_of t text r → Standing width t text r → RoomFor at (filled width (text_of t text r)) o
    → (length part ≤ width) × RoomFor at (filled width part) o
text-ready e s h = (omega (arith, ap length e, text-short s), rw e h)
