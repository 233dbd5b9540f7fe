-- What edits do to the values of each way to build a format. Assumes nothing.
use Prim.Native.Nat.{ℕ, suc, ◌+◌, ◌-◌, ◌/◌, ◌^◌, ◌≤◌, ◌<◌}
use Rattle.std.proofs.Common.{add-zero, ◌∙◌, le-leb}
use native.Mathlib.Omega.{arith}
use Rattle.std.specs.Prelude.{◌≡◌, Bool, eqb}
use Rattle.std.proofs.Math.Path.{refl, sym, ap, ap₂, subst, subst₂, path_j}
use mathlib.Core.List.{List, [], ◌∷◌, ◌++◌}
use Rattle.std.proofs.Math.ListN.{length, length-append}
use Rattle.std.proofs.lemmas.Bool.{lt-leb}
use Rattle.codec.specs.Codec.{Codec, skip, padded, little, ◌then◌, ◌on◌, named, checked, judged, asks, placed, sized, times, times_print, TimesLegal, times_bare, times_locate, distinct, limited, boxed}
use Rattle.codec.proofs.Laws.{Law, length-little, length-bare, distinct-kept, distinct-all, room_back}
use Rattle.codec.specs.Edits.{Marked, kept, free, ◌and◌, box, bytes_of, Edit, put, Edited, Keeps, Shifts, Edits}

-- ---- what an edit puts in

-- before the first byte nothing
pub put-zero : {m m' : Marked} (e : Edit m m') → put e 0 ≡ 0
put-zero (Edit.keep x) = refl
put-zero (Edit.fill x y q b) = refl
put-zero (Edit.pair a a' b b' e f) =
    let z : 0 - length (bytes_of a) ≡ 0 = omega arith in
    rw (put-zero e, z, put-zero f)
put-zero (Edit.grow w own m m' r r' o e l b h) =
    let z : 0 - w ≡ 0 = omega arith in
    rw (z, put-zero e, lt-leb (w + length (bytes_of m ++ r)) 0 (omega arith))

-- before the end, all that the edited bytes are longer by
pub put_all : {m m' : Marked} (e : Edit m m') (n : ℕ) → length (bytes_of m) ≤ n → length (bytes_of m) + put e n ≡ length (bytes_of m')
put_all (Edit.keep x) n l = add-zero (length x)
put_all (Edit.fill x y q b) n l = add-zero (length x) ∙ sym q
put_all (Edit.pair a a' b b' e f) n l =
    let s = length-append (bytes_of a) (bytes_of b) in
    let s' = length-append (bytes_of a') (bytes_of b') in
    omega (arith, s, s', put_all e n (omega arith), put_all f (n - length (bytes_of a)) (omega arith))
put_all (Edit.grow w own m m' r r' o e l b h) n le =
    let s = length-append (little w (own + length (bytes_of m ++ r))) (bytes_of m ++ r) in
    let s' = length-append (little w (own + length (bytes_of m' ++ r'))) (bytes_of m' ++ r') in
    let t = length-append (bytes_of m) r in
    let t' = length-append (bytes_of m') r' in
    let i = length-little w (own + length (bytes_of m ++ r)) in
    let i' = length-little w (own + length (bytes_of m' ++ r')) in
    let end : w + length (bytes_of m ++ r) ≤ n = omega arith in
    rw (le-leb (w + length (bytes_of m ++ r)) n end) (omega (arith, put_all e (n - w) (omega arith)))

-- ---- bytes and numbers

-- a format whose bytes are all kept; k is any, here and below, where nothing is asked of it
module _ {A : Type 0} (c : Codec A) (k : ℕ) where
  pub keep-only : Keeps c (λ x. kept (c.print x))
  keep-only x m lg e = go m e
    where
      go : (m : Marked) → Edit (kept (c.print x)) m → Edited c (λ v. kept (c.print v)) x m
      go m (Edit.keep u) = record { value = x; is = refl; same = refl; legal = lg }

  -- of which nothing is said where it is moved
  unfoldable pub edits-kept : Edits c k
  edits-kept = record { marks = λ x. kept (c.print x); marked = λ x. refl; edited = keep-only; moves = λ f x y. Unit {0}; moved = λ f p q x y e lg same h. tt }

  -- without places: it stays
  unfoldable pub edits-still : ((x : A) → c.bare x ≡ x) → ((p : ℕ) (x : A) → c.locate p x ≡ x) → Edits c k
  edits-still whole still = record {
    marks = λ x. kept (c.print x);
    marked = λ x. refl;
    edited = keep-only;
    moves = λ f x y. y ≡ x;
    moved = λ f p q x y e lg same h. still q y ∙ sym (whole y) ∙ same ∙ whole x ∙ sym (still p x);
  }

unfoldable pub edits-skip : (k n j : ℕ) → Edits (skip k n) j
unfolding skip
edits-skip k n j = record { marks = λ x. free x; marked = λ x. refl; edited = go; moves = λ f x y. Unit {0}; moved = λ f p q x y e lg same h. tt }
  where
    go : Keeps (skip k n) free
    go x m lg (Edit.fill _ y l b) = record { value = y; is = refl; same = refl; legal = (l ∙ lg.0, b) }

unfoldable pub edits-padded : (k n m j : ℕ) → Edits (padded k n m) j
unfolding padded
edits-padded k n m j = record {
  marks = λ z. kept z.0 and free z.1;
  marked = λ z. refl;
  edited = go;
  moves = λ f x y. y.0 ≡ x.0;
  moved = λ f p q x y e lg same h. ap (λ z. z.0) same;
}
  where
    go : Keeps (padded k n m) (λ z. kept z.0 and free z.1)
    go z v lg (Edit.pair _ _ _ _ (Edit.keep _) (Edit.fill _ y l b)) = record { value = (z.0, y); is = refl; same = refl; legal = (lg.0, lg.1, l ∙ lg.2, b) }

-- ---- one after the other

-- where a place may stand at the very end of the first, something stands after it
module _ {A B : Type 0} (c : Codec A) (d : Codec B) {i k : ℕ} (E : Edits c i) (F : Edits d k) (one : i ≤ 1) (more : (y : B) → d.legal y → i ≤ length (d.print y) + k) where
  abbrev then-marks : A × B → Marked
  then-marks z = E.marks z.0 and F.marks z.1

  abbrev ThenMoves : (ℕ → ℕ) → A × B → A × B → Type 0
  ThenMoves f x y = E.moves f x.0 y.0 × F.moves f x.1 y.1

  pub then-edited : Keeps (c then d) then-marks
  unfolding ◌then◌
  then-edited z m lg (Edit.pair _ a' _ b' e f) =
      let x = E.edited z.0 a' lg.0 e in
      let y = F.edited z.1 b' lg.1 f in
      record {
        value = (x.value, y.value);
        is = ap₂ ◌and◌ x.is y.is;
        same = ap₂ (λ u v. (u, v)) x.same y.same;
        legal = (x.legal, y.legal);
      }

  pub then-moved : Shifts (c then d) then-marks k ThenMoves
  unfolding ◌then◌
  then-moved f p q x y (Edit.pair _ _ _ _ e1 e2) lg same h =
      let a : List ℕ = c.print x.0 in
      let b : List ℕ = d.print x.1 in
      let la : length (bytes_of (E.marks x.0)) ≡ length a = ap length (E.marked x.0) in
      let la' : length (bytes_of (E.marks y.0)) ≡ length (c.print y.0) = ap length (E.marked y.0) in
      let lab = length-append a b in (
        E.moved f p q x.0 y.0 e1 lg.0 (ap (λ z. z.0) same) (λ n l.
            let r : n < length (a ++ b) + k = omega (arith, more x.1 lg.1) in
            let z : n - length (bytes_of (E.marks x.0)) ≡ 0 = omega arith in
            h n r ∙ omega (arith, ap (put e2) z, put-zero e2)),
        F.moved f (p + length a) (q + length (c.print y.0)) x.1 y.1 e2 lg.1 (ap (λ z. z.1) same) (λ n l.
            let r : length a + n < length (a ++ b) + k = omega arith in
            let z : length a + n - length (bytes_of (E.marks x.0)) ≡ n = omega arith in
            let u : p + length a + n ≡ p + (length a + n) = omega arith in
            ap f u ∙ h (length a + n) r ∙ omega (arith, ap (put e2) z, put_all e1 (length a + n) (omega arith))),
      )

  unfoldable pub edits-then : Edits (c then d) k
  unfolding ◌then◌
  edits-then = record { marks = then-marks; marked = λ z. ap₂ ◌++◌ (E.marked z.0) (F.marked z.1); edited = then-edited; moves = ThenMoves; moved = then-moved }

-- what follows may depend on what was read, places and skipped bytes apart. Nothing is said of the places
module _ {A B : Type 0} (c : Codec A) (d : A → Codec B) {i j : ℕ} (E : Edits c i) (F : (x : A) → Edits (d x) j)
    (same : (x y : A) → c.bare x ≡ c.bare y → ◌≡◌ {A = (g : Codec B) × Edits g j} (d x, F x) (d y, F y)) (k : ℕ) where
  abbrev on-marks : A × B → Marked
  on-marks z = E.marks z.0 and (F z.0).marks z.1

  pub on-edited : Keeps (c on d) on-marks
  unfolding ◌on◌
  on-edited z m lg (Edit.pair _ a' _ b' e f) =
      let x = E.edited z.0 a' lg.0 e in
      let y = (F z.0).edited z.1 b' lg.1 f in
      let q = same z.0 x.value (sym x.same) in
      record {
        value = (x.value, y.value);
        is = ap₂ ◌and◌ x.is (subst (λ (g : (g : Codec B) × Edits g j). g.1.marks y.value ≡ b') q y.is);
        same = ap₂ (λ u v. (u, v)) x.same (subst (λ (g : (g : Codec B) × Edits g j). g.0.bare y.value ≡ (d z.0).bare z.1) q y.same);
        legal = (x.legal, subst (λ (g : (g : Codec B) × Edits g j). g.0.legal y.value) q y.legal);
      }

  unfoldable pub edits-on : Edits (c on d) k
  unfolding ◌on◌
  edits-on = record { marks = on-marks; marked = λ z. ap₂ ◌++◌ (E.marked z.0) ((F z.0).marked z.1); edited = on-edited; moves = λ f x y. Unit {0}; moved = λ f p q x y e lg same h. tt }

-- ---- under another name, with a test, with a place

module _ {A : Type 0} (c : Codec A) {k : ℕ} (E : Edits c k) where
  unfoldable pub edits-named : {B : Type 0} (to : A → B) (from : B → A) → ((x : A) → from (to x) ≡ x) → Edits (named to from c) k
  unfolding named
  edits-named to from same = record {
    marks = λ y. E.marks (from y);
    marked = λ y. E.marked (from y);
    edited = λ y m lg e.
        let x = E.edited (from y) m lg e in
        let q = same x.value in
        record {
          value = to x.value;
          is = ap E.marks q ∙ x.is;
          same = ap (λ v. to (c.bare v)) q ∙ ap to x.same;
          legal = subst c.legal (sym q) x.legal;
        };
    moves = λ f x y. E.moves f (from x) (from y);
    moved = λ f p q x y e lg eq h.
        subst₂ (E.moves f) (sym (same (c.locate p (from x)))) (sym (same (c.locate q (from y))))
        (E.moved f p q (from x) (from y) e lg (sym (same (c.bare (from y))) ∙ ap from eq ∙ same (c.bare (from x))) h);
  }

  unfoldable pub edits-checked : (test : A → Bool) (n : ℕ) → ((x : A) → test (c.bare x) ≡ test x) → Edits (checked test n c) k
  unfolding checked
  edits-checked test n blind = record {
    marks = E.marks;
    marked = E.marked;
    edited = λ x m lg e.
        let y = E.edited x m lg.0 e in
        record { value = y.value; is = y.is; same = y.same; legal = (y.legal, sym (blind y.value) ∙ ap test y.same ∙ blind x ∙ lg.1) };
    moves = E.moves;
    moved = λ f p q x y e lg eq h. E.moved f p q x y e lg.0 eq h;
  }

  unfoldable pub edits-judged : (rules : A → ℕ) → ((x : A) → rules (c.bare x) ≡ rules x) → Edits (judged rules c) k
  unfolding judged
  edits-judged rules blind = record {
    marks = E.marks;
    marked = E.marked;
    edited = λ x m lg e.
        let y = E.edited x m lg.0 e in
        record { value = y.value; is = y.is; same = y.same; legal = (y.legal, ap (eqb 0) (sym (blind y.value) ∙ ap rules y.same ∙ blind x) ∙ lg.1) };
    moves = E.moves;
    moved = λ f p q x y e lg eq h. E.moved f p q x y e lg.0 eq h;
  }

  unfoldable pub edits-asks : (n m : ℕ) → Edits (asks n m c) k
  unfolding asks
  edits-asks n m = record {
    marks = E.marks;
    marked = E.marked;
    edited = λ x m lg e. let y = E.edited x m lg e in record { value = y.value; is = y.is; same = y.same; legal = y.legal };
    moves = E.moves;
    moved = E.moved;
  }

  -- a place at the end of a value may be its start
  unfoldable pub edits-placed : k ≤ 1 → Edits (placed c) 1
  unfolding placed
  edits-placed one = record {
    marks = λ z. E.marks z.1;
    marked = λ z. E.marked z.1;
    edited = λ z m lg e.
        let y = E.edited z.1 m lg e in
        record { value = (z.0, y.value); is = y.is; same = ap (λ v. (0, v)) y.same; legal = y.legal };
    moves = λ f x y. (y.0 ≡ f x.0) × E.moves f x.1 y.1;
    moved = λ f p q x y e lg eq h. (
      sym (ap f (sym (add-zero p)) ∙ h 0 (omega arith) ∙ omega (arith, put-zero e)),
      E.moved f p q x.1 y.1 e lg (ap (λ z. z.1) eq) (λ n l. h n (omega arith)),
    );
  }

-- ---- a number that says how the rest is read

pub put-kept : (u : List ℕ) (m : Marked) (e : Edit (kept u) m) (n : ℕ) → put e n ≡ 0
put-kept u m (Edit.keep _) n = refl

module _ {A : Type 0} (k w : ℕ) (size : A → ℕ) (c : ℕ → Codec A) {j : ℕ} (E : (n : ℕ) → Edits (c n) j) (blind : (n : ℕ) (x : A) → size ((c n).bare x) ≡ size x)
    (law : (n : ℕ) → Law (c n)) where
  abbrev sized-marks : A → Marked
  sized-marks x = kept (little w (size x)) and (E (size x)).marks x

  abbrev SizedMoves : (ℕ → ℕ) → A → A → Type 0
  SizedMoves f x y = (E (size x)).moves f x y

  pub sized-edited : Keeps (sized k w size c) sized-marks
  unfolding sized
  sized-edited x m lg (Edit.pair _ _ _ b' (Edit.keep _) e) =
      let y = (E (size x)).edited x b' lg.1 e in
      let q : size x ≡ size y.value = sym (blind (size x) x) ∙ ap size (sym y.same) ∙ blind (size x) y.value in
      record {
        value = y.value;
        is = ap₂ ◌and◌ (ap (λ n. kept (little w n)) (sym q)) (subst (λ n. (E n).marks y.value ≡ b') q y.is);
        same = subst (λ n. (c n).bare y.value ≡ (c (size x)).bare x) q y.same;
        legal = (subst (λ n. n < 256 ^ w) q lg.0, subst (λ n. (c n).legal y.value) q y.legal);
      }

  located-size : (n p : ℕ) (x : A) → size ((c n).locate p x) ≡ size x
  located-size n p x = sym (blind n ((c n).locate p x)) ∙ ap size ((law n).still p x) ∙ blind n x

  -- y is read by the same number as x
  like : (f : ℕ → ℕ) (p q : ℕ) (x y : A) (n : ℕ) (same : size x ≡ n) (e : Edit ((E (size x)).marks x) ((E n).marks y)) → (c (size x)).legal x → (c n).bare y ≡ (c (size x)).bare x
      → ((i : ℕ) → i < length ((c (size x)).print x) + j → f (p + i) ≡ q + (i + put e i)) → (E (size x)).moves f ((c (size x)).locate p x) ((c n).locate q y)
  like f p q x y n same =
      path_j (λ n _. (e : Edit ((E (size x)).marks x) ((E n).marks y)) → (c (size x)).legal x → (c n).bare y ≡ (c (size x)).bare x
      → ((i : ℕ) → i < length ((c (size x)).print x) + j → f (p + i) ≡ q + (i + put e i)) → (E (size x)).moves f ((c (size x)).locate p x) ((c n).locate q y))
      (λ e lg eq h. (E (size x)).moved f p q x y e lg eq h) same

  pub sized-moved : Shifts (sized k w size c) sized-marks j SizedMoves
  unfolding sized
  sized-moved f p q x y (Edit.pair _ _ _ _ e1 e2) lg eq h =
      let u : List ℕ = little w (size x) in
      let lu = length-little w (size x) in
      let lp = length-append u ((c (size x)).print x) in
      let same : size x ≡ size y = sym (blind (size x) x) ∙ ap size (sym eq) ∙ blind (size y) y in
      subst (λ n. (E n).moves f ((c (size x)).locate (p + w) x) ((c (size y)).locate (q + w) y)) (sym (located-size (size x) (p + w) x))
      (like f (p + w) (q + w) x y (size y) same e2 lg.1 eq (λ i l.
      let r : w + i < length (u ++ (c (size x)).print x) + j = omega arith in
      let t : p + w + i ≡ p + (w + i) = omega arith in
      let z : w + i - length u ≡ i = omega arith in
      ap f t ∙ h (w + i) r ∙ omega (arith, put-kept u _ e1 (w + i), ap (put e2) z)))

  unfoldable pub edits-sized : Edits (sized k w size c) j
  unfolding sized
  edits-sized = record { marks = sized-marks; marked = λ x. ap (λ v. little w (size x) ++ v) ((E (size x)).marked x); edited = sized-edited; moves = SizedMoves; moved = sized-moved }

-- ---- n items

module _ {A : Type 0} (c : Codec A) (law : Law c) {j : ℕ} (E : Edits c j) (one : j ≤ 1) where
  abbrev times-marks : List A → Marked
  times-marks [] = kept []
  times-marks (x ∷ xs) = E.marks x and times-marks xs

  abbrev pub TimesMoves : (ℕ → ℕ) → List A → List A → Type 0
  TimesMoves f [] [] = Unit {0}
  TimesMoves f [] (y ∷ ys) = ⊥
  TimesMoves f (x ∷ xs) [] = ⊥
  TimesMoves f (x ∷ xs) (y ∷ ys) = E.moves f x y × TimesMoves f xs ys

  pub times-marked : (xs : List A) → bytes_of (times-marks xs) ≡ times_print c xs
  times-marked [] = refl
  times-marked (x ∷ xs) = ap₂ ◌++◌ (E.marked x) (times-marked xs)

  -- the edited items, of which there are as many
  pub record Items (xs : List A) (m : Marked) : Type 0 where
    pub value : List A
    pub is : times-marks value ≡ m
    pub same : times_bare c value ≡ times_bare c xs
    pub legal : TimesLegal c value
    pub long : length value ≡ length xs

  pub times_items : (xs : List A) (m : Marked) → TimesLegal c xs → Edit (times-marks xs) m → Items xs m
  times_items [] m lg (Edit.keep _) = record { value = []; is = refl; same = refl; legal = tt; long = refl }
  times_items (x ∷ xs) m lg (Edit.pair _ a' _ b' e f) =
      let y = E.edited x a' lg.0 e in
      let ys = times_items xs b' lg.1 f in
      record {
        value = y.value ∷ ys.value;
        is = ap₂ ◌and◌ y.is ys.is;
        same = ap₂ ◌∷◌ y.same ys.same;
        legal = (y.legal, ys.legal);
        long = ap suc ys.long;
      }

  pub times-moved : (f : ℕ → ℕ) (p q : ℕ) (xs ys : List A) (e : Edit (times-marks xs) (times-marks ys)) → TimesLegal c xs → times_bare c ys ≡ times_bare c xs
      → ((n : ℕ) → n < length (times_print c xs) + j → f (p + n) ≡ q + (n + put e n)) → TimesMoves f (times_locate c p xs) (times_locate c q ys)
  times-moved f p q [] [] e lg eq h = tt
  times-moved f p q [] (y ∷ ys) e lg eq h = absurd (let z : ◌≡◌ {A = ℕ} 0 1 = cc in omega arith)
  times-moved f p q (x ∷ xs) [] e lg eq h = absurd (let z : ◌≡◌ {A = ℕ} 0 1 = cc in omega arith)
  times-moved f p q (x ∷ xs) (y ∷ ys) (Edit.pair _ _ _ _ e1 e2) lg eq h =
      let a : List ℕ = c.print x in
      let b : List ℕ = times_print c xs in
      let la : length (bytes_of (E.marks x)) ≡ length a = ap length (E.marked x) in
      let la' : length (bytes_of (E.marks y)) ≡ length (c.print y) = ap length (E.marked y) in
      let lab = length-append a b in (
        E.moved f p q x y e1 lg.0 (cc) (λ n l.
            let r : n < length (a ++ b) + j = omega arith in
            let z : n - length (bytes_of (E.marks x)) ≡ 0 = omega arith in
            h n r ∙ omega (arith, ap (put e2) z, put-zero e2)),
        times-moved f (p + length a) (q + length (c.print y)) xs ys e2 lg.1 (cc) (λ n l.
            let r : length a + n < length (a ++ b) + j = omega arith in
            let z : length a + n - length (bytes_of (E.marks x)) ≡ n = omega arith in
            let u : p + length a + n ≡ p + (length a + n) = omega arith in
            ap f u ∙ h (length a + n) r ∙ omega (arith, ap (put e2) z, put_all e1 (length a + n) (omega arith))),
      )

  unfoldable pub edits-times : (n : ℕ) → Edits (times c n) j
  unfolding times
  edits-times n = record {
    marks = times-marks;
    marked = times-marked;
    edited = λ xs m lg e. let ys = times_items xs m lg.1 e in record { value = ys.value; is = ys.is; same = ys.same; legal = (ys.long ∙ lg.0, ys.legal) };
    moves = TimesMoves;
    moved = λ f p q xs ys e lg eq h. times-moved f p q xs ys e lg.1 eq h;
  }

  -- items with keys that differ: keys change with no edit
  unfoldable pub edits-distinct : (key : A → ℕ) (k : ℕ) → ((x : A) → key (c.bare x) ≡ key x) → (n : ℕ) → Edits (distinct c key k n) j
  unfolding distinct
  edits-distinct key k blind n = record {
    marks = times-marks;
    marked = times-marked;
    edited = λ xs m lg e.
        let ys = times_items xs m (distinct-all c law key k blind xs [] lg.1) e in
        record { value = ys.value; is = ys.is; same = ys.same; legal = (ys.long ∙ lg.0, distinct-kept c law key k blind xs ys.value [] lg.1 ys.same ys.legal) };
    moves = TimesMoves;
    moved = λ f p q xs ys e lg eq h. times-moved f p q xs ys e (distinct-all c law key k blind xs [] lg.1) eq h;
  }

  -- a count that is held to the bytes left: an edit puts in nothing but in the items, each of which has at least `least` bytes
  module _ (k k' w least : ℕ) (big : (x : A) → c.legal x → least ≤ length (c.print x)) (law-times : (n : ℕ) → Law (times c n)) where
    unfoldable pub counts : Edits (sized k w length (times c)) j
    unfolding times
    counts = edits-sized k w length (times c) edits-times (λ n. length-bare c law) law-times

    unfoldable pub edits-limited : Edits (limited c k k' w least) j
    unfolding limited sized times counts
    edits-limited = record {
      marks = counts.marks;
      marked = counts.marked;
      edited = λ xs m lg e.
          let y = counts.edited xs m (lg.0, (refl, lg.1)) e in
          let q : length xs ≡ length y.value = sym (length-bare c law xs) ∙ ap length (sym y.same) ∙ length-bare c law y.value in
          let room = subst (λ n. n ≤ length (times_print c xs) / least) q lg.2 in
          record { value = y.value; is = y.is; same = y.same; legal = (y.legal.0, y.legal.1.1, room_back c law least big _ y.value y.legal.1.1 room) };
      moves = counts.moves;
      moved = λ f p q x y e lg eq h. counts.moved f p q x y e (lg.0, (refl, lg.1)) eq h;
    }

-- ---- a part with a length of its own

-- the edit of a box's contents m into m', which puts in the same before each of their places
pub record Inside (m m' : Marked) (w : ℕ) (r : List ℕ) (before : ℕ → ℕ) : Type 0 where
  pub edit : Edit m m'
  pub like : (n : ℕ) → n < length (bytes_of m ++ r) → before (w + n) ≡ put edit n

pub inside : (w own : ℕ) (m : Marked) (r : List ℕ) (b : Marked) (e : Edit (box w own m r) b) (m' : Marked) (r' : List ℕ) → b ≡ box w own m' r' → Inside m m' w r (put e)
inside w own m r b (Edit.grow _ _ _ m1 _ r1 o e l h f) m' r' eq =
    let q : m1 ≡ m' = cc in
    subst (λ v. Inside m v w r (put (Edit.grow w own m m1 r r1 o e l h f))) q (record {
      edit = e;
      like = λ n less.
          let z : w + n - w ≡ n = omega arith in
          let s : w + n < w + length (bytes_of m ++ r) = omega arith in
          rw (lt-leb (w + length (bytes_of m ++ r)) (w + n) s, z) (add-zero (put e n));
    })

-- `moves` says how the places of the contents move
module _ {A : Type 0} (k k' k'' w own least : ℕ) (inner : ℕ → ℕ) (spot : (ℕ → List ℕ → Type 0) → A → Type 0) (c : Codec A) (E : Edits c 0) (j : ℕ) where
  abbrev boxed-marks : A × List ℕ → Marked
  boxed-marks z = box w own (E.marks z.0) z.1

  pub boxed-edited : Keeps (boxed k k' k'' w own least inner spot c) boxed-marks
  unfolding boxed
  boxed-edited z m lg (Edit.grow _ _ _ m' _ r' o e l b h) =
      let y = E.edited z.0 m' lg.0 e in
      let p : bytes_of m' ≡ c.print y.value = ap bytes_of (sym y.is) ∙ E.marked y.value in
      record {
        value = (y.value, r');
        is = ap (λ v. box w own v r') y.is;
        same = ap (λ v. (v, [])) y.same;
        legal = (y.legal, b, subst (λ v. own + length (v ++ r') < 256 ^ w) p h);
      }

  pub boxed-marked : (z : A × List ℕ) → bytes_of (boxed-marks z) ≡ (boxed k k' k'' w own least inner spot c).print z
  unfolding boxed
  boxed-marked z = ap (λ v. little w (own + length (v ++ z.1)) ++ (v ++ z.1)) (E.marked z.0)

  -- places that count from elsewhere: nothing is said of them
  unfoldable pub edits-apart : Edits (boxed k k' k'' w own least inner spot c) j
  edits-apart = record { marks = boxed-marks; marked = boxed-marked; edited = boxed-edited; moves = λ f x y. Unit {0}; moved = λ f p q x y e lg same h. tt }

-- its places are places here
module _ {A : Type 0} (k k' k'' w own least : ℕ) (spot : (ℕ → List ℕ → Type 0) → A → Type 0) (c : Codec A) (E : Edits c 0) (j : ℕ) where
  abbrev marks_in : A × List ℕ → Marked
  marks_in = boxed-marks k k' k'' w own least (λ p. p) spot c E j

  pub boxed-moved : Shifts (boxed k k' k'' w own least (λ p. p) spot c) marks_in j (λ f x y. E.moves f x.0 y.0)
  unfolding boxed
  boxed-moved f p q x y e lg eq h =
      let i = inside w own (E.marks x.0) x.1 _ e (E.marks y.0) y.1 refl in
      let u : List ℕ = little w (own + length (c.print x.0 ++ x.1)) in
      let lu = length-little w (own + length (c.print x.0 ++ x.1)) in
      let lp = length-append u (c.print x.0 ++ x.1) in
      let lb = length-append (c.print x.0) x.1 in
      let lm = length-append (bytes_of (E.marks x.0)) x.1 in
      let la : length (bytes_of (E.marks x.0)) ≡ length (c.print x.0) = ap length (E.marked x.0) in
      E.moved f (p + w) (q + w) x.0 y.0 i.edit lg.0 (ap (λ z. z.0) eq) (λ n less.
      let r : w + n < length (u ++ (c.print x.0 ++ x.1)) + j = omega arith in
      let t : p + w + n ≡ p + (w + n) = omega arith in
      ap f t ∙ h (w + n) r ∙ omega (arith, i.like n (omega arith)))

  unfoldable pub edits-boxed : Edits (boxed k k' k'' w own least (λ p. p) spot c) j
  edits-boxed = record {
    marks = marks_in;
    marked = boxed-marked k k' k'' w own least (λ p. p) spot c E j;
    edited = boxed-edited k k' k'' w own least (λ p. p) spot c E j;
    moves = λ f x y. E.moves f x.0 y.0;
    moved = boxed-moved;
  }
