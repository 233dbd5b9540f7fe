-- What marking one span more does, and what the marks say in the end. Assumes nothing.
use Rattle.std.specs.Prelude.{ℕ, suc, ◌+◌, ◌-◌, ◌≤◌, ◌<◌, max, ◌≡◌, Bool, true, false, List, [], ◌∷◌, length, get_or, replicate}
use Rattle.std.proofs.Common.{zero-le, ap, ◌∙◌, subst, le_refl, le_trans, le_of_lt}
use Rattle.std.proofs.Math.Path.{refl, sym}
use Rattle.std.proofs.Math.Bool.{cond}
use native.Mathlib.Omega.{arith}
use Rattle.std.proofs.Math.Numerals.{add-one}
use Rattle.std.proofs.lemmas.List.{length-replicate}
use lib.Dec.{eqb}
use borrow.Author.Tests.{eq-eqb, ne_eqb}
use Rattle.codec.specs.CaseLaws.{by_bool, by_eqb}
use Rattle.plain_tiling.specs.Tile.{Span}
use Rattle.plain_tiling.specs.Plain.{blank, taken, paint, overlap, marks, reach, furthest, by_marks, base_by_marks, ext_by_marks}
use Rattle.plain_tiling.specs.Places.{Unowned, Enough}
use Rattle.plain_tiling.specs.Owners.{SpanIn, Placed}
use Rattle.plain_tiling.proofs.PlainLaws.{blank-free, marks-any, taken-no, paint-length, paint-low, paint-high, paint-more, held-room, furthest-small, cleared}
use Rattle.plain_tiling.specs.Marking.{Marked, Marking, end_by_marks}

pub marking : {c : ℕ} {ss : List Span} {ms : List ℕ} → Enough (length ms) c ss → Unowned ms → Marking (length ms) c ss ss ms 0 c
marking {c} {ss} {ms} i u = record {
  enough = i;
  most = u.most;
  placed = i.placed;
  clash = ap (λ (m : List ℕ). overlap m 0 ss) (sym u.free);
  all = ap (λ (m : List ℕ). marks m 0 ss) (sym u.free);
  far = refl;
  only = record { long = refl; low = λ q _. nobody q; high = λ q _. nobody q };
  up = le_refl c;
  small = i.start;
  few = zero-le;
}
  where
    nobody : (q : ℕ) → get_or ms q 0 ≡ 0
    nobody q = ap (λ (m : List ℕ). get_or m q 0) u.free ∙ blank-free (length ms) q

module _ {n c : ℕ} {ss left : List Span} {ms : List ℕ} {k top : ℕ} (v : Marking n c ss left ms k top) where
  -- the next span, from a to z
  module _ {rest : List Span} {a z : ℕ} (is : left ≡ (a, z) ∷ rest) where
    lies : SpanIn c (n - 1) (a, z)
    lies = (rw is at v.placed).0

    pub mark_clash : taken ms a (z - a) ≡ true → Marked n c ss ms true top
    unfolding overlap
    mark_clash h = record {
      enough = v.enough;
      most = v.most;
      clash-is = sym (v.clash ∙ rw (is, h));
      all = λ e. absurd (subst lib.Dec.T e tt);
      far = λ e. absurd (subst lib.Dec.T e tt);
      only = v.only;
      up = v.up;
      small = v.small;
    }

    module _ (free : taken ms a (z - a) ≡ false) where
      here : get_or ms a 0 ≡ 0
      here = taken-no ms a (z - a) free a (le_refl a) (omega (arith, lies.some))

      -- one owner more still has a number of 16 bits
      pub mark_owner : k + 1 < 65536
      mark_owner =
          let last : n - 1 < length ms = omega (arith, v.only.long, v.small) in
          omega (arith, held-room ms a (n - 1) last (omega (arith, lies.some, lies.to)) here (v.only.high (n - 1) (omega (arith, v.small))), v.few, v.most, v.only.long)

      pub mark_on : {ms' : List ℕ} → ms' ≡ paint ms a (z - a) (k + 1) → {top' : ℕ} → top' ≡ max top z → Marking n c ss rest ms' (k + 1) top'
      unfolding overlap marks furthest
      mark_on {ms'} g {top'} f =
          let s = lies.some in
          let w = lies.to in
          let x = lies.from in
          let up = v.up in
          let small = v.small in
          let g' : ms' ≡ paint ms a (z - a) (suc k) = g ∙ rw (add-one k) refl in
          rw add-one (record {
            enough = v.enough;
            most = v.most;
            placed = (rw is at v.placed).1;
            clash = v.clash ∙ rw (is, free, g');
            all = v.all ∙ rw (is, g');
            far = v.far ∙ rw (is, f);
            only = rw g' (record {
              long = paint-length ms a (z - a) (suc k) ∙ v.only.long;
              low = λ y h. paint-low ms a (z - a) (suc k) y (omega arith) ∙ v.only.low y h;
              high = λ y h. paint-high ms a (z - a) (suc k) y (omega arith) ∙ v.only.high y (omega arith);
            });
            up = omega arith;
            small = omega arith;
            few = rw g' (omega (arith, paint-more ms a (z - a) (suc k) (omega arith) (omega arith) (omega (arith, v.only.long)) here, v.few));
          })

  pub mark_end : left ≡ [] → Marked n c ss ms false top
  unfolding overlap marks furthest
  mark_end is = record {
    enough = v.enough;
    most = v.most;
    clash-is = sym (v.clash ∙ rw is);
    all = λ _. sym (v.all ∙ rw is);
    far = λ _. sym (v.far ∙ rw is);
    only = v.only;
    up = v.up;
    small = v.small;
  }

-- the places taken back are the marks lent
pub marked-back : {c : ℕ} {ss : List Span} {ms ms' : List ℕ} {clash : Bool} {top : ℕ} → Unowned ms → Marked (length ms) c ss ms' clash top → paint ms' c (top - c) 0 ≡ ms
marked-back {c} {ss} {ms} {ms'} {clash} {top} u m = cleared (length ms) c top ms' m.up (le_of_lt m.small) m.only ∙ sym u.free

-- ---- where the spans end

module _ {n c : ℕ} {ss : List Span} {ms : List ℕ} {clash : Bool} {top : ℕ} (m : Marked n c ss ms clash top) where
  -- n marks say what 65,536 say
  by_n : by_marks n 65536 (λ x. x) c ss ≡ end_by_marks c ss
  unfolding end_by_marks
  by_n = marks-any n 65536 c (n - 1) ss m.enough.placed (omega arith) (omega (arith, m.most)) 65536 (λ x. x)

  pub end-clash : clash ≡ true → 65536 ≡ end_by_marks c ss
  unfolding by_marks
  end-clash h = rw (← m.clash-is, h) at by_n

  module _ (h : clash ≡ false) {x : ℕ} (w : x ≡ reach ms c (top - c)) where
    pub end_gap : (x ≡ top → ⊥) → 65536 ≡ end_by_marks c ss
    unfolding by_marks
    end_gap f = rw (← m.clash-is, h, ← m.all h, ← m.far h, ← w, ne_eqb x top f) at by_n

    pub end-fine : x ≡ top → top ≡ end_by_marks c ss
    unfolding by_marks
    end-fine f = rw (← m.clash-is, h, ← m.all h, ← m.far h, ← w, eq-eqb x top f) at by_n

-- ---- the numbers

module _ (c : ℕ) (ss : List Span) (small : furthest c ss ≤ 65535) {x : ℕ} (e : x ≡ end_by_marks c ss) (gap : ℕ) (last : ℕ → ℕ) where
  nowhere : x ≡ 65536 → gap ≡ by_marks 65536 gap last c ss
  unfolding end_by_marks by_marks
  nowhere h =
      by_bool (overlap (blank 65536) 0 ss) (λ o. rw o)
      (λ o. by_eqb (reach (marks (blank 65536) 0 ss) c (furthest c ss - c)) (furthest c ss)
      (λ t _. absurd (let y : x ≡ furthest c ss = rw (o, t) at e in let z : ⊥ = omega arith in z))
      (λ t _. rw (o, t)))

  somewhere : (x ≡ 65536 → ⊥) → last x ≡ by_marks 65536 gap last c ss
  unfolding end_by_marks by_marks
  somewhere h =
      by_bool (overlap (blank 65536) 0 ss) (λ o. absurd (h (rw o at e)))
      (λ o. by_eqb (reach (marks (blank 65536) 0 ss) c (furthest c ss - c)) (furthest c ss)
      (λ t _. let y : x ≡ furthest c ss = rw (o, t) at e in rw (o, t, y))
      (λ t _. absurd (h (rw (o, t) at e))))

-- spans that end at b end at d
pub placed-wide : (c b d : ℕ) (ss : List Span) → b ≤ d → Placed c b ss → Placed c d ss
placed-wide c b d [] h p = tt
placed-wide c b d (s ∷ ss) h p = (record { from = p.0.from; some = p.0.some; to = le_trans p.0.to h }, placed-wide c b d ss h p.1)

module _ (base : ℕ) (ss : List Span) (small : base ≤ 65535) {x : ℕ} where
  module _ (i : Placed 0 base ss) (e : x ≡ end_by_marks 0 ss) where
    far-base : furthest 0 ss ≤ 65535
    far-base = furthest-small 0 65535 0 ss (placed-wide 0 base 65535 ss small i) zero-le

    pub base_81 : x ≡ 65536 → 81 ≡ base_by_marks base ss
    unfolding base_by_marks
    base_81 h = nowhere 0 ss far-base e 81 (λ c. cond (eqb c base) 0 82) h

    module _ (h : x ≡ 65536 → ⊥) where
      pub base_82 : (x ≡ base → ⊥) → 82 ≡ base_by_marks base ss
      unfolding base_by_marks
      base_82 n = rw (ne_eqb x base n) at (somewhere 0 ss far-base e 81 (λ c. cond (eqb c base) 0 82) h)

      pub base_0 : x ≡ base → 0 ≡ base_by_marks base ss
      unfolding base_by_marks
      base_0 n = rw (eq-eqb x base n) at (somewhere 0 ss far-base e 81 (λ c. cond (eqb c base) 0 82) h)

  module _ (i : Placed base 65535 ss) (e : x ≡ end_by_marks base ss) where
    far_ext : furthest base ss ≤ 65535
    far_ext = furthest-small base 65535 base ss i small

    pub ext_83 : x ≡ 65536 → 83 ≡ ext_by_marks base ss
    unfolding ext_by_marks
    ext_83 h = nowhere base ss far_ext e 83 (λ c. 0) h

    pub ext_0 : (x ≡ 65536 → ⊥) → 0 ≡ ext_by_marks base ss
    unfolding ext_by_marks
    ext_0 h = somewhere base ss far_ext e 83 (λ c. 0) h

-- a new table of marks
pub unowned : (n : ℕ) → n ≤ 65536 → Unowned (replicate n 0)
unfolding blank
unowned n h = record { free = ap (λ (m : ℕ). replicate {A = ℕ} m 0) (sym (length-replicate {A = ℕ} n 0)); most = rw (length-replicate {A = ℕ} n 0) h }
