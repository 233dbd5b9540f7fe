-- Sections walked over as long as the row at hand is of their kind: where the walk ends, and what it counts. Assumes nothing.
use Prim.Native.Nat.{ℕ, zero, suc, ◌+◌, ◌-◌, ◌≤◌, ◌<◌}
use native.Mathlib.Nat.{add-zero, zero-add}
use native.Mathlib.Decide.{dec_lt}
use native.Mathlib.Omega.{arith}
use mathlib.Core.Path.{◌≡◌, refl, sym, ap, ◌∙◌}
use mathlib.Core.Bool.{Bool, true, false, cond}
use mathlib.Core.List.{List}
use mathlib.Core.Logic.{◌⊎◌, inl, inr, ⊎_elim}
use lib.Dec.{eqb}
use borrow.Author.Tests.{eq-eqb, ne_eqb, eqb-true}
use Rattle.std.specs.Prelude.{Option, Some, None}
use Rattle.codec.specs.CaseLaws.{by_bool, by_eqb}
use Rattle.rows_check.specs.declared.order.Groups.{Groups}
use Rattle.rows_check.specs.Tree.{cell, row_count, next_section, skip, count_kind, kinds}
use Rattle.rows_check.specs.Check.{name_kind, section_in_place, walk, in_order}
use Rattle.rows_check.specs.Answers.{Ends, Reaches, Walked, Counts}
use Rattle.rows_check.specs.CheckLaws.{Places, name-kind-is, next_more, in_place, walk_places, walk_from}
use Rattle.rows_check.proofs.WalkLaws.{walk_yes, walk_no, walk_none, kinds_in_section, kinds_in_places, skip-more}

-- ---- the walk

module _ (kind : ℕ) (rows text : List ℕ) where
  -- a walk that ends within the rows has its first section in place
  walk_first : (q n : ℕ) → 0 < n → walk kind rows text q n ≤ row_count rows → section_in_place kind rows text q ≡ true
  walk_first q n h l =
      by_bool (section_in_place kind rows text q) (λ e. e) (λ e. absurd (omega (arith, walk_no kind rows text q n h e)))

  module _ (q n r : ℕ) (e : Ends kind rows text q n r) where
    ends-none : n ≤ 0 → q ≡ r
    ends-none h = sym (walk_none kind rows text q n h) ∙ e.walked

    ends-first : 0 < n → section_in_place kind rows text q ≡ true
    ends-first h = walk_first q n h (omega (arith, e.walked, e.inside))

    -- where a section begins there is one to walk over
    ends_more : q < row_count rows → cell rows q 0 ≡ kind → 0 < n
    ends_more h c =
        elim (dec_lt 0 n) [
          | yes l ↦ l
          | no g ↦
              let z : q ≡ r = ends-none (omega arith) in
              absurd (e.stops (omega arith) (ap (λ (i : ℕ). cell rows i 0) (sym z) ∙ c))
        ]

    ends_next : 0 < n → Ends kind rows text (next_section kind rows q) (n - 1) r
    ends_next h = record { walked = sym (walk_yes kind rows text q n h (ends-first h)) ∙ e.walked; inside = e.inside; stops = e.stops }

    -- where no section begins nothing is walked over
    ends-here : (q < row_count rows → cell rows q 0 ≡ kind → ⊥) → r ≡ q
    ends-here f =
        elim (dec_lt 0 n) [
          | yes l ↦
              let p = in_place rows text kind q (ends-first l) in
              absurd (f (omega (arith, p.first)) p.head)
          | no g ↦ sym (ends-none (omega arith))
        ]

    ends_places : Places kind rows q n × (skip kind rows q n ≡ r)
    ends_places =
        let p = walk_places rows text kind n q (omega (arith, e.walked, e.inside)) in
        (p.0, sym p.1 ∙ e.walked)

    ends_further : q ≤ r
    ends_further = omega (arith, ends_places.1, skip-more kind rows n q)

  -- a walk goes nowhere, or begins at a row of the kind
  walk-head : (q n : ℕ) → walk kind rows text q n ≤ row_count rows → (walk kind rows text q n ≡ q) ⊎ (cell rows q 0 ≡ kind)
  walk-head q n l =
      elim (dec_lt 0 n) [
        | yes h ↦ inr (in_place rows text kind q (walk_first q n h l)).head
        | no g ↦ inl (walk_none kind rows text q n (omega arith))
      ]

  -- n sections from row q on have been walked over, as far as row p; what is left ends where the whole does
  pub record Going (q n p : ℕ) : Type 0 where
    pub few : n ≤ p
    pub walked : (m : ℕ) → walk kind rows text q (n + m) ≡ walk kind rows text p m
    pub left : (m s : ℕ) → Ends kind rows text q m s → Ends kind rows text p (m - n) s

  pub going_start : (q : ℕ) → Going q 0 q
  going_start q = record {
    few = omega arith;
    walked = λ m. ap (walk kind rows text q) (zero-add m);
    left = λ m s e. let z : m - 0 ≡ m = omega arith in rw z e;
  }

  module _ (q n p : ℕ) (g : Going q n p) where
    pub going_next : section_in_place kind rows text p ≡ true → Going q (n + 1) (next_section kind rows p)
    going_next e =
        let i = in_place rows text kind p e in
        record {
          few = omega (arith, g.few, next_more kind rows p);
          walked = λ m.
              let a : n + 1 + m ≡ n + suc m = omega arith in
              let b : suc m - 1 ≡ m = omega arith in
              rw a (g.walked (suc m) ∙ rw b at (walk_yes kind rows text p (suc m) (omega arith) e));
          left = λ m s f.
              let here = g.left m s f in
              let z : m - n - 1 ≡ m - (n + 1) = omega arith in
              rw z at (ends_next p (m - n) s here (ends_more p (m - n) s here (omega (arith, i.first)) i.head));
        }

    -- at a row of another kind, or after the last
    pub going-ends : (p < row_count rows → cell rows p 0 ≡ kind → ⊥) → Reaches kind rows text q n p
    going-ends f = record {
      ends = λ h. record { walked = rw (add-zero n) at (g.walked 0 ∙ walk_none kind rows text p 0 (omega arith)); inside = h; stops = f };
      only = λ m s e. ends-here p (m - n) s (g.left m s e) f;
    }

    -- at a section that is not in place
    pub going_fails : p < row_count rows → cell rows p 0 ≡ kind → section_in_place kind rows text p ≡ false → (m s : ℕ) → Ends kind rows text q m s → ⊥
    going_fails h c e m s f =
        let here = g.left m s f in
        let o : true ≡ false = sym (ends-first p (m - n) s here (ends_more p (m - n) s here h c)) ∙ e in
        let z : ◌≡◌ {A = ℕ} 0 1 = cc in
        omega arith

-- ---- counts

module _ (k : ℕ) (rows : List ℕ) where
  count_none : (n q : ℕ) → ((j : ℕ) → q ≤ j → j < q + n → cell rows j 0 ≡ k → ⊥) → count_kind k rows q n ≡ 0
  unfolding count_kind
  count_none zero q h = refl
  count_none (suc n) q h =
      rw (ne_eqb (cell rows q 0) k (h q (omega arith) (omega arith))) (omega (arith, count_none n (q + 1) (λ j a b. h j (omega arith) (omega arith))))

  -- rows up to m, and those after
  count-split : (m q n : ℕ) → count_kind k rows q (m + n) ≡ count_kind k rows q m + count_kind k rows (q + m) n
  unfolding count_kind
  count-split zero q n = rw (zero-add n, add-zero q, zero-add (count_kind k rows q n))
  count-split (suc m) q n =
      let a : suc m + n ≡ suc (m + n) = omega arith in
      let b : q + suc m ≡ q + 1 + m = omega arith in
      rw (a, b) (omega (arith, count-split m (q + 1) n))

  -- the rows from q to r are those from q to m and those from m to r
  count_join : (q m r : ℕ) → q ≤ m → m ≤ r → count_kind k rows q (r - q) ≡ count_kind k rows q (m - q) + count_kind k rows m (r - m)
  count_join q m r a b =
      let x : r - q ≡ m - q + (r - m) = omega arith in
      let y : q + (m - q) ≡ m = omega arith in
      rw x (rw y at (count-split (m - q) q (r - m)))

  -- a kind that begins a section
  module _ (not-field : 11 ≡ k → ⊥) (not-name : 12 ≡ k → ⊥) (not-label : 15 ≡ k → ⊥) where
    no_name : (kind : ℕ) → name_kind kind ≡ k → ⊥
    no_name kind e = ⊎_elim (λ f. not-name (sym f ∙ e)) (λ f. not-label (sym f ∙ e)) (name-kind-is kind)

    -- sections of another kind have none of its rows
    count-others : (kind : ℕ) → (kind ≡ k → ⊥) → (n q : ℕ) → Places kind rows q n → count_kind k rows q (skip kind rows q n - q) ≡ 0
    count-others kind other n q p =
        let m = skip-more kind rows n q in
        count_none (skip kind rows q n - q) q (λ j a b. kinds_in_places kind rows k not-field (no_name kind) other n q p j a (omega arith))

    -- its sections have one row of it each
    count-own : (n q : ℕ) → Places k rows q n → count_kind k rows q (skip k rows q n - q) ≡ n
    unfolding Places skip count_kind
    count-own zero q p = let z : q - q ≡ 0 = omega arith in rw z
    count-own (suc n) q p =
        let next = next_section k rows q in
        let s = skip k rows next n in
        let a = next_more k rows q in
        let b = skip-more k rows n next in
        let one : s - q ≡ suc (s - (q + 1)) = omega arith in
        let none : count_kind k rows (q + 1) (next - (q + 1)) ≡ 0 = count_none (next - (q + 1)) (q + 1) (λ j g h. kinds_in_section k rows k not-field (no_name k) q p.0 j g (omega arith)) in
        let rest = count_join (q + 1) next s a b in
        rw (one, eq-eqb (cell rows q 0) k p.0.head) (omega (arith, none, rest, count-own n next p.1))

    count-ended : (kind : ℕ) (text : List ℕ) (q n r : ℕ) → Ends kind rows text q n r → count_kind k rows q (r - q) ≡ cond (eqb kind k) n 0
    count-ended kind text q n r e =
        let (p, s) = ends_places kind rows text q n r e in
        by_eqb kind k (λ t own. rw t (rw (rw own at s) at (count-own n q (rw own at p)))) (λ f other. rw f (rw s at (count-others kind other n q p)))

-- ---- the three walks

-- no section of a kind begins before sections of another, where none begins after them
none-begins : (kind other : ℕ) (rows text : List ℕ) → (kind ≡ other → ⊥) → (q n r : ℕ) → walk other rows text q n ≡ r → r ≤ row_count rows → (r < row_count rows → cell rows r 0 ≡ kind → ⊥) → q < row_count rows → cell rows q 0 ≡ kind → ⊥
none-begins kind other rows text ne q n r w h f l e =
    ⊎_elim (λ s. let z : r ≡ q = sym w ∙ s in f (omega arith) (ap (λ (i : ℕ). cell rows i 0) z ∙ e)) (λ o. ne (sym e ∙ o)) (walk-head other rows text q n (omega (arith, w, h)))

module _ (rows text : List ℕ) (na a nb b nd d : ℕ) where
  -- where the three end at the last row they count all rows that begin a section
  module _ (x : Ends 10 rows text 0 na a) (y : Ends 13 rows text a nb b) (z : Ends 14 rows text b nd d) (all : d ≡ row_count rows) where
    kinds-are : (k : ℕ) → (11 ≡ k → ⊥) → (12 ≡ k → ⊥) → (15 ≡ k → ⊥) → kinds rows k ≡ cond (eqb 10 k) na 0 + (cond (eqb 13 k) nb 0 + cond (eqb 14 k) nd 0)
    kinds-are k field name label =
        let ab = ends_further 13 rows text a nb b y in
        let bd = ends_further 14 rows text b nd d z in
        let e : row_count rows ≡ d - 0 = omega arith in
        let split : count_kind k rows 0 (d - 0) ≡ count_kind k rows 0 (a - 0) + count_kind k rows a (d - a) = count_join k rows 0 a d (omega arith) (omega arith) in
        let again : count_kind k rows a (d - a) ≡ count_kind k rows a (b - a) + count_kind k rows b (d - b) = count_join k rows a b d ab bd in
        ap (count_kind k rows 0) e
        ∙ rw (split, again, count-ended k rows field name label 10 text 0 na a x, count-ended k rows field name label 13 text a nb b y, count-ended k rows field name label 14 text b nd d z)

    records-are : na ≡ kinds rows 10
    records-are =
        let e : kinds rows 10 ≡ na + (0 + 0) = kinds-are 10 (λ e. omega arith) (λ e. omega arith) (λ e. omega arith) in
        omega arith

    structs-are : nb ≡ kinds rows 13
    structs-are =
        let e : kinds rows 13 ≡ 0 + (nb + 0) = kinds-are 13 (λ e. omega arith) (λ e. omega arith) (λ e. omega arith) in
        omega arith

    labels-are : nd ≡ kinds rows 14
    labels-are =
        let e : kinds rows 14 ≡ 0 + (0 + nd) = kinds-are 14 (λ e. omega arith) (λ e. omega arith) (λ e. omega arith) in
        omega arith

    in_order_yes : in_order rows text ≡ true
    unfolding in_order
    in_order_yes = rw (← records-are, ← structs-are, ← labels-are, x.walked, y.walked, z.walked) (eq-eqb d (row_count rows) all)

  module _ (x : Reaches 10 rows text 0 na a) (y : Reaches 13 rows text a nb b) (z : Reaches 14 rows text b nd d) where
    -- a walk that ends within the rows comes from within them
    reached : d ≡ row_count rows → Ends 10 rows text 0 na a × (Ends 13 rows text a nb b × Ends 14 rows text b nd d)
    reached all =
        let third = z.ends (omega arith) in
        let second = y.ends (walk_from rows text 14 nd b (omega (arith, third.walked, third.inside))) in
        let first = x.ends (walk_from rows text 13 nb a (omega (arith, second.walked, second.inside))) in
        (first, (second, third))

    pub counted : d ≡ row_count rows → (in_order rows text ≡ true) × ((na ≡ kinds rows 10) × ((nb ≡ kinds rows 13) × (nd ≡ kinds rows 14)))
    counted all =
        let (first, (second, third)) = reached all in
        (in_order_yes first second third all, (records-are first second third all, (structs-are first second third all, labels-are first second third all)))

-- ---- rows that are not in order

-- three walks from the first row to the last
record Three (rows text : List ℕ) (l m n p q r : ℕ) : Type 0 where
  first : Ends 10 rows text 0 l p
  second : Ends 13 rows text p m q
  third : Ends 14 rows text q n r

module _ (rows text : List ℕ) where
  -- sections of the three kinds up to the last row are all there are
  three : (l m n p q r : ℕ) → walk 10 rows text 0 l ≡ p → walk 13 rows text p m ≡ q → walk 14 rows text q n ≡ r → r ≡ row_count rows → Three rows text l m n p q r
  three l m n p q r u v w all =
      let hr : r ≤ row_count rows = omega arith in
      let hq : q ≤ row_count rows = walk_from rows text 14 n q (omega (arith, w)) in
      let hp : p ≤ row_count rows = walk_from rows text 13 m p (omega (arith, v)) in
      let last : (kind : ℕ) → r < row_count rows → cell rows r 0 ≡ kind → ⊥ = λ kind g e. omega arith in
      let no_record : p < row_count rows → cell rows p 0 ≡ 10 → ⊥ = none-begins 10 13 rows text (λ e. omega arith) p m q v hq (none-begins 10 14 rows text (λ e. omega arith) q n r w hr (last 10)) in
      let no-struct : q < row_count rows → cell rows q 0 ≡ 13 → ⊥ = none-begins 13 14 rows text (λ e. omega arith) q n r w hr (last 13) in
      record { first = record { walked = u; inside = hp; stops = no_record }; second = record { walked = v; inside = hq; stops = no-struct }; third = record { walked = w; inside = hr; stops = last 14 } }

  -- no rows are in order that have no three such walks
  unordered : ((l m n p q r : ℕ) → Three rows text l m n p q r → r ≡ row_count rows → ⊥) → in_order rows text ≡ false
  unfolding in_order
  unordered f = by_bool (in_order rows text) (λ t. let all = eqb-true _ _ t in absurd (f _ _ _ _ _ _ (three _ _ _ _ _ _ refl refl refl all) all)) (λ e. e)

  pub no_first : Walked 10 rows text 0 None → in_order rows text ≡ false
  no_first f = unordered (λ l m n p q r t all. f l p t.first)

  module _ {na a : ℕ} (x : Reaches 10 rows text 0 na a) where
    pub no-second : Walked 13 rows text a None → in_order rows text ≡ false
    no-second f = unordered (λ l m n p q r t all. let e : p ≡ a = x.only l p t.first in f m q (rw e at t.second))

    module _ {nb b : ℕ} (y : Reaches 13 rows text a nb b) where
      third-from : {l m n p q r : ℕ} → Three rows text l m n p q r → Ends 14 rows text b n r
      third-from {l} {m} {n} {p} {q} {r} t =
          let e : p ≡ a = x.only l p t.first in
          let f : q ≡ b = y.only m q (rw e at t.second) in
          rw f at t.third

      pub no-third : Walked 14 rows text b None → in_order rows text ≡ false
      no-third f = unordered (λ l m n p q r t all. f n r (third-from t))

      pub no-end : {nd d : ℕ} → Reaches 14 rows text b nd d → (d ≡ row_count rows → ⊥) → in_order rows text ≡ false
      no-end {nd} {d} z g = unordered (λ l m n p q r t all. let e : r ≡ d = z.only n r (third-from t) in g (sym e ∙ all))

pub counts-is : {x y : Bool} (rows : List ℕ) (o : Option Groups) → x ≡ y → Counts x rows o → Counts y rows o
counts-is rows (Some g) e c = (sym e ∙ c.0, c.1)
counts-is rows None e c = sym e ∙ c
