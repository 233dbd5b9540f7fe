-- What one turn of each loop over the entries does, over judged lists. Assumes nothing.
use Prim.Native.Nat.{ℕ, suc, ◌+◌, ◌≤◌, ◌<◌, max}
use mathlib.Core.Path.{◌≡◌, refl, sym, ap, ◌∙◌, subst}
use mathlib.Core.Bool.{Bool, true, false, ◌||◌, cond, not}
use mathlib.Core.List.{List, [], ◌∷◌}
use native.Mathlib.Omega.{arith}
use native.Mathlib.Nat.{add-zero, zero-add}
use lib.ListN.{length}
use lib.Dec.{eqb}
use borrow.Author.Tests.{eq-eqb, ne_eqb}
use Rattle.codec.specs.Codec.{among}
use Rattle.std.specs.Prelude.{Option, Some, None as Nothing}
use Rattle.codec.specs.CaseLaws.{no_true, by_bool, by_eqb}
use Rattle.marks.specs.Marks.{marked, with_mark, Marks, Only, wiped}
use Rattle.marks.specs.MarkLaws.{marks-more, only_next, only_end}
use Rattle.fields.specs.Sheet.{id_of, off_of, end_of, is_padding, past_base, member_align}
use Rattle.fields.specs.Field.{differs, field_fault}
use Rattle.item_rules.specs.declared.Source.{Source}
use Rattle.item_rules.specs.declared.Hit.{Hit}
use Rattle.plain_tiling.specs.Tile.{Span}
use Rattle.item_rules.specs.Rules.{first, noted, spans, largest, struct_align, base_fault, ext_fault, tiling_fault, fields_fault, seq_fault, judged}
use Rattle.item_rules.specs.Entries.{entry_of, entries_of, rest_of, InSlice}
use Rattle.item_rules.specs.EntryLaws.{entries-cons, entries-nil, room-rest}
use Rattle.item_rules.specs.Search.{Has, here, there, None, Chase, stop, Proper, find, starts_here, on_side, PartOf, Sought, Hits}
use Rattle.item_rules.specs.Ids.{ids_of, noted_marks}
use Rattle.plain_tiling.specs.Owners.{Placed}
use Rattle.item_rules.specs.Engines.{Passed}
use Rattle.item_rules.proofs.Search.{walk-sorted, find_none}

-- of a bool and what is not so
pub is_out : (b : Bool) → not b ≡ true → b ≡ false
is_out true e = absurd (no_true (sym e))
is_out false e = refl

pub is_in : (b : Bool) → not b ≡ false → b ≡ true
is_in true e = refl
is_in false e = absurd (no_true e)

-- ---- the side of the base

module _ (isRecord : Bool) (base : ℕ) (ext : Bool) where
  find_hit : (c : ℕ) (e : List ℕ) (es : List (List ℕ)) → starts_here isRecord base ext c e ≡ true → find (spans isRecord base ext (e ∷ es)) c ≡ end_of e
  unfolding starts_here spans
  find_hit c e es h = by_bool (differs ext (past_base isRecord base e)) (λ d. absurd (no_true (sym (rw d at h)))) (λ d. rw (d, rw d at h))

  has_hit : (c : ℕ) (e : List ℕ) (es : List (List ℕ)) → starts_here isRecord base ext c e ≡ true → Has (spans isRecord base ext (e ∷ es)) c (end_of e)
  unfolding starts_here spans
  has_hit c e es h =
      by_bool (differs ext (past_base isRecord base e))
      (λ d. absurd (no_true (sym (rw d at h))))
      (λ d. rw d (by_eqb (off_of e) c (λ q f. here f refl) (λ q n. absurd (no_true (sym (rw d at h) ∙ q)))))

  find_miss : (c : ℕ) (e : List ℕ) (es : List (List ℕ)) → starts_here isRecord base ext c e ≡ false → find (spans isRecord base ext (e ∷ es)) c ≡ find (spans isRecord base ext es) c
  unfolding starts_here spans
  find_miss c e es h = by_bool (differs ext (past_base isRecord base e)) (λ d. rw d) (λ d. rw (d, rw d at h))

  count-cons : (e : List ℕ) (es : List (List ℕ)) → length (spans isRecord base ext (e ∷ es)) ≡ on_side isRecord base ext e + length (spans isRecord base ext es)
  unfolding on_side spans
  count-cons e es =
      let n : ℕ = length (spans isRecord base ext es) in
      by_bool (differs ext (past_base isRecord base e)) (λ d. rw d (sym (zero-add n))) (λ d. rw d (let q : suc n ≡ 1 + n = omega arith in q))

  has_more : (e : List ℕ) (es : List (List ℕ)) {c x : ℕ} → Has (spans isRecord base ext es) c x → Has (spans isRecord base ext (e ∷ es)) c x
  unfolding spans
  has_more e es h = by_bool (differs ext (past_base isRecord base e)) (λ d. rw d h) (λ d. rw d (there h))

  module _ (l t : List ℕ) where
    abbrev S : Source → List Span
    S s = spans isRecord base ext (entries_of l t s)

    -- ---- the search

    -- the search is at `left`, and what it finds from there on is what it finds in all
    pub record Seeking (src : Source) (c : ℕ) (left : Source) : Type 0 where
      pub within : PartOf l t isRecord base ext src left
      pub same : find (S src) c ≡ find (S left) c

    pub seeking : (src : Source) (c : ℕ) → InSlice l t src → Seeking src c src
    seeking src c r = record { within = record { room = r; has = λ a b h. h }; same = refl }

    within-rest : {src left : Source} → PartOf l t isRecord base ext src left → 0 < left.count → PartOf l t isRecord base ext src (rest_of left)
    within-rest {src} {left} w m = record {
      room = room-rest l t w.room m;
      has = λ a b h. w.has a b (rw (entries-cons l t left m) (has_more (entry_of l t left) (entries_of l t (rest_of left)) h));
    }

    module _ {src : Source} {c : ℕ} {left : Source} (v : Seeking src c left) where
      pub seek_room : InSlice l t left
      seek_room = v.within.room

      module _ (m : 0 < left.count) {e : List ℕ} (is : e ≡ entry_of l t left) where
        pub seek_miss : starts_here isRecord base ext c e ≡ false → Seeking src c (rest_of left)
        seek_miss h = record {
          within = within-rest v.within m;
          same = v.same ∙ rw (entries-cons l t left m) (find_miss c (entry_of l t left) (entries_of l t (rest_of left)) (rw is at h));
        }

        pub seek_hit : starts_here isRecord base ext c e ≡ true → {x : ℕ} → x ≡ end_of e → x < 131072 → {r : Source} → r ≡ rest_of left → Sought l t isRecord base ext src c (Some (record { end = x; rest = r }))
        seek_hit h {x} q b {r} p = (
          q ∙ sym (v.same ∙ rw (entries-cons l t left m) (find_hit c (entry_of l t left) (entries_of l t (rest_of left)) (rw is at h)) ∙ ap (λ (y : List ℕ). end_of y) (sym is)),
          record {
            has = v.within.has c x (rw (q, is, entries-cons l t left m) (has_hit c (entry_of l t left) (entries_of l t (rest_of left)) (rw is at h)));
            small = b;
            within = rw p (within-rest v.within m);
          },
        )

      pub seek_end : left.count ≤ 0 → Sought l t isRecord base ext src c Nothing
      unfolding spans
      seek_end z = v.same ∙ rw (entries-nil l t left z)

    within_trans : {a b d : Source} → PartOf l t isRecord base ext a b → PartOf l t isRecord base ext b d → PartOf l t isRecord base ext a d
    within_trans v w = record { room = w.room; has = λ x y h. v.has x y (w.has x y h) }

    -- a hit near the last one, and the search from the front
    pub near_hit : {src from : Source} {c : ℕ} {r : Hit} → PartOf l t isRecord base ext src from → Sought l t isRecord base ext from c (Some r) → Hits l t isRecord base ext src c (Some r)
    near_hit {c = c} {r} w s = record {
      has = w.has c r.end s.1.has;
      small = s.1.small;
      within = within_trans w s.1.within;
    }

    pub far_hit : (src : Source) (c : ℕ) (r : Option Hit) → Proper (S src) → Sought l t isRecord base ext src c r → Hits l t isRecord base ext src c r
    far_hit src c (Some r) p s = s.1
    far_hit src c Nothing p s = find_none (S src) c p s

    -- ---- the count

    pub record Counting (src : Source) (left : Source) (k : ℕ) : Type 0 where
      pub room : InSlice l t left
      pub few : k + left.count ≤ src.count
      pub same : k + length (S left) ≡ length (S src)

    pub counting : (src : Source) → InSlice l t src → Counting src src 0
    counting src r = record { room = r; few = omega arith; same = zero-add (length (S src)) }

    module _ {src left : Source} {k : ℕ} (v : Counting src left k) where
      pub count-go : 0 < left.count → {e : List ℕ} → e ≡ entry_of l t left → {x : ℕ} → x ≡ on_side isRecord base ext e → x ≤ 1 → Counting src (rest_of left) (k + x)
      count-go m {e} is {x} q b =
          let h : length (S left) ≡ x + length (S (rest_of left)) =
          rw (entries-cons l t left m, q, is) (count-cons (entry_of l t left) (entries_of l t (rest_of left))) in
          record { room = room-rest l t v.room m; few = omega (arith, v.few); same = omega (arith, v.same) }

      pub count-end : left.count ≤ 0 → k ≡ length (S src)
      unfolding spans
      count-end z = sym (add-zero k) ∙ (rw (entries-nil l t left z) at v.same)

-- ---- 81 to 83 by the chase

module _ (isRecord : Bool) (base : ℕ) (es : List (List ℕ)) where
  module _ {u l k : ℕ} (p : Proper (spans isRecord base false es)) (h : Chase (spans isRecord base false es) 0 u l) (n : k ≡ length (spans isRecord base false es)) where
    by_chase : base_fault isRecord base es ≡ cond (eqb u k) (cond (eqb l base) 0 82) 81
    unfolding base_fault
    by_chase = walk-sorted 81 (λ c. cond (eqb c base) 0 82) _ p h ∙ rw (← n)

    pub base_gap : (u ≡ k → ⊥) → 81 ≡ base_fault isRecord base es
    base_gap g = sym (by_chase ∙ rw (ne_eqb u k g))

    pub base_short : u ≡ k → (l ≡ base → ⊥) → 82 ≡ base_fault isRecord base es
    base_short e g = sym (by_chase ∙ rw (eq-eqb u k e, ne_eqb l base g))

    pub base-fine : u ≡ k → l ≡ base → 0 ≡ base_fault isRecord base es
    base-fine e g = sym (by_chase ∙ rw (eq-eqb u k e, eq-eqb l base g))

  module _ {u l k : ℕ} (p : Proper (spans isRecord base true es)) (h : Chase (spans isRecord base true es) base u l) (n : k ≡ length (spans isRecord base true es)) where
    by_chase' : ext_fault isRecord base es ≡ cond (eqb u k) 0 83
    unfolding ext_fault
    by_chase' = walk-sorted 83 (λ c. 0) _ p h ∙ rw (← n)

    pub ext_gap : (u ≡ k → ⊥) → 83 ≡ ext_fault isRecord base es
    ext_gap g = sym (by_chase' ∙ rw (ne_eqb u k g))

    pub ext_fine : u ≡ k → 0 ≡ ext_fault isRecord base es
    ext_fine e = sym (by_chase' ∙ rw (eq-eqb u k e))

  -- no entry on that side
  pub ext_none : {k : ℕ} → Proper (spans isRecord base true es) → k ≡ length (spans isRecord base true es) → k ≡ 0 → 0 ≡ ext_fault isRecord base es
  ext_none p n e = ext_fine p (stop (empty (spans isRecord base true es) base (sym n ∙ e))) n (sym e)
    where
      empty : (ss : List Span) (c : ℕ) → length ss ≡ 0 → None ss c
      empty [] c h = tt
      empty (s ∷ ss) c h = absurd (let y : ⊥ = omega arith in y)

-- an entry is on one side or on the other
pub sides : (isRecord : Bool) (base : ℕ) (es : List (List ℕ)) → length (spans isRecord base false es) + length (spans isRecord base true es) ≡ length es
unfolding spans
sides isRecord base [] = refl
sides isRecord base (e ∷ es) =
    let rest = sides isRecord base es in
    by_bool (past_base isRecord base e) (λ d. rw d (let q : length (spans isRecord base false es) + suc (length (spans isRecord base true es)) ≡ suc (length es) = omega (arith, rest) in q)) (λ d. rw d (let q : suc (length (spans isRecord base false es)) + length (spans isRecord base true es) ≡ suc (length es) = omega (arith, rest) in q))

-- ---- verdicts, one after the other

pub first-none : (r b : ℕ) → r ≡ 0 → first r b ≡ b
first-none r b h = rw (eq-eqb r 0 h)

pub first_some : (r b : ℕ) → (r ≡ 0 → ⊥) → first r b ≡ r
first_some r b h = rw (ne_eqb r 0 h)

-- 81 or 82, else 83
module _ (isRecord : Bool) (base : ℕ) (es : List (List ℕ)) {b : ℕ} (e : b ≡ base_fault isRecord base es) where
  pub tiling_base : (b ≡ 0 → ⊥) → b ≡ tiling_fault isRecord base es
  unfolding tiling_fault
  tiling_base n = sym (rw (← e) (first_some b _ n))

  pub tiling_ext : b ≡ 0 → {x : ℕ} → x ≡ ext_fault isRecord base es → x ≡ tiling_fault isRecord base es
  unfolding tiling_fault
  tiling_ext z f = sym (rw (← e, ← f) (first-none b _ z))

-- ---- the largest alignment

module _ (sheet l t : List ℕ) where
  pub record Aligning (src left : Source) (a : ℕ) : Type 0 where
    pub room : InSlice l t left
    pub least : 1 ≤ a
    pub same : struct_align sheet (entries_of l t src) ≡ largest sheet a (entries_of l t left)

  pub aligning : (src : Source) → InSlice l t src → Aligning src src 1
  unfolding struct_align
  aligning src r = record { room = r; least = omega arith; same = refl }

  module _ {src left : Source} {a : ℕ} (v : Aligning src left a) where
    pub align-go : 0 < left.count → {e : List ℕ} → e ≡ entry_of l t left → {k x : ℕ} → k ≡ member_align sheet e → x ≡ max a k → Aligning src (rest_of left) x
    unfolding largest
    align-go m {e} is {k} {x} q p = record {
      room = room-rest l t v.room m;
      least = omega (arith, v.least);
      same = v.same ∙ rw (entries-cons l t left m, p, q, is);
    }

    pub align-end : left.count ≤ 0 → (a ≡ struct_align sheet (entries_of l t src)) × (1 ≤ a)
    unfolding largest
    align-end z = (sym (v.same ∙ rw (entries-nil l t left z)), v.least)

-- ---- field by field

or_shift : (a b c : Bool) → ((a || b) || c) ≡ true → (b || (a || c)) ≡ true
or_shift true true c h = refl
or_shift true false c h = refl
or_shift false true c h = refl
or_shift false false c h = h

or_wide : (a b c : Bool) → (b || c) ≡ true → (b || (a || c)) ≡ true
or_wide true true c h = refl
or_wide true false c h = refl
or_wide false b c h = h

or_nil : (a : Bool) → a ≡ true → (a || false) ≡ true
or_nil a h = rw h

-- entries that passed have proper spans, and none of the base starts at the base
placed_proper : (a b : ℕ) (ss : List Span) → Placed a b ss → Proper ss
placed_proper a b [] i = tt
placed_proper a b (s ∷ ss) i = (i.0.some, placed_proper a b ss i.1)

placed-none : (a b : ℕ) (ss : List Span) → Placed a b ss → None ss b
placed-none a b [] i = tt
placed-none a b (s ∷ ss) i = (λ e. apart i.0.some i.0.to e, placed-none a b ss i.1)
  where
    apart : s.0 < s.1 → s.1 ≤ b → s.0 ≡ b → ⊥
    apart h k e = omega arith

module _ {isRecord : Bool} {base : ℕ} {es : List (List ℕ)} (i : Passed isRecord base es) where
  pub low_proper : Proper (spans isRecord base false es)
  low_proper = placed_proper 0 base (spans isRecord base false es) i.low

  pub low-none : None (spans isRecord base false es) base
  low-none = placed-none 0 base (spans isRecord base false es) i.low

  pub high_proper : Proper (spans isRecord base true es)
  high_proper = placed_proper base 65535 (spans isRecord base true es) i.high

module _ (sheet : List ℕ) (width labels : ℕ) (aligns : List ℕ) (isRecord : Bool) (base : ℕ) (l t : List ℕ) where
  abbrev F : List ℕ → Source → ℕ
  F ids s = fields_fault sheet width labels aligns isRecord base ids (entries_of l t s)

  pub record Fielding (src left : Source) (ws : List ℕ) : Type 0 where
    pub room : InSlice l t left
    pub ids : List ℕ
    pub marks : Marks ws ids
    pub kept : (k : ℕ) → (among k ids || among k (ids_of (entries_of l t left))) ≡ true → among k (ids_of (entries_of l t src)) ≡ true
    pub same : F [] src ≡ F ids left

  pub fielding : (src : Source) {ws : List ℕ} → InSlice l t src → Marks ws [] → Fielding src src ws
  fielding src r m = record { room = r; ids = []; marks = m; kept = λ k h. h; same = refl }

  module _ {src left : Source} {ws : List ℕ} (v : Fielding src left ws) where
    module _ (m : 0 < left.count) {e : List ℕ} (is : e ≡ entry_of l t left) {id : ℕ} (name : id ≡ id_of e) (small : id < 65536) {seen : Bool} (told : seen ≡ marked ws id)
        {r : ℕ} (verdict : r ≡ field_fault sheet width labels aligns isRecord base seen e) where
      said : seen ≡ among (id_of e) v.ids
      said = told ∙ v.marks.right id small ∙ ap (λ (n : ℕ). among n v.ids) name

      here-is : F [] src ≡ first r (F (noted sheet e v.ids) (rest_of left))
      unfolding fields_fault
      here-is = v.same ∙ rw (entries-cons l t left m, ← is, ← said, ← verdict)

      pub fields-stop : (r ≡ 0 → ⊥) → r ≡ F [] src
      fields-stop h = sym (here-is ∙ first_some r _ h)

      marks-noted : Marks (noted_marks sheet ws e) (noted sheet e v.ids)
      unfolding noted_marks
      marks-noted =
          by_bool (is_padding sheet e)
          (λ p. rw p v.marks)
          (λ p. rw (p, ← name) (marks-more ws v.ids id small v.marks))

      pub fields_go : r ≡ 0 → {ws' : List ℕ} → ws' ≡ noted_marks sheet ws e → Fielding src (rest_of left) ws'
      fields_go z q = record {
        room = room-rest l t v.room m;
        ids = noted sheet e v.ids;
        marks = rw q marks-noted;
        kept = λ k h. v.kept k (rw (entries-cons l t left m, ← is) (by_bool (is_padding sheet e)
            (λ p. or_wide (eqb k (id_of e)) (among k v.ids) (among k (ids_of (entries_of l t (rest_of left)))) (rw p at h))
            (λ p. or_shift (eqb k (id_of e)) (among k v.ids) (among k (ids_of (entries_of l t (rest_of left)))) (rw p at h))));
        same = here-is ∙ first-none r _ z;
      }

    pub fields-end : left.count ≤ 0 → 0 ≡ F [] src
    unfolding fields_fault
    fields-end z = sym (v.same ∙ rw (entries-nil l t left z))

    pub fields-marks : left.count ≤ 0 → Only ws (ids_of (entries_of l t src))
    fields-marks z = record {
      words = v.marks.words;
      only = λ k hk h. v.kept k (rw (entries-nil l t left z) (or_nil (among k v.ids) (sym (v.marks.right k hk) ∙ h)));
    }

  -- ---- the whole sequence
  module _ (src : Source) {f : ℕ} (said : f ≡ F [] src) where
    abbrev Q : ℕ
    Q = seq_fault sheet width labels aligns isRecord (judged base (entries_of l t src))

    parts : Q ≡ first f (tiling_fault isRecord base (entries_of l t src))
    unfolding seq_fault
    parts = rw (← said)

    pub seq-fields : (f ≡ 0 → ⊥) → f ≡ Q
    seq-fields n = sym (parts ∙ first_some f _ n)

    pub seq_tiling : f ≡ 0 → {x : ℕ} → x ≡ tiling_fault isRecord base (entries_of l t src) → x ≡ Q
    seq_tiling z r = sym (parts ∙ first-none f _ z ∙ sym r)

-- ---- clearing

module _ (l t : List ℕ) where
  pub record Wiping (left : Source) (ws : List ℕ) : Type 0 where
    pub room : InSlice l t left
    pub only : Only ws (ids_of (entries_of l t left))

  pub wipe_go : {left : Source} {ws : List ℕ} → Wiping left ws → 0 < left.count → {e : List ℕ} → e ≡ entry_of l t left → {id : ℕ} → id ≡ id_of e → id < 65536
      → {ws' : List ℕ} → ws' ≡ wiped ws id → Wiping (rest_of left) ws'
  wipe_go {left} {ws} v m {e} is {id} name small q = record {
    room = room-rest l t v.room m;
    only = rw q (only_next ws (ids_of (entries_of l t (rest_of left))) id small (subst (λ (n : ℕ). Only ws (n ∷ ids_of (entries_of l t (rest_of left)))) (sym (name ∙ ap id_of is)) (rw (entries-cons l t left m) at v.only)));
  }

  pub wipe_end : {left : Source} {ws : List ℕ} → Wiping left ws → left.count ≤ 0 → Marks ws []
  wipe_end {left} {ws} v z = only_end ws (rw (entries-nil l t left z) at v.only)

-- ---- each way out of a small function

module _ (isRecord : Bool) (base : ℕ) (ext : Bool) (e : List ℕ) where
  pub side_other : differs ext (past_base isRecord base e) ≡ true → ◌≡◌ {A = ℕ} 0 (on_side isRecord base ext e)
  unfolding on_side
  side_other h = rw h

  pub side_this : differs ext (past_base isRecord base e) ≡ false → ◌≡◌ {A = ℕ} 1 (on_side isRecord base ext e)
  unfolding on_side
  side_this h = rw h

  pub starts_off : (c : ℕ) → eqb (off_of e) c ≡ false → false ≡ starts_here isRecord base ext c e
  unfolding starts_here
  starts_off c q = by_bool (differs ext (past_base isRecord base e)) (λ h. rw h) (λ h. rw (h, q))

  pub starts_at : (c : ℕ) (other : Bool) → other ≡ differs ext (past_base isRecord base e) → off_of e ≡ c → not other ≡ starts_here isRecord base ext c e
  unfolding starts_here
  starts_at c true p q = rw (sym p)
  starts_at c false p q = rw (sym p, eq-eqb (off_of e) c q)

module _ (sheet ws e : List ℕ) where
  pub note_skip : is_padding sheet e ≡ true → ws ≡ noted_marks sheet ws e
  unfolding noted_marks
  note_skip h = rw h

  pub note_set : is_padding sheet e ≡ false → {id : ℕ} → id ≡ id_of e → {r : List ℕ} → r ≡ with_mark ws id → r ≡ noted_marks sheet ws e
  unfolding noted_marks
  note_set h {id} q p = rw (h, ← q) p
