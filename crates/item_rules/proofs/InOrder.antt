-- What the walk over entries that stand in order tells of 81 to 83. Assumes nothing.
use Prim.Native.Nat.{ℕ, ◌≤◌, ◌<◌}
use mathlib.Core.Path.{◌≡◌, refl, sym, ap, ◌∙◌}
use mathlib.Core.Bool.{Bool, true, false, ◌&&◌, cond}
use mathlib.Core.List.{List, [], ◌∷◌}
use native.Mathlib.Omega.{arith}
use lib.Dec.{eqb}
use borrow.Author.Tests.{eq-eqb, eqb-true, le-leb}
use Rattle.codec.specs.CaseLaws.{both_true, by_eqb}
use Rattle.fields.specs.Sheet.{off_of, end_of, past_base}
use Rattle.plain_tiling.specs.Tile.{Span, insert, sorted, walk}
use Rattle.item_rules.specs.declared.Source.{Source}
use Rattle.item_rules.specs.declared.Course.{Course}
use Rattle.item_rules.specs.Rules.{spans, base_fault, ext_fault, tiling_fault}
use Rattle.item_rules.specs.Entries.{entry_of, entries_of, rest_of}
use Rattle.item_rules.specs.EntryLaws.{entries-cons, entries-nil}
use Rattle.item_rules.specs.Search.{Proper}
use Rattle.item_rules.specs.Engines.{Passed}
use Rattle.item_rules.specs.InOrder.{InOrder, InTurn, Onward}
use Rattle.item_rules.proofs.Search.{From, from_down}
use Rattle.item_rules.proofs.Loops.{low_proper, high_proper}

-- ---- spans in order

-- none starts before the place that they stand in order from
order_from : (a b : ℕ) (ss : List Span) → Proper ss → InOrder a ss b → From a ss
order_from a b [] p o = tt
order_from a b (s ∷ ss) p o =
    let at : s.0 ≡ a = o.0 in
    let some : s.0 < s.1 = p.0 in
    (omega arith, from_down a s.1 ss (omega arith) (order_from s.1 b ss p.1 o.1))

-- the sort leaves them as they are
insert-first : (s : Span) (ss : List Span) → From s.0 ss → insert s ss ≡ s ∷ ss
insert-first s [] f = refl
insert-first s (x ∷ ss) f = rw (le-leb s.0 x.0 f.0)

sorted-same : (a b : ℕ) (ss : List Span) → Proper ss → InOrder a ss b → sorted ss ≡ ss
sorted-same a b [] p o = refl
sorted-same a b (s ∷ ss) p o = ap (insert s) (sorted-same s.1 b ss p.1 o.1) ∙ insert-first s ss (order_from s.0 b (s ∷ ss) p (refl, o.1)).1

module _ (gap : ℕ) (last : ℕ → ℕ) where
  walk_through : (a b : ℕ) (ss : List Span) → InOrder a ss b → walk gap last a ss ≡ last b
  walk_through a b [] o = ap last o
  walk_through a b (s ∷ ss) o = rw (eq-eqb s.0 a o.0) (walk_through s.1 b ss o.1)

  -- the walk over the sorted spans meets no gap
  walk_order : (a b : ℕ) (ss : List Span) → Proper ss → InOrder a ss b → walk gap last a (sorted ss) ≡ last b
  walk_order a b ss p o = ap (walk gap last a) (sorted-same a b ss p o) ∙ walk_through a b ss o

-- ---- 81 to 83 of entries in order: 82 exactly where the last of the base does not end at the base

module _ {isRecord : Bool} {base : ℕ} {es : List (List ℕ)} {end : ℕ} where
  pub tiling_order : Passed isRecord base es → InTurn isRecord base 0 base es end → {r : ℕ} → r ≡ cond (eqb end base) 0 82 → r ≡ tiling_fault isRecord base es
  unfolding tiling_fault base_fault ext_fault
  tiling_order i o q =
      q ∙ sym (rw (walk_order 81 (λ c. cond (eqb c base) 0 82) 0 end (spans isRecord base false es) (low_proper i) o.low, walk_order 83 (λ c. 0) base o.last (spans isRecord base true es) (high_proper i) o.high)
      (by_eqb end base (λ t _. rw t) (λ t _. rw t)))

-- ---- one entry more

module _ (isRecord : Bool) (base : ℕ) (e : List ℕ) (so : Course) {off x : ℕ} (at : off ≡ off_of e) (to : x ≡ end_of e) where
  -- the course was in order, and the entry starts at c
  met : (c : ℕ) → (so.in_order && eqb off c) ≡ true → (so.in_order ≡ true) × (off_of e ≡ c)
  met c h = let both = both_true so.in_order (eqb off c) h in (both.0, sym at ∙ eqb-true off c both.1)

  -- an extension
  pub onward_past : past_base isRecord base e ≡ true → Onward isRecord base e so (record { in_order = so.in_order && eqb off so.beyond; cursor = so.cursor; beyond = x })
  unfolding spans
  onward_past d = record {
    held = λ h. (met so.beyond h).0;
    more = λ h es end o. record { low = rw d o.low; last = o.last; high = rw d ((met so.beyond h).1, rw to at o.high) };
  }

  -- an entry of the base
  pub onward_base : past_base isRecord base e ≡ false → Onward isRecord base e so (record { in_order = so.in_order && eqb off so.cursor; cursor = x; beyond = so.beyond })
  unfolding spans
  onward_base d = record {
    held = λ h. (met so.cursor h).0;
    more = λ h es end o. record { low = rw d ((met so.cursor h).1, rw to at o.low); last = o.last; high = rw d o.high };
  }

-- ---- the walk

module _ (isRecord : Bool) (base : ℕ) (l t : List ℕ) where
  -- where the course is in order and the entries left go on in order from it, all stand in order
  pub record Following (src left : Source) (so : Course) : Type 0 where
    pub all : so.in_order ≡ true → (end : ℕ) → InTurn isRecord base so.cursor so.beyond (entries_of l t left) end → InTurn isRecord base 0 base (entries_of l t src) end

  pub following : (src : Source) → Following src src (record { in_order = true; cursor = 0; beyond = base })
  following src = record { all = λ _ end o. o }

  module _ {src left : Source} {so : Course} (v : Following src left so) where
    pub follow_go : 0 < left.count → {e : List ℕ} → e ≡ entry_of l t left → {r : Course} → Onward isRecord base e so r → Following src (rest_of left) r
    follow_go m {e} is n = record {
      all = λ h end o. v.all (n.held h) end (rw (entries-cons l t left m, ← is) (n.more h (entries_of l t (rest_of left)) end o));
    }

    pub follow_end : left.count ≤ 0 → so.in_order ≡ true → InTurn isRecord base 0 base (entries_of l t src) so.cursor
    unfolding spans
    follow_end z h = v.all h so.cursor (rw (entries-nil l t left z) (record { low = refl; last = so.beyond; high = refl }))
