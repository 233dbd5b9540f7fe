-- What one turn of the marking does with the entries of one side. Assumes nothing.
use Prim.Native.Nat.{ℕ, ◌+◌, ◌-◌, ◌≤◌, ◌<◌, max}
use mathlib.Core.Path.{◌≡◌}
use mathlib.Core.Bool.{Bool, true, false}
use mathlib.Core.List.{List, ◌∷◌}
use lib.ListN.{length}
use Rattle.fields.specs.Sheet.{off_of, end_of, past_base}
use Rattle.fields.specs.Field.{differs}
use Rattle.plain_tiling.specs.Tile.{Span}
use Rattle.plain_tiling.specs.Plain.{taken, paint}
use Rattle.plain_tiling.specs.Places.{Unowned, Enough}
use Rattle.plain_tiling.proofs.MarkingLaws as spans-of
use Rattle.plain_tiling.specs.Marking.{Marked, Marking}
use Rattle.plain_tiling.proofs.MarkingLaws.{marking}
use Rattle.item_rules.specs.declared.Source.{Source}
use Rattle.item_rules.specs.Rules.{spans}
use Rattle.item_rules.specs.Engines.{EndBelow}
use Rattle.item_rules.specs.Entries.{entry_of, entries_of, rest_of, InSlice}
use Rattle.item_rules.specs.EntryLaws.{entries-cons, entries-nil, room-rest}

module _ (isRecord : Bool) (base : ℕ) (ext : Bool) (l t : List ℕ) where
  abbrev S : Source → List Span
  S s = spans isRecord base ext (entries_of l t s)

  -- the entries left are in their place, and their spans go on from the marks so far
  pub record Painting (n c : ℕ) (src left : Source) (ms : List ℕ) (k top : ℕ) : Type 0 where
    pub room : InSlice l t left
    pub marks : Marking n c (S src) (S left) ms k top

  pub painting : {c : ℕ} {src : Source} {ms : List ℕ} → InSlice l t src → Enough (length ms) c (S src) → Unowned ms → Painting (length ms) c src src ms 0 c
  painting r i u = record { room = r; marks = marking i u }

  module _ {n c : ℕ} {src left : Source} {ms : List ℕ} {k top : ℕ} (v : Painting n c src left ms k top) where
    module _ (m : 0 < left.count) {e : List ℕ} (is : e ≡ entry_of l t left) where
      -- an entry of the other side
      pub paint-skip : differs ext (past_base isRecord base e) ≡ true → Painting n c src (rest_of left) ms k top
      unfolding spans
      paint-skip d =
          let gone : S left ≡ S (rest_of left) = rw (entries-cons l t left m, ← is, d) in
          record { room = room-rest l t v.room m; marks = rw gone at v.marks }

      module _ (d : differs ext (past_base isRecord base e) ≡ false) {a z : ℕ} (p : a ≡ off_of e) (q : z ≡ end_of e) where
        next : S left ≡ (a, z) ∷ S (rest_of left)
        unfolding spans
        next = rw (entries-cons l t left m, ← is, d, p, q)

        pub paint-clash : taken ms a (z - a) ≡ true → Marked n c (S src) ms true top
        paint-clash h = spans-of.mark_clash v.marks next h

        module _ (free : taken ms a (z - a) ≡ false) where
          pub paint-owner : k + 1 < 65536
          paint-owner = spans-of.mark_owner v.marks next free

          pub paint-next : {ms' : List ℕ} → ms' ≡ paint ms a (z - a) (k + 1) → {top' : ℕ} → top' ≡ max top z → Painting n c src (rest_of left) ms' (k + 1) top'
          paint-next g f = record { room = room-rest l t v.room m; marks = spans-of.mark_on v.marks next free g f }

    pub paint-end : left.count ≤ 0 → Marked n c (S src) ms false top
    unfolding spans
    paint-end h = spans-of.mark_end v.marks (rw (entries-nil l t left h))

-- ---- whether n marks are enough

module _ (l t : List ℕ) where
  -- where the entries left all end below n, all do
  pub record Ending (n : ℕ) (src left : Source) : Type 0 where
    pub room : InSlice l t left
    pub all : EndBelow n (entries_of l t left) → EndBelow n (entries_of l t src)

  module _ {n : ℕ} {src left : Source} (v : Ending n src left) where
    pub ending_on : 0 < left.count → {e : List ℕ} → e ≡ entry_of l t left → {z : ℕ} → z ≡ end_of e → z < n → Ending n src (rest_of left)
    ending_on m {e} is {z} q h = record {
      room = room-rest l t v.room m;
      all = λ b. v.all (rw (entries-cons l t left m, ← is, ← q) (h, b));
    }

    pub ending_end : left.count ≤ 0 → EndBelow n (entries_of l t src)
    ending_end z = v.all (rw (entries-nil l t left z) tt)
