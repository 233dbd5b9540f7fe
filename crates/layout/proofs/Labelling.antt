-- The walks over labels: the one that marks their codes, and the one that wipes the marks. Assumes nothing.
use Rattle.std.specs.Prelude.{Ok, Err}
use Prim.Native.Nat.{ℕ, suc, ◌+◌, ◌-◌, ◌≤◌, ◌<◌}
use mathlib.Core.Path.{◌≡◌, refl, sym, ap, ◌∙◌, subst}
use mathlib.Core.Bool.{Bool, true, false, ◌||◌}
use mathlib.Core.List.{List, [], ◌∷◌}
use native.Mathlib.Omega.{arith}
use lib.ListN.{length, get_or}
use lib.Dec.{eqb}
use Rattle.table.specs.Table.{put_row}
use Rattle.codec.specs.Codec.{among}
use Rattle.marks.specs.Marks.{wiped, Marks, Only}
use Rattle.marks.specs.MarkLaws.{only_next, only_end}
use Rattle.numbers.specs.Numbers.{le16, u16_at, Got}
use Rattle.wire.specs.Formats.{Tests}
use Rattle.wire.specs.Reader.{name_at}
use Rattle.numbers.specs.NumberLaws.{u16-value}
use Rattle.wire.proofs.NameLaws.{name-place}
use Rattle.table.specs.ReadingLaws.{Going}
use Rattle.layout.specs.Reader.{labels_at}
use Rattle.layout.specs.Labels.{Cleared, Walk, done, more, Codes}

-- the labels at `at`, one by one
module _ {s : List ℕ} {n at : ℕ} {ws : List ℕ} (c : Codes s n at ws) (h : 0 < n) where
  pub codes-room : at + 4 + get_or s (at + 2) 0 ≤ length s
  codes-room = go c.walk h
    where
      go : {n : ℕ} {ks : List ℕ} → Walk s n at ks → 0 < n → at + 4 + get_or s (at + 2) 0 ≤ length s
      go done h = absurd (let z : ⊥ = omega arith in z)
      go (more x w) h = x

  pub codes-next : le16 s at < 65536 → Codes s (n - 1) (at + 4 + get_or s (at + 2) 0) (wiped ws (le16 s at))
  codes-next b = go c.walk h c.only
    where
      go : {n : ℕ} {ks : List ℕ} → Walk s n at ks → 0 < n → Only ws ks → Codes s (n - 1) (at + 4 + get_or s (at + 2) 0) (wiped ws (le16 s at))
      go done h o = absurd (let z : ⊥ = omega arith in z)
      go (more {n} {ks = ks} x w) h o =
          let k : n ≡ suc n - 1 = omega arith in
          record { codes = ks; walk = subst (λ (m : ℕ). Walk s m (at + 4 + get_or s (at + 2) 0) ks) k w; only = only_next ws ks (le16 s at) b o }

pub codes-end : {s : List ℕ} {n at : ℕ} {ws : List ℕ} → Codes s n at ws → n ≤ 0 → Marks ws []
codes-end {s} {n} {at} {ws} c h = go c.walk h c.only
  where
    go : {n : ℕ} {ks : List ℕ} → Walk s n at ks → n ≤ 0 → Only ws ks → Marks ws []
    go done h o = only_end ws o
    go (more x w) h o = absurd (let z : ⊥ = omega arith in z)

-- the labels that were read: from the codes to come, all codes from the first label on
pub record Trail (s : List ℕ) (count at todo p : ℕ) (seen : List ℕ) : Type 0 where
  pub back : (ks : List ℕ) → Walk s todo p ks → (all : List ℕ) × Walk s count at all × ((k : ℕ) → (among k seen || among k ks) ≡ true → among k all ≡ true)

pub trail : (s : List ℕ) (count at : ℕ) → Trail s count at count at []
trail s count at = record { back = λ ks w. (ks, w, λ k h. h) }

or_swap : (a b c : Bool) → ((a || b) || c) ≡ true → (b || (a || c)) ≡ true
or_swap true true c h = refl
or_swap true false c h = refl
or_swap false true c h = refl
or_swap false false c h = h

pub trail-next : {s : List ℕ} {count at todo p e : ℕ} {seen : List ℕ} (code : ℕ) → Trail s count at todo p seen → 0 < todo → code ≡ le16 s p → e ≡ p + 4 + get_or s (p + 2) 0 → e ≤ length s
    → Trail s count at (todo - 1) e (code ∷ seen)
trail-next {s} {count} {at} {todo} {p} {e} {seen} code t h c q l = record {
  back = λ ks w.
      let k : suc (todo - 1) ≡ todo = omega arith in
      let room : p + 4 + get_or s (p + 2) 0 ≤ length s = omega arith in
      let w1 : Walk s (suc (todo - 1)) p (le16 s p ∷ ks) = more room (subst (λ (m : ℕ). Walk s (todo - 1) m ks) q w) in
      let (all, v, f) = t.back (le16 s p ∷ ks) (subst (λ (m : ℕ). Walk s m p (le16 s p ∷ ks)) k w1) in
      (all, v, λ j g. f j (or_swap (eqb j (le16 s p)) (among j seen) (among j ks) (subst (λ (m : ℕ). ((eqb j m || among j seen) || among j ks) ≡ true) c g)));
}

pub trail-end : {s : List ℕ} {count at todo p : ℕ} {seen ws : List ℕ} → Trail s count at todo p seen → todo ≤ 0 → Marks ws seen → Codes s count at ws
trail-end {s} {count} {at} {todo} {p} {seen} {ws} t h m =
    let k : 0 ≡ todo = omega arith in
    let (all, v, f) = t.back [] (subst (λ (m : ℕ). Walk s m p []) k done) in
    record {
      codes = all;
      walk = v;
      only = record { words = m.words; only = λ j hj e. f j (or_nil (among j seen) (sym (m.right j hj) ∙ e)) };
    }
  where
    or_nil : (a : Bool) → a ≡ true → (a || false) ≡ true
    or_nil a h = rw h

-- the loop over labels: the codes that were seen are marked, and the rest is read after them
pub record Labelling (light : Bool) (base : ℕ) (s : List ℕ) (at count n : ℕ) (t₀ ws : List ℕ) (todo p k : ℕ) (t : List ℕ) : Type 0 where
  pub seen : List ℕ
  pub going : Going (put_row 9) base s (labels_at light base [] count s at) n t₀ (labels_at light base seen todo s p) p k t
  pub marks : Marks ws seen
  pub trail : Trail s count at todo p seen

-- what one label more tells
pub label-place : (tests : Tests) (s : List ℕ) (p : ℕ) {code q len e : ℕ} → u16_at s p ≡ Ok (code, q) → name_at tests s q ≡ Ok (len, e) → e ≤ length s
    → (code ≡ le16 s p) × (e ≡ p + 4 + get_or s (p + 2) 0)
label-place tests s p {code} {q} {len} {e} x y l =
    let a = u16-value s p x in
    let b = name-place tests s q y in
    let d : q ≡ p + 2 = a.1 in
    let g : get_or s q 0 ≡ get_or s (p + 2) 0 = ap (λ (m : ℕ). get_or s m 0) d in
    (a.0, omega arith)

-- marks that no label left
pub cleared_any : (r : Got) {ws : List ℕ} → Marks ws [] → Cleared r ws
cleared_any (Ok (v, p)) m = m
cleared_any (Err k) m = tt

pub cleared_at : {r : Got} {ws : List ℕ} {v p : ℕ} → Cleared r ws → r ≡ Ok (v, p) → Marks ws []
cleared_at {ws = ws} h e = subst (λ (r : Got). Cleared r ws) e h
