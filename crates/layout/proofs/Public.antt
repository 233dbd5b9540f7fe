-- The public readers' answers from what the rows' reader did. Assumes nothing.
use Prim.Native.Nat.{ℕ, ◌+◌, ◌*◌, ◌/◌, ◌≤◌, ◌<◌}
use mathlib.Core.Path.{◌≡◌, refl, sym, ap, ◌∙◌, subst}
use mathlib.Core.List.{List, ◌++◌, append_assoc}
use native.Mathlib.Nat.{zero-add}
use native.Mathlib.Omega.{arith}
use lib.ListN.{length, drop}
use Rattle.std.specs.Prelude.{Ok, Err}
use borrow.Author.Tests.{le-leb, lt-leb}
use Rattle.refusal.specs.declared.Refusal.{Refusal}
use Rattle.codec.specs.Codec.{◌then◌, Res, ok, refuse, refusal, ◌>>=◌, whole}
use Rattle.codec.specs.CaseLaws.{by_le}
use mathlib.Core.Bool.{Bool}
use Rattle.wire.specs.Reader.{tests_of}
use Rattle.numbers.specs.Numbers.{u16_at, Got}
use Rattle.numbers.specs.NumberLaws.{num-is, u16-value, same_got}
use Rattle.table.specs.Table.{put_row, said, answer, fill, Fills, Ran, all_rows}
use Rattle.table.proofs.TableLaws.{fill-rows}
use Rattle.layout.specs.Layout
use Rattle.layout.specs.Layout.{Layout, RecordL, StructL, LabelDef, to_layout}
use Rattle.layout.specs.LayoutOf.{D, layout_by}
use Rattle.layout.specs.Rows.{rows, record_rows, struct_rows, label_def_rows}
use Rattle.layout.specs.Reader.{groups_at}
use Rattle.layout.specs.Answers.{accepted, Answers, verdict, judge, leave}
use Rattle.layout.specs.declared.ReadError.TheVariants.{Refused, Short}
use Rattle.layout.specs.AnswerLaws.{accepted-same}
use Rattle.layout.specs.ReadLaws.{rows-nine}

abbrev Groups : Type 0
Groups = List RecordL × (List StructL × List LabelDef)

abbrev group_rows : Groups → List (List ℕ)
group_rows z = all_rows record_rows z.0 ++ (all_rows struct_rows z.1.0 ++ all_rows label_def_rows z.1.1)

-- the layout of these groups, and its rows
abbrev layout_from : List ℕ → ℕ → Res Groups → Res Layout.Layout
layout_from l v r = r >>= λ z j. ok (to_layout ((v, z), drop j l)) (length l)

same_rows : (v : ℕ) (z : Groups) (d : List ℕ) → rows (to_layout ((v, z), d)) ≡ group_rows z
unfolding rows
same_rows v z d = append_assoc (all_rows record_rows z.0) (all_rows struct_rows z.1.0) (all_rows label_def_rows z.1.1)

-- with the tests that `light` leaves
module _ (light : Bool) where
  -- the three ways to a layout
  pub layout_13 : (l : List ℕ) → 4294967295 < length l → layout_by (tests_of light) l ≡ refuse (refusal 13 0)
  unfolding layout_by
  layout_13 l h = rw (lt-leb (length l) 4294967295 h)

  module _ (l : List ℕ) (h : length l ≤ 4294967295) where
    pub layout-no : {k : Refusal} → u16_at l 0 ≡ Err k → layout_by (tests_of light) l ≡ refuse k
    unfolding layout_by Layout.read_layout whole Layout.parts ◌then◌
    layout-no e = rw (le-leb (length l) 4294967295 h, num-is 50 2 l 0 0, e)

    pub layout-ok : {v p : ℕ} → u16_at l 0 ≡ Ok (v, p) → layout_by (tests_of light) l ≡ layout_from l v ((Layout.groups (tests_of light) D).codec.parse 0 l p)
    unfolding layout_by Layout.read_layout whole Layout.parts ◌then◌
    layout-ok {v} {p} e = rw (le-leb (length l) 4294967295 h, num-is 50 2 l 0 0, e) (go ((Layout.groups (tests_of light) D).codec.parse 0 l p))
      where
        go : (r : Res Groups) → (((◌>>=◌ {B = ℕ × Groups} r λ z k. ok (v, z) k) >>= λ x j. ok (x, drop j l) (length l)) >>= λ z j. ok (to_layout z) j) ≡ layout_from l v r
        go (ok z j) = refl
        go (refuse k) = refl

  -- ---- the verdict

  pub ver_no : (l : List ℕ) {k : Refusal} → layout_by (tests_of light) l ≡ refuse k → Err k ≡ verdict (layout_by (tests_of light) l)
  unfolding verdict
  ver_no l e = rw e

  -- the rows' reader ran on the groups, with any table
  module _ (l : List ℕ) {v p n q base : ℕ} {s t t' : List ℕ} {r : Got} (h : length l ≤ 4294967295) (e : u16_at l 0 ≡ Ok (v, p)) (g : Ran (put_row 9) base s (groups_at light l p) 0 t t' r) where
    pub ver_ok : r ≡ Ok (n, q) → Ok (accepted v n) ≡ verdict (layout_by (tests_of light) l)
    unfolding groups_at verdict
    ver_ok f = rw (layout-ok l h e) (go ((Layout.groups (tests_of light) D).codec.parse 0 l p) (sym g.answered ∙ f))
      where
        go : (r : Res Groups) → answer 0 (said group_rows r) ≡ Ok (n, q) → Ok (accepted v n) ≡ verdict (layout_from l v r)
        go (ok z k) a = let w : 0 + length (group_rows z) ≡ n = (same_got a).0 in ap (λ (m : ℕ). Ok (accepted v m)) (sym w ∙ zero-add (length (group_rows z)) ∙ ap length (sym (same_rows v z (drop k l))))
        go (refuse k) a = absurd (let z : ◌≡◌ {A = ℕ} 0 1 = cc in omega arith)

  module _ (l : List ℕ) {v p base : ℕ} {k : Refusal} {s t t' : List ℕ} {r : Got} (h : length l ≤ 4294967295) (e : u16_at l 0 ≡ Ok (v, p)) (g : Ran (put_row 9) base s (groups_at light l p) 0 t t' r) where
    pub ver_bad : r ≡ Err k → Err k ≡ verdict (layout_by (tests_of light) l)
    unfolding groups_at verdict
    ver_bad f = rw (layout-ok l h e) (go ((Layout.groups (tests_of light) D).codec.parse 0 l p) (sym g.answered ∙ f))
      where
        go : (r : Res Groups) → answer 0 (said group_rows r) ≡ Err k → Err k ≡ verdict (layout_from l v r)
        go (ok z j) a = absurd (let z : ◌≡◌ {A = ℕ} 0 1 = cc in omega arith)
        go (refuse j) a = let z : j ≡ k = cc in ap Err (sym z)

  -- ---- the rows

  -- what an accepted layout is
  pub record Accepts (l : List ℕ) (v n : ℕ) : Type 0 where
    pub small : length l ≤ 4294967295
    pub two : 2 ≤ length l
    pub z : Groups
    pub k : ℕ
    pub read : (Layout.groups (tests_of light) D).codec.parse 0 l 2 ≡ ok z k
    pub is : layout_by (tests_of light) l ≡ ok (to_layout ((v, z), drop k l)) (length l)
    pub many : length (rows (to_layout ((v, z), drop k l))) ≡ n

  pub accepts : (l : List ℕ) {v n : ℕ} → Ok (accepted v n) ≡ verdict (layout_by (tests_of light) l) → Accepts l v n
  unfolding verdict
  accepts l {v} {n} e =
      by_le (length l) 4294967295
      (λ h. number h (u16_at l 0) refl)
      (λ h. let f : Ok (accepted v n) ≡ Err (refusal 13 0) = e ∙ rw (layout_13 l h) in absurd (let z : ◌≡◌ {A = ℕ} 0 1 = cc in omega arith))
    where
      groups : (h : length l ≤ 4294967295) (w : ℕ) → u16_at l 0 ≡ Ok (w, 2) → 2 ≤ length l → (r : Res Groups) → (Layout.groups (tests_of light) D).codec.parse 0 l 2 ≡ r → Accepts l v n
      groups h w f two (ok y j) q =
          let i : layout_by (tests_of light) l ≡ ok (to_layout ((w, y), drop j l)) (length l) = layout-ok l h f ∙ ap (layout_from l w) q in
          let g : Ok (accepted v n) ≡ Ok (accepted w (length (rows (to_layout ((w, y), drop j l))))) = e ∙ ap verdict i in
          let (vv, nm) = accepted-same g in
          let vw : w ≡ v = sym vv in
          let nn : length (rows (to_layout ((w, y), drop j l))) ≡ n = sym nm in
          record {
            small = h;
            two = two;
            z = y;
            k = j;
            read = q;
            is = i ∙ ap (λ (m : ℕ). ok (to_layout ((m, y), drop j l)) (length l)) vw;
            many = ap (λ (m : ℕ). length (rows (to_layout ((m, y), drop j l)))) (sym vw) ∙ nn;
          }
      groups h w f two (refuse j) q =
          let g : Ok (accepted v n) ≡ Err j = e ∙ ap verdict (layout-ok l h f ∙ ap (layout_from l w) q) in
          absurd (let z : ◌≡◌ {A = ℕ} 0 1 = cc in omega arith)

      number : length l ≤ 4294967295 → (g : Got) → u16_at l 0 ≡ g → Accepts l v n
      number h (Ok (w, p)) f =
          let y = u16-value l 0 f in
          let p2 : p ≡ 2 = y.1 in
          groups h w (f ∙ ap (λ p. Ok (w, p)) p2) (omega arith) ((Layout.groups (tests_of light) D).codec.parse 0 l 2) refl
      number h (Err j) f =
          let g : Ok (accepted v n) ≡ Err j = e ∙ ap verdict (layout-no l h f) in
          absurd (let z : ◌≡◌ {A = ℕ} 0 1 = cc in omega arith)

  module _ {l : List ℕ} {v n : ℕ} (a : Accepts l v n) where
    pub ans_read : {base : ℕ} {s t t' : List ℕ} {r : Got} → n ≤ length t / 9 → Ran (put_row 9) base s (groups_at light l 2) 0 t t' r → Answers light l t t' (Ok (accepted v n))
    unfolding groups_at judge leave
    ans_read {t = t} {t'} h g =
        let T : Layout.Layout = to_layout ((v, a.z), drop a.k l) in
        let e = a.many in
        let w : 9 * length (rows T) ≤ length t = omega arith in
        let h1 : length (rows T) ≤ length t / 9 = omega arith in
        let f : Fills (put_row 9) t 0 (said group_rows (ok a.z a.k)) t' = subst (λ (x : Res Groups). Fills (put_row 9) t 0 (said group_rows x) t') a.read g.filled in
        let i : t' ≡ fill (put_row 9) t 0 (rows T) = f ∙ ap (fill (put_row 9) t 0) (sym (same_rows v a.z (drop a.k l))) in
        record {
          is = rw (a.is, le-leb (length (rows T)) (length t / 9) h1, e);
          leaves = rw (a.is, le-leb (length (rows T)) (length t / 9) h1) (i ∙ fill-rows 9 (omega arith) (rows T) t (rows-nine T) h1);
        }

    pub ans_short : {t : List ℕ} → length t / 9 < n → Answers light l t t (Err (Short (accepted v n)))
    unfolding judge leave
    ans_short {t} h =
        let T : Layout.Layout = to_layout ((v, a.z), drop a.k l) in
        let e = a.many in
        let h1 : length t / 9 < length (rows T) = omega arith in
        record { is = rw (a.is, lt-leb (length (rows T)) (length t / 9) h1, e); leaves = rw (a.is, lt-leb (length (rows T)) (length t / 9) h1) }

  pub ans_no : (l t : List ℕ) {k : Refusal} → Err k ≡ verdict (layout_by (tests_of light) l) → Answers light l t t (Err (Refused k))
  unfolding verdict judge leave
  ans_no l t {k} e = go (layout_by (tests_of light) l) refl e
    where
      go : (r : Res Layout.Layout) → layout_by (tests_of light) l ≡ r → Err k ≡ verdict r → Answers light l t t (Err (Refused k))
      go (ok x j) q e = absurd (let z : ◌≡◌ {A = ℕ} 0 1 = cc in omega arith)
      go (refuse j) q e = let z : k ≡ j = cc in record { is = rw (q, z); leaves = rw q }
