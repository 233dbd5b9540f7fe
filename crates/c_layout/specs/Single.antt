-- ONE ANSWER: two outcomes that meet a promise of a C function are equal.
-- Assumes nothing.
use Rattle.std.specs.Prelude.{ℕ, ◌/◌, ◌≡◌, List, length, leb, Ok, Err}
use Rattle.std.proofs.Common.{◌∙◌}
use Rattle.codec.specs.Codec.{Res, ok, refuse}
use Rattle.codec.specs.CaseLaws.{by_bool}
use Rattle.layout.specs.Layout.{Layout}
use Rattle.layout.specs.Rows.{rows}
use Rattle.layout.specs.Answers.{accepted, verdict, judge, layout_number, verdict_number}
use Rattle.layout.specs.declared.ReadError.TheVariants.{Short}
use Rattle.layout.specs.AnswerLaws.{verdict-accepted, verdict-refused, judge-ok, judge-no}
use Rattle.rules.specs.Rules.{ruled_of}
use Rattle.c_texts.specs.Single.{one}
use Rattle.c_layout.specs.Numbers.{layout_out, verdict_out, LayoutC, LayoutPlainC, WriteC}

-- of dbn_layout: number, table, `out`
pub one-layout : (b : List ℕ) (w : ℕ) (sheet t o : List ℕ) (r q : ℕ) (t1 o1 t2 o2 : List ℕ)
    → LayoutC b w sheet t o r t1 o1 → LayoutC b w sheet t o q t2 o2 → (r ≡ q) × ((t1 ≡ t2) × (o1 ≡ o2))
one-layout b w sheet t o r q t1 o1 t2 o2 f g = (one f.number g.number, (one f.rows g.rows, one f.out g.out))

-- of dbn_layout_plain: number, `out`
pub one-layout-plain : (b : List ℕ) (w : ℕ) (sheet o : List ℕ) (r q : ℕ) (o1 o2 : List ℕ) → LayoutPlainC b w sheet o r o1 → LayoutPlainC b w sheet o q o2 → (r ≡ q) × (o1 ≡ o2)
one-layout-plain b w sheet o r q o1 o2 f g = (one f.number g.number, one f.out g.out)

-- EITHER ENGINE: where its table is not short, dbn_layout gives number and `out` of dbn_layout_plain
pub plain-layout : (b : List ℕ) (w : ℕ) (sheet t o : List ℕ) (r q : ℕ) (t1 o1 o2 : List ℕ)
    → LayoutC b w sheet t o r t1 o1 → LayoutPlainC b w sheet o q o2 → (r ≡ 3 → ⊥) → (r ≡ q) × (o1 ≡ o2)
plain-layout b w sheet t o r q t1 o1 o2 f g n = go (ruled_of sheet w b) f.number f.out g.number g.out
  where
    go : (x : Res Layout) → r ≡ layout_number (judge (length t / 9) x) → o1 ≡ layout_out (judge (length t / 9) x) o → q ≡ verdict_number (verdict x) → o2 ≡ verdict_out (verdict x) o → (r ≡ q) × (o1 ≡ o2)
    go (ok l j) a b c d =
        let v = verdict-accepted l j in
        by_bool (leb (length (rows l)) (length t / 9))
        (λ e.
        let i : judge (length t / 9) (ok l j) ≡ Ok (accepted l.version (length (rows l))) = judge-ok (length t / 9) l j ∙ rw e in
        (one (rw i at a) (rw v at c), one (rw i at b) (rw v at d)))
        (λ e.
        let i : judge (length t / 9) (ok l j) ≡ Err (Short (accepted l.version (length (rows l)))) = judge-ok (length t / 9) l j ∙ rw e in
        absurd (n (rw i at a)))
    go (refuse k) a b c d =
        let i = judge-no (length t / 9) k in
        let v = verdict-refused k in
        (one (rw i at a) (rw v at c), one (rw i at b) (rw v at d))

-- of dbn_write_layout: number, output, `out`
pub one_write : (rows text : List ℕ) (v w : ℕ) (sheet u o : List ℕ) (r q : ℕ) (u1 o1 u2 o2 : List ℕ)
    → WriteC rows text v w sheet u o r u1 o1 → WriteC rows text v w sheet u o q u2 o2 → (r ≡ q) × ((u1 ≡ u2) × (o1 ≡ o2))
one_write rows text v w sheet u o r q u1 o1 u2 o2 f g = (one f.number g.number, (one f.output g.output, one f.out g.out))
