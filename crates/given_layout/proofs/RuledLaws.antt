-- A layout that is read and ruled on, and reading it into a table. Assumes nothing.
use Rattle.std.specs.Prelude.{ℕ, ◌*◌, ◌/◌, ◌≤◌, ◌≡◌, refl, Bool, List, ◌++◌, length, drop, Ok, Err}
use Rattle.std.proofs.Common.{arith, sym, ap, ◌∙◌, le-leb}
use Rattle.refusal.specs.declared.Refusal.{Refusal}
use Rattle.codec.specs.Codec.{Res, ok, refuse, ◌>>=◌}
use Rattle.codec.specs.Refusals.{In}
use Rattle.codec.proofs.RefusalLaws.{gives_is}
use Rattle.table.specs.Table.{flat}
use Rattle.layout.specs.Layout.{Layout}
use Rattle.layout.specs.Rows.{rows}
use Rattle.wire.specs.Reader.{tests_of}
use Rattle.layout.specs.LayoutOf.{layout_by}
use Rattle.layout.specs.LenientLaws.{light_same}
use Rattle.layout.specs.Answers.{accepted, Answer, verdict, Answers, judge, leave}
use Rattle.layout.specs.declared.ReadError.TheVariants.{Refused}
use Rattle.rules.specs.Rules.{ruled_numbers, ruled_of}
use Rattle.rules.proofs.RefusalLaws.{ruled_gives, ruled-within}
use Rattle.layout.specs.RefusalLaws.{judge-refused}
use Rattle.layout.specs.AnswerLaws.{verdict-ok, verdict-no, judge-ok, judge-no, judge_anywhere, leave-ok, leave_anywhere, leave-no}
use Rattle.engines.specs.VerdictLaws.{ruled-layout}
use Rattle.given_layout.specs.Ruled.{Ruled}

-- what the reader's answer refuses with
pub ruled-layout-refuses : (s : List ℕ) (w : ℕ) (sheet t t' : List ℕ) (k : Refusal) → Ruled s w sheet t t' (Err (Refused k)) → In ruled_numbers k.number
ruled-layout-refuses s w sheet t t' k p = gives_is (In ruled_numbers) (ruled_gives sheet w s) (judge-refused (length t / 9) (ruled_of sheet w s) p.is)

-- and where: a place within the layout
pub ruled-layout-within : (s : List ℕ) (w : ℕ) (sheet t t' : List ℕ) (k : Refusal) → Ruled s w sheet t t' (Err (Refused k)) → k.place ≤ length s
ruled-layout-within s w sheet t t' k p = ruled-within sheet w s (judge-refused (length t / 9) (ruled_of sheet w s) p.is)

module _ {sheet : List ℕ} {w : ℕ} {s t : List ℕ} where
  both_read : (light : Bool) {t' : List ℕ} {r : Answer} (l : Layout) (i j : ℕ) → layout_by (tests_of light) s ≡ ok l i → ruled_of sheet w s ≡ ok l j → Answers light s t t' r → Ruled s w sheet t t' r
  both_read light l i j e f a = record { is = a.is ∙ ap (judge (length t / 9)) e ∙ judge_anywhere _ l i j ∙ sym (ap (judge (length t / 9)) f); leaves = a.leaves ∙ ap (leave t) e ∙ leave_anywhere t l i j ∙ sym (ap (leave t) f) }

  pub ruled-read : {v n : ℕ} {t' : List ℕ} {r : Answer} → Ok (accepted v n) ≡ verdict (ruled_of sheet w s) → (light : Bool) → Answers light s t t' r → Ruled s w sheet t t' r
  ruled-read q light a =
      let (l, j, el, ev, em) = verdict-ok (ruled_of sheet w s) q in
      let (i, e) = ruled-layout sheet w s l j el in
      both_read light l i j (light_same light s e) el a

  pub ruled-no : {k : Refusal} → Err k ≡ verdict (ruled_of sheet w s) → Ruled s w sheet t t (Err (Refused k))
  ruled-no {k} q =
      let e = verdict-no (ruled_of sheet w s) q in
      record { is = sym (ap (judge (length t / 9)) e ∙ judge-no _ k); leaves = sym (ap (leave t) e ∙ leave-no t k) }

-- of what was read: the version and the rows
abbrev pub gist : Res Layout → Res (ℕ × List (List ℕ))
gist r = r >>= λ l j. ok (l.version, rows l) j

-- what a layout gives with a symbol width, or the refusal
abbrev pub given : List ℕ → ℕ → List ℕ → Res (ℕ × List (List ℕ))
given sheet w s = gist (ruled_of sheet w s)

-- the table is long enough: the version and the row count are answered, the rows stand at the front of the table, the rest of it is as it was
pub read-given : (sheet : List ℕ) (w : ℕ) (s t : List ℕ) (v : ℕ) (rs : List (List ℕ)) (k : ℕ) → given sheet w s ≡ ok (v, rs) k
    → length rs ≤ length t / 9 → Ruled s w sheet t (flat rs ++ drop (9 * length rs) t) (Ok (accepted v (length rs)))
read-given sheet w s t v rs k e h = go (ruled_of sheet w s) refl e
  where
    go : (r : Res Layout) → ruled_of sheet w s ≡ r → gist r ≡ ok (v, rs) k → Ruled s w sheet t (flat rs ++ drop (9 * length rs) t) (Ok (accepted v (length rs)))
    go (refuse n) q e = absurd (let y : ◌≡◌ {A = ℕ} 0 1 = cc in omega arith)
    go (ok l j) q e =
        let x : ◌≡◌ {A = ℕ × List (List ℕ)} (l.version, rows l) (v, rs) = cc in
        let ev : l.version ≡ v = ap (λ y. y.0) x in
        let er : rows l ≡ rs = ap (λ y. y.1) x in
        let fits = le-leb (length rs) (length t / 9) h in
        record { is = simp (q, judge-ok, ev, er, fits); leaves = simp (q, leave-ok, er, fits) }
