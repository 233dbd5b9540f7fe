-- The cases of the layout's answers: what each says of what was read. Assumes nothing.
use Rattle.std.specs.Prelude.{ℕ, ◌*◌, ◌/◌, ◌≡◌, Bool, cond, List, ◌++◌, length, drop, leb, Ok, Err}
use Rattle.std.proofs.Common.{arith, sym, ◌∙◌}
use Rattle.std.proofs.Math.Path.{refl, ap}
use Rattle.std.proofs.Math.Bool.{true, false}
use Rattle.refusal.specs.declared.Refusal.{Refusal}
use Rattle.codec.specs.Codec.{Res, ok, refuse}
use Rattle.table.specs.Table.{flat}
use Rattle.layout.specs.Layout.{Layout}
use Rattle.layout.specs.Rows.{rows}
use Rattle.layout.specs.Answers.{accepted, Verdict, Answer, verdict, judge, leave}
use Rattle.layout.specs.declared.Accepted.{Accepted}
use Rattle.layout.specs.declared.ReadError.TheVariants.{Refused, Short}

-- ---- the verdict

pub verdict-accepted : (l : Layout) (j : ℕ) → verdict (ok l j) ≡ Ok (accepted l.version (length (rows l)))
unfolding verdict
verdict-accepted l j = refl

pub accepted-same : {v n w m : ℕ} → ◌≡◌ {A = Verdict} (Ok (accepted v n)) (Ok (accepted w m)) → (v ≡ w) × (n ≡ m)
accepted-same {v} {n} {w} {m} e = let z : accepted v n ≡ accepted w m = cc in (ap (λ (a : Accepted). a.version) z, ap (λ (a : Accepted). a.rows) z)

pub verdict-refused : (k : Refusal) → verdict (refuse k) ≡ Err k
unfolding verdict
verdict-refused k = refl

pub verdict-ok : (r : Res Layout) {v n : ℕ} → Ok (accepted v n) ≡ verdict r → (l : Layout) × (j : ℕ) × (r ≡ ok l j) × (l.version ≡ v) × (length (rows l) ≡ n)
unfolding verdict
verdict-ok (ok l j) {v} {n} e = let (a, b) = accepted-same (sym e) in (l, j, refl, a, b)
verdict-ok (refuse k) e = absurd (let z : ◌≡◌ {A = ℕ} 0 1 = cc in omega arith)

pub verdict-no : (r : Res Layout) {k : Refusal} → Err k ≡ verdict r → r ≡ refuse k
unfolding verdict
verdict-no (ok l j) e = absurd (let z : ◌≡◌ {A = ℕ} 0 1 = cc in omega arith)
verdict-no (refuse j) {k} e = let z : j ≡ k = cc in ap (λ (m : Refusal). refuse m) z

-- ---- the answer for a table of cap rows

pub judge-ok : (cap : ℕ) (l : Layout) (j : ℕ) → judge cap (ok l j) ≡ cond (leb (length (rows l)) cap) (Ok (accepted l.version (length (rows l)))) (Err (Short (accepted l.version (length (rows l)))))
unfolding judge
judge-ok cap l j = refl

pub judge-no : (cap : ℕ) (k : Refusal) → judge cap (refuse k) ≡ Err (Refused k)
unfolding judge
judge-no cap k = refl

-- wherever the layout ends
pub judge_anywhere : (cap : ℕ) (l : Layout) (i j : ℕ) → judge cap (ok l i) ≡ judge cap (ok l j)
unfolding judge
judge_anywhere cap l i j = refl

-- an answer's verdict, whatever the table
abbrev verdict_in : Answer → Verdict
verdict_in (Ok a) = Ok a
verdict_in (Err (Short a)) = Ok a
verdict_in (Err (Refused k)) = Err k

module _ (cap : ℕ) (r : Res Layout) {a : Answer} (is : a ≡ judge cap r) where
  answer-verdict : verdict_in a ≡ verdict r
  unfolding verdict judge
  answer-verdict = ap verdict_in is ∙ go r
    where
      by : (l : Layout) (b : Bool) → verdict_in (cond b (Ok (accepted l.version (length (rows l)))) (Err (Short (accepted l.version (length (rows l)))))) ≡ Ok (accepted l.version (length (rows l)))
      by l true = refl
      by l false = refl

      go : (r : Res Layout) → verdict_in (judge cap r) ≡ verdict r
      go (ok l j) = by l (leb (length (rows l)) cap)
      go (refuse k) = refl

  pub read-verdict : {v n : ℕ} → a ≡ Ok (accepted v n) → Ok (accepted v n) ≡ verdict r
  read-verdict e = ap verdict_in (sym e) ∙ answer-verdict

  pub short-verdict : {v n : ℕ} → a ≡ Err (Short (accepted v n)) → Ok (accepted v n) ≡ verdict r
  short-verdict e = ap verdict_in (sym e) ∙ answer-verdict

  pub refused-verdict : {k : Refusal} → a ≡ Err (Refused k) → Err k ≡ verdict r
  refused-verdict e = ap verdict_in (sym e) ∙ answer-verdict

-- ---- the table afterwards

pub leave-ok : (t : List ℕ) (l : Layout) (j : ℕ) → leave t (ok l j) ≡ cond (leb (length (rows l)) (length t / 9)) (flat (rows l) ++ drop (9 * length (rows l)) t) t
unfolding leave
leave-ok t l j = refl

pub leave_anywhere : (t : List ℕ) (l : Layout) (i j : ℕ) → leave t (ok l i) ≡ leave t (ok l j)
unfolding leave
leave_anywhere t l i j = refl

pub leave-no : (t : List ℕ) (k : Refusal) → leave t (refuse k) ≡ t
unfolding leave
leave-no t k = refl
