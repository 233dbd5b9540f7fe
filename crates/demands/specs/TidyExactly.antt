-- Request 11 of document 02: a layout is told to be tidy exactly if it is the bytes that the writer gives for the rows that it reads to, with the same
-- version; over the definitions, and over the public promises. Assumes nothing.
use Rattle.std.specs.Prelude.{ℕ, ◌*◌, ◌/◌, ◌≤◌, ◌≡◌, refl, Bool, true, false, List, ◌++◌, length, take, drop, leb, Ok}
use Rattle.std.proofs.Common.{arith, sym, ap, ap₂, ◌∙◌, subst, take_at}
use Rattle.codec.specs.Codec.{Bytes, Res, ok, refuse}
use Rattle.wire.specs.Reader.{all_tests}
use Rattle.table.specs.Table.{flat}
use Rattle.layout.specs.Layout.{Layout}
use Rattle.layout.specs.LayoutOf.{D}
use Rattle.layout.specs.LawfulLaws.{layout-lawful}
use Rattle.layout.specs.Rows.{rows}
use Rattle.layout.specs.ReadLaws.{rows-flat}
use Rattle.layout.specs.Answers.{accepted, judge, leave}
use Rattle.layout.specs.AnswerLaws.{verdict-ok, read-verdict, judge-ok, leave-ok}
use Rattle.rows_check.specs.Check.{printed}
use Rattle.rules.specs.Rules.{ruled_of}
use Rattle.given_layout.specs.Ruled.{Ruled}
use Rattle.writer.specs.Write.{write_layout, out_after, Writes}
use Rattle.writer.proofs.RoundTripLaws.{out_written}
use Rattle.writer.specs.Write.{Written}
use Rattle.tidy.specs.Tidy.{Tidy, told, tidy_of}
use Rattle.demands.specs.Demand2.{written_is}
use Rattle.demands.specs.PlainLaws.{ruled_parsed, tidy_plain}
use Rattle.demands.specs.PlainWrittenLaws.{plain_written}
use Rattle.demands.specs.WrittenTidyLaws.{written_tidy}

-- the writer, lent the rows that the layout t reads to with its bytes s as their text, its version and so much room, gives s
pub record GivenBack (sheet : List ℕ) (width : ℕ) (s : List ℕ) (t : Layout) (room : ℕ) : Type 0 where
  pub answer : write_layout sheet width t.version (flat (rows t)) s room ≡ Ok (length s)
  pub bytes : printed t.version (flat (rows t)) s ≡ s

-- a layout that is read is told to be tidy exactly if it is given back: where it is tidy, into any room that holds it; and one room is enough to tell
pub tidy_exactly : (sheet : List ℕ) (width : ℕ) (s : List ℕ) (t : Layout) (j : ℕ) → Bytes s → ruled_of sheet width s ≡ ok t j
    → (tidy_of sheet width s ≡ Ok tt → (room : ℕ) → length s ≤ room → GivenBack sheet width s t room) × ((room : ℕ) → GivenBack sheet width s t room → tidy_of sheet width s ≡ Ok tt)
tidy_exactly sheet width s t j bs e = (
  λ y room h.
      let w = plain_written sheet width s t j room bs e (tidy_plain sheet width s t j bs e y) h in
      record { answer = w.0; bytes = w.1 },
  λ room g.
      let v = (layout-lawful all_tests D t (ruled_parsed sheet width s t j bs e).legal).version in
      subst (λ u. tidy_of sheet width u ≡ Ok tt) g.bytes (written_tidy sheet width t.version (flat (rows t)) s room (length s) bs v g.answer),
)

-- and nothing but a layout that is read is told to be tidy
pub tidy_read : (sheet : List ℕ) (width : ℕ) (s : List ℕ) → tidy_of sheet width s ≡ Ok tt → (t : Layout) × (j : ℕ) × (ruled_of sheet width s ≡ ok t j)
unfolding told
tidy_read sheet width s y = go (ruled_of sheet width s) refl y
  where
    go : (r : Res Layout) → ruled_of sheet width s ≡ r → told r ≡ Ok tt → (t : Layout) × (j : ℕ) × (ruled_of sheet width s ≡ ok t j)
    go (ok t j) e y = (t, j, e)
    go (refuse k) e y = absurd (let z : ◌≡◌ {A = ℕ} 0 1 = cc in omega arith)

-- ---- over the promises

-- the first n rows of the table t' are those of a layout of version v that s is read to
pub record RowsLeft (sheet : List ℕ) (width : ℕ) (s t' : List ℕ) (v n : ℕ) : Type 0 where
  pub layout : Layout
  pub next : ℕ
  pub accepted : ruled_of sheet width s ≡ ok layout next
  pub version : layout.version ≡ v
  pub table : take (9 * n) t' ≡ flat (rows layout)

-- that is so where `read_layout` answers that it has read n rows and version v
read-leaves : (sheet : List ℕ) (width : ℕ) (s t t' : List ℕ) (v n : ℕ) → Ruled s width sheet t t' (Ok (accepted v n)) → RowsLeft sheet width s t' v n
read-leaves sheet width s t t' v n c =
    let (l, j, e, ev, en) = verdict-ok (ruled_of sheet width s) (read-verdict (length t / 9) (ruled_of sheet width s) c.is refl) in
    record { layout = l; next = j; accepted = e; version = ev; table = go l j e en (leb (length (rows l)) (length t / 9)) refl }
  where
    go : (l : Layout) (j : ℕ) → ruled_of sheet width s ≡ ok l j → length (rows l) ≡ n → (b : Bool) → leb (length (rows l)) (length t / 9) ≡ b → take (9 * n) t' ≡ flat (rows l)
    go l j e en true h = ap (take (9 * n)) (rw h at (c.leaves ∙ ap (leave t) e ∙ leave-ok t l j)) ∙ take_at (flat (rows l)) _ (9 * n) (rows-flat l ∙ ap (λ (m : ℕ). 9 * m) en)
    go l j e en false h = let q = rw h at (c.is ∙ ap (judge (length t / 9)) e ∙ judge-ok (length t / 9) l j) in absurd (let z : ◌≡◌ {A = ℕ} 0 1 = cc in omega arith)

-- `check_tidy` answers x; `read_layout` reads n rows into a table, which it leaves as t'; `write_layout`, lent those rows, the layout as their text and
-- the version that was read, answers r and leaves the output out'
module _ (sheet : List ℕ) (width : ℕ) (s t t' out out' : List ℕ) (v n : ℕ) (x : Tidy) (r : Written) (bs : Bytes s)
    (checks : x ≡ tidy_of sheet width s) (reads : Ruled s width sheet t t' (Ok (accepted v n))) (writes : Writes sheet width v (take (9 * n) t') s out out' r) where
  abbrev left : RowsLeft sheet width s t' v n
  left = read-leaves sheet width s t t' v n reads

  -- the writer is lent the layout's own version and rows
  lent : Writes sheet width left.layout.version (flat (rows left.layout)) s out out' r
  lent =
      subst (λ k. Writes sheet width k (flat (rows left.layout)) s out out' r) (sym left.version)
      (subst (λ u. Writes sheet width v u s out out' r) left.table writes)

  -- where the checker says yes and the output has room, the layout's bytes stand at the front of the output, and the rest of it is as it was
  pub yes_written : x ≡ Ok tt → length s ≤ length out → (r ≡ Ok (length s)) × (out' ≡ s ++ drop (length s) out)
  yes_written y h =
      let g = (tidy_exactly sheet width s left.layout left.next bs left.accepted).0 (sym checks ∙ y) (length out) h in
      (lent.is ∙ g.answer, lent.leaves ∙ ap₂ (λ a u. out_after a u out) g.answer g.bytes ∙ out_written (length s) s out)

  -- where the layout's bytes are written, and no others, the checker says yes
  pub written_yes : r ≡ Ok (length s) → take (length s) out' ≡ s → x ≡ Ok tt
  written_yes e o =
      let w = subst (Writes sheet width left.layout.version (flat (rows left.layout)) s out out') e lent in
      let b = written_is sheet width left.layout.version (flat (rows left.layout)) s out out' (length s) w in
      checks ∙ (tidy_exactly sheet width s left.layout left.next bs left.accepted).1 (length out) (record { answer = sym w.is; bytes = sym b ∙ o })
