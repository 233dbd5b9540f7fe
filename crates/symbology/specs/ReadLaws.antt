-- What a caller may use of the symbology's definitions. Assumes nothing.
use Rattle.std.specs.Prelude.{Result, Ok, Err, ℕ, ◌+◌, ◌/◌, ◌≤◌, ◌≡◌, refl, Bool, ◌&&◌, List, length, drop}
use Rattle.std.proofs.Common.{sym, ap, ◌∙◌}
use Rattle.std.proofs.Math.Path.{subst}
use Rattle.std.proofs.Math.Bool.{true, false, cond}
use Rattle.std.proofs.Math.Dec.{leb}
use Rattle.refusal.specs.declared.Refusal.{Refusal}
use Rattle.codec.specs.Codec.{Res, ok, refuse, moved, shifted, ◌>>=◌, need, is_nil}
use Rattle.text.specs.Utf8.{utf8}
use Rattle.padded.specs.Padded.{nul_padded}
use Rattle.dates.specs.Date.{is_date}
use Rattle.table.specs.Columns.{columns}
use Rattle.symbology_format.specs.Symbology
use Rattle.symbology_format.specs.Symbology.{Symbology, unspanned}
use Rattle.symbology_format.specs.SymbologyRows.{symbology_rows}
use Rattle.symbology_rows.specs.ReadLaws.{symbology-parse}
use Rattle.symbology.specs.Reader.{section_of}
use Rattle.symbology.specs.Answers.{section_answer, section_table, SectionPromise}
use Rattle.symbology.specs.declared.Section.{Section}
use Rattle.symbology.specs.declared.Section.TheVariants as Section'

-- a section of its own, by the format and what it leaves over; other bytes, by the format
pub section-parse : (width base : ℕ) (s : List ℕ) → base + length s ≤ 4294967295
    → section_of true width base s ≡ ((Symbology.symbology utf8 nul_padded is_date width).codec.parse base s 0 >>= λ t j. need (is_nil (drop j s)) unspanned j >>= λ _ _. ok t j)
unfolding section_of
section-parse width base s h = rw (symbology-parse width base s h)

pub rest-parse : (width base : ℕ) (s : List ℕ) → base + length s ≤ 4294967295 → section_of false width base s ≡ (Symbology.symbology utf8 nul_padded is_date width).codec.parse base s 0
unfolding section_of
rest-parse width base s h = symbology-parse width base s h

-- ---- what an answer says

-- what was read has n rows, and whether they were written
pub record Was (written write : Bool) (z : Res Symbology) (t t' : List ℕ) (n : ℕ) : Type 0 where
  pub tree : Symbology
  pub next : ℕ
  pub is : z ≡ ok tree next
  pub many : length (symbology_rows tree) ≡ n
  pub room : (write && leb (length (symbology_rows tree)) (length t / 6)) ≡ written
  pub leaves : t' ≡ cond written (columns 6 (symbology_rows tree) t) t

data Says (write : Bool) (z : Res Symbology) (t t' : List ℕ) : Result Section Refusal → Type 0 where
  read : {n j : ℕ} → Was true write z t t' n → Says write z t t' (Ok (Section'.Read n j))
  short : {n : ℕ} → Was false write z t t' n → Says write z t t' (Ok (Section'.Counted n))
  no : {k : Refusal} → z ≡ refuse k → t' ≡ t → Says write z t t' (Err k)

module _ {write : Bool} {z : Res Symbology} {t t' : List ℕ} {r r' : Result Section Refusal} (f : SectionPromise write z t t' r) (e : r ≡ r') where
  says : Says write z t t' r'
  unfolding section_answer section_table
  says = subst (Says write z t t') (sym f.is ∙ e) (go z f.leaves)
    where
      by : (x : Symbology) (j : ℕ) (b : Bool) → (write && leb (length (symbology_rows x)) (length t / 6)) ≡ b → t' ≡ cond b (columns 6 (symbology_rows x) t) t
          → Says write (ok x j) t t' (cond b (Ok (Section'.Read (length (symbology_rows x)) j)) (Ok (Section'.Counted (length (symbology_rows x)))))
      by x j true q l = read {j = j} (record { tree = x; next = j; is = refl; many = refl; room = q; leaves = l })
      by x j false q l = short (record { tree = x; next = j; is = refl; many = refl; room = q; leaves = l })

      go : (z : Res Symbology) → t' ≡ section_table write t z → Says write z t t' (section_answer write (length t / 6) z)
      go (ok x j) l = by x j (write && leb (length (symbology_rows x)) (length t / 6)) refl l
      go (refuse k) l = no {k = k} refl l

module _ {write : Bool} {z : Res Symbology} {t t' : List ℕ} {r : Result Section Refusal} (f : SectionPromise write z t t' r) where
  pub rows-read : {n j : ℕ} → r ≡ Ok (Section'.Read n j) → Was true write z t t' n
  rows-read {n} {j} e = go (says f e)
    where
      go : Says write z t t' (Ok (Section'.Read n j)) → Was true write z t t' n
      go (read w) = w

  pub rows-counted : {n : ℕ} → r ≡ Ok (Section'.Counted n) → Was false write z t t' n
  rows-counted {n} e = go (says f e)
    where
      go : Says write z t t' (Ok (Section'.Counted n)) → Was false write z t t' n
      go (short w) = w

  pub rows-refused : {k : Refusal} → r ≡ Err k → (z ≡ refuse k) × (t' ≡ t)
  rows-refused {k} e = go (says f e)
    where
      go : Says write z t t' (Err k) → (z ≡ refuse k) × (t' ≡ t)
      go (no q l) = (q, l)

pub refused-promise : {write : Bool} {t : List ℕ} {k : Refusal} → SectionPromise write (refuse k) t t (Err k)
unfolding section_answer section_table
refused-promise = record { is = refl; leaves = refl }

-- ---- a section that begins at place p of a block

-- its answer there: a refusal's place counts from the block
abbrev pub moved_in : ℕ → Result Section Refusal → Result Section Refusal
moved_in p (Ok x) = Ok x
moved_in p (Err k) = Err (moved p k)

pub promise-moved : (p : ℕ) {write : Bool} {z : Res Symbology} {t t' : List ℕ} {r : Result Section Refusal} → SectionPromise write z t t' r → SectionPromise write (shifted p z) t t' (moved_in p r)
unfolding section_answer section_table
promise-moved p {write} {z} {t} f = record { is = ap (moved_in p) f.is ∙ answer z; leaves = f.leaves ∙ table z }
  where
    by : (b : Bool) (n j : ℕ) → moved_in p (cond b (Ok (Section'.Read n j)) (Ok (Section'.Counted n))) ≡ cond b (Ok (Section'.Read n j)) (Ok (Section'.Counted n))
    by true n j = refl
    by false n j = refl

    answer : (z : Res Symbology) → moved_in p (section_answer write (length t / 6) z) ≡ section_answer write (length t / 6) (shifted p z)
    answer (ok x j) = by (write && leb (length (symbology_rows x)) (length t / 6)) (length (symbology_rows x)) j
    answer (refuse k) = refl

    table : (z : Res Symbology) → section_table write t z ≡ section_table write t (shifted p z)
    table (ok x j) = refl
    table (refuse k) = refl
