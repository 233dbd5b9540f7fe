-- What an accepted block gives where both tables are long enough, and reading a block again. Assumes nothing.
use Rattle.block_format.specs.declared.ReadError.{ReadError}
use Rattle.std.specs.Prelude.{ℕ, ◌*◌, ◌/◌, ◌≤◌, Bool, true, false, ◌&&◌, ◌≡◌, refl, List, ◌++◌, length, drop, Result, Ok, Err}
use Rattle.std.proofs.Common.{arith, sym, ap, ◌∙◌, length-append, length-drop, leb-true, le-leb}
use Rattle.std.proofs.Math.Seq.{drop-append_seam}
use Rattle.refusal.specs.declared.Refusal.{Refusal}
use Rattle.codec.specs.Codec.{Res, ok, refuse, ◌>>=◌}
use Rattle.codec.specs.CaseLaws.{both_true}
use Rattle.table.specs.Table.{flat}
use Rattle.table.specs.Columns.{columns}
use Rattle.table.proofs.ColumnLaws.{columns-length, columns_again}
use Rattle.layout.specs.ReadLaws.{rows-flat}
use Rattle.metadata_lengths.specs.Lengths.{lengths}
use Rattle.block_format.specs.Block.{Block, block_of}
use Rattle.block_format.specs.Fields.{fields_of}
use Rattle.metadata_lengths.specs.declared.MetadataLengths.{MetadataLengths}
use Rattle.block_format.specs.declared.Fields.{Fields}
use Rattle.block_format.specs.Read.{sixes, nines, roomy, answer_of, over, symbology_after, layout_after, block_answer, block_symbology, block_layout, Promise}

-- ---- tables that are long enough

-- an accepted block whose rows the tables hold: its fields, the symbology's rows by column, and the layout's over the front of its table
pub record Held (v : ℕ) (z : Block) (s l : List ℕ) (r : Result Fields ReadError) (s' l' : List ℕ) : Type 0 where
  pub answer : r ≡ Ok (fields_of (lengths v) z)
  pub symbology : s' ≡ columns 6 (sixes z) s
  pub layout : l' ≡ over (nines z) 9 l

pub held : {v : ℕ} {b t s l : List ℕ} {r : Result Fields ReadError} {s' l' : List ℕ} (z : Block × List ℕ) (k : ℕ) → Promise v b t s l r s' l' → block_of v t b ≡ ok z k
    → length (sixes z.0) ≤ length s / 6 → length (nines z.0) ≤ length l / 9 → Held v z.0 s l r s' l'
unfolding block_answer block_symbology block_layout answer_of symbology_after layout_after
held {s = s} {l = l} z k p e m n =
    let a = le-leb (length (sixes z.0)) (length s / 6) m in
    let b = le-leb (length (nines z.0)) (length l / 9) n in
    record { answer = rw (e, a, b) at p.answer; symbology = rw (e, a, b) at p.symbology; layout = rw (e, a, b) at p.layout }

-- of what was read: the fields, the symbology rows and the layout rows
abbrev pub gist : MetadataLengths → Res (Block × List ℕ) → Res (Fields × (List (List ℕ) × List (List ℕ)))
gist v r = r >>= λ z j. ok (fields_of v z.0, (sixes z.0, nines z.0)) j

-- what a block gives, or the refusal
abbrev pub given : ℕ → List ℕ → List ℕ → Res (Fields × (List (List ℕ) × List (List ℕ)))
given v t b = gist (lengths v) (block_of v t b)

-- both tables are long enough: the fields are answered, the rows stand in the tables, the rest of them is as it was
pub read-given : (v : ℕ) (b t s l : List ℕ) (f : Fields) (six nine : List (List ℕ)) (k : ℕ) → given v t b ≡ ok (f, (six, nine)) k
    → length six ≤ length s / 6 → length nine ≤ length l / 9 → Promise v b t s l (Ok f) (columns 6 six s) (over nine 9 l)
read-given v b t s l f six nine k e hs hl = go (block_of v t b) refl e
  where
    go : (r : Res (Block × List ℕ)) → block_of v t b ≡ r → gist (lengths v) r ≡ ok (f, (six, nine)) k
        → Promise v b t s l (Ok f) (columns 6 six s) (over nine 9 l)
    go (refuse n) q e = absurd (let y : ◌≡◌ {A = ℕ} 0 1 = cc in omega arith)
    go (ok z j) q e =
        let x : ◌≡◌ {A = Fields × (List (List ℕ) × List (List ℕ))} (fields_of (lengths v) z.0, (sixes z.0, nines z.0)) (f, (six, nine)) = cc in
        let e6 : sixes z.0 ≡ six = ap (λ y. y.1.0) x in
        let e9 : nines z.0 ≡ nine = ap (λ y. y.1.1) x in
        let h6 : length (sixes z.0) ≤ length s / 6 = rw e6 hs in
        let h9 : length (nines z.0) ≤ length l / 9 = rw e9 hl in
        let p : Promise v b t s l (block_answer v b t s l) (block_symbology v b t s l) (block_layout v b t s l) = record { answer = refl; symbology = refl; layout = refl } in
        let h = held z j p q h6 h9 in
        record {
          answer = sym (h.answer ∙ ap (λ y. Ok y.0) x);
          symbology = sym (h.symbology ∙ ap (λ (rs : List (List ℕ)). columns 6 rs s) e6);
          layout = sym (h.layout ∙ ap (λ (rs : List (List ℕ)). over rs 9 l) e9);
        }

-- a refused block leaves both tables
pub refused-given : (v : ℕ) (b t s l : List ℕ) {k : Refusal} → block_of v t b ≡ refuse k → Promise v b t s l (Err (ReadError.Refused k)) s l
unfolding block_answer block_symbology block_layout answer_of symbology_after layout_after
refused-given v b t s l e = record { answer = rw e; symbology = rw e; layout = rw e }

-- ---- reading it again

-- Reading a block again, with the tables as the first reading left them, gives the same answer and leaves them so.
pub record Again (v : ℕ) (b t s l : List ℕ) : Type 0 where
  pub answer : block_answer v b t (block_symbology v b t s l) (block_layout v b t s l) ≡ block_answer v b t s l
  pub symbology : block_symbology v b t (block_symbology v b t s l) (block_layout v b t s l) ≡ block_symbology v b t s l
  pub layout : block_layout v b t (block_symbology v b t s l) (block_layout v b t s l) ≡ block_layout v b t s l

module _ (rs : List (List ℕ)) (w : ℕ) (wide : length (flat rs) ≡ w * length rs) (t : List ℕ) where
  over-length : w * length rs ≤ length t → length (over rs w t) ≡ length t
  over-length h = simp (length-append, length-drop) (omega arith)

  over_again : over rs w (over rs w t) ≡ over rs w t
  over_again = ap (λ n. flat rs ++ drop n (over rs w t)) (sym wide) ∙ ap (λ x. flat rs ++ x) (drop-append_seam (flat rs) (drop (w * length rs) t))

-- the answer and both tables, by what was read
again_of : (v : MetadataLengths) (r : Res (Block × List ℕ)) (s l : List ℕ)
    → (answer_of v r (length (symbology_after r s l)) (length (layout_after r s l)) ≡ answer_of v r (length s) (length l))
    × (symbology_after r (symbology_after r s l) (layout_after r s l) ≡ symbology_after r s l)
    × (layout_after r (symbology_after r s l) (layout_after r s l) ≡ layout_after r s l)
unfolding answer_of symbology_after layout_after
again_of v (refuse k) s l = (refl, refl, refl)
again_of v (ok z j) s l = go (roomy z.0 (length s) (length l)) refl
  where
    go : (x : Bool) → roomy z.0 (length s) (length l) ≡ x
        → (answer_of v (ok z j) (length (symbology_after (ok z j) s l)) (length (layout_after (ok z j) s l)) ≡ answer_of v (ok z j) (length s) (length l))
        × (symbology_after (ok z j) (symbology_after (ok z j) s l) (layout_after (ok z j) s l) ≡ symbology_after (ok z j) s l)
        × (layout_after (ok z j) (symbology_after (ok z j) s l) (layout_after (ok z j) s l) ≡ layout_after (ok z j) s l)
    go true q =
        let (a, b) = both_true _ _ q in
        let ha : length (sixes z.0) ≤ length s / 6 = leb-true _ _ a in
        let hb : length (nines z.0) ≤ length l / 9 = leb-true _ _ b in
        let wl = rows-flat z.0.layout in
        let ls : length (columns 6 (sixes z.0) s) ≡ length s = columns-length 6 (omega arith) (sixes z.0) s ha in
        let ll : length (over (nines z.0) 9 l) ≡ length l = over-length (nines z.0) 9 wl l (omega arith) in
        (simp (q, ls, ll), simp (q, ls, ll) (columns_again 6 (omega arith) (sixes z.0) s ha), simp (q, ls, ll) (over_again (nines z.0) 9 wl l))
    go false q = (simp q, simp q, simp q)

pub again : (v : ℕ) (b t s l : List ℕ) → Again v b t s l
unfolding block_answer block_symbology block_layout
again v b t s l = let h = again_of (lengths v) (block_of v t b) s l in record { answer = h.0; symbology = h.1; layout = h.2 }
