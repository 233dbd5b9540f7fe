-- THE COUNTS OF A NIGHT: however its bytes come in pieces, what is counted is the history of all of them. Assumes nothing.
use Rattle.block_format.specs.declared.Fields.{Fields}
use Rattle.block_format.specs.declared.ReadError.{ReadError}
use Prim.Native.Nat.{ℕ, zero, suc, ◌+◌, ◌-◌, ◌/◌, ◌≤◌, ◌<◌}
use Rattle.std.proofs.Common.{arith, ap₂, subst, ◌∙◌, length-append, length-take-le, take-add, drop_at}
use Rattle.std.specs.Prelude.{◌≡◌, Bool, true, false, not, get_or, take, drop, leb, Result, Ok, Err}
use Rattle.std.proofs.Math.Path.{refl, sym, ap}
use mathlib.Core.List.{List, [], ◌∷◌}
use Rattle.std.proofs.Math.ListN.{length, length-drop}
use borrow.Author.Tests.{leb-true, eq-eqb, ne_eqb}
use Rattle.refusal.specs.declared.Refusal.{Refusal}
use Rattle.codec.specs.Codec.{Res, ok, refuse, among}
use Rattle.codec.specs.CaseLaws.{by_le, by_bool, both_true, no_true}
use Rattle.codec.proofs.RefusalLaws.{in_more, in_pass}
use Rattle.table.proofs.ColumnLaws.{columns-length}
use Rattle.layout.specs.ReadLaws.{rows-flat}
use Rattle.prelude.specs.Prelude.{is_version, prelude_of, prelude_numbers}
use Rattle.prelude.proofs.PreludeLaws.{is_magic, length_of, tests, prelude-few, prelude-is}
use Rattle.prelude.proofs.RefusalLaws.{prelude-refuses}
use Rattle.prelude.specs.declared.Stage.{Stage}
use Rattle.prelude.specs.declared.Stage.TheVariants as Stage'
use Rattle.held.specs.Held.{first_of}
use Rattle.held.proofs.StageLaws.{is_whole, after-length}
use Rattle.held.proofs.PieceLaws.{needs_all}
use Rattle.held.proofs.StreamLaws.{Long, first-whole, Count, Found, finds_first}
use Rattle.held.proofs.RefusalLaws as why
use Rattle.held.specs.declared.Holding.{Holding}
use Rattle.held.specs.declared.Holding.TheVariants.{Needs, Whole}
use Rattle.block_format.specs.Block.{Block, block_of}
use Rattle.block_format.specs.Read.{sixes, nines, roomy, body_numbers, symbology_after, layout_after, block_answer, block_symbology, block_layout}
use Rattle.block_format.proofs.RefusalLaws.{answer-body}
use Rattle.feed.specs.Feeding.{announced, start, stage_of, block_in, block_says, answer_at, symbology_at, layout_at, taken_of, held_after, store_after}
use Rattle.feed.proofs.StageLaws.{start-law, whole-prelude}
use Rattle.count.specs.Count.{History, counted, counted_all, counted_end}
use Rattle.count.specs.CountLaws.{all_none, all_one}
use Rattle.count.specs.declared.Outcome.{Outcome}
use Rattle.count.specs.declared.Outcome.TheVariants as Outcome'
use Rattle.frames.proofs.CutLaws.{joined}
use Rattle.night.specs.Night.{after_block, goes_on, history_in, history_of, end_numbers, Night, met, turned, turns, through}
use Rattle.night.specs.TurnLaws.{turns-none, turns-over, turns_turn}
use Rattle.demands.specs.NightCut.{turned_needs, left-none, passed, any_cutting}

-- ---- which refusals end the reading

-- a whole start has its prelude in it
pub start-long : Long start
start-long s w v h q = let (len, _, e) = whole-prelude s w v q in omega arith

tests-version : (a b c : Bool) (u m v len : ℕ) → tests a b c u m ≡ Ok (Stage.Whole v len) → (b ≡ true) × (u ≡ v)
tests-version false b c u m v len e = absurd (let z : ◌≡◌ {A = ℕ} 0 1 = cc in omega arith)
tests-version true false c u m v len e = absurd (let z : ◌≡◌ {A = ℕ} 0 1 = cc in omega arith)
tests-version true true false u m v len e = absurd (let z : ◌≡◌ {A = ℕ} 0 1 = cc in omega arith)
tests-version true true true u m v len e = (refl, cc)

-- a prelude that is accepted names a version that there is
whole-version : (s : List ℕ) (v len : ℕ) → prelude_of s ≡ Ok (Stage.Whole v len) → is_version v ≡ true
whole-version s v len e =
    by_le 8 (length s)
    (λ h.
    let (a, b) = tests-version (is_magic s) (is_version (get_or s 3 0)) (leb 100 (length_of s)) (get_or s 3 0) (length_of s) v len (sym (prelude-is s h _ _ _ refl refl refl) ∙ e) in
    ap is_version (sym b) ∙ a)
    (λ h. let q = sym (prelude-few s h) ∙ e in absurd (let z : ◌≡◌ {A = ℕ} 0 1 = cc in omega arith))

-- a refusal before the block ends it
pub stage-ends : (k : ℕ) (st : List ℕ) {e : Refusal} → stage_of k st ≡ Err e → among e.number end_numbers ≡ true
stage-ends k st {e} q = go (why.why start k st q)
  where
    said : (x : Result Stage Refusal) → announced x ≡ Err e → x ≡ Err e
    said (Ok (Stage'.Needs m)) i = absurd (let z : ◌≡◌ {A = ℕ} 0 1 = cc in omega arith)
    said (Err j) i = let z : j ≡ e = cc in ap Err z
    said (Ok (Stage'.Whole v len)) i = absurd (let z : ◌≡◌ {A = ℕ} 0 1 = cc in omega arith)

    go : why.Why start k st e → among e.number end_numbers ≡ true
    go (why.held i) = rw i
    go (why.store i) = rw i
    go (why.head i) = in_more prelude_numbers end_numbers refl e.number (prelude-refuses (take k st) (said (prelude_of (take k st)) i))

not_so : (b : Bool) → not b ≡ true → b ≡ false
not_so true e = absurd (no_true (sym e))
not_so false e = refl

-- A BLOCK THAT IS REFUSED ENDS NOTHING: none of its numbers is one of these
pub block-goes-on : (v : ℕ) (b t s l : List ℕ) {e : Refusal} → is_version v ≡ true → Err (ReadError.Refused e) ≡ block_answer v b t s l → among e.number end_numbers ≡ false
block-goes-on v b t s l {e} h q = not_so _ (in_pass (λ n. not (among n end_numbers)) (13 ∷ body_numbers) refl e.number (answer-body v b t s l h q))

-- ---- what the answer hangs on

-- the block of a whole is known from its bytes
block_in_lem : (a b : List ℕ) (w : ℕ) → 8 ≤ w → 8 ≤ length a → 8 ≤ length b → take w a ≡ take w b → block_in a w ≡ block_in b w
block_in_lem a b w h la lb e = sym (part a la) ∙ ap (drop 8) e ∙ part b lb
  where
    part : (s : List ℕ) → 8 ≤ length s → drop 8 (take w s) ≡ block_in s w
    part s k =
        let n : w ≡ 8 + (w - 8) = omega arith in
        ap (λ i. drop 8 (take i s)) n ∙ ap (drop 8) (take-add 8 (w - 8) s) ∙ drop_at (take 8 s) (take (w - 8) (drop 8 s)) 8 (length-take-le 8 s k)

-- of the tables only their lengths count
answer-lengths : (v : ℕ) (b t s l s2 l2 : List ℕ) → length s ≡ length s2 → length l ≡ length l2 → block_answer v b t s l ≡ block_answer v b t s2 l2
unfolding block_answer
answer-lengths v b t s l s2 l2 e f = rw (e, f)

-- and these stay
module _ (r : Res (Block × List ℕ)) (s l : List ℕ) where
  after-lengths : (length (symbology_after r s l) ≡ length s) × (length (layout_after r s l) ≡ length l)
  unfolding symbology_after layout_after
  after-lengths = go r
    where
      go : (r : Res (Block × List ℕ)) → (length (symbology_after r s l) ≡ length s) × (length (layout_after r s l) ≡ length l)
      go (refuse k) = (refl, refl)
      go (ok z j) =
          by_bool (roomy z.0 (length s) (length l))
          (λ q.
          let (a, b) = both_true _ _ q in
          let ha : length (sixes z.0) ≤ length s / 6 = leb-true _ _ a in
          let hb : length (nines z.0) ≤ length l / 9 = leb-true _ _ b in
          let wl = rows-flat z.0.layout in
          (rw q (columns-length 6 (omega arith) (sixes z.0) s ha), rw q (simp (length-append, length-drop) (omega arith))))
          (λ q. (rw q, rw q))

table-lengths : (h : Result Holding Refusal) (st t s l : List ℕ) → (length (symbology_at h st t s l) ≡ length s) × (length (layout_at h st t s l) ≡ length l)
unfolding symbology_at layout_at block_symbology block_layout
table-lengths (Ok (Needs n)) st t s l = (refl, refl)
table-lengths (Err e) st t s l = (refl, refl)
table-lengths (Ok (Whole w v)) st t s l = after-lengths (block_of v t (block_in st w)) s l

-- ---- the counts are those of the history

-- a night between two inputs
abbrev pub between : List ℕ → List ℕ → List ℕ → List ℕ → Night
between st s l c = record { held = 0; ended = false; store = st; symbology = s; layout = l; counts = c }

-- the counts once the bytes end
abbrev pub end_of : Night → List ℕ
end_of x = counted_end x.held x.counts

-- y and l are any tables of the lengths of those that are lent
module _ (t y l : List ℕ) where
  -- the counts of turns over s, from between two inputs, are those of its history
  abbrev Counts : ℕ → ℕ → Type 0
  Counts a b = (st sy la c s : List ℕ) → length sy ≡ length y → length la ≡ length l → length s ≤ a → length s ≤ b
      → end_of (turns a t (between st sy la c) s) ≡ counted_all (history_in b (length st) t y l s) c

  module _ (a b : ℕ) (again : Counts a b) (st sy la c s : List ℕ) (ly : length sy ≡ length y) (ll : length la ≡ length l) (most : length s ≤ suc a) (most2 : length s ≤ suc b) (some : 0 < length s) where
    abbrev x : Night
    x = between st sy la c

    abbrev k : ℕ
    k = held_after 0 st s

    abbrev d : List ℕ
    d = store_after 0 st s

    abbrev rest : List ℕ → History
    rest = history_in b (length st) t y l

    same : length d ≡ length st
    same = after-length start start-law 0 st s

    -- where the reading is over, its outcome is the last
    over-is : (o : Outcome) (z : Night) (r : List ℕ) → z.held ≡ 0 → z.ended ≡ true → z.counts ≡ counted_all (o ∷ []) c → end_of (turns a t z r) ≡ counted_all (o ∷ []) c
    over-is o z r h e n = ap end_of (turns-over t a z r e) ∙ ap (λ i. counted_end i z.counts) h ∙ n

    -- where it goes on, the rest follows
    on-is : (o : Outcome) (w : ℕ) (s2 l2 : List ℕ) → 8 ≤ w → length s2 ≡ length y → length l2 ≡ length l
        → end_of (turns a t (between d s2 l2 (counted_all (o ∷ []) c)) (drop w s)) ≡ counted_all (o ∷ rest (drop w s)) c
    unfolding counted_all
    on-is o w s2 l2 h e f =
        again d s2 l2 (counted o c) (drop w s) e f (omega (arith, length-drop w s)) (omega (arith, length-drop w s))
        ∙ ap (λ i. counted_all (history_in b i t y l (drop w s)) (counted o c)) same

    module _ (w v : ℕ) (long : 8 ≤ w) (known : is_version v ≡ true) where
      abbrev s2 : List ℕ
      s2 = symbology_at (Ok (Whole w v)) d t sy la

      abbrev l2 : List ℕ
      l2 = layout_at (Ok (Whole w v)) d t sy la

      block-is : (b2 : Result Fields ReadError) → block_answer v (block_in s w) t y l ≡ b2
          → end_of (turns a t (met x k (block_says b2) d s2 l2) (drop w s)) ≡ counted_all (after_block s rest w b2) c
      unfolding block_says
      block-is (Ok f) q = on-is _ w s2 l2 long ((table-lengths (Ok (Whole w v)) d t sy la).0 ∙ ly) ((table-lengths (Ok (Whole w v)) d t sy la).1 ∙ ll)
      block-is (Err (ReadError.Refused e)) q =
          let on = block-goes-on v (block_in s w) t y l known (sym q) in
          ap (λ i. end_of (turns a t (record { held = 0; ended = i; store = d; symbology = s2; layout = l2; counts = counted_all (Outcome'.Refused e.number ∷ []) c }) (drop w s))) on
          ∙ on-is _ w s2 l2 long ((table-lengths (Ok (Whole w v)) d t sy la).0 ∙ ly) ((table-lengths (Ok (Whole w v)) d t sy la).1 ∙ ll)
      block-is (Err (ReadError.Short i j)) q = over-is _ _ (drop w s) refl refl refl

    -- by what stands first
    step : (f : Found start st s) → end_of (turns a t (turned t x s) (drop (taken_of 0 st s) s)) ≡ counted_all (goes_on t y l s rest (first_of start (length st) s)) c
    unfolding turned answer_at
    step f = go f.is refl
      where
        at : stage_of k d ≡ f.is
        at = ap (λ i. stage_of i d) f.alone.held ∙ f.alone.stage

        go : (h : Result Holding Refusal) → f.is ≡ h → end_of (turns a t (turned t x s) (drop (taken_of 0 st s) s)) ≡ counted_all (goes_on t y l s rest (first_of start (length st) s)) c
        go (Ok (Needs j)) e =
            let n : length s ≡ k = omega (arith, needs_all start start-law 0 st s j (at ∙ e)) in
            ap end_of (turns-none t a (turned t x s) (drop (taken_of 0 st s) s) (left-none t x s j (at ∙ e)) ∙ turned_needs t x s j (at ∙ e))
            ∙ rw (ne_eqb k 0 (λ z. omega arith)) (sym (all_one Outcome'.Cut c) ∙ ap (λ h. counted_all (goes_on t y l s rest h) c) (sym (f.first ∙ e)))
        go (Err r) e =
            let q = at ∙ e in
            over-is (Outcome'.Refused r.number) (turned t x s) (drop (taken_of 0 st s) s) (rw q) (rw q (stage-ends k d q)) (rw q)
            ∙ ap (λ h. counted_all (goes_on t y l s rest h) c) (sym (f.first ∙ e))
        go (Ok (Whole w v)) e =
            let q = at ∙ e in
            let (long, there, says) = first-whole start (length st) s start-law start-long w v (f.first ∙ e) in
            let (len, said, _) = whole-prelude s w v says in
            let n : taken_of 0 st s ≡ w = f.alone.taken ∙ taken-whole e in
            let front : take w d ≡ take w s = ap (λ i. take i d) (sym (taken-whole e)) ∙ f.alone.front ∙ ap (λ i. take i s) (taken-whole e) in
            let w2 = is_whole start start-law k d w v q in
            let block : block_in d w ≡ block_in s w = block_in_lem d s w long (omega (arith, w2.room)) (omega arith) front in
            let answer : block_answer v (block_in d w) t sy la ≡ block_answer v (block_in s w) t y l = ap (λ i. block_answer v i t sy la) block ∙ answer-lengths v (block_in s w) t sy la y l ly ll in
            ap₂ (λ h i. end_of (turns a t (met x k (answer_at h d t sy la) d (symbology_at h d t sy la) (layout_at h d t sy la)) (drop i s))) q n
            ∙ ap (λ i. end_of (turns a t (met x k (block_says i) d (symbology_at (Ok (Whole w v)) d t sy la) (layout_at (Ok (Whole w v)) d t sy la)) (drop w s))) answer
            ∙ block-is w v long (whole-version s v len said) (block_answer v (block_in s w) t y l) refl
            ∙ ap (λ h. counted_all (goes_on t y l s rest h) c) (sym (f.first ∙ e))
          where
            taken-whole : f.is ≡ Ok (Whole w v) → f.taken ≡ w
            taken-whole e = subst (Count start (length st) s f.taken) e f.count

  counts_in : (a b : ℕ) → Counts a b
  unfolding history_in
  counts_in a zero st sy la c s ly ll h g = ap end_of (turns-none t a (between st sy la c) s (omega arith)) ∙ sym (all_none c)
  counts_in zero (suc b) st sy la c s ly ll h g = ap end_of (turns-none t 0 (between st sy la c) s (omega arith)) ∙ rw (eq-eqb (length s) 0 (omega arith)) (sym (all_none c))
  counts_in (suc a) (suc b) st sy la c s ly ll h g =
      by_le (length s) 0
      (λ none. ap end_of (turns-none t (suc a) (between st sy la c) s (omega arith)) ∙ rw (eq-eqb (length s) 0 (omega arith)) (sym (all_none c)))
      (λ some.
      ap end_of (turns_turn t a (between st sy la c) s some refl)
      ∙ step a b (counts_in a b) st sy la c s ly ll h g some (finds_first start start-law start-long st s)
      ∙ rw (ne_eqb (length s) 0 (λ z. omega arith)))

-- THE COUNTS OF A NIGHT, its bytes in pieces ps: those of the history of all its bytes
pub night-counted : (t st s l c : List ℕ) (ps : List (List ℕ)) → end_of (passed t (between st s l c) ps) ≡ counted_all (history_of (length st) t s l (joined ps)) c
unfolding through history_of
night-counted t st s l c ps =
    ap end_of (any_cutting t (between st s l c) ps) ∙ counts_in t s l (suc (length (joined ps))) (length (joined ps)) st s l c (joined ps) refl refl (omega arith) (omega arith)
