-- The block's answer and tables from its header, its layout part and its symbology part. Assumes nothing.
use Rattle.prelude.specs.Prelude.{is_version}
use Rattle.std.specs.Prelude.{Result, Ok, Err}
use Rattle.block_format.specs.declared.ReadError.{ReadError}
use Prim.Native.Nat.{ℕ, ◌+◌, ◌-◌, ◌/◌, ◌≤◌, ◌<◌}
use native.Mathlib.Omega.{arith}
use mathlib.Core.Path.{◌≡◌, refl, sym, ap, ◌∙◌, subst}
use mathlib.Core.Bool.{Bool, true, false, ◌&&◌}
use mathlib.Core.List.{List}
use lib.ListN.{length, take, drop}
use lib.Dec.{leb, eqb}
use borrow.Author.Tests.{le-leb, lt-leb}
use Rattle.refusal.specs.declared.Refusal.{Refusal}
use Rattle.std.specs.Prelude.{Result, Ok, Err}
use Rattle.codec.specs.CaseLaws.{by_bool}
use Rattle.codec.specs.Codec.{Res, ok, refuse, refusal, named, ◌then◌, ◌on◌, whole}
use Rattle.layout.specs.Layout.{Layout}
use Rattle.layout.specs.Rows.{rows}
use Rattle.table.specs.Columns.{columns}
use Rattle.symbology_format.specs.Symbology.{Symbology}
use Rattle.symbology_format.specs.SymbologyRows.{symbology_rows}
use Rattle.layout.specs.Answers.{leave}
use Rattle.layout.specs.AnswerLaws.{leave-ok, leave_anywhere}
use Rattle.symbology.specs.ReadLaws.{Was, rows-read, rows-counted, rows-refused}
use Rattle.symbology.specs.declared.Section.{Section}
use Rattle.symbology.specs.declared.Section.TheVariants as Section'
use Rattle.metadata_lengths.specs.Lengths.{lengths}
use Rattle.block_format.specs.Block.{Header, Block, header, width_of, layout_part, symbology_part, to_block, block, block_of}
use Rattle.block_format.specs.Fields.{fields_with, fields_of}
use Rattle.block_format.specs.Read.{sixes, nines, roomy, block_answer, block_symbology, block_layout, Promise, answer_of, symbology_after, layout_after}
use Rattle.block.specs.Parts.{Fixed, OfHeader, refusal_of, Headed, layout_table, LayoutRead, LayoutReads, lays, lays-no, SymbologyReads, Does}
use Rattle.metadata_lengths.specs.declared.MetadataLengths.{MetadataLengths}
use Rattle.block_format.specs.declared.Fields.{Fields}
use Rattle.block.specs.declared.LayoutFound.{LayoutFound}
use Rattle.block.proofs.HeaderLaws.{header_at, header_got}

-- ---- what the parts' readers said

pub lays-at : {has : Bool} {sheet : List ℕ} {w : ℕ} {b : List ℕ} {r : Result LayoutFound Refusal} {v n e : ℕ} → LayoutReads has sheet w b r → r ≡ Ok (record { version = v; rows = n; end = e }) → LayoutRead has sheet w b v n e
lays-at {has} {sheet} {w} {b} {v = v} {n} {e} h q = go (rw q at h)
  where
    go : LayoutReads has sheet w b (Ok (record { version = v; rows = n; end = e })) → LayoutRead has sheet w b v n e
    go (lays x) = x

pub lays-bad : {has : Bool} {sheet : List ℕ} {w : ℕ} {b : List ℕ} {r : Result LayoutFound Refusal} {k : Refusal} → LayoutReads has sheet w b r → r ≡ Err k → (layout_part has sheet w).codec.parse 0 b 100 ≡ refuse k
lays-bad {has} {sheet} {w} {b} {k = k} h q = go (rw q at h)
  where
    go : LayoutReads has sheet w b (Err k) → (layout_part has sheet w).codec.parse 0 b 100 ≡ refuse k
    go (lays-no x) = x

-- ---- answers from what was read

module _ (v : MetadataLengths) {z : Res (Block × List ℕ)} (s l : List ℕ) where
  pub does_no : {k : Refusal} → z ≡ refuse k → Does v z s l (Err (ReadError.Refused k)) s l
  unfolding answer_of symbology_after layout_after
  does_no e = record { answer = rw e; symbology = rw e; layout = rw e }

  module _ {x : Block × List ℕ} {i : ℕ} (e : z ≡ ok x i) where
    does_short : roomy x.0 (length s) (length l) ≡ false → Does v z s l (Err (ReadError.Short (length (sixes x.0)) (length (nines x.0)))) s l
    unfolding answer_of symbology_after layout_after
    does_short q = record { answer = rw (e, q); symbology = rw (e, q); layout = rw (e, q) }

    does_read : {s' l' : List ℕ} {f : Fields} → roomy x.0 (length s) (length l) ≡ true → leb (length (nines x.0)) (length l / 9) ≡ true
        → s' ≡ columns 6 (sixes x.0) s → l' ≡ leave l (ok x.0.layout 0) → f ≡ fields_of v x.0 → Does v z s l (Ok f) s' l'
    unfolding answer_of symbology_after layout_after
    does_read q q9 es el ef = record { answer = rw (e, q, ef); symbology = es ∙ rw (e, q); layout = el ∙ leave-ok l x.0.layout 0 ∙ rw (e, q, q9) }

-- ---- the whole from its parts

module _ (sheet : List ℕ) (v : MetadataLengths) (b : List ℕ) (h : Header) (w : ℕ) (eh : (header v).codec.parse 0 b 0 ≡ ok h 100) (ew : w ≡ width_of v h) where
  whole-no : {k : Refusal} → (layout_part v.has_layout sheet w).codec.parse 0 b 100 ≡ refuse k → whole (block sheet v).codec 0 b ≡ refuse k
  unfolding whole block named ◌on◌ ◌then◌
  whole-no el = rw (eh, ← ew, el)

  whole-bad : {l : Layout} {at : ℕ} {k : Refusal} → (layout_part v.has_layout sheet w).codec.parse 0 b 100 ≡ ok l at → (symbology_part v.has_layout w).codec.parse 0 b at ≡ refuse k
      → whole (block sheet v).codec 0 b ≡ refuse k
  unfolding whole block named ◌on◌ ◌then◌
  whole-bad el es = rw (eh, ← ew, el, es)

  whole-ok : {l : Layout} {t : Symbology} {at j : ℕ} → (layout_part v.has_layout sheet w).codec.parse 0 b 100 ≡ ok l at → (symbology_part v.has_layout w).codec.parse 0 b at ≡ ok t j
      → whole (block sheet v).codec 0 b ≡ ok (to_block (h, (l, t)), drop j b) (length b)
  unfolding whole block named ◌on◌ ◌then◌
  whole-ok el es = rw (eh, ← ew, el, es)

-- the ways out of the body
module _ (sheet : List ℕ) (v : MetadataLengths) (b : List ℕ) (w : ℕ) (s l : List ℕ)
    (hd : Headed v b w) where
  abbrev H : Header
  H = header_at v b

  eh : (header v).codec.parse 0 b 0 ≡ ok H 100
  eh = header_got v b hd.fixed hd.passed

  pub body-no : {k : Refusal} → (layout_part v.has_layout sheet w).codec.parse 0 b 100 ≡ refuse k → Does v (whole (block sheet v).codec 0 b) s l (Err (ReadError.Refused k)) s l
  body-no el = does_no v s l (whole-no sheet v b H w eh (hd.width_is H 100 eh) el)

  module _ {n9 ver at : ℕ} (L : LayoutRead v.has_layout sheet w b ver n9 at)
      {write : Bool} {s' : List ℕ} {r : Result Section Refusal} (S : SymbologyReads v.has_layout write w b at s s' r) where
    pub body-bad : {k : Refusal} → r ≡ Err k → Does v (whole (block sheet v).codec 0 b) s l (Err (ReadError.Refused k)) s' l
    body-bad {k} q =
        let (e, es) = rows-refused S.sixes q in
        rw es (does_no v s l (whole-bad sheet v b H w eh (hd.width_is H 100 eh) L.is (S.is ∙ rw e)))

    -- the layout table was asked first
    module _ (er : write ≡ leb n9 (length l / 9)) where
      module _ {written : Bool} {n5 : ℕ} (W : Was written write S.part s s' n5) where
        abbrev read : Block
        read = to_block (H, (L.tree, W.tree))

        is : whole (block sheet v).codec 0 b ≡ ok (read, drop (S.end W.next) b) (length b)
        is = whole-ok sheet v b H w eh (hd.width_is H 100 eh) {j = S.end W.next} L.is (S.is ∙ rw W.is)

        room9 : write ≡ leb (length (rows L.tree)) (length l / 9)
        room9 = rw L.many er

        room : roomy read (length s) (length l) ≡ written
        room = swap (leb (length (symbology_rows W.tree)) (length s / 6)) _ ∙ rw (← room9) W.room
          where
            swap : (x y : Bool) → (x && y) ≡ (y && x)
            swap true true = refl
            swap true false = refl
            swap false true = refl
            swap false false = refl

        fields-is : {F : Fields} → OfHeader v b (λ h. F ≡ fields_with v h ver n5 n9) → F ≡ fields_of v read
        unfolding fields_of
        fields-is ef = ef H 100 eh ∙ rw (← W.many, ← L.many, ← L.version)

      pub body-short : {n5 : ℕ} → r ≡ Ok (Section'.Counted n5) → Does v (whole (block sheet v).codec 0 b) s l (Err (ReadError.Short n5 n9)) s' l
      body-short {n5} q =
          let W = rows-counted S.sixes q in
          rw (W.leaves, ← W.many, ← L.many) (does_short v s l (is W) (room W))

      pub body-read : {n5 j : ℕ} {l' : List ℕ} {F : Fields} → r ≡ Ok (Section'.Read n5 j) → l' ≡ layout_table v.has_layout (take (at - 104) (drop 104 b)) l
          → OfHeader v b (λ h. F ≡ fields_with v h ver n5 n9) → Does v (whole (block sheet v).codec 0 b) s l (Ok F) s' l'
      body-read q el ef =
          let W = rows-read S.sixes q in
          does_read v s l (is W) (room W) (sym (room9 W) ∙ first write _ W.room) W.leaves (el ∙ L.leaves l ∙ leave_anywhere l _ _ 0) (fields-is W ef)
        where
          first : (x y : Bool) → (x && y) ≡ true → x ≡ true
          first true y e = refl
          first false y e = e

-- ---- from the version on

sums : (version : ℕ) → ((lengths version).dataset_cstr_len + (lengths version).record_count_len + (lengths version).symbol_cstr_len_len + (lengths version).reserved_len ≡ 71)
    × (0 < (lengths version).symbol_cstr_len_len → (lengths version).symbol_cstr_len_len ≡ 2)
unfolding lengths
sums version = by_bool (eqb version 1)
    (λ e. rw e (refl, λ h. absurd (omega arith)))
    (λ e. rw e (by_bool (eqb version 4) (λ e'. rw e' (refl, λ h. refl)) (λ e'. rw e' (refl, λ h. refl))))

pub fixed : (version : ℕ) {v : MetadataLengths} {b : List ℕ} → v ≡ lengths version → 100 ≤ length b → length b ≤ 4294967295 → Fixed v b
fixed version {v} {b} e lo hi = subst (λ (x : MetadataLengths). Fixed x b) (sym e) (record { total = (sums version).0; two = (sums version).1; long = lo; small = hi })

module _ (version : ℕ) (b sheet s l : List ℕ) where
  pub promise : {r : Result Fields ReadError} {s' l' : List ℕ} → Does (lengths version) (block_of version sheet b) s l r s' l' → Promise version b sheet s l r s' l'
  unfolding block_answer block_symbology block_layout
  promise d = record { answer = d.answer; symbology = d.symbology; layout = d.layout }

  pub block-version : is_version version ≡ false → Promise version b sheet s l (Err (ReadError.Refused (refusal 11 3))) s l
  unfolding block_of
  block-version h = promise (does_no (lengths version) s l (rw h))

  module _ (known : is_version version ≡ true) where
    pub block-short : length b < 100 → Promise version b sheet s l (Err (ReadError.Refused (refusal 13 0))) s l
    unfolding block_of
    block-short h = promise (does_no (lengths version) s l (rw (known, lt-leb 100 (length b) h)))

    pub block-long : 100 ≤ length b → 4294967295 < length b → Promise version b sheet s l (Err (ReadError.Refused (refusal 13 0))) s l
    unfolding block_of
    block-long h g = promise (does_no (lengths version) s l (rw (known, le-leb 100 (length b) h, lt-leb (length b) 4294967295 g)))

    module _ (h : 100 ≤ length b) (g : length b ≤ 4294967295) {v : MetadataLengths} (ev : v ≡ lengths version) where
      block-is : block_of version sheet b ≡ whole (block sheet v).codec 0 b
      unfolding block_of
      block-is = rw (known, le-leb 100 (length b) h, le-leb (length b) 4294967295 g, ev)

      pub block-done : {r : Result Fields ReadError} {s' l' : List ℕ} → Does v (whole (block sheet v).codec 0 b) s l r s' l' → Promise version b sheet s l r s' l'
      block-done {r} {s'} {l'} d = promise (rw block-is (subst (λ (x : MetadataLengths). Does x (whole (block sheet v).codec 0 b) s l r s' l') ev d))

      header-no : (r : Res Header) {k : Refusal} → Err k ≡ refusal_of r → r ≡ refuse k
      header-no (ok x j) {k} e = let z : ◌≡◌ {A = ℕ} 0 1 = cc in absurd (omega arith)
      header-no (refuse j) {k} e = let z : j ≡ k = cc in ap (λ (m : Refusal). refuse m) z

      pub block-header : {k : Refusal} → Err k ≡ refusal_of ((header v).codec.parse 0 b 0) → Promise version b sheet s l (Err (ReadError.Refused k)) s l
      unfolding whole block named ◌on◌
      block-header {k} e = block-done (does_no v s l (rw (header-no ((header v).codec.parse 0 b 0) e)))
