-- Sizes as the code adds them up, and the ways out of the check. Assumes nothing.
use Prim.Native.Nat.{ℕ, suc, ◌+◌, ◌-◌, ◌*◌, ◌≤◌, ◌<◌, min}
use native.Mathlib.Omega.{arith}
use mathlib.Core.Path.{◌≡◌, refl, sym, ap, ◌∙◌}
use mathlib.Core.Bool.{Bool, true, false, cond}
use mathlib.Core.List.{List, ◌++◌}
use lib.ListN.{length, length-append}
use lib.Dec.{eqb, leb}
use borrow.Author.Tests.{leb-true, leb-false, le-leb, lt-leb, ne_eqb}
use Rattle.codec.specs.Codec.{refusal}
use Rattle.layout.specs.LayoutOf.{D}
use Rattle.rows_check.specs.Tree.{cell, row_count, after, count_of, names_from, next_section, kinds, structs_from, labels_from}
use Rattle.rows_check.specs.Check.{both, every, passes, well_formed, counts_fit, printed_section, fits_all, sections_fit, size, rises_at, fit_fault, fault}
use Rattle.rows_check.specs.Sections.{SectionRows, many, printed_name, printed_body, printed_group}
use Rattle.rows_check.specs.SectionLaws.{many-none, many-next, section-is, layout_is, record_length, struct_length, label_def_length}
use Rattle.rows_check.specs.Answers.{Counted, nameless_size, clip, size_of, Sized, made, sized_of}
use Rattle.std.specs.Prelude.{Ok, Err}
use Rattle.rows_check.specs.declared.order.Groups.{Groups}

-- ---- sizes

-- of many items' size, the first's is added
pub sizes-next : (next : ℕ → ℕ) (f : ℕ → List ℕ) (q k s x : ℕ) → 0 < k → x ≡ length (f q) → clip (clip (s + x) + length (many next f (next q) (k - 1))) ≡ clip (s + length (many next f q k))
sizes-next next f q k s x h e =
    let n : length (many next f q k) ≡ length (f q) + length (many next f (next q) (k - 1)) = ap length (many-next next f q k h) ∙ length-append (f q) _ in
    omega arith

pub sizes-none : (next : ℕ → ℕ) (f : ℕ → List ℕ) (q k s : ℕ) → k ≤ 0 → s ≤ 4294967296 → s ≡ clip (s + length (many next f q k))
sizes-none next f q k s h l =
    let n : length (many next f q k) ≡ 0 = ap length (many-none next f q k h) in
    omega arith

-- of the names from row q up to row e
pub names-next : (f : ℕ → List ℕ) (q e s x : ℕ) → q < e → x ≡ length (f q) → clip (clip (s + x) + length (many after f (q + 1) (e - (q + 1)))) ≡ clip (s + length (many after f q (e - q)))
names-next f q e s x h l = let z : e - q - 1 ≡ e - (q + 1) = omega arith in rw z at (sizes-next after f q (e - q) s x (omega arith) l)

-- the body of a section: what is not its names, and its names
pub body-length : (kind : ℕ) (rows text : List ℕ) (q : ℕ) → SectionRows kind rows text q
    → length (printed_body kind rows text q) ≡ nameless_size kind (count_of kind rows q) + cell rows q 2 + length (many after (printed_name rows text) (names_from kind rows q) (count_of kind rows q))
unfolding printed_body nameless_size count_of names_from
body-length kind rows text q s = go (eqb kind 10) (eqb kind 13)
  where
    count : Bool → Bool → ℕ
    count a b = cond a (cell rows q 6) (cond b (cell rows q 4) (cell rows q 3))

    go : (a b : Bool) → length (cond a (printed_body 10 rows text q) (cond b (printed_body 13 rows text q) (printed_body 14 rows text q)))
        ≡ cond a (18 + D * count a b) (cond b (6 + D * count a b) (4 + 2 * count a b)) + cell rows q 2
        + length (many after (printed_name rows text) (cond a (q + 1 + cell rows q 6) (cond b (q + 1 + cell rows q 4) (q + 1))) (count a b))
    go true b = omega (arith, record_length rows text q s.own)
    go false true = omega (arith, struct_length rows text q s.own)
    go false false = omega (arith, label_def_length rows text q s.own)

-- a section whose body's size is clipped counts as the section does
add-clip : (s x : ℕ) → size_of (leb (min 4294967296 x + 2) 65535) (s + (min 4294967296 x + 2)) ≡ size_of (leb (2 + x) 65535) (s + (2 + x))
unfolding size_of
add-clip s x = go (leb (2 + x) 65535) refl
  where
    go : (b : Bool) → leb (2 + x) 65535 ≡ b → size_of (leb (min 4294967296 x + 2) 65535) (s + (min 4294967296 x + 2)) ≡ size_of b (s + (2 + x))
    go true e =
        let h = leb-true (2 + x) 65535 e in
        let k : min 4294967296 x + 2 ≤ 65535 = omega arith in
        rw (le-leb (min 4294967296 x + 2) 65535 k) (omega arith)
    go false e =
        let h = leb-false (2 + x) 65535 e in
        let k : 65535 < min 4294967296 x + 2 = omega arith in
        rw (lt-leb (min 4294967296 x + 2) 65535 k)

-- one section more
size_step : (b f : Bool) (s x m n : ℕ) → n ≡ x + m → size_of f (size_of b (s + x) + m) ≡ size_of (both b f) (s + n)
unfolding both size_of
size_step true true s x m n e = omega arith
size_step true false s x m n e = refl
size_step false true s x m n e = omega arith
size_step false false s x m n e = refl

module _ (kind : ℕ) (rows text : List ℕ) (q k : ℕ) where
  fits_next : 0 < k → fits_all kind rows text q k ≡ both (leb (length (printed_section kind rows text q)) 65535) (fits_all kind rows text (next_section kind rows q) (k - 1))
  unfolding fits_all
  fits_next h = let e : k ≡ suc (k - 1) = omega arith in ap (fits_all kind rows text q) e

  fits-none : k ≤ 0 → fits_all kind rows text q k ≡ true
  unfolding fits_all
  fits-none h = let e : k ≡ 0 = omega arith in rw e

  section-length : length (printed_section kind rows text q) ≡ 2 + length (printed_body kind rows text q)
  section-length = omega (arith, ap length (section-is kind rows text q))

  pub section-step : (s b y : ℕ) → 0 < k → b ≡ clip (length (printed_body kind rows text q)) → y ≡ size_of (leb (b + 2) 65535) (s + (b + 2))
      → size_of (fits_all kind rows text (next_section kind rows q) (k - 1)) (y + length (many (next_section kind rows) (printed_section kind rows text) (next_section kind rows q) (k - 1)))
      ≡ size_of (fits_all kind rows text q k) (s + length (many (next_section kind rows) (printed_section kind rows text) q k))
  section-step s b y h e f =
      let n : length (many (next_section kind rows) (printed_section kind rows text) q k) ≡ length (printed_section kind rows text q) + length (many (next_section kind rows) (printed_section kind rows text) (next_section kind rows q) (k - 1)) =
      ap length (many-next (next_section kind rows) (printed_section kind rows text) q k h) ∙ length-append (printed_section kind rows text q) (many (next_section kind rows) (printed_section kind rows text) (next_section kind rows q) (k - 1)) in
      let g : y ≡ size_of (leb (length (printed_section kind rows text q)) 65535) (s + length (printed_section kind rows text q)) = f ∙ (rw (e, section-length) (add-clip s (length (printed_body kind rows text q)))) in
      rw (g, fits_next h) (size_step _ _ s (length (printed_section kind rows text q)) _ _ n)

  pub section-done : (s : ℕ) → k ≤ 0 → s ≤ 4294967296 → s ≡ size_of (fits_all kind rows text q k) (s + length (many (next_section kind rows) (printed_section kind rows text) q k))
  unfolding size_of
  section-done s h l = rw (fits-none h) (sizes-none (next_section kind rows) (printed_section kind rows text) q k s h l)

pub size-le : (b : Bool) (n : ℕ) → size_of b n ≤ 4294967296
unfolding size_of
size-le true n = omega arith
size-le false n = omega arith

size-all : (a b d : Bool) (x y z n : ℕ) → n ≡ 8 + (x + y + z) → size_of d (size_of b (size_of a (8 + x) + y) + z) ≡ size_of (both (both a b) d) n
size-all a b d x y z n e =
    ap (λ (m : ℕ). size_of d (m + z)) (size_step a b 8 x y (x + y) refl) ∙ size_step (both a b) d 8 (x + y) z (x + y + z) refl ∙ ap (size_of (both (both a b) d)) (sym e)

-- the whole size, from that of the three groups of sections
pub total : (rows text : List ℕ)
    → size_of (fits_all 14 rows text (labels_from rows) (kinds rows 14)) (size_of (fits_all 13 rows text (structs_from rows) (kinds rows 13)) (size_of (fits_all 10 rows text 0 (kinds rows 10)) (8 + length (many (next_section 10 rows) (printed_section 10 rows text) 0 (kinds rows 10)))
    + length (many (next_section 13 rows) (printed_section 13 rows text) (structs_from rows) (kinds rows 13))) + length (many (next_section 14 rows) (printed_section 14 rows text) (labels_from rows) (kinds rows 14)))
    ≡ size_of (sections_fit rows text) (size rows text)
unfolding sections_fit printed_group
total rows text =
    size-all _ _ _ _ _ _ _
    (omega (
      arith,
      ap length (layout_is 0 rows text),
      length-append (printed_group 10 rows text 0 (kinds rows 10)) (printed_group 13 rows text (structs_from rows) (kinds rows 13) ++ printed_group 14 rows text (labels_from rows) (kinds rows 14)),
      length-append (printed_group 13 rows text (structs_from rows) (kinds rows 13)) (printed_group 14 rows text (labels_from rows) (kinds rows 14)),
    ))

fit_yes : (b : Bool) (n : ℕ) → size_of b n < 4294967296 → (both b (leb n 4294967295) ≡ true) × (size_of b n ≡ n)
unfolding both size_of
fit_yes true n h = (le-leb n 4294967295 (omega arith), omega arith)
fit_yes false n h = absurd (omega arith)

fit-no : (b : Bool) (n : ℕ) → 4294967296 ≤ size_of b n → both b (leb n 4294967295) ≡ false
unfolding both size_of
fit-no true n h = lt-leb n 4294967295 (omega arith)
fit-no false n h = refl

-- ---- the ways out: what was tested, and what the answer is then

-- so many bytes, and those groups
abbrev pub sized : ℕ → Groups → Sized
sized b g = Ok (record { bytes = b; records = g.records; structs = g.structs; labels = g.labels })

module _ (rows text : List ℕ) where
  refused : (whole : Bool) (n : ℕ) → 0 < n → fault whole rows text ≡ n → Err (refusal n 0) ≡ sized_of whole rows text
  unfolding sized_of
  refused whole n h e = rw (e, ne_eqb 0 n (λ z. omega arith))

  pub exit_90 : (whole : Bool) → well_formed rows text ≡ false → Err (refusal 90 0) ≡ sized_of whole rows text
  unfolding fault
  exit_90 whole a = refused whole 90 (omega arith) (rw a)

  module _ (a : well_formed rows text ≡ true) where
    -- 90 alone was asked for
    pub formed-only : {g : Groups} → Counted rows g → sized 0 g ≡ sized_of false rows text
    unfolding fault sized_of made
    formed-only k = rw (k.records, k.structs, k.labels, a)

    pub exit_91 : counts_fit rows text ≡ false → Err (refusal 91 0) ≡ sized_of true rows text
    unfolding fault fit_fault
    exit_91 b = refused true 91 (omega arith) (rw (a, b))

    module _ (b : counts_fit rows text ≡ true) where
      pub exit_92 : passes 92 rows text 0 (row_count rows) ≡ false → Err (refusal 92 0) ≡ sized_of true rows text
      unfolding fault fit_fault
      exit_92 d = refused true 92 (omega arith) (rw (a, b, d))

      module _ (d : passes 92 rows text 0 (row_count rows) ≡ true) where
        pub exit_93 : passes 93 rows text 0 (row_count rows) ≡ false → Err (refusal 93 0) ≡ sized_of true rows text
        unfolding fault fit_fault
        exit_93 e = refused true 93 (omega arith) (rw (a, b, d, e))

        module _ (e : passes 93 rows text 0 (row_count rows) ≡ true) (n : ℕ) (f : n ≡ size_of (sections_fit rows text) (size rows text)) where
          pub exit_94 : 4294967296 ≤ n → Err (refusal 94 0) ≡ sized_of true rows text
          unfolding fault fit_fault
          exit_94 h = refused true 94 (omega arith) (rw (a, b, d, e, fit-no _ _ (rw f at h)))

          module _ (h : n < 4294967296) where
            pub exit_95 : every (rises_at rows) 0 (row_count rows - 1) ≡ false → Err (refusal 95 0) ≡ sized_of true rows text
            unfolding fault fit_fault
            exit_95 g = refused true 95 (omega arith) (rw (a, b, d, e, (fit_yes _ _ (rw f at h)).0, g))

            pub done : every (rises_at rows) 0 (row_count rows - 1) ≡ true → {g : Groups} → Counted rows g → sized n g ≡ sized_of true rows text
            unfolding fault fit_fault sized_of made
            done g k =
                let z : n ≡ size rows text = f ∙ (fit_yes _ _ (rw f at h)).1 in
                rw (k.records, k.structs, k.labels, z, a, b, d, e, (fit_yes _ _ (rw f at h)).0, g)
