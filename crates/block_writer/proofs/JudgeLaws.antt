-- What each way out of `judge` gives, and how large the numbers on the way are. Assumes nothing.
use Prim.Native.Nat.{ℕ, ◌+◌, ◌-◌, ◌*◌, ◌≤◌, ◌<◌}
use native.Mathlib.Nat.{mul-le-mul_right}
use native.Mathlib.Omega.{arith}
use mathlib.Core.Path.{◌≡◌, refl, sym, ap, ap₂, ◌∙◌}
use mathlib.Core.Bool.{Bool, true, false, ◌&&◌, cond}
use mathlib.Core.List.{List, [], ◌∷◌}
use lib.ListN.{length}
use lib.Dec.{eqb, eqb-suc-zero}
use borrow.Author.Tests.{le-leb, lt-leb, ne_eqb}
use Rattle.refusal.specs.declared.Refusal.{Refusal}
use Rattle.codec.specs.Codec.{is_nil, Bytes, refusal}
use Rattle.codec.specs.CaseLaws.{by_eqb}
use Rattle.codec.specs.Faults.{unless, first}
use Rattle.text.specs.Utf8.{utf8}
use Rattle.padded.specs.Padded.{nul_padded}
use Rattle.dates.specs.Date.{is_date}
use Rattle.prelude.specs.Prelude.{is_version}
use Rattle.symbology_format.specs.SymbologyFaults.{symbology_fault}
use Rattle.rows_check.specs.Check.{fault, printed}
use Rattle.rows_check.specs.Answers.{sized_of, sized_number}
use Rattle.rows_check.specs.AnswerLaws.{sized-length, sized-fault}
use Rattle.rows_check.specs.LegalLaws.{sound}
use Rattle.rows_check.specs.declared.Size.{Size}
use Rattle.std.specs.Prelude.{Ok, Err}
use Rattle.rules.specs.RowRules.{rows_rules, rows_fault, ruled_rows}
use Rattle.rules.specs.RowRuleLaws.{ruled_broken, ruled-number, ruled-length, ruled-fault, none-fault}
use Rattle.metadata_lengths.specs.Lengths.{lengths}
use Rattle.block_format.specs.BlockFaults.{layout_bytes, symbology_bytes, header_fault, layout_fault}
use Rattle.block_format.specs.LengthsLaws.{lengths-layout}
use Rattle.columns_check.specs.Tree.{list_rows, symbology_of}
use Rattle.columns_check.specs.Check.{well_formed, narrow}
use Rattle.columns_check.specs.RowLaws.{lists-le}
use Rattle.columns_check.specs.FitLaws.{formed}
use Rattle.columns_check.specs.SizedLaws.{heads-le}
use Rattle.columns_check.specs.LengthLaws.{mappings-are, columns-length}
use Rattle.columns_check.specs.Check.{unfit_number, columns_of}
use Rattle.columns_check.specs.ToldLaws.{Told, told_malformed, told-wide}
use Rattle.codec.specs.Telling.{passed}
use Rattle.codec.specs.Telling.{is_passed, passed_refuses, all_passed, refuses_by}
use Rattle.columns_check.specs.declared.Counts.{Counts}
use Rattle.columns_check.specs.declared.Unfit.{Unfit}
use Rattle.columns_check.specs.declared.Unfit.TheVariants.{Malformed, Wide}
use Rattle.header_bytes.specs.Numbers.{width}
use Rattle.block_writer.specs.Fields.{dataset_text, fields_fit, fields_narrow}
use Rattle.header_bytes.specs.Header.{header_of}
use Rattle.block_writer.specs.Tree.{layout_tree, block_bytes}
use Rattle.block_writer.specs.Write as Write
use Rattle.block_writer.specs.Write.{write_fault}
use Rattle.block_writer.specs.Plan.{Ready, Planned}
use Rattle.block_writer.specs.PlanLaws.{Small, ready-formed, ready-narrow, ready_narrow16, layout-bytes-length, layout-fault-is, block-bytes-length, write_fault-version, write_fault_malformed, write_fault-wide, write_fault-rows, write_fault-is}

-- ---- the layout

-- a list is empty where its length is 0
pub nil_is : (l : List ℕ) → is_nil l ≡ eqb (length l) 0
nil_is [] = refl
nil_is (x ∷ l) = rw (eqb-suc-zero (length l))

-- rows that make a layout are refused by its rules alone
pub rules_number : (sheet : List ℕ) (width : ℕ) (rows text : List ℕ) → fault true rows text ≡ 0 → sized_number (ruled_rows sheet width true rows text) ≡ rows_rules sheet width rows text
rules_number sheet width rows text f =
    by_eqb (rows_rules sheet width rows text) 0
    (λ _ z. ruled-number sheet width true rows text ∙ none-fault sheet width true rows text f z ∙ sym z)
    (λ _ z. sym (ap sized_number (ruled_broken sheet width true rows text f refl z)))

module _ (sheet : List ℕ) (width : ℕ) (rows text : List ℕ) (f : fault true rows text ≡ 0) where
  numbers-are : rows_fault sheet width true rows text ≡ rows_rules sheet width rows text
  numbers-are = sym (ruled-number sheet width true rows text) ∙ rules_number sheet width rows text f

  pub rules-refuse : {e : Refusal} → Err e ≡ ruled_rows sheet width true rows text → Err e ≡ passed (rows_rules sheet width rows text)
  rules-refuse {e} q =
      let (n, is) = ruled-fault sheet width true rows text e q in
      let r : e ≡ refusal (rows_rules sheet width rows text) 0 = is ∙ ap (λ m. refusal m 0) numbers-are in
      rw r (refuses_by (rows_rules sheet width rows text) (λ z. n (numbers-are ∙ z)))

  pub rules-pass : {size : Size} → Ok size ≡ ruled_rows sheet width true rows text → Ok tt ≡ passed (rows_rules sheet width rows text)
  rules-pass {size} q = all_passed (rows_rules sheet width rows text) (sym numbers-are ∙ (ruled-length sheet width true rows text size q).0)

-- ---- the symbology

-- the lists and the mappings are rows
pub record Rowed (n : ℕ) (k : Counts) : Type 0 where
  pub few : n ≤ 4294967295
  pub within : k.symbols + k.partial + k.not_found + k.mappings ≤ n

module _ {w : ℕ} {t : List ℕ} {n : ℕ} {text : List ℕ} {k : Counts} (o : Told w t n text k) where
  pub rowed : Rowed n k
  rowed =
      let l = lists-le t n in
      let h = heads-le t (list_rows t n) (n - list_rows t n) in
      let e = mappings-are w t n text in
      record { few = (formed t n text o.formed).small; within = omega arith }

  pub names-are : 16 + w * n + 4 * k.mappings + 8 * (n - (k.symbols + k.partial + k.not_found) - k.mappings) ≡ length (symbology_bytes w (symbology_of w t n text))
  names-are = let e = columns-length w t n text o.formed o.narrow in omega arith

-- ---- 11, 110, 111

module _ {sheet : List ℕ} {version : ℕ} {fs t : List ℕ} {n : ℕ} {rows text : List ℕ} where
  -- by a number, which is not 0
  stopped : (k : ℕ) → 0 < k → write_fault sheet version fs t n rows text ≡ k → Planned sheet version fs t n rows text (Err (refusal k 0))
  stopped k z w = record { told = ((λ h. omega arith), ap (λ m. refusal m 0) (sym w)) }

  pub unknown : is_version version ≡ false → Planned sheet version fs t n rows text (Err (refusal 11 0))
  unknown v = stopped 11 (omega arith) (write_fault-version sheet version fs t n rows text v)

  module _ (v : is_version version ≡ true) where
    pub bad-fields : fields_fit version fs text ≡ false → Planned sheet version fs t n rows text (Err (refusal 110 0))
    unfolding Write.formed
    bad-fields f = stopped 110 (omega arith) (write_fault_malformed sheet version fs t n rows text v (rw f))

    module _ (f : fields_fit version fs text ≡ true) where
      pub bad-rows : well_formed t n text ≡ false → Planned sheet version fs t n rows text (Err (refusal 110 0))
      unfolding Write.formed
      bad-rows g = stopped 110 (omega arith) (write_fault_malformed sheet version fs t n rows text v (rw (f, g)))

      module _ (g : well_formed t n text ≡ true) where
        pub wide_rows : narrow (width fs) t n ≡ false → Planned sheet version fs t n rows text (Err (refusal 111 0))
        unfolding Write.formed Write.slim
        wide_rows h = stopped 111 (omega arith) (write_fault-wide sheet version fs t n rows text v (rw (f, g)) (rw h (and_false (fields_narrow version fs))))
          where
            and_false : (b : Bool) → (b && false) ≡ false
            and_false true = refl
            and_false false = refl

        pub wide-fields : fields_narrow version fs ≡ false → Planned sheet version fs t n rows text (Err (refusal 111 0))
        unfolding Write.formed Write.slim
        wide-fields h = stopped 111 (omega arith) (write_fault-wide sheet version fs t n rows text v (rw (f, g)) (rw h))

      pub unfit-rows : (u : Unfit) → Err u ≡ columns_of (width fs) t n text → Planned sheet version fs t n rows text (Err (refusal (unfit_number u) 0))
      unfit-rows Malformed q = bad-rows (told_malformed (width fs) t n text q)
      unfit-rows Wide q = let w = told-wide (width fs) t n text q in wide_rows w.0 w.1

-- none of these
pub ready : {version : ℕ} {fs t : List ℕ} {n : ℕ} {text : List ℕ} → is_version version ≡ true → fields_fit version fs text ≡ true → well_formed t n text ≡ true → narrow (width fs) t n ≡ true
    → fields_narrow version fs ≡ true → Ready version fs t n text
unfolding Write.formed Write.slim
ready v f g h m = record { known = v; formed = rw (f, g); slim = rw (h, m) }

module _ {version : ℕ} {fs t : List ℕ} {n : ℕ} {text : List ℕ} (r : Ready version fs t n text) where
  -- two bytes hold a width, and four a count
  pub symbols-most : width fs * n ≤ 281470681677825
  symbols-most =
      let w : width fs ≤ 65535 = omega (arith, ready_narrow16 r) in
      omega (arith, mul-le-mul_right n w, (formed t n text (ready-formed r)).small)

  -- eight bytes hold the symbology's length
  pub names-most : length (symbology_bytes (width fs) (symbology_of (width fs) t n text)) < 1000000000000000
  names-most =
      let few = (formed t n text (ready-formed r)).small in
      let l = symbols-most in
      let m = mappings-are (width fs) t n text in
      let h = heads-le t (list_rows t n) (n - list_rows t n) in
      let e = columns-length (width fs) t n text (ready-formed r) (ready-narrow r) in
      omega arith

-- ---- 90 to 95

pub refused-rows : {sheet : List ℕ} {version : ℕ} {fs t : List ℕ} {n : ℕ} {rows text : List ℕ} {why : Refusal} → Ready version fs t n text → Err why ≡ sized_of true rows text → Planned sheet version fs t n rows text (Err why)
refused-rows {sheet} {version} {fs} {t} {n} {rows} {text} {why} r q =
    let (z, is) = sized-fault true rows text why q in
    let w = write_fault-rows sheet version fs t n rows text r z in
    record { told = ((λ h. z (sym w ∙ h)), is ∙ ap (λ m. refusal m 0) (sym w)) }

module _ (rows text : List ℕ) {size : Size} (q : Ok size ≡ sized_of true rows text) where
  pub whole : fault true rows text ≡ 0
  whole = (sized-length true rows text size q).0

  bytes-are : size.bytes ≡ length (printed 0 rows text)
  bytes-are = (sized-length true rows text size q).1.bytes

  -- four bytes hold the layout's length
  pub layout-most : {x : ℕ} (has : Bool) → x ≡ cond has size.bytes (cond (is_nil rows) 0 size.bytes) → x ≤ 4294967295
  layout-most has e = go has (is_nil rows) e
    where
      go : {x : ℕ} (has none : Bool) → x ≡ cond has size.bytes (cond none 0 size.bytes) → x ≤ 4294967295
      go true none e = omega (arith, (sound rows text whole).within, bytes-are)
      go false true e = omega arith
      go false false e = omega (arith, (sound rows text whole).within, bytes-are)

-- ---- 13, and the numbers of the parts

module _
    (sheet rows : List ℕ) {version : ℕ} {fs t : List ℕ} {n : ℕ} {text : List ℕ} {size : Size} {x y s : ℕ} {k : Counts}
    (r : Ready version fs t n text) (small : Small fs) (bytes : Bytes text) (q : Ok size ≡ sized_of true rows text)
    (lay : x ≡ cond (eqb version 4) size.bytes (cond (is_nil rows) 0 size.bytes)) (own : y ≡ cond (eqb version 4) 4 0)
    (told : Told (width fs) t n text k) (names : s ≡ 16 + width fs * n + 4 * k.mappings + 8 * (n - (k.symbols + k.partial + k.not_found) - k.mappings))
  where
    -- how long the layout is
    layout-long : x ≡ length (layout_bytes (lengths version).has_layout (layout_tree (lengths version).has_layout fs rows text))
    layout-long =
        lay
        ∙ ap₂ (λ (has : Bool) (m : ℕ). cond has m (cond (is_nil rows) 0 m)) (sym (lengths-layout version)) (bytes-are rows text q)
        ∙ sym (layout-bytes-length (lengths version).has_layout 0 fs rows text)

    names-long : s ≡ length (symbology_bytes (width fs) (symbology_of (width fs) t n text))
    names-long = names ∙ names-are told

    -- how long all is
    block-long : 104 + x + y + s ≡ length (block_bytes sheet version fs t n rows text)
    block-long =
        let e = block-bytes-length r sheet rows small bytes in
        let f = ap {B = ℕ} (λ (has : Bool). cond has 4 0) (lengths-layout version) in
        omega (arith, layout-long, names-long)

    pub too_long : 4294967295 < 104 + x + y + s → Planned sheet version fs t n rows text (Err (refusal 13 0))
    too_long h =
        let l = block-long in
        stopped 13 (omega arith)
        (write_fault-is sheet version fs t n rows text r small bytes (whole rows text q) ∙ rw (lt-leb (length (block_bytes sheet version fs t n rows text)) 4294967295 (omega arith)))

    -- what the reader would refuse the layout for
    rules_are : cond (eqb version 4) (rows_rules sheet (width fs) rows text) (unless (is_nil rows) 25) ≡ layout_fault (lengths version).has_layout sheet (width fs) (layout_tree (lengths version).has_layout fs rows text)
    rules_are =
        ap (λ (has : Bool). cond has (rows_rules sheet (width fs) rows text) (unless (is_nil rows) 25)) (sym (lengths-layout version))
        ∙ sym (layout-fault-is (lengths version).has_layout sheet fs rows text)

    -- no number but those of the header, the layout and the symbology
    fault-left : 104 + x + y + s ≤ 4294967295 → let has = (lengths version).has_layout in
        write_fault sheet version fs t n rows text
        ≡ first (header_fault (header_of version fs (dataset_text fs text))) (first (layout_fault has sheet (width fs) (layout_tree has fs rows text)) (symbology_fault utf8 nul_padded is_date (width fs) (symbology_of (width fs) t n text)))
    fault-left h =
        let l = block-long in
        write_fault-is sheet version fs t n rows text r small bytes (whole rows text q) ∙ rw (le-leb (length (block_bytes sheet version fs t n rows text)) 4294967295 (omega arith))

    module _ (h : 104 + x + y + s ≤ 4294967295) where
      stops : {j : ℕ} {e : Refusal} → write_fault sheet version fs t n rows text ≡ j → Err e ≡ passed j → Planned sheet version fs t n rows text (Err e)
      stops {j} w p = let (z, e) = passed_refuses j p in record { told = ((λ i. z (sym w ∙ i)), e ∙ ap (λ m. refusal m 0) (sym w)) }

      pub header-stops : {e : Refusal} → Err e ≡ passed (header_fault (header_of version fs (dataset_text fs text))) → Planned sheet version fs t n rows text (Err e)
      header-stops p =
          let head = header_fault (header_of version fs (dataset_text fs text)) in
          stops (fault-left h ∙ rw (ne_eqb head 0 (passed_refuses head p).0)) p

      module _ (a : header_fault (header_of version fs (dataset_text fs text)) ≡ 0) where
        pub layout-stops : {e : Refusal} → Err e ≡ passed (cond (eqb version 4) (rows_rules sheet (width fs) rows text) (unless (is_nil rows) 25)) → Planned sheet version fs t n rows text (Err e)
        layout-stops {e} p =
            let own = layout_fault (lengths version).has_layout sheet (width fs) (layout_tree (lengths version).has_layout fs rows text) in
            let q : Err e ≡ passed own = p ∙ ap passed rules_are in
            stops (fault-left h ∙ rw (a, ne_eqb own 0 (passed_refuses own q).0)) q

        module _ (b : cond (eqb version 4) (rows_rules sheet (width fs) rows text) (unless (is_nil rows) 25) ≡ 0) where
          no-rule : layout_fault (lengths version).has_layout sheet (width fs) (layout_tree (lengths version).has_layout fs rows text) ≡ 0
          no-rule = sym rules_are ∙ b

          pub names-stop : {e : Refusal} → Err e ≡ k.fault → Planned sheet version fs t n rows text (Err e)
          names-stop p = stops (fault-left h ∙ rw (a, no-rule)) (p ∙ told.fault)

          pub planned : {u : Unit {0}} → Ok u ≡ k.fault
              → Planned sheet version fs t n rows text (Ok (record { len = 104 + x + y + s; layout = x; names = s; symbols = k.symbols; partial = k.partial; not_found = k.not_found; mappings = k.mappings }))
          planned e =
              let z = is_passed (symbology_fault utf8 nul_padded is_date (width fs) (symbology_of (width fs) t n text)) (e ∙ told.fault) in
              record {
                told = (
                  fault-left h ∙ rw (a, no-rule, z),
                  record {
                    ready = r;
                    whole = whole rows text q;
                    ruled = no-rule;
                    few = h;
                    len = block-long;
                    layout = layout-long;
                    names = names-long;
                    counts = record { symbols = told.symbols; partial = told.partial; not_found = told.not_found; mappings = told.mappings };
                  },
                );
              }
