-- What the writer writes is tidy. Assumes nothing.
use Prim.Native.Nat.{ℕ, zero, suc, ◌+◌, ◌<◌}
use Rattle.std.proofs.Common.{arith, sym, ap, ◌∙◌}
use Rattle.std.specs.Prelude.{◌≡◌, List, length, Ok}
use Rattle.std.proofs.Math.Path.{refl}
use Rattle.codec.specs.Codec.{Bytes}
use Rattle.wire.specs.Reader.{all_tests}
use Rattle.layout.specs.Layout.{print_layout}
use Rattle.layout.specs.LayoutOf.{D}
use Rattle.layout.specs.LayoutLaws.{layout-octets}
use Rattle.layout.specs.NameCountLaws.{AllOf}
use Rattle.layout.specs.Answers.{verdict}
use Rattle.layout.specs.AnswerLaws.{verdict-accepted}
use Rattle.rows_check.specs.Tree.{cell, from, after, entry_of, record_of, struct_of, label_def_of, count_of, names_from, next_section, kinds, structs_from, labels_from, tree_of}
use Rattle.rows_check.specs.Check.{name_kind, printed}
use Rattle.rows_check.specs.CheckLaws.{InPlace, Places}
use Rattle.rows_check.specs.LegalLaws.{Sound, sound, rising, tree-legal}
use Rattle.writer.specs.Write.{write_layout}
use Rattle.writer.proofs.RoundTripLaws.{accepted, reads-tree}
use Rattle.tidy.specs.Plain.{PlainEntry, PlainRecord, PlainStruct, PlainLabelDef, Plain}
use Rattle.tidy.specs.Tidy.{tidy_of}
use Rattle.tidy.specs.Walk.{met_told}
use Rattle.tidy.proofs.WalkLaws.{met_of, layout-met, accepted-told}
use Rattle.demands.specs.PlainLaws.{plain-untidy}

-- ---- the layout of rows is plain

-- entries from rows have zeros where they are skipped
entries-plain : (rows : List ℕ) (q n : ℕ) → AllOf PlainEntry (from after (entry_of rows) q n)
unfolding from
entries-plain rows q zero = tt
entries-plain rows q (suc n) = (refl, entries-plain rows (q + 1) n)

module _ (rows text : List ℕ) where
  -- a record, a struct and a label def from rows are plain
  record_plain : (q : ℕ) → PlainRecord (record_of rows text q)
  record_plain q = record { entries = entries-plain rows (q + 1) (cell rows q 6); rest = refl }

  struct_plain : (q : ℕ) → PlainStruct (struct_of rows text q)
  struct_plain q = record { entries = entries-plain rows (q + 1) (cell rows q 4); rest = refl }

  label_def_plain : Bytes text → Sound rows text → (q : ℕ) → InPlace 14 rows q → PlainLabelDef (label_def_of rows text q)
  unfolding count_of names_from name_kind
  label_def_plain bytes s q p =
      record { rising = rising rows text bytes s (cell rows q 3) (q + 1) 0 p.inside p.names (λ g. omega arith); rest = refl }

  -- what holds of each section in its place holds of all
  all_plain : {A : Type 0} (P : A → Type 0) (kind : ℕ) (part : ℕ → A) → ((q : ℕ) → InPlace kind rows q → P (part q)) → (k q : ℕ) → Places kind rows q k → AllOf P (from (next_section kind rows) part q k)
  unfolding from Places
  all_plain P kind part one zero q p = tt
  all_plain P kind part one (suc k) q p = (one q p.0, all_plain P kind part one k (next_section kind rows q) p.1)

  -- the layout of rows that nothing refuses is plain
  tree_plain : (version : ℕ) → Bytes text → Sound rows text → Plain (tree_of version rows text)
  unfolding tree_of
  tree_plain version bytes s =
      let w = s.formed in
      record {
        records = all_plain PlainRecord 10 (record_of rows text) (λ q p. record_plain q) (kinds rows 10) 0 w.records;
        structs = all_plain PlainStruct 13 (struct_of rows text) (λ q p. struct_plain q) (kinds rows 13) (structs_from rows) w.structs;
        labels = all_plain PlainLabelDef 14 (label_def_of rows text) (label_def_plain bytes s) (kinds rows 14) (labels_from rows) w.labels;
        rest = refl;
      }

-- ---- what is written

-- what the writer writes is tidy, with its width and sheet: the layout of its rows is plain, and a walk over bytes sees no starts
pub written_tidy : (sheet : List ℕ) (width version : ℕ) (table text : List ℕ) (room n : ℕ) → Bytes text → version < 65536 → write_layout sheet width version table text room ≡ Ok n
    → tidy_of sheet width (printed version table text) ≡ Ok tt
unfolding printed met_of
written_tidy sheet width version table text room n bytes v e =
    let t = tree_of version table text in
    let s = sound table text (accepted sheet width version table text room n e).whole in
    let lg = tree-legal table text bytes s version v in
    let a = ap verdict (reads-tree sheet width version table text room n bytes v e) ∙ verdict-accepted _ _ in
    sym (accepted-told sheet width (printed version table text) (layout-octets all_tests D t lg) (sym a) refl)
    ∙ ap met_told (layout-met t lg ∙ ap (λ ks. met_of ks (length (print_layout all_tests D t))) (plain-untidy t (tree_plain table text version bytes s)))
