-- What the writer accepts reads back, with the writer's width and the same sheet, as the same version, rows and names, starts apart.
-- Assumes nothing.
use Rattle.std.specs.Prelude.{ℕ, ◌≤◌, ◌<◌, Bool, List, ◌++◌, map, drop, Ok, Err}
use native.Mathlib.Omega.{arith}
use Rattle.std.proofs.Math.Path.{◌≡◌, refl}
use Rattle.std.proofs.Common.{sym, ap, ◌∙◌}
use Rattle.std.proofs.Math.Bool.{true, false, cond}
use Rattle.std.proofs.Math.ListN.{length}
use Rattle.std.proofs.Math.Dec.{leb, eqb}
use borrow.Author.Tests.{eqb-true, leb-true, le-leb}
use Rattle.refusal.specs.declared.Refusal.{Refusal}
use Rattle.codec.specs.Codec.{ok, refusal, Bytes}
use Rattle.wire.specs.Reader.{all_tests}
use Rattle.layout.specs.Layout.{Layout, from_layout, locate_layout, print_layout}
use Rattle.layout.specs.LayoutOf.{D}
use Rattle.layout.specs.Rows.{rows}
use Rattle.layout.specs.RowLaws.{no_start}
use Rattle.layout.specs.TextLaws.{row_text}
use Rattle.layout.specs.PrintLaws.{Reads, reads, parts-still}
use Rattle.rules.specs.Rules.{rules_of, ruled_of}
use Rattle.rules.specs.RuleLaws.{rules_blind, ruled-is}
use Rattle.rules.specs.RowRules.{rows_rules, rows_fault}
use Rattle.rules.specs.RowRuleLaws.{rows_rules_lem, fault-none, none-fault}
use Rattle.rows_check.specs.Tree.{rows_in, tree_of}
use Rattle.rows_check.specs.Check.{fault, printed}
use Rattle.rows_check.specs.LegalLaws.{sound, tree-legal}
use Rattle.rows_check.specs.TreeLaws.{tree-rows, tree-version}
use Rattle.rows_check.specs.NameLaws.{tree-each}
use Rattle.rows_check.specs.SectionLaws.{printed-is, printed-length}
use Rattle.writer.specs.Write.{write_layout, out_after}

pub record ReadsBack (sheet : List ℕ) (width version : ℕ) (table text : List ℕ) : Type 0 where
  pub layout : Layout
  pub accepted : ruled_of sheet width (printed version table text) ≡ ok layout (length (printed version table text))
  pub same : layout.version ≡ version
  pub same_rows : map no_start (rows layout) ≡ map no_start (rows_in table)
  pub same_names : map (row_text (printed version table text)) (rows layout) ≡ map (row_text text) (rows_in table)

-- the rules see no start
rules_still : (sheet : List ℕ) (width : ℕ) (t : Layout) → rules_of sheet width (from_layout (locate_layout all_tests D t)).0 ≡ rules_of sheet width (from_layout t).0
rules_still sheet width t =
    sym (rules_blind sheet width (from_layout (locate_layout all_tests D t)).0) ∙ ap (rules_of sheet width) (parts-still t) ∙ rules_blind sheet width (from_layout t).0

-- ---- what is left in the output

pub out_written : (n : ℕ) (bytes out : List ℕ) → out_after (Ok n) bytes out ≡ bytes ++ drop (length bytes) out
unfolding out_after
out_written n bytes out = refl

pub out-refused : (k : Refusal) (bytes out : List ℕ) → out_after (Err k) bytes out ≡ out
unfolding out_after
out-refused k bytes out = refl

-- ---- what is accepted, and with which length

pub record Accepts (sheet : List ℕ) (width version : ℕ) (table text : List ℕ) (room n : ℕ) : Type 0 where
  pub whole : fault true table text ≡ 0
  pub ruled : rows_rules sheet width table text ≡ 0
  pub count : n ≡ length (printed version table text)
  pub fits : n ≤ room

module _ (sheet : List ℕ) (width version : ℕ) (table text : List ℕ) (room : ℕ) where
  -- what neither 90 to 95 nor a rule nor 96 refuses is written
  pub accepts : fault true table text ≡ 0 → rows_rules sheet width table text ≡ 0 → length (printed version table text) ≤ room
      → write_layout sheet width version table text room ≡ Ok (length (printed version table text))
  unfolding write_layout
  accepts f r h = rw (none-fault sheet width true table text f r, le-leb (length (printed version table text)) room h)

  -- and nothing else
  pub accepted : (n : ℕ) → write_layout sheet width version table text room ≡ Ok n → Accepts sheet width version table text room n
  unfolding write_layout
  accepted n e = go (eqb 0 (rows_fault sheet width true table text)) refl (leb (length (printed version table text)) room) refl e
    where
      go : (b : Bool) → eqb 0 (rows_fault sheet width true table text) ≡ b → (c : Bool) → leb (length (printed version table text)) room ≡ c
          → cond b (cond c (Ok (length (printed version table text))) (Err (refusal 96 0))) (Err (refusal (rows_fault sheet width true table text) 0)) ≡ Ok n
          → Accepts sheet width version table text room n
      go true y true z e =
          let m : n ≡ length (printed version table text) = cc in
          let l = leb-true (length (printed version table text)) room z in
          let v = fault-none sheet width true table text (sym (eqb-true 0 (rows_fault sheet width true table text) y)) in
          record { whole = v.0; ruled = v.1; count = m; fits = omega arith }
      go true y false z e = let o : ◌≡◌ {A = ℕ} 0 1 = cc in absurd (omega arith)
      go false y c z e = let o : ◌≡◌ {A = ℕ} 0 1 = cc in absurd (omega arith)

  -- ---- the round trip

  -- the layout of rows that are accepted reads back
  tree-reads : (n : ℕ) → Bytes text → version < 65536 → write_layout sheet width version table text room ≡ Ok n → Reads (tree_of version table text) text
  tree-reads n bytes v e =
      let s = sound table text (accepted n e).whole in
      let t = tree_of version table text in
      let l : length (print_layout all_tests D t) ≤ 4294967295 = omega (arith, s.within, printed-length table text version, ap length (printed-is version table text)) in
      reads t text (tree-legal table text bytes s version v) l (tree-each table text version s.formed)

  -- what is written is read as the layout of its rows, with its places
  pub reads-tree : (n : ℕ) → Bytes text → version < 65536 → write_layout sheet width version table text room ≡ Ok n
      → ruled_of sheet width (printed version table text) ≡ ok (locate_layout all_tests D (tree_of version table text)) (length (printed version table text))
  reads-tree n bytes v e =
      let t = tree_of version table text in
      let z : rules_of sheet width (from_layout (locate_layout all_tests D t)).0 ≡ 0 =
      rules_still sheet width t ∙ sym (rows_rules_lem sheet width version table text) ∙ (accepted n e).ruled in
      rw (printed-is version table text) (ruled-is sheet width (print_layout all_tests D t) ∙ rw ((tree-reads n bytes v e).accepted, z))

  pub reads-back : (n : ℕ) → Bytes text → version < 65536 → write_layout sheet width version table text room ≡ Ok n → ReadsBack sheet width version table text
  reads-back n bytes v e =
      let b = tree-reads n bytes v e in
      let r = tree-rows table text version (sound table text (accepted n e).whole).formed in
      record {
        layout = locate_layout all_tests D (tree_of version table text);
        accepted = reads-tree n bytes v e;
        same = b.version ∙ tree-version version table text;
        same_rows = b.same_rows ∙ ap (map no_start) r;
        same_names = rw (printed-is version table text) (b.same_texts ∙ ap (map (row_text text)) r);
      }
