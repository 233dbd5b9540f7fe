-- The writer gives a plain layout's own bytes for the rows that it is read to, with the same version. Assumes nothing.
use Rattle.std.specs.Prelude.{ℕ, ◌≤◌, ◌≡◌, List, length, eqb, Ok}
use Rattle.std.proofs.Common.{sym, ap, ◌∙◌, eqb-true}
use Rattle.codec.specs.Codec.{Bytes, ok}
use Rattle.codec.proofs.Laws.{need-ok}
use Rattle.table.specs.Table.{flat}
use Rattle.layout.specs.Layout.{Layout, from_layout}
use Rattle.layout.specs.Rows.{rows}
use Rattle.rows_check.specs.Check.{printed}
use Rattle.rules.specs.Rules.{rules_of, ruled_of}
use Rattle.rules.specs.RuleLaws.{ruled-is}
use Rattle.rules.specs.RowRules.{rows_rules}
use Rattle.rules.specs.RowRuleLaws.{rows_rules_lem}
use Rattle.engines.specs.VerdictLaws.{ruled-layout}
use Rattle.writer.specs.Write.{write_layout}
use Rattle.writer.proofs.RoundTripLaws.{accepts}
use Rattle.tidy.specs.Plain.{Plain}
use Rattle.demands.specs.RowsBackLaws.{planted, tree-back}
use Rattle.demands.specs.RowsWholeLaws.{printed-back, fault-none}

-- what passes the rules breaks none
ruled-none : (sheet : List ℕ) (width : ℕ) (s : List ℕ) (t : Layout) (j : ℕ) → ruled_of sheet width s ≡ ok t j → rules_of sheet width (from_layout t).0 ≡ 0
ruled-none sheet width s t j e =
    let r = ruled-layout sheet width s t j e in
    let n = need-ok (eqb 0 (rules_of sheet width (from_layout t).0)) _ _ _ t j (rw r.1 at (sym (ruled-is sheet width s) ∙ e)) in
    sym (eqb-true 0 _ n.0)

-- a plain layout that passes the rules is written again from its rows, byte for byte
pub plain_written : (sheet : List ℕ) (width : ℕ) (s : List ℕ) (t : Layout) (j room : ℕ) → Bytes s → ruled_of sheet width s ≡ ok t j → Plain t → length s ≤ room
    → (write_layout sheet width t.version (flat (rows t)) s room ≡ Ok (length s)) × (printed t.version (flat (rows t)) s ≡ s)
plain_written sheet width s t j room bs e plain h =
    let (i, l) = ruled-layout sheet width s t j e in
    let p = planted s t i bs l plain in
    let b = printed-back s t p in
    let r : rows_rules sheet width (flat (rows t)) s ≡ 0 =
    rows_rules_lem sheet width t.version (flat (rows t)) s ∙ ap (λ x. rules_of sheet width (from_layout x).0) (tree-back s t p) ∙ ruled-none sheet width s t j e in
    (accepts sheet width t.version (flat (rows t)) s room (fault-none s t p) r (rw b h) ∙ ap Ok (ap length b), b)
