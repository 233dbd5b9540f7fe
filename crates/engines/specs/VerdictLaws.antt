-- A layout that passes the rules is the layout that is read. Assumes nothing.
use Rattle.std.specs.Prelude.{ℕ, ◌≡◌, List, eqb}
use Rattle.std.proofs.Common.{sym, ap, ◌∙◌}
use Rattle.codec.specs.Codec.{ok}
use Rattle.codec.proofs.Laws.{bind_ok, need-ok}
use Rattle.layout.specs.Layout.{Layout, from_layout}
use Rattle.layout.specs.LayoutOf.{layout_of}
use Rattle.rules.specs.Rules.{rules_of, ruled_of}
use Rattle.rules.specs.RuleLaws.{ruled-is}

-- what passes the rules is the layout that is read
pub ruled-layout : (sheet : List ℕ) (width : ℕ) (part : List ℕ) (l : Layout) (j : ℕ) → ruled_of sheet width part ≡ ok l j → (i : ℕ) × (layout_of part ≡ ok l i)
ruled-layout sheet width part l j el =
    let (l', j', e1, e2) = bind_ok (layout_of part) _ l j (sym (ruled-is sheet width part) ∙ el) in
    let (t, e3) = need-ok (eqb 0 (rules_of sheet width (from_layout l').0)) _ 0 _ l j e2 in
    let same : l' ≡ l = cc in
    (j', e1 ∙ ap (λ (y : Layout). ok y j') same)
