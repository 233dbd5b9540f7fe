-- An entry that is elsewhere never starts here, nor does one of the other side. Assumes nothing.
use Prim.Native.Nat.{ℕ}
use mathlib.Core.Path.{sym, ap, ◌∙◌}
use lib.Dec.{eqb}
use borrow.Author.Tests.{ne_eqb}
use Rattle.item_rules.proofs.Loops.{starts_off, starts_at}
use Rattle.item_rules.proofs.by_search.starts_here.Goals as goal

pub returns-then-x-cursor : goal.returns-then-x-cursor
returns-then-x-cursor c = starts_at _ _ _ _ _ _ c.extent_of-x.ensures.other (sym c.extent_of-x.ensures.off ∙ c.if-x-cursor.true)

pub returns-else-x-cursor : goal.returns-else-x-cursor
returns-else-x-cursor c =
    let no = ne_eqb _ _ c.if-x-cursor.false in
    no ∙ starts_off _ _ _ _ _ (ap (λ (o : ℕ). eqb o c.args.cursor) (sym c.extent_of-x.ensures.off) ∙ no)
