-- What the feed promises, and what its answer gives.
-- Assumes nothing.
use Rattle.c_start.specs.Laws.{fed_c}
use borrow.Author.Rules.{rules}
use Rattle.c_start.proofs.dbn_feed.Goals as goal

pub returns : goal.returns
returns c =
    let a = c.args in
    fed_c a.held a.store.now a.piece.now a.sheet.now a.symbology.now a.layout.now a.out.now
    c.feed-fed.result _ _ _ _ _ c.feed-fed.ensures c.put_answer.ensures.0 c.put_answer.ensures.1
