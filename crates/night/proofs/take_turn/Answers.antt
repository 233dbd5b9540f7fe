-- A feed and what its answer comes to are a turn: the law `turn_is`.
-- Assumes nothing.
use Rattle.night.specs.TurnLaws.{feed_small, turn_is}
use borrow.Author.Rules.{rules}
use Rattle.night.proofs.take_turn.Goals as goal

pub judge-requires : goal.judge-requires
judge-requires c = feed_small _ _ _ _ _ _ _ _ _ _ c.feed-fed.ensures

pub returns : goal.returns
returns c = turn_is _ _ _ _ _ _ _ _ _ c.feed-fed.ensures c.judge.ensures
