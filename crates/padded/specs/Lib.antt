pub mod Padded
pub mod Hand
pub mod EachPaddedLaws
pub mod Pairs
pub mod PaddedAnswer
pub mod PaddedAnswerLaws
pub mod Single
