pub mod Rules
pub mod RuleLaws
pub mod RowRules
pub mod RowRuleLaws
pub mod LayoutRules
pub mod LayoutRuleLaws
pub mod Single
