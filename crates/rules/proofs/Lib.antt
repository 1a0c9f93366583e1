pub mod Bools
pub mod RuleLaws
pub mod StageLaws
