pub mod Searches
pub mod RuleT
