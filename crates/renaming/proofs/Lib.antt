mod Words
mod Names
mod OnAllowed
mod Loads
mod Fields
mod Edits
mod Steps
mod Looks
mod Parse
mod Allowed
mod Replies
mod RulesSame
mod Shown
pub mod Demand3
pub mod Swap
mod Partners
pub mod Uses
