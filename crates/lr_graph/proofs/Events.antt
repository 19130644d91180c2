-- Each event is the same in the graph and by the rules.
pub mod FrontSteps
pub mod Replies
pub mod Resends
pub mod Calls
pub mod EachEvent
