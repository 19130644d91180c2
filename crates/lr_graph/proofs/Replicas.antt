-- A step of a replica is the same in the graph and by the rules.
pub mod Posting
pub mod Accepting
pub mod Gossiping
pub mod Ending
pub mod Stepping
pub mod Own
pub mod Receiving
pub mod Noting
pub mod GossipSteps
pub mod OwnParts
