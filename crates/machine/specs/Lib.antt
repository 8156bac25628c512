pub mod Events
pub mod ReactionLaws
