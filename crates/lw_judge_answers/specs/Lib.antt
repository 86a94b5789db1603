pub mod AnsweringAt
pub mod CompletionsAt
pub mod DonesAt
pub mod UnansweredAt
