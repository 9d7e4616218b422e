pub mod AnswerLemmas
pub mod ConversationLemmas
