-- The laws of what is open, of comments and names that hold texts, and of each answer.
pub mod Terms
pub mod CommentLaws
pub mod OpenLaws
pub mod LeafSteps
pub mod Retypings
pub mod Sums
pub mod FinishSteps
pub mod HeldLists
pub mod Recorded
pub mod Routes
pub mod AnswerRoutes
pub mod FormatNames
