pub mod AskedLaws
pub mod QuestionLaw
