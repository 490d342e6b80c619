pub mod CodeLaws
pub mod MostLaws
pub mod PairLaws
