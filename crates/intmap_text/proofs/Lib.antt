pub mod SplitLemmas
pub mod NumberLemmas
pub mod PairLemmas
pub mod CommandLemmas
pub mod LineLemmas
pub mod ServingLemmas
