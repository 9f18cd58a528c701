-- Lemmas on the loan of all values of something, of a table last.
pub mod CellLemmas
pub mod LendByLemmas
pub mod OpensLemmas
pub mod OpensStructLemmas
pub mod OpensVecLemmas
pub mod OpensPairLemmas
pub mod ValuesLemmas
pub mod ChosenLemmas
pub mod ChosenOpensLemmas
pub mod Linked
pub mod OpensTableLemmas
