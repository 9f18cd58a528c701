-- Lemmas on the loan of all values of slots whose further pairs lie in nodes.
pub mod PlacesLemmas
pub mod OnceLemmas
pub mod HomeLemmas
pub mod RefilledLemmas
pub mod MappedLemmas
pub mod SameKeysLemmas
pub mod WrittenLemmas
pub mod OpensFormsLemmas
pub mod OpensNodeLemmas
pub mod OpensPoolLemmas
pub mod OpensMemoryLemmas
pub mod OpensLinkedLemmas
