-- Proofs among the definitions, since `impl`s cite them.
pub mod EqualityLaws
