pub mod BlockLemmas
pub mod HashLemmas
pub mod Pbkdf2Lemmas
pub mod XorLemmas
