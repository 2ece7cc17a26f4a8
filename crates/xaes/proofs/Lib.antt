pub mod DerivationLemmas
