pub mod MessageLemmas
mod SendingLemmas
pub mod StreamLemmas
