pub mod ConnectionLemmas
pub mod ContentLemmas
mod InnerLemmas
pub mod JoinedLemmas
mod RecordLemmas
pub mod RunLemmas
pub mod TakenLemmas
mod WriteLemmas
