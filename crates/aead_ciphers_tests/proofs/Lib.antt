mod LoanOver
mod PartOpened
mod TwoBlocks
