-- The names that the walks of buffers cite, beside those of `WalkNames`.
use Rattle.aead_ciphers_base.proofs
pub use proofs.WalkLocals.{alone, gets, both, reborrows}
pub use proofs.Walks.{at_words, Words, words_vals, words_typed, slice_typed, dropped, consults, ends, walked, table_of}
pub use proofs.Walks.{premise, one, learns, learns_last, tells, tell, takes, says}
pub use proofs.ViewWalks.{boxed, held, gone, gone_within, buffer_word, range_word, struct_of, in_buffer, begun, making}
pub use proofs.ViewWalks.{accepts, refuses, usize_laws, usize_told, at_seam, ok_of, err_of, let_go}
pub use types.Kit.{at_ret}
pub use types.Match.{live}
pub use contract.Running.{tables}
pub use denote.Plain.{uint_Makes}
pub use denote.Steps.{owned}
pub use denote.Triple.Walked.{walk_of}
pub use Rattle.std.proofs.VecSteps.Shapes.{after}
pub use denote.Param.Laws.{param_laws}
pub use lib.Dec.{lit<, ltb→lt, nltb→le}
pub use Rattle.aead_ciphers_base.specs.declared.overlapping.base.Overlapping.{Overlapping}
pub use proofs.LentParts.{lent}
