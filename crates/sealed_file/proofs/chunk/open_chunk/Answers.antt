use Rattle.std.proofs.Common.{◌≡◌, ◌++◌, ◌<◌, inl, length, drop, subst, ◌∙◌, take_at}
use Rattle.aead_ciphers.specs.Gcm.{tag_len}
use Rattle.sealed_file.proofs
use proofs.ChunkLemmas.{has_none, rejoined}
use proofs.chunk.open_chunk.Goals as goal

pub returns-in_default-clause-accepted : goal.returns-in_default-clause-accepted
returns-in_default-clause-accepted c =
    has_none _ _ _ _ (subst (λ l. length l < tag_len) c.deref.ensures.value c.in_default.ensures.cases)

pub returns-in_default-clause-refused : goal.returns-in_default-clause-refused
returns-in_default-clause-refused c = inl (subst (λ l. length l < tag_len) c.deref.ensures.value c.in_default.ensures.cases)

-- what is opened and its tag
whole : (c : goal.After-chunk-1) → c.deref_mut.result.now ++ c.in-Some.tag.now ≡ c.args.chunk.now.items
whole c = rejoined _ _ _ _ c.len.result c.deref.ensures.value c.in-Some.ensures.cases.1.same
    (c.deref_mut.ensures.value ∙ c.truncate.ensures.items) (c.len.ensures ∙ c.args.chunk.now.ok.0)

pub returns-clause-accepted : goal.returns-clause-accepted
returns-clause-accepted c = rw (whole c) at c.open_ciphertext.ensures.accepted

pub returns-clause-opened : goal.returns-clause-opened
returns-clause-opened c =
    let new = c.open_ciphertext.new.ciphertext in
    rw (take_at new (drop (length new) c.truncate.new.self.items) c.truncate.new.self.len
    (c.open_ciphertext.auto.ciphertext ∙ c.deref_mut.ensures.len)) (rw (whole c) at c.open_ciphertext.ensures.opened)

pub returns-clause-refused : goal.returns-clause-refused
returns-clause-refused c = rw (whole c) at c.open_ciphertext.ensures.refused
