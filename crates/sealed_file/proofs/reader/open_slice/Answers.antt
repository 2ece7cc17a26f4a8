use Rattle.std.proofs.Common.{◌≡◌, ◌++◌, ◌-◌, inl, length, take, drop, refl, ◌∙◌, take_at}
use Rattle.aead_ciphers.specs.Gcm.{tag_len}
use Rattle.std.proofs.Math.Seq.{length_front}
use Rattle.sealed_file.proofs
use proofs.ChunkLemmas.{has_none, length-ciphertext, rejoined}
use proofs.reader.open_slice.Goals as goal

pub returns-in_default-clause-accepted : goal.returns-in_default-clause-accepted
returns-in_default-clause-accepted c = has_none _ _ _ _ c.in_default.ensures.cases

pub returns-in_default-clause-refused : goal.returns-in_default-clause-refused
returns-in_default-clause-refused c = inl c.in_default.ensures.cases

-- what is opened and its tag
whole : (c : goal.After-slice_known-2-1)
    → take (length c.args.sealed.now - tag_len) c.args.sealed.now ++ c.in-Some.tag.now ≡ c.args.sealed.now
whole c = rejoined _ _ _ _ _ refl c.in-Some.ensures.cases.1.same refl refl

pub returns-clause-accepted : goal.returns-clause-accepted
returns-clause-accepted c = rw (whole c) at c.open_ciphertext.ensures.accepted

pub returns-clause-opened : goal.returns-clause-opened
returns-clause-opened c =
    let sealed = c.args.sealed.now in
    rw (take_at c.open_ciphertext.new.ciphertext (drop (length sealed - tag_len) sealed) (length sealed - tag_len)
    (c.open_ciphertext.auto.ciphertext ∙ length-ciphertext sealed)) (rw (whole c) at c.open_ciphertext.ensures.opened)

pub returns-clause-refused : goal.returns-clause-refused
returns-clause-refused c = rw (whole c) at c.open_ciphertext.ensures.refused

pub returns-clause-len : goal.returns-clause-len
returns-clause-len c = length_front c.args.sealed.now c.open_ciphertext.new.ciphertext _ c.open_ciphertext.auto.ciphertext
