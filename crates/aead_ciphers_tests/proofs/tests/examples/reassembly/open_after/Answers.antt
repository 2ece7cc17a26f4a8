use Rattle.std.proofs.Common.{rules, arith, ◌≡◌, ◌-◌, ◌≤◌, ◌++◌, length, drop, take, ℕ, List, ap, ◌∙◌}
use Rattle.std.proofs.lemmas.Slice.{drop-put_mid}
use Rattle.aead_ciphers.specs.Aes.{aes}
use Rattle.aead_ciphers.specs.Counting.{next_nonce, prefixed_nonce}
use Rattle.aead_ciphers.specs.Gcm.{gcm_decrypted}
use Rattle.aead_ciphers_tests.proofs
use proofs.PartOpened.{part_front, part_text}
use proofs.tests.examples.reassembly.open_after.Goals as goal
use borrow.Rule.Slice.PartMut.{mid_of}

pub returns-clause-plaintext : goal.returns-clause-plaintext
returns-clause-plaintext c =
    let done = c.args.done in
    let start = c.args.start in
    let end = c.args.end in
    let old = c.args.buffer.now in
    let new = c.open_within_to_front.new.in_out in
    let count = c.in_ok-count.count in
    let key = aes c.args.key.now.key.bytes in
    let nonce = next_nonce prefixed_nonce c.args.key.now.sequence in
    let part = mid_of done (end - done) old in
    let counted : count ≡ end - 16 - start = search rules in
    let size : count ≤ length new = search rules in
    let opened : take count new ≡ gcm_decrypted key nonce (drop (start - done) (take (length part - 16) part)) = search rules in
    part_front done (end - done) count old new (omega arith) size
    ∙ ap (λ (x : List ℕ). take done old ++ x)
    (opened ∙ ap (λ (x : List ℕ). gcm_decrypted key nonce x) (part_text done start end old c.requires.after c.requires.within.0 c.requires.within.1))

pub returns-clause-rest : goal.returns-clause-rest
returns-clause-rest c place later =
    let size : length c.open_within_to_front.new.in_out ≡ c.args.end - c.args.done = search rules in
    drop-put_mid c.args.done (c.args.end - c.args.done) c.args.buffer.now c.open_within_to_front.new.in_out place (omega arith) (omega arith) size
