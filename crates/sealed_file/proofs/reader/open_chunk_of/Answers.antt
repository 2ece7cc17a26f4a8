use Rattle.std.proofs.Common.{◌↔◌, IsOk, IfErr, OnOk, ◌≡◌, ◌+◌, ◌-◌, length, take, arith, length-take, refl}
use Rattle.aead_ciphers.specs.Gcm.{tag_len}
use Rattle.sealed_file.specs.Opening.{HasTag, opened_chunk}
use Rattle.sealed_file.specs.Refusals.{ChunkRefuses}
use Rattle.sealed_file.proofs
use proofs.ReaderLemmas.{message_of, of_chunk, refusal_of}
use proofs.reader.open_chunk_of.Goals as goal

pub returns-clause-accepted : goal.returns-clause-accepted
returns-clause-accepted g c =
    let short = c.message_len-len.ensures.short in
    of_chunk _ _ _ _ _ _ _ (λ b l. IsOk c.open_from.result ↔ HasTag c.args.cipher.now c.args.number b l)
    c.requires.ends c.requires.short c.requires.in_range
    (omega (arith, length-take (c.message_len-len.result + tag_len) c.args.buffer.now, c.requires.room, short, c.message_len-len.ensures.value))
    (omega (arith, c.from.ensures)) c.open_from.ensures.accepted

pub returns-clause-message : goal.returns-clause-message
returns-clause-message g c =
    let short = c.message_len-len.ensures.short in
    let n = c.message_len-len.result + tag_len in
    let size : length (take n c.args.buffer.now) ≡ n = omega (arith, length-take n c.args.buffer.now, c.requires.room, short) in
    message_of c.open_from.result _ _ _ (length (take n c.args.buffer.now)) _ c.open_from.new.sealed _ _ (returns-clause-accepted g c)
    (of_chunk _ _ _ _ _ _ _ (λ b l. OnOk c.open_from.result
    (take (length (take n c.args.buffer.now) - tag_len) c.open_from.new.sealed ≡ opened_chunk c.args.cipher.now c.args.number b l))
    c.requires.ends c.requires.short c.requires.in_range
    (omega (arith, size, c.message_len-len.ensures.value))
    (omega (arith, c.from.ensures)) c.open_from.ensures.opened)
    (omega (arith, size, c.message_len-len.ensures.value)) c.open_from.ensures.len refl

pub returns-clause-refused : goal.returns-clause-refused
returns-clause-refused g c =
    let short = c.message_len-len.ensures.short in
    refusal_of c.open_from.result _ _ _ (returns-clause-accepted g c)
    (of_chunk _ _ _ _ _ _ _ (λ b l. IfErr c.open_from.result (λ error. ChunkRefuses c.args.cipher.now c.args.number b l error))
    c.requires.ends c.requires.short c.requires.in_range
    (omega (arith, length-take (c.message_len-len.result + tag_len) c.args.buffer.now, c.requires.room, short, c.message_len-len.ensures.value))
    (omega (arith, c.from.ensures)) c.open_from.ensures.refused)
