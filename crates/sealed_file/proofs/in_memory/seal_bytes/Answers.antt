use Rattle.std.proofs.Common.{◌≡◌, ℕ, ◌+◌, ◌*◌, List, Some, sym, ◌++◌, length, ap, ◌∙◌, ◌==◌, []}
use Rattle.aead_ciphers.specs.Gcm.{tag_len}
use Rattle.std.proofs.Math.Nat.{le_trans}
use Rattle.std.proofs.lemmas.Result.{err_from_is_err_and}
use Rattle.sealed_file.specs.Format.{ChunkKey, secret, fresh_key, sealed_file}
use Rattle.sealed_file.proofs
use proofs.FileLemmas.{at_most, last_of, sealed_len}
use proofs.InMemoryLemmas.{full_fits, lacks_grown, room_for_sealed, room_grown}
use proofs.PieceLemmas.{length-piece-le}
use proofs.SealLemmas.{header_written, seal_fits, seal_more, sealed_before, sealed_is}
use proofs.in_memory.seal_bytes.Goals as goal

-- what room was asked for, as `sealed_len` says
len_is : (key random file : List ℕ) (made : ChunkKey) (n : ℕ) → made ≡ fresh_key (secret key []) random → length made.header ≡ 60
    → n ≡ last_of file → 60 + length file + (n + 1) * tag_len ≡ length (sealed_file (fresh_key (secret key []) random) file)
len_is key random file made n made_is size n_is =
    sealed_len (fresh_key (secret key []) random) file n (sym (ap (λ (k : ChunkKey). length k.header) made_is) ∙ size) n_is

pub returns-in_err-reserve-clause-accepted : goal.returns-in_err-reserve-clause-accepted
returns-in_err-reserve-clause-accepted c = λ room.
    full_fits room (lacks_grown _ _ (len_is c.args.key.now c.args.random c.args.file.now c.new-cipher.result c.last_piece_of-last.result
    c.new-cipher.ensures.made c.new-cipher.ensures.size c.last_piece_of-last.ensures) c.in_err-reserve.ensures.full)

pub returns-in_err-reserve-clause-refused : goal.returns-in_err-reserve-clause-refused
returns-in_err-reserve-clause-refused c =
    let p = err_from_is_err_and c.from_residual.result c.from_residual.ensures.1 in
    rw (p.1, p.2) (lacks_grown _ _ (len_is c.args.key.now c.args.random c.args.file.now c.new-cipher.result c.last_piece_of-last.result
    c.new-cipher.ensures.made c.new-cipher.ensures.size c.last_piece_of-last.ensures) c.in_err-reserve.ensures.full)

pub loop-number-init : goal.loop-number-init
loop-number-init c = record {
  appended = header_written _ c.args.file.now _ (Some c.args.out.now.items)
      (Some c.append.new.out.items) (c.header.ensures.bytes ∙ ap (λ k. k.header) c.new-cipher.ensures.made)
      (c.append.ensures.appended ∙ ap (λ l. l ++ c.header.result.now) c.in_ok-reserve.ensures.items);
  room =
      room_grown (len_is c.args.key.now c.args.random c.args.file.now c.new-cipher.result c.last_piece_of-last.result
      c.new-cipher.ensures.made c.new-cipher.ensures.size c.last_piece_of-last.ensures)
      c.in_ok-reserve.ensures.len c.in_ok-reserve.ensures.ok c.append.ensures.capacity;
}

pub append_sealed-requires-clause-chunk : goal.append_sealed-requires-clause-chunk
append_sealed-requires-clause-chunk c = rw c.piece_of-chunk.ensures (length-piece-le _ _ c.loop-number.number)

pub append_sealed-requires-clause-room : goal.append_sealed-requires-clause-room
append_sealed-requires-clause-room c =
    let k = fresh_key (secret c.args.key.now []) c.args.random in
    rw c.piece_of-chunk.ensures (room_for_sealed c.args.out.now.items (sealed_before k c.args.file.now c.loop-number.number)
    c.loop-number.out.items _ _ _ c.args.out.now.ok.0 c.loop-number.out.ok.0 c.loop-number.invariant.appended
    (seal_fits k c.args.file.now c.loop-number.number (at_most _ _ _ c.loop-number-test.true c.last_piece_of-last.ensures))
    c.loop-number.invariant.room)

pub loop-number-preserved : goal.loop-number-preserved
loop-number-preserved c = record {
  appended = seal_more (fresh_key (secret c.args.key.now []) c.args.random) c.args.file.now c.loop-number.number
      (Some c.args.out.now.items) (Some c.loop-number.out.items) (Some c.append_sealed.new.out.items)
      (rw (← c.new-cipher.ensures.made) (sealed_is _ _ _ (ap (λ k. c.loop-number.number == k) c.last_piece_of-last.ensures) c.piece_of-chunk.ensures))
      c.loop-number.invariant.appended c.append_sealed.ensures.sealed;
  room = le_trans c.loop-number.invariant.room c.append_sealed.ensures.capacity;
}
