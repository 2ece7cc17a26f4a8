use Rattle.std.proofs.Common.{◌≡◌, ◌-◌, ◌<◌, ◌^◌, length, min, take}
use Rattle.aead_ciphers_wide.specs.Pieces.{HasTaken, joined}
use Rattle.aead_ciphers_wide.specs.declared.aes.ctr32.TheConstants.{BATCH_LEN}
use Rattle.aead_ciphers_wide.proofs.aes_gcm.pieces.SealState.begin_with_parts.Given as goal

-- the hash absorbed the parts so far
abbrev pub invariant-loop-part : goal.invariant-loop-part
invariant-loop-part g l =
    let front = joined (take l.part-index l.aad) in
    record {
      short : l.hash.len < BATCH_LEN;
      total : l.hash.total ≡ min (length front) (2 ^ 64 - 1);
      taken : HasTaken (g.G.UpdateBlock.hash_subkey l.gcm) front l.hash;
    }
