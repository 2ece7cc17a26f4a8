use Rattle.std.proofs.Common.{◌≡◌, ◌+◌, ◌-◌, ◌<◌, ◌≤◌, ◌++◌, ◌^◌, ℕ, List, length, min, take}
use Rattle.aead_ciphers_wide.specs.Pieces.{HasTaken}
use Rattle.aead_ciphers_wide.specs.declared.aes.ctr32.TheConstants.{BATCH_LEN}
use Rattle.aead_ciphers_wide.proofs.aes_gcm.pieces.PartialHash.update.Given as goal

abbrev pub invariant-loop-done : goal.invariant-loop-done
invariant-loop-done g l =
    let h = g.G.UpdateBlock.hash_subkey l.gcm in
    record {
      within : l.done ≤ length l.part;
      short : l.self.len < BATCH_LEN;
      total : l.self.total ≡ min (l.fn.self.total + length l.part) (2 ^ 64 - 1);
      taken : (bytes : List ℕ) → HasTaken h bytes l.fn.self → HasTaken h (bytes ++ take l.done l.part) l.self;
    }

abbrev pub decreases-loop-done : goal.decreases-loop-done
decreases-loop-done g l = length l.part - l.done
