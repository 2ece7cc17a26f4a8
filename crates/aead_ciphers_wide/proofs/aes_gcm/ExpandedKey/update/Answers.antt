use Rattle.std.proofs.Common.{OnOk, subst}
use Rattle.aead_ciphers_base.specs.Aes.{aes}
use Rattle.aead_ciphers_wide.specs.Pieces.{SealsPiece}
use Rattle.aead_ciphers_wide.proofs.aes_gcm.ExpandedKey.update.Goals as goal

pub returns-clause-sealed : goal.returns-clause-sealed
returns-clause-sealed c =
    subst (λ key. OnOk c.update_with.result (SealsPiece (aes key) c.args.state.now c.args.in_out.now c.update_with.new.in_out c.update_with.new.self))
    c.aes-aes.ensures c.update_with.ensures.sealed
