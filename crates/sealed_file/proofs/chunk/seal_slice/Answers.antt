use Rattle.std.proofs.Common.{◌++◌, ap, ap₂}
use Rattle.sealed_file.specs.Format.{ChunkKey, sealed_chunk}
use Rattle.sealed_file.proofs.chunk.seal_slice.Goals as goal

pub returns : goal.returns
unfolding sealed_chunk
returns c =
    let key_is = ap (λ (k : ChunkKey). k.key) c.cipher.view_is in
    let prefix_is = ap (λ (k : ChunkKey). k.prefix) c.cipher.view_is in
    let nonce_is = c.nonce_of-nonce.ensures in
    let ciphertext = rw (nonce_is, key_is, prefix_is) at c.in-Ok.ensures.ciphertext in
    let tag = rw (nonce_is, key_is, prefix_is, c.from-aad.ensures, c.aad.ensures.bytes, ciphertext) at c.in-Ok.ensures.tag in
    ap₂ (λ xs ys. xs ++ ys) ciphertext tag
