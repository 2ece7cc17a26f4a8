use Rattle.std.proofs.Common.{◌≤◌, length, ap, subst}
use Rattle.std.proofs.lemmas.Bool.{OnTrue_from}
use Rattle.sealed_file.specs.Format.{ChunkKey}
use Rattle.sealed_file.proofs
use proofs.ChunkLemmas.{opens_tagged}
use proofs.chunk.has_opened.Goals as goal

pub returns-clause-accepted : goal.returns-clause-accepted
returns-clause-accepted c = rw c.is_ok.ensures.value (opens_tagged _ _ c.told-tag c.args.cipher.now _ _ _ _
    (subst (λ l. length l ≤ 4160) c.aad.ensures.bytes c.aad.ensures.len) c.requires
    (rw (
      c.nonce_of-nonce.ensures,
      ap (λ (k : ChunkKey). k.key) c.cipher.view_is,
      ap (λ (k : ChunkKey). k.prefix) c.cipher.view_is,
      c.from-aad.ensures,
      c.aad.ensures.bytes,
      c.from.ensures,
    ) at c.open_in_place_separate_tag_to_front.ensures.opened)).0

pub returns-clause-opened : goal.returns-clause-opened
returns-clause-opened c = rw c.is_ok.ensures.value (OnTrue_from _ _ (opens_tagged _ _ c.told-tag c.args.cipher.now _ _ _ _
    (subst (λ l. length l ≤ 4160) c.aad.ensures.bytes c.aad.ensures.len) c.requires
    (rw (
      c.nonce_of-nonce.ensures,
      ap (λ (k : ChunkKey). k.key) c.cipher.view_is,
      ap (λ (k : ChunkKey). k.prefix) c.cipher.view_is,
      c.from-aad.ensures,
      c.aad.ensures.bytes,
      c.from.ensures,
    ) at c.open_in_place_separate_tag_to_front.ensures.opened)).1)
