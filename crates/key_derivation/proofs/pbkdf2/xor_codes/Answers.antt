use Rattle.std.proofs.Common.{◌≡◌, ℕ, List, ◌++◌, ◌+◌, length, replicate, sym, ap, ◌∙◌, append_assoc}
use Rattle.key_derivation.specs.Hmac.{hmac, inner_block}
use Rattle.key_derivation.specs.HmacState.{IsKey}
use Rattle.key_derivation.specs.Pbkdf2.{pbkdf2_u, pbkdf2_sum}
use Rattle.key_derivation.proofs.HashLemmas.{held_as}
use Rattle.key_derivation.proofs.Pbkdf2Lemmas.{next_code, next_sum}
use Rattle.key_derivation.proofs.pbkdf2.xor_codes.Goals as goal

pub codes-init : goal.codes-init
unfolding pbkdf2_u pbkdf2_sum
codes-init g c =
    let h = g.H.Hash.function in
    let laws = g.met.H.Hash in
    let l = g.H.Hash.OUTPUT_LEN in
    let salt = c.args.salt.now in
    let index = c.args.index in
    let zeros = c.fill.ensures.after (λ y e. e) in
    let is_l : length c.args.sum.now ≡ h.output_len = c.requires ∙ sym laws.output_len in
    let first : (password : List ℕ) → IsKey h g.H.Digest.holds password c.args.key.now
    → g.H.Output.AsSlice.items c.finish-code.result ≡ pbkdf2_u h password salt index 1 =
    λ password is_key. next_code h password salt _ index 0 (c.finish-code.ensures password (salt ++ c.to_be_bytes.result) is_key
    (held_as g.H.Digest.holds _ _ _ (c.update-2.ensures _ (c.update.ensures _ (c.start-hasher.ensures password is_key)))
    (append_assoc (inner_block h password) salt c.to_be_bytes.result))
    ∙ ap (λ x. hmac h password (salt ++ x)) c.to_be_bytes.ensures) in
    record {
      last = first;
      summed = λ password is_key.
          next_sum h l laws.digest_len laws.output_len password salt _ _ _ index 0 c.xor_into.ensures (zeros ∙ ap (λ n. replicate n 0) is_l)
          (c.as_slice.ensures ∙ first password is_key);
    }

pub codes-preserved : goal.codes-preserved
codes-preserved g c =
    let h = g.H.Hash.function in
    let laws = g.met.H.Hash in
    let l = g.H.Hash.OUTPUT_LEN in
    let salt = c.args.salt.now in
    let index = c.args.index in
    let n = c.codes.n in
    let next : (password : List ℕ) → IsKey h g.H.Digest.holds password c.args.key.now
    → g.H.Output.AsSlice.items c.finish-code-in-codes.result ≡ pbkdf2_u h password salt index (n + 1 + 1) =
    λ password is_key. next_code h password salt _ index (n + 1)
    (c.finish-code-in-codes.ensures password (pbkdf2_u h password salt index (n + 1)) is_key
    (held_as g.H.Digest.holds _ _ _ (c.update-in-codes.ensures _ (c.start-hasher-in-codes.ensures password is_key))
    (ap (λ x. inner_block h password ++ x) (c.codes.invariant.last password is_key)))) in
    record {
      last = next;
      summed = λ password is_key.
          next_sum h l laws.digest_len laws.output_len password salt _ _ _ index (n + 1) c.xor_into-in-codes.ensures
          (c.codes.invariant.summed password is_key) (c.as_slice-in-codes.ensures ∙ next password is_key);
    }
