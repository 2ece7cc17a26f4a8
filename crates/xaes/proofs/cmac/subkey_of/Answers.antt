use Rattle.std.proofs.Common.{◌<◌, ◌*◌, ◌%◌, ◌^◌, ap, bit_xor, ◌∙◌, if◌then◌else◌, rules}
use Rattle.std.specs.Prelude.{nat_lt}
use Rattle.std.specs.Int.{to_be_bytes, w128}
use Rattle.xaes.specs.Derivation.{first_subkey}
use Rattle.xaes.proofs
use proofs.DerivationLemmas.{added_where_one_fell_out}
use proofs.cmac.subkey_of.Goals as goal

pub returns : goal.returns
unfolding first_subkey
returns c =
    let l = c.from_be_bytes-number.result in
    let fits : l < 2 ^ 128 = search rules in
    c.to_be_bytes.ensures
    ∙ ap (to_be_bytes w128) (added_where_one_fell_out l fits)
    ∙ ap (λ n. to_be_bytes w128 (if nat_lt n (2 ^ 127) then n * 2 % 2 ^ 128 else bit_xor (n * 2 % 2 ^ 128) 0x87)) c.from_be_bytes-number.ensures
