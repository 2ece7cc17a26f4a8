use Rattle.std.proofs.Common.{◌≡◌, ◌<◌, Some, length, arith}
use Rattle.std.proofs.lemmas
use lemmas.Bool.Decides.{nat_tests}
use lemmas.Result.{IfOk-weaker}
use Rattle.std.specs.String.{string_bytes}
use Rattle.hex.specs.Hex.{IsBytes}
use Rattle.aead_ciphers.specs.Words.{bytes_of_word}
use Rattle.aead_ciphers.proofs
use proofs.HexWords.{bytes_of_word-encode_lower}
use proofs.aeadrun.words.text.Goals as goal

pub returns-clause-reads_back : goal.returns-clause-reads_back
returns-clause-reads_back c =
    let some : 0 < length c.args.bytes.now = grind (arith, nat_tests, c.if-is_empty.ensures) in
    let fits : IsBytes c.args.bytes.now = λ i. let f = c.type_inv.bytes i in omega arith in
    IfOk-weaker c.encode.result _ (λ word. bytes_of_word (string_bytes word) ≡ Some c.args.bytes.now)
    (λ word same. rw same (bytes_of_word-encode_lower c.args.bytes.now some fits)) c.encode.ensures
