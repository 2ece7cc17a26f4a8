use Rattle.std.proofs.Common.{◌≡◌, ◌≢◌, Err, inl, inr, sym, codes}
use Rattle.hex.specs.Hex.{decode_of}
use Rattle.aead_ciphers.proofs
use proofs.HexWords.{IsBytesWord-undecoded, bytes_of_word-undecoded}
use proofs.aeadrun.words.bytes.Goals as goal

pub returns-in_default : goal.returns-in_default
returns-in_default c =
    let other : c.args.word.now ≢ codes "-" = λ same. cc (rw same at c.if-eq.ensures) in
    let undecoded : decode_of c.args.word.now ≡ Err c.in-Err.error =
    elim c.in-Err.ensures.err [ inl memory ↦ absurd (c.in_default.not-OutOfMemory memory) | inr bad ↦ bad ] in
    record {
      accepted = (λ some. cc some, λ word. absurd (IsBytesWord-undecoded c.args.word.now _ other undecoded word));
      value = sym (bytes_of_word-undecoded c.args.word.now _ other undecoded);
      wants_memory = tt;
    }
