use Rattle.aead_ciphers_wide.proofs.WordBytes.{bytes_back}
use Rattle.aead_ciphers_wide.proofs.word.Word.from_bytes.Goals as goal

pub returns : goal.returns
returns c = bytes_back c.args.bytes c.fits-bytes.0 c.fits-bytes.1
