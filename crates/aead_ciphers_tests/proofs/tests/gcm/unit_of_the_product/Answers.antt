use Rattle.aead_ciphers.proofs.GhashLaws.{product_unit}
use Rattle.aead_ciphers_tests.proofs.tests.gcm.unit_of_the_product.Goals as goal

pub returns : goal.returns
returns c = product_unit
