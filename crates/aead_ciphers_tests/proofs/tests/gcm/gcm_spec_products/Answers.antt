use Rattle.std.proofs.Common.{refl}
use Rattle.aead_ciphers_base.specs.Polynomial.{polynomial_product, remainder, field_product}
use Rattle.aead_ciphers.specs.Ghash.{block_bits, block_of, ◌•◌, product_of_test_case_2}
use Rattle.aead_ciphers_tests.proofs.tests.gcm.gcm_spec_products.Goals as goal

pub returns-clause-reduced : goal.returns-clause-reduced
unfolding polynomial_product remainder field_product block_bits block_of ◌•◌
returns-clause-reduced c = refl

pub returns-clause-case_2 : goal.returns-clause-case_2
returns-clause-case_2 c = product_of_test_case_2
