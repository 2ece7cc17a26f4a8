-- The field of 256 bytes as an extension of a field of 16, and that one of a field of 4, all with the product of bytes
-- (FIPS 197 section 4.2). Each has a normal basis over the field below it: a power of an element, and the element.
use Rattle.std.specs.Prelude.{ℕ, Bool, List, [], ◌∷◌, length, bit_xor, if◌then◌else◌}
use Rattle.aead_ciphers_base.specs.Planes.{plane_polynomial}

-- the element with these coordinates in a basis: the sum of the basis elements whose coordinate is one
unfoldable pub element : List ℕ → List Bool → ℕ
element [] q = 0
element (e ∷ basis) [] = 0
element (e ∷ basis) (c ∷ q) = bit_xor (if c then e else 0) (element basis q)

-- w^2 and w, for w = {bc}
unfoldable pub basis_4 : List ℕ
basis_4 = 0xbd ∷ 0xbc ∷ []

-- the products of z^4 with `basis_4`, and then those of z, for z = {5c}
unfoldable pub basis_16 : List ℕ
basis_16 = 0x51 ∷ 0x0c ∷ 0xec ∷ 0xb0 ∷ []

-- the products of y^16 with `basis_16`, and then those of y, for y = {fe}
unfoldable pub basis_256 : List ℕ
basis_256 = 0x29 ∷ 0x68 ∷ 0x60 ∷ 0xde ∷ 0x78 ∷ 0x64 ∷ 0x8c ∷ 0x6e ∷ []

-- element p of planes: its coordinate k is bit p of plane k
unfoldable pub plane_element : List ℕ → List ℕ → ℕ → ℕ
plane_element basis planes p = element basis (plane_polynomial (length basis) planes p)
