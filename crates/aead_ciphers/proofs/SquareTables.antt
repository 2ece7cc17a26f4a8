-- Tables of squares, on numbers of 128 bits, and what is computed with them: 128 squarings give x back, and the square of a
-- polynomial less the polynomial itself tells the polynomial, but for its constant coefficient.
use Rattle.std.proofs.Common.{◌≡◌, ℕ, zero, suc, Bool, true, false, List, [], ◌∷◌, map, replicate, refl, bit_xor}
use Rattle.aead_ciphers.proofs
use proofs.LinearMaps.{combined, image, twos}
use proofs.ProductLoop.{next_multiple}
use proofs.GhashBits.{bits_high_first}

-- x^(2j) • v + x^j • w for each j below n
abbrev pub squares_and_powers : ℕ → ℕ → ℕ → List ℕ
squares_and_powers zero v w = []
squares_and_powers (suc n) v w = bit_xor v w ∷ squares_and_powers n (next_multiple (next_multiple v)) (next_multiple w)

-- the number of the unit block
abbrev pub unit : ℕ
unit = 0x80000000000000000000000000000000

-- ---- x is its power 2^128

-- x^(2j) for each j below 128: the square is the linear map with these values
unfoldable pub even_powers : List ℕ
even_powers = squares_and_powers 128 unit 0

-- n squarings
abbrev pub squared_bits : List ℕ → ℕ → List Bool → List Bool
squared_bits ns zero p = p
squared_bits ns (suc n) p = bits_high_first 128 (combined (squared_bits ns n p) ns)

unfoldable pub x_bits : List Bool
x_bits = false ∷ true ∷ replicate 126 false

pub x_squared : squared_bits even_powers 128 x_bits ≡ x_bits
unfolding x_bits even_powers bits_high_first
x_squared = refl

-- ---- a polynomial from its square less itself

-- x^(2j) + x^j for each j below 128
unfoldable pub differences : List ℕ
differences = squares_and_powers 128 unit unit

-- a linear map that gives back x^j from x^(2j) + x^j, for j above 0
unfoldable pub given_back : List ℕ
given_back =
    0x10d04d25f93556e69f58ce2f8d035a94 ∷ 0x202f566ef59a994991d0e977a9aa5ba7 ∷ 0x602f566ef59a994991d0e977a9aa5ba7 ∷
    0x3045202cccefc1ee67fd0ac2e3641972 ∷
    0x402f566ef59a994991d0e977a9aa5ba7 ∷ 0x5672e0c1d328e3be0d2c5beb59e57554 ∷ 0x2045202cccefc1ee67fd0ac2e3641972 ∷
    0x187f9b4b8cafcfaf8e88275824a90133 ∷
    0x482f566ef59a994991d0e977a9aa5ba7 ∷ 0x22da13517461d3ee69739a8be16c1972 ∷ 0x5272e0c1d328e3be0d2c5beb59e57554 ∷
    0x6aff55603cd3fceff55228f556d54755 ∷
    0x2245202cccefc1ee67fd0ac2e3641972 ∷ 0x46fc06025397fc91bb49eab33e4cf467 ∷ 0x197f9b4b8cafcfaf8e88275824a90133 ∷
    0x646dca2be3d6cc87d093e2fc4c0f4ad5 ∷
    0x48af566ef59a994991d0e977a9aa5ba7 ∷ 0x5cea2fd59105659e2d1ccaeb5d2c7d54 ∷ 0x229a13517461d3ee69739a8be16c1972 ∷
    0x3f46a4c41f7d395874f4e33b9d331780 ∷
    0x5252e0c1d328e3be0d2c5beb59e57554 ∷ 0x312701524d961730583bcf844c342240 ∷ 0x6aef55603cd3fceff55228f556d54755 ∷
    0x144559bb6c9ffcd7bc4c239cf48626f3 ∷
    0x224d202cccefc1ee67fd0ac2e3641972 ∷ 0x1a24eaea541cab0f9092b01169688933 ∷ 0x46f806025397fc91bb49eab33e4cf467 ∷
    0x2c14dba71e26fe964f314b9433eb3eb2 ∷
    0x197d9b4b8cafcfaf8e88275824a90133 ∷ 0x2561da58536a903fe562896ae4899333 ∷ 0x646cca2be3d6cc87d093e2fc4c0f4ad5 ∷
    0x41d77800d619af2838dab35b297373a6 ∷
    0x48afd66ef59a994991d0e977a9aa5ba7 ∷ 0x5ce7c3e3968e47f62e5390ab45fe70d4 ∷ 0x5cea6fd59105659e2d1ccaeb5d2c7d54 ∷
    0x428019a11caacb8824c8241264b2fba6 ∷
    0x229a33517461d3ee69739a8be16c1972 ∷ 0x258e6f54b84bf6f7ef54f70e70ef2ef3 ∷ 0x3f46b4c41f7d395874f4e33b9d331780 ∷
    0x1af0929921b9589f9fb368dce89d2373 ∷
    0x5252e8c1d328e3be0d2c5beb59e57554 ∷ 0x3bdc8ad604f36599e246fae899f68fc1 ∷ 0x312705524d961730583bcf844c342240 ∷
    0x038e6217d7e479d8109554569546afc0 ∷
    0x6aef57603cd3fceff55228f556d54755 ∷ 0x2bd77bb364ab6b3fc733d8875e039333 ∷ 0x144558bb6c9ffcd7bc4c239cf48626f3 ∷
    0x698e6217d7fb8627ef6aa903c013fa95 ∷
    0x224d20acccefc1ee67fd0ac2e3641972 ∷ 0x21ce3a83c07704de74dad50f0d583b32 ∷ 0x1a24eaaa541cab0f9092b01169688933 ∷
    0x56f3167fe31312df9eb885b869165d55 ∷
    0x46f806225397fc91bb49eab33e4cf467 ∷ 0x77dcb1c60e3ad1c9e2190477682adba7 ∷ 0x2c14dbb71e26fe964f314b9433eb3eb2 ∷
    0x7348a7e5645f92d076e747a9d181ec26 ∷
    0x197d9b438cafcfaf8e88275824a90133 ∷ 0x2cfbb4409945161e45d21862e0409b32 ∷ 0x2561da5c536a903fe562896ae4899333 ∷
    0x36e717e02724b8f1d1527df73b8e8241 ∷
    0x646cca29e3d6cc87d093e2fc4c0f4ad5 ∷ 0x7adc3b3404788e11d4cfd6f8f5447467 ∷ 0x41d77801d619af2838dab35b297373a6 ∷
    0x04a2ade42a1db559927495c4d4e62fc1 ∷
    0x48afd66e759a994991d0e977a9aa5ba7 ∷ 0x329f337db88e12004e8e904902080000 ∷ 0x5ce7c3e3d68e47f62e5390ab45fe70d4 ∷
    0x36e9eb0be64d6b99d3ec2e5e502bb781 ∷
    0x5cea6fd5b105659e2d1ccaeb5d2c7d54 ∷ 0x4622ba58b211bb21b69fb337b1785627 ∷ 0x428019a10caacb8824c8241264b2fba6 ∷
    0x049a065cd7758d5196f0e3578d383201 ∷
    0x229a33517c61d3ee69739a8be16c1972 ∷ 0x55aabdbeec28a2078079924a4cd2f295 ∷ 0x258e6f54bc4bf6f7ef54f70e70ef2ef3 ∷
    0x7986f6afcfc951e9cb9188c1a5beebe7 ∷
    0x3f46b4c41d7d395874f4e33b9d331780 ∷ 0x2f76850d57908a5e54a716d46cf0bb32 ∷ 0x1af0929920b9589f9fb368dce89d2373 ∷
    0x489a0b11781e0c1196cc4fdebc394c27 ∷
    0x5252e8c1d3a8e3be0d2c5beb59e57554 ∷ 0x072ccff3fd3d186182e1ce9a41041041 ∷ 0x3bdc8ad604b36599e246fae899f68fc1 ∷
    0x5c33b52f8947e9462158188b7248d294 ∷
    0x312705524db61730583bcf844c342240 ∷ 0x79880aa666d696d9c926622882fff1e7 ∷ 0x038e6217d7f479d8109554569546afc0 ∷
    0x285aabc679b16ad7d6c2852abfdb1eb3 ∷
    0x6aef57603cdbfceff55228f556d54755 ∷ 0x26d44eb77ddd535ff0b1c738de72bb33 ∷ 0x2bd77bb364af6b3fc733d8875e039333 ∷
    0x3cfddc25f2ae2df86391fd8d3387a7c0 ∷
    0x144558bb6c9dfcd7bc4c239cf48626f3 ∷ 0x457534e82f16f649aa2d862c91005ba7 ∷ 0x698e6217d7fa8627ef6aa903c013fa95 ∷
    0x4bf8b9d33b8f38198de17cdee54751e7 ∷
    0x224d20acccef41ee67fd0ac2e3641972 ∷ 0x634efa836deeebf650dae654442b4894 ∷ 0x21ce3a83c07744de74dad50f0d583b32 ∷
    0x4bf6a9a1f02e1f698fec4b1a74166be7 ∷
    0x1a24eaaa541c8b0f9092b01169688933 ∷ 0x6462e2cc93c28627d2d0526e0d66c2d5 ∷ 0x56f3167fe31302df9eb885b869165d55 ∷
    0x79b07befedd921e9cd751ec18ebeebe7 ∷
    0x46f806225397f491bb49eab33e4cf467 ∷ 0x701c741cbd9fc8b06b94eadf79b8c426 ∷ 0x77dcb1c60e3ad5c9e2190477682adba7 ∷
    0x044eaa59bd8819a999287fa5ed58ad81 ∷
    0x2c14dbb71e26fc964f314b9433eb3eb2 ∷ 0x602105ae977251e64834e0c2dd2d5a94 ∷ 0x7348a7e5645f93d076e747a9d181ec26 ∷
    0x645919a4b35879f7d7a68d71cb5770d5 ∷
    0x197d9b438cafcf2f8e88275824a90133 ∷ 0x00000d94d9da18080030c4db699e5dc0 ∷ 0x2cfbb4409945165e45d21862e0409b32 ∷
    0x099a6e1cca2f8641a0b0910804c90841 ∷
    0x2561da5c536a901fe562896ae4899333 ∷ 0x5f86cdbc744e28fe3430f49ddf071154 ∷ 0x36e717e02724b8e1d1527df73b8e8241 ∷
    0x51eae8be2fe60df61bf9191de1788d94 ∷
    0x646cca29e3d6cc8fd093e2fc4c0f4ad5 ∷ 0x5f67891c31b7edb03c86875f90384d1c ∷ 0x7adc3b3404788e15d4cfd6f8f5447467 ∷
    0x36dc3b3404788e15d4cfd6f8f5447461 ∷
    0x41d77801d619af2a38dab35b297373a6 ∷ 0x35bd0e43ef6cf78dcef750ee63bd3171 ∷ 0x04a2ade42a1db558927495c4d4e62fc1 ∷
    0x00000000000000000000000000000000 ∷ []

pub given_back_is : map (image given_back) differences ≡ 0 ∷ twos 127
unfolding given_back differences bits_high_first
given_back_is = refl
