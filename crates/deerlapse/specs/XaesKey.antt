-- The keys of XAES-256-GCM (c2sp.org/XAES-256-GCM) that the calls take.
use Rattle.std.specs.Prelude.{◌≡◌}
use Rattle.xaes.specs.Expanded.{IsExpanded}
use Rattle.xaes.specs.declared.expanded.ExpandedKey.{ExpandedKey}

-- an expanded key has the rounds of AES-256 (FIPS 197 section 5)
abbrev pub HasXaesRounds : ExpandedKey → Type 0
HasXaesRounds key = key.rounds ≡ 14

-- a key with the rounds of AES-256 is expanded; this holds of a key from `deerlapse_xaes_init`, and of zeros, which have 0 rounds
abbrev pub IsXaesKeyOrNone : ExpandedKey → Type 0
IsXaesKeyOrNone key = HasXaesRounds key → IsExpanded key
