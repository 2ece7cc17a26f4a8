-- The number of a version of the library.
use Rattle.std.specs.Prelude.{ℕ, ◌+◌, ◌*◌, ◌^◌}

-- version 1.2.3 has the number 0x010203
abbrev pub version : (major minor patch : ℕ) → ℕ
version major minor patch = major * 2 ^ 16 + minor * 2 ^ 8 + patch
