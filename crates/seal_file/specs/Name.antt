-- Names of files.

use Rattle.std.specs.Prelude.{◌≡◌, ◌-◌, ◌<◌, ℕ, List, Some, Contains, drop, slice_get}

-- so many bytes of a name are the name of its folder: they end with the last `/` of the name, if it has one (POSIX.1-2017,
-- section 3.271, pathname)
abbrev pub IsFolderLen : List ℕ → ℕ → Type 0
IsFolderLen name n = (0 < n → slice_get name (n - 1) ≡ Some 47) × ¬ Contains (drop n name) 47
