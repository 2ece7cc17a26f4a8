-- Files that are sealed under a passphrase.
use Rattle.std.proofs.Common.{◌≡◌, ℕ, Result, Ok, Err, IfErr, OnOk, OnErr, IfSome, None, Some, inl, inr, ◌≤◌, List, [], ◌++◌, length, take, drop, refl, sym, ap, subst, ◌∙◌, arith, Option, length-take, take-take}
use Rattle.std.proofs.lemmas.List.{drop-take, take-append-le}
use Rattle.std.specs.Fmt.{option_append}
use Rattle.std.specs.Int.{to_be_bytes, w32}
use Rattle.std.specs.Io.KnownBytes.{Appends}
use Rattle.sealed_file.specs
use specs.declared.error.FileError.{FileError}
use specs.declared.error.FileError.TheVariants.{EndsEarly, Iterations, Io}
use specs.Format.{ChunkKey, Secret, fresh_key, secret_of, with_header}
use specs.Opening.{HasHeader, IsSealed, header_of, opened_file}
use specs.Passphrase.{AreAllowed, FrontRefuses, HasIterations, OpensBy, PassphraseRefuses, core_of, fresh_passphrase_key, iteration_bytes, iterations_of, opened_by, passphrase_key, random_of, unlocked}
use specs.Refusals.{IsVersion, OpenRefuses, VersionRefuses}
use specs.Streams.{AppendsAuthentic, AppendsAuthenticBy, AppendsRight, AppendsRightBy, BeginsAuthentic, BeginsAuthenticBy, TakesFront}
use Rattle.std.proofs.KnownBytes.{Keeps-refl}
use Rattle.sealed_file.proofs
use proofs.HeaderLemmas.{version_fails}
use proofs.OpenLemmas.{begins_nothing}
use proofs.StreamLemmas.{on_err}

-- ---- what a result says of known bytes

pub ok_then : {X T E : Type 0} (r : Result T E) (known : Option X) {P : X → Type 0} (Q : X → Type 0) → IfSome known P
    → ((x : X) → P x → OnOk r (Q x)) → OnOk r (IfSome known Q)
ok_then (Err e) known Q h step = tt
ok_then (Ok v) None Q h step = tt
ok_then (Ok v) (Some x) Q h step = step x h

pub err_then : {X T E : Type 0} (r : Result T E) (known : Option X) {P : X → Type 0} (Q : X → Type 0) → IfSome known P
    → ((x : X) → P x → OnErr r (Q x)) → OnErr r (IfSome known Q)
err_then (Ok v) known Q h step = tt
err_then (Err e) None Q h step = tt
err_then (Err e) (Some x) Q h step = step x h

pub error_then : {X T E : Type 0} (r : Result T E) (known : Option X) {P : X → Type 0} (Q : E → X → Type 0) → IfSome known P
    → ((x : X) → P x → IfErr r (λ e. Q e x)) → IfErr r (λ e. IfSome known (Q e))
error_then (Ok v) known Q h step = tt
error_then (Err e) None Q h step = tt
error_then (Err e) (Some x) Q h step = step x h

-- ---- a header that was read

-- the bytes that were read as a file's header hold what the file's header holds
module _ (passphrase aad file seen read_bytes : List ℕ) (rest : Option (List ℕ)) (same : seen ≡ read_bytes)
    (read : TakesFront 64 file read_bytes rest) where
  seen_is : seen ≡ take 64 file
  seen_is = same ∙ read.piece_is

  random_same : random_of seen ≡ random_of file
  random_same = ap random_of seen_is ∙ ap (take 19) (drop-take 9 55 file) ∙ take-take 19 55 (drop 9 file) (omega arith)

  bytes_same : iteration_bytes seen ≡ iteration_bytes file
  bytes_same = ap iteration_bytes seen_is ∙ ap (take 4) (drop-take 60 4 file) ∙ take-take 4 4 (drop 60 file) (omega arith)

  header_same : header_of seen ≡ header_of file
  header_same = ap header_of seen_is ∙ take-take 60 64 file (omega arith)

  unlocked_same : unlocked passphrase aad seen ≡ unlocked passphrase aad file
  unlocked_same = rw (random_same, bytes_same) refl

  whole_same : 64 ≤ length seen → 64 ≤ length file
  whole_same whole = omega (arith, whole, ap length seen_is, length-take 64 file)

  version_same : IsVersion 3 seen → IsVersion 3 file
  version_same version = record { front = sym (ap (take 9) seen_is ∙ take-take 9 64 file (omega arith)) ∙ version.front }

  front_fails : (error : FileError) → FrontRefuses seen error → FrontRefuses file error
  front_fails EndsEarly (inl short) = inl (omega (arith, short, ap length seen_is, length-take 64 file))
  front_fails EndsEarly (inr (version, short)) =
      inr (version_same version, omega (arith, short, ap length seen_is, length-take 64 file))
  front_fails (Iterations n) (version, whole, is, wrong) =
      (version_same version, whole_same whole, rw bytes_same at is, rw bytes_same at wrong)
  front_fails error h = version_fails 3 64 (omega arith) file error (subst (λ l. VersionRefuses 3 l error) seen_is h)

  pub front_refused : (error : FileError) → FrontRefuses seen error → PassphraseRefuses passphrase aad file error
  front_refused (Io e) h = tt
  front_refused error h = inl (front_fails error h)

  -- the header that was read is whole and has iterations that are allowed, and so has the file's
  has_iterations : 64 ≤ length seen → AreAllowed (iterations_of seen) → HasIterations file
  has_iterations whole allowed = record { whole = whole_same whole; allowed = rw bytes_same at allowed }

  -- the core of a whole file has its header
  header_of_core : 64 ≤ length file → header_of (core_of file) ≡ header_of file
  header_of_core whole =
      take-append-le 60 (header_of file) (drop 64 file) (omega (arith, whole, length-take 60 file)) ∙ take-take 60 60 file (omega arith)

  -- what the first bytes and the others are together
  pub core_is : {first : List ℕ} {known : Option (List ℕ)} → first ≡ header_of seen → known ≡ option_append (Some first) rest
      → known ≡ Some (core_of file)
  core_is first_is known_is = known_is ∙ rw (first_is, header_same, read.left) refl

  -- the core, which was opened
  module _ {known : Option (List ℕ)} (k : known ≡ Some (core_of file)) {s : Secret} (s_is : s ≡ unlocked passphrase aad seen) where
    of_file : (P : Secret → List ℕ → Type 0) → IfSome known (P s) → P (unlocked passphrase aad file) (core_of file)
    of_file P h = subst (λ s. P s (core_of file)) (s_is ∙ unlocked_same) (subst (λ k. IfSome k (P s)) k h)

    pub accepted_by : {T E : Type 0} (r : Result T E) → 64 ≤ length seen → AreAllowed (iterations_of seen)
        → OnOk r (IfSome known (λ core. IsSealed s core)) → OnOk r (OpensBy passphrase aad file)
    accepted_by (Err e) whole allowed h = tt
    accepted_by (Ok v) whole allowed h = record {
      whole = whole_same whole;
      allowed = (has_iterations whole allowed).allowed;
      sealed = of_file (λ s core. IsSealed s core) h;
    }

    pub gives : {T E : Type 0} (r : Result T E) (old now : Option (List ℕ))
        → OnOk r (IfSome known (λ core. Appends old now (opened_file s core))) → OnOk r (Appends old now (opened_by passphrase aad file))
    gives (Err e) old now h = tt
    gives (Ok v) old now h = of_file (λ s core. Appends old now (opened_file s core)) h

    refused_for : (error : FileError) → HasIterations file → IfSome known (λ core. OpenRefuses s core error)
        → PassphraseRefuses passphrase aad file error
    refused_for (Io e) has h = tt
    refused_for error has h = inr (has, of_file (λ s core. OpenRefuses s core error) h)

    pub refused_by : {T : Type 0} (r : Result T FileError) → 64 ≤ length seen → AreAllowed (iterations_of seen)
        → IfErr r (λ error. IfSome known (λ core. OpenRefuses s core error)) → IfErr r (λ error. PassphraseRefuses passphrase aad file error)
    refused_by (Ok v) whole allowed h = tt
    refused_by (Err error) whole allowed h = refused_for error (has_iterations whole allowed) h

    stopped_for : (old now : Option (List ℕ)) → HasIterations file → AppendsRight (unlocked passphrase aad file) (core_of file) old now
        → AppendsRightBy passphrase aad file old now
    stopped_for old now has (n, front, tags, beginning) = (
      n,
      (λ some. (has, subst (λ l. HasHeader (unlocked passphrase aad file) l) (header_of_core has.whole) (front some))),
      tags,
      beginning,
    )

    pub stopped_by : {T E : Type 0} (r : Result T E) (old now : Option (List ℕ)) → 64 ≤ length seen → AreAllowed (iterations_of seen)
        → OnErr r (IfSome known (λ core. AppendsRight s core old now)) → OnErr r (AppendsRightBy passphrase aad file old now)
    stopped_by (Ok v) old now whole allowed h = tt
    stopped_by (Err e) old now whole allowed h =
        stopped_for old now (has_iterations whole allowed) (of_file (λ s core. AppendsRight s core old now) h)

-- a header that doesn't begin as one of version 3
pub front_of_header : (file header : List ℕ) → header ≡ header_of file → (error : FileError)
    → VersionRefuses 3 header error → FrontRefuses file error
front_of_header file header is EndsEarly short = inl (omega (arith, short, ap length is, length-take 60 file))
front_of_header file header is (Iterations n) h = absurd h
front_of_header file header is error h = version_fails 3 60 (omega arith) file error (subst (λ l. VersionRefuses 3 l error) is h)

-- ---- sealing

-- a header that ends with the iterations, and the chunks under the key of the passphrase
pub fresh_is : {header first bytes key after : List ℕ} {k : ChunkKey} (passphrase aad random : List ℕ) (iterations : ℕ)
    → header ≡ first ++ bytes → first ≡ k.header → bytes ≡ to_be_bytes w32 iterations → k ≡ fresh_key (secret_of 3 key after) random
    → key ≡ passphrase_key passphrase random iterations → after ≡ bytes ++ aad
    → with_header header k ≡ fresh_passphrase_key passphrase aad random iterations
fresh_is passphrase aad random iterations header_is first_is bytes_is k_is key_is after_is =
    rw (header_is, first_is, k_is, key_is, after_is, bytes_is) refl

-- ---- what is written, whatever is known of the reader

pub begins_nothing_by : {T E : Type 0} (r : Result T E) (passphrase aad : List ℕ) (old : Option (List ℕ))
    → OnErr r (BeginsAuthenticBy passphrase aad old old)
begins_nothing_by r passphrase aad old = on_err r ([], inl (Keeps-refl old), begins_nothing (unlocked passphrase aad []) old)

module _ (passphrase aad file : List ℕ) {s : Secret} (old new : Option (List ℕ)) (s_is : s ≡ unlocked passphrase aad file)
    (whole : 64 ≤ length file) (allowed : AreAllowed (iterations_of file)) where
  has : HasIterations file
  has = record { whole = whole; allowed = allowed }

  pub appends_by : {T E : Type 0} (r : Result T E) → OnOk r (AppendsAuthentic s old new) → OnOk r (AppendsAuthenticBy passphrase aad old new)
  appends_by (Ok v) h = (file, has, subst (λ s. AppendsAuthentic s old new) s_is h)
  appends_by (Err e) h = tt

  pub begins_by : {T E : Type 0} (r : Result T E) → OnErr r (BeginsAuthentic s old new) → OnErr r (BeginsAuthenticBy passphrase aad old new)
  begins_by (Ok v) h = tt
  begins_by (Err e) h = (file, inr has, subst (λ s. BeginsAuthentic s old new) s_is h)
