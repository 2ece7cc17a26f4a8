use Rattle.std.proofs.Common.{◌≡◌, ◌<◌, false, true, Err, rules, inr, length, take, drop, refl, sym, ap, ◌∙◌, arith}
use Rattle.std.proofs.lemmas.Result.{err_from_is_err_and}
use Rattle.sealed_file.specs.declared.error.FileError.TheVariants.{EndsEarly, WrongKey}
use Rattle.sealed_file.specs.Format.{ChunkKey, secret_of, fresh_key}
use Rattle.sealed_file.proofs
use proofs.HeaderLemmas.{another_key, header_fails, refused_is_none}
use proofs.header.cipher_in.Goals as goal

pub returns-in_err-check_front-clause-accepted : goal.returns-in_err-check_front-clause-accepted
returns-in_err-check_front-clause-accepted c =
    let p = err_from_is_err_and c.from_residual.result c.from_residual.ensures.1 in
    let s = secret_of c.args.version c.args.key.now c.args.aad.now in
    rw p.1 (
      λ e. cc,
      λ has. absurd (refused_is_none s c.args.header.now _ (header_fails s c.args.header.now _ c.in_err-check_front.ensures.refused) has),
    )

pub returns-in_err-check_front-clause-refused : goal.returns-in_err-check_front-clause-refused
returns-in_err-check_front-clause-refused c =
    let p = err_from_is_err_and c.from_residual.result c.from_residual.ensures.1 in
    let s = secret_of c.args.version c.args.key.now c.args.aad.now in
    rw (p.1, p.2) (header_fails s c.args.header.now _ c.in_err-check_front.ensures.refused)

pub returns-in_default-clause-accepted : goal.returns-in_default-clause-accepted
returns-in_default-clause-accepted c = (
  λ e. cc,
  λ has.
      let s = secret_of c.args.version c.args.key.now c.args.aad.now in
      let front = c.in_ok-check_front.ensures.front refl in
      let short : length c.args.header.now < 60 = omega (arith, c.requires.header, c.in_default.ensures.cases) in
      absurd (refused_is_none s c.args.header.now EndsEarly (inr (front, short)) has),
)

pub returns-in_err-map_err-clause-refused : goal.returns-in_err-map_err-clause-refused
returns-in_err-map_err-clause-refused c =
    let s = secret_of c.args.version c.args.key.now c.args.aad.now in
    let whole = c.in-Some.ensures.cases.same in
    let cipher_is = c.new-cipher.ensures.made ∙ ap (fresh_key s)
    (c.random_in.ensures ∙ ap (λ l. take 19 (drop 9 l)) whole) in
    let front = c.in_ok-check_front.ensures.front refl in
    let size = c.in-Some.ensures.variant.0 refl in
    let is_wrong : c.from_residual-in_err-map_err.result ≡ Err WrongKey = search rules in
    rw is_wrong (another_key s c.args.header.now front size
    (λ made.
    let never : false ≡ true = c.in_err-map_err.ensures.variant ∙ c.verify_slices_are_equal.ensures.1 (whole ∙ made
    ∙ sym (ap (λ (k : ChunkKey). k.header) cipher_is) ∙ sym c.header.ensures.bytes) in
    absurd (cc never)))
