use Rattle.std.proofs.Common.{ℕ, ◌≡◌, ◌/◌, ◌<◌, ◌∙◌, ap, arith, rules, length, slice_index, [], ◌∷◌}
use Rattle.std.proofs.Math.Dec.{lit<}
use Rattle.std.specs.Int.{bit_at}
use Rattle.aead_ciphers_base.proofs.NumberBits.{bit_at-mod, bit_at-shr}
use Rattle.aead_ciphers_wide.specs.WideSchedule.{planes_of}
use Rattle.aead_ciphers_wide.proofs.WideBlocks.{by_eight}
use Rattle.aead_ciphers_wide.proofs.WordMoves.{byte_of_bits, high_digit, low_digit, small_high, small_low}
use Rattle.aead_ciphers_wide.proofs.aes.round_keys.pack_round_key.Goals as goal

pub plane_of-a0-requires-clause-digits : goal.plane_of-a0-requires-clause-digits
plane_of-a0-requires-clause-digits c = small_low c.args.block (search rules)

pub plane_of-b0-requires-clause-digits : goal.plane_of-b0-requires-clause-digits
plane_of-b0-requires-clause-digits c = small_low c.args.block (search rules)

pub plane_of-c0-requires-clause-digits : goal.plane_of-c0-requires-clause-digits
plane_of-c0-requires-clause-digits c = small_low c.args.block (search rules)

pub plane_of-d0-requires-clause-digits : goal.plane_of-d0-requires-clause-digits
plane_of-d0-requires-clause-digits c = small_low c.args.block (search rules)

pub plane_of-e0-requires-clause-digits : goal.plane_of-e0-requires-clause-digits
plane_of-e0-requires-clause-digits c = small_high c.args.block (search rules) (search rules)

pub plane_of-f0-requires-clause-digits : goal.plane_of-f0-requires-clause-digits
plane_of-f0-requires-clause-digits c = small_high c.args.block (search rules) (search rules)

pub plane_of-g0-requires-clause-digits : goal.plane_of-g0-requires-clause-digits
plane_of-g0-requires-clause-digits c = small_high c.args.block (search rules) (search rules)

pub plane_of-h0-requires-clause-digits : goal.plane_of-h0-requires-clause-digits
plane_of-h0-requires-clause-digits c = small_high c.args.block (search rules) (search rules)

pub returns : goal.returns
returns c = λ p h.
    let block = c.args.block in
    let pa = c.plane_of-a0 in
    let pb = c.plane_of-b0 in
    let pc = c.plane_of-c0 in
    let pd = c.plane_of-d0 in
    let pe = c.plane_of-e0 in
    let pf = c.plane_of-f0 in
    let pg = c.plane_of-g0 in
    let ph = c.plane_of-h0 in
    let key =
    pa.result.0 ∷ pa.result.1 ∷ pb.result.0 ∷ pb.result.1 ∷ pc.result.0 ∷ pc.result.1 ∷ pd.result.0 ∷ pd.result.1
    ∷ pe.result.0 ∷ pe.result.1 ∷ pf.result.0 ∷ pf.result.1 ∷ pg.result.0 ∷ pg.result.1 ∷ ph.result.0 ∷ ph.result.1 ∷ [] in
    let size : length block ≡ 16 = search rules in
    let place : p / 8 < 16 = omega arith in
    let v = slice_index block (p / 8) in
    let small : v < 256 = search rules in
    let low = λ (b : ℕ) (lt : b < 4). ap (λ x. bit_at x b) (low_digit block (p / 8) size place) ∙ bit_at-mod v 4 b lt in
    let high = λ (b : ℕ). ap (λ x. bit_at x b) (high_digit block (p / 8) size place) ∙ bit_at-shr v 4 b in
    byte_of_bits v p (planes_of key) small
    (by_eight (λ b. bit_at (slice_index (planes_of key) b) p ≡ bit_at v b)
    (pa.ensures p h ∙ low 0 (lit< tt)) (pb.ensures p h ∙ low 1 (lit< tt)) (pc.ensures p h ∙ low 2 (lit< tt)) (pd.ensures p h ∙ low 3 (lit< tt))
    (pe.ensures p h ∙ high 0) (pf.ensures p h ∙ high 1) (pg.ensures p h ∙ high 2) (ph.ensures p h ∙ high 3))
