use Rattle.std.proofs.lemmas.List.{drop-replicate, replicate-append-replicate}
use Rattle.quic_packets_tests.specs.FirstInitial.{initial_header}
use Rattle.std.proofs.Common.{rules, replicate, append_assoc, take_at, drop_at, sym, ◌≡◌, ℕ, ◌+◌, ◌^◌, ◌<◌, true, false, suc, ◌-◌, List, [], ◌∷◌, ◌++◌, drop, Some, length, length-append, take, Option, Result, Ok, Err, IsOk, IsErr, refl, ap, ap₂, ◌∙◌, arith}
use Rattle.aead_ciphers.specs.HeaderProtection.{HeaderKey}
use Rattle.key_derivation.specs.Quic.{QuicSecretState}
use Rattle.key_derivation.specs.declared.quic.Version.{Version}
use Rattle.key_derivation.specs.declared.quic.Version.TheVariants.{One}
use Rattle.quic_packets.specs.Keys.{PacketKey, secret_header_key, secret_key}
use Rattle.quic_packets.specs.Sending.{IsInTurn, IsSealable, IsSent, Sender, new_sender}
use Rattle.quic_packets.specs.declared.fixed_bit.FixedBit.TheVariants.{Required}
use Rattle.quic_packets_tests.proofs.tests.examples.first_initial.first_packet.Goals as goal

-- a packet of 1200 bytes that begins with the first byte and the version of an Initial packet
sealable : (version : Version) (packet rest : List ℕ) (start end : ℕ) → version ≡ One → packet ≡ 0xc3 ∷ 0 ∷ 0 ∷ 0 ∷ 1 ∷ rest
    → length packet ≡ 1200 → start ≡ 18 → end ≡ 22 → IsSealable version Required start end packet
sealable version packet rest start end ev e size es ee =
    let long : length rest ≡ 1195 = omega (arith, ap length e, size) in
    rw (ev, e, es, ee) record {
      fits = record { room = omega (arith, long); lengths = record { aad = omega arith; message = omega (arith, long) } };
      sample = record { first_byte = omega arith; sampled = omega (arith, long) };
      protected = refl;
      of_version = refl;
      fixed = refl;
      payload = omega (arith, long);
    }

-- a new sender sends its first number in four bytes
in_turn : (s : Sender) (version : Version) (key : PacketKey) (header_key : HeaderKey) (secret : Option QuicSecretState)
    (number start end : ℕ) → s ≡ new_sender version key header_key secret number → number + 1 < 2 ^ 31 → start ≡ 18 → end ≡ 22 → IsInTurn s start end
in_turn s version key header_key secret number start end e small es ee = rw (e, es, ee) record {
  is_open = record { unused = omega arith; left = omega (arith, small) };
  encodable = omega (arith, small);
  room = record { some = omega arith; few = omega arith; represents = omega (arith, small) };
}

-- the key of a new sender may seal a packet
unused : (s : Sender) (version : Version) (key : PacketKey) (header_key : HeaderKey) (secret : Option QuicSecretState) (number : ℕ)
    → s ≡ new_sender version key header_key secret number → 0 < s.limit - s.sealed
unused s version key header_key secret number e = rw e (omega arith)

-- a header of 18 bytes, of which 8 are the ID
header_long : (id source token len : List ℕ) → length id ≡ 8 → length source ≡ 1 → length token ≡ 1 → length len ≡ 2
    → suc (suc (suc (suc (suc (suc (length (id ++ source ++ token ++ len))))))) ≡ 18
header_long id source token len i s t l =
    omega (arith, length-append (id ++ source ++ token) len, length-append (id ++ source) token, length-append id source, i, s, t, l)

header_is : (id source token len : List ℕ) → length id ≡ 8
    → 0xc3 ∷ 0 ∷ 0 ∷ 0 ∷ 1 ∷ length id ∷ (id ++ source ++ token ++ len) ≡ 0xc3 ∷ 0 ∷ 0 ∷ 0 ∷ 1 ∷ 8 ∷ (id ++ (source ++ (token ++ len)))
header_is id source token len i =
    ap₂ (λ n t. 0xc3 ∷ 0 ∷ 0 ∷ 0 ∷ 1 ∷ n ∷ t) i (append_assoc (id ++ source) token len ∙ append_assoc id source (token ++ len))

-- a header of 18 bytes and frames, written over zeros with room for a number
laid_out : (header frames : List ℕ) (m : ℕ) → length header ≡ 18 → m ≡ length frames
    → take 22 (header ++ drop 18 (replicate 1200 0)) ++ (frames ++ drop m (drop 22 (header ++ drop 18 (replicate 1200 0))))
    ≡ header ++ (replicate 4 0 ++ (frames ++ replicate (1178 - length frames) 0))
laid_out header frames m size e =
    let front = header ++ replicate 4 0 in
    let zeros = drop-replicate 18 1200 0 ∙ sym (replicate-append-replicate 4 1178 0) in
    let whole = ap (λ z. header ++ z) zeros ∙ sym (append_assoc header (replicate 4 0) (replicate 1178 0)) in
    let long : length front ≡ 22 = length-append header (replicate 4 0) ∙ ap (λ n. n + 4) size in
    ap₂ (λ u v. u ++ (frames ++ drop m v))
    (ap (take 22) whole ∙ take_at front (replicate 1178 0) 22 long)
    (ap (drop 22) whole ∙ drop_at front (replicate 1178 0) 22 long)
    ∙ ap (λ z. front ++ (frames ++ z)) (drop-replicate m 1178 0 ∙ ap (λ k. replicate (1178 - k) 0) e)
    ∙ append_assoc header (replicate 4 0) (frames ++ replicate (1178 - length frames) 0)

not_both : {A E P : Type 0} (r : Result A E) → IsErr r → IsOk r → P
not_both (Ok x) err ok = let never : false ≡ true = err in absurd (cc never)
not_both (Err e) err ok = let never : false ≡ true = ok in absurd (cc never)

same_sent : {s s' : Sender} {start start' end end' : ℕ} {old old' new : List ℕ} → s ≡ s' → start ≡ start' → end ≡ end' → old ≡ old'
    → IsSent s start end old new → IsSent s' start' end' old' new
same_sent e es ee eo sent = rw (sym e, sym es, sym ee, sym eo) sent

pub returns-in_err-send-clause-accepted : goal.returns-in_err-send-clause-accepted
returns-in_err-send-clause-accepted c =
    let id = c.args.id.now in
    let id_long : length id ≡ 8 = search rules in
    let end = c.in_ok-room.room.end in
    let start_is : c.in_ok-room.room.start ≡ 18 = ap (λ r. r.start) c.in_ok-room.ensures.number ∙ header_long id _ _ _ id_long refl refl refl in
    let end_is : end ≡ 22 = ap (λ r. r.end) c.in_ok-room.ensures.number ∙ ap (λ n. n + 4) (header_long id _ _ _ id_long refl refl refl) in
    let frames = c.copy_from_slice.new.self in
    let buffer = c.write.new.buffer in
    let after = frames ++ drop (end + length c.args.frames.now - end) (drop end buffer) in
    let size : length (take end buffer ++ after) ≡ 1200 = search rules in
    let begins = ap₂ (λ n b. take n b ++ after) end_is c.in_ok-room.ensures.written in
    let version_is =
    ap (λ (s : Sender). s.version) c.in_ok-sender.ensures.made
    ∙ ap (λ (s : QuicSecretState). s.version) c.in_ok-secret.ensures.made in (
      not_both _ c.from_residual-in_err-send.ensures.0,
      λ small.
          let never : false ≡ true =
          c.in_err-send.ensures.outcome.accepted.1 (
            unused _ _ _ _ _ _ c.in_ok-sender.ensures.made,
            sealable _ (take end buffer ++ after) _ _ _ version_is begins size start_is end_is,
            in_turn _ _ _ _ _ _ _ _ c.in_ok-sender.ensures.made small start_is end_is,
          ) in
          absurd (cc never),
    )

pub returns-clause-sent : goal.returns-clause-sent
returns-clause-sent c =
    let id = c.args.id.now in
    let id_long : length id ≡ 8 = search rules in
    let frames = c.args.frames.now in
    let end = c.in_ok-room.room.end in
    let start_is : c.in_ok-room.room.start ≡ 18 = ap (λ r. r.start) c.in_ok-room.ensures.number ∙ header_long id _ _ _ id_long refl refl refl in
    let end_is : end ≡ 22 = ap (λ r. r.end) c.in_ok-room.ensures.number ∙ ap (λ n. n + 4) (header_long id _ _ _ id_long refl refl refl) in
    let count : 22 + length frames - 22 ≡ length frames = omega arith in
    let buffer_is : c.write.new.buffer ≡ initial_header id ++ drop 18 (replicate 1200 0) =
    c.in_ok-room.ensures.written
    ∙ ap₂ (λ h n. h ++ drop n (replicate 1200 0)) (header_is id _ _ _ id_long) (header_long id _ _ _ id_long refl refl refl) in
    let header_size : length (initial_header id) ≡ 18 =
    ap (λ n. suc (suc (suc (suc (suc (suc n)))))) (length-append id (0 ∷ 0 ∷ 0x44 ∷ 0x9e ∷ []) ∙ ap (λ n. n + 4) id_long) in
    let packet_is =
    ap₂ (λ e b. take e b ++ (c.copy_from_slice.new.self ++ drop (e + length frames - e) (drop e b))) end_is buffer_is
    ∙ ap (λ f. take 22 (initial_header id ++ drop 18 (replicate 1200 0))
    ++ (f ++ drop (22 + length frames - 22) (drop 22 (initial_header id ++ drop 18 (replicate 1200 0))))) c.copy_from_slice.ensures.after
    ∙ laid_out (initial_header id) frames (22 + length frames - 22) header_size count in
    let sender_is =
    c.in_ok-sender.ensures.made
    ∙ ap (λ (s : QuicSecretState). new_sender s.version (secret_key s) (secret_header_key s) (Some s) c.args.number) c.in_ok-secret.ensures.made in
    same_sent sender_is start_is end_is packet_is c.in_ok-send.ensures.outcome.sent
