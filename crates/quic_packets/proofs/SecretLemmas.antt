-- A sender and a receiver that are created from one secret hold the keys of the same secret after the same number of key
-- updates.
use Rattle.std.proofs.Common.{◌≡◌, ℕ, ◌+◌, is_some, Option, None, Some, refl, sym, ap, ◌∙◌, add-one}
use Rattle.key_derivation.specs.Quic.{QuicSecretState, next_quic_secret}
use Rattle.quic_packets.specs.Keys.{PacketKey, secret_header_key, secret_key}
use Rattle.quic_packets.specs.Receiving.{Receiver, with_next}
use Rattle.quic_packets.specs.Secrets.{ReceiverOf, SenderOf, begins, others, secret_after, takes_next, updates}
use Rattle.quic_packets.specs.Sending.{Sender}

-- The secret that is held after n updates, and the one after it.
held_is : (secret held : QuicSecretState) (n : ℕ) (o : Option QuicSecretState) → o ≡ Some held → o ≡ Some (secret_after secret n)
    → next_quic_secret held ≡ secret_after secret (n + 1)
held_is secret held n o is stands =
    let same : held ≡ secret_after secret n = cc in
    ap next_quic_secret same ∙ sym (ap (secret_after secret) (add-one n))

-- What holds for a sender after n updates.
record Sends (secret : QuicSecretState) (s : Sender) (n : ℕ) : Type 0 where
  version : s.version ≡ secret.version
  key : s.key ≡ secret_key (secret_after secret n)
  header_key : s.header_key ≡ secret_header_key secret
  held : s.secret ≡ Some (secret_after secret n)

sends : (secret : QuicSecretState) (s : Sender) (n : ℕ) → SenderOf secret s n → Sends secret s n
sends secret s n (begins x first) = record { version = refl; key = refl; header_key = refl; held = refl }
sends secret t n (updates x s m held is of) =
    let before = sends x s m of in
    let next = held_is x held m s.secret is before.held in
    record { version = before.version; key = ap secret_key next; header_key = before.header_key; held = ap Some next }
sends secret t n (others x s u m version key header_key held of) =
    let before = sends x s m of in
    record {
      version = version ∙ before.version;
      key = key ∙ before.key;
      header_key = header_key ∙ before.header_key;
      held = held ∙ before.held;
    }

-- What holds for a receiver after n updates.
record Receives (secret : QuicSecretState) (r : Receiver) (n : ℕ) : Type 0 where
  version : r.version ≡ secret.version
  header : r.header ≡ secret_header_key secret
  current : r.current ≡ secret_key (secret_after secret n)
  next : (k : PacketKey) → r.next ≡ Some k → k ≡ secret_key (secret_after secret (n + 1))
  held : r.next ≡ None → r.secret ≡ Some (secret_after secret n)
  held_next : (k : PacketKey) → r.next ≡ Some k → r.secret ≡ Some (secret_after secret (n + 1))

takes : (secret : QuicSecretState) (r : Receiver) (n : ℕ) (held : QuicSecretState) (o : Option PacketKey) → r.next ≡ o → r.secret ≡ Some held
    → Receives secret r n → Receives secret (with_next r held) n
takes secret r n held (Some k) e is before = rw (ap is_some e) before
takes secret r n held None e is before =
    let next = held_is secret held n r.secret is (before.held e) in
    rw (ap is_some e) (record {
      version = before.version;
      header = before.header;
      current = before.current;
      next = λ k some. (let same : secret_key (next_quic_secret held) ≡ k = cc in sym same ∙ ap secret_key next);
      held = λ none. cc;
      held_next = λ k some. ap Some next;
    })

receives : (secret : QuicSecretState) (r : Receiver) (n : ℕ) → ReceiverOf secret r n → Receives secret r n
receives secret r n (begins x) = record {
  version = refl;
  header = refl;
  current = refl;
  next = λ k none. cc;
  held = λ none. refl;
  held_next = λ k none. cc;
}
receives secret t n (takes_next x r m held is of) = takes x r m held r.next refl is (receives x r m of)
receives secret t n (updates x r m key number is of) =
    let before = receives x r m of in
    record {
      version = before.version;
      header = before.header;
      current = before.next key is;
      next = λ k none. cc;
      held = λ none. before.held_next key is;
      held_next = λ k none. cc;
    }
receives secret t n (others x r u m version header current next held of) =
    let before = receives x r m of in
    record {
      version = version ∙ before.version;
      header = header ∙ before.header;
      current = current ∙ before.current;
      next = λ k some. before.next k (sym next ∙ some);
      held = λ none. held ∙ before.held (sym next ∙ none);
      held_next = λ k some. held ∙ before.held_next k (sym next ∙ some);
    }

pub same_keys : (secret : QuicSecretState) (s : Sender) (r : Receiver) (n : ℕ) → SenderOf secret s n → ReceiverOf secret r n
    → (s.key ≡ secret_key (secret_after secret n)) × (r.current ≡ s.key) × (r.header ≡ s.header_key)
same_keys secret s r n sender receiver =
    let a = sends secret s n sender in
    let b = receives secret r n receiver in
    (a.key, b.current ∙ sym a.key, b.header ∙ sym a.header_key)

pub same_version : (secret : QuicSecretState) (s : Sender) (r : Receiver) (n : ℕ) → SenderOf secret s n → ReceiverOf secret r n
    → (s.version ≡ secret.version) × (r.version ≡ secret.version)
same_version secret s r n sender receiver = ((sends secret s n sender).version, (receives secret r n receiver).version)

pub next_key : (secret : QuicSecretState) (r : Receiver) (n : ℕ) (k : PacketKey) → ReceiverOf secret r n → r.next ≡ Some k
    → k ≡ secret_key (secret_after secret (n + 1))
next_key secret r n k receiver is = (receives secret r n receiver).next k is
