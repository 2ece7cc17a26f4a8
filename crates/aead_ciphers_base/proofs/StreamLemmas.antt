-- A text XORed with a stream: in pieces, from a start in a buffer to its front, and twice.
use Rattle.std.proofs
use proofs.Common.{◌≡◌, ℕ, ◌+◌, ◌-◌, ◌<◌, ◌≤◌, List, ◌++◌, length, take, drop, get_or, refl, sym, ap, ap₂, ◌∙◌, arith, length-append, length-drop, take_all, take-append-drop, take_at, drop-drop, get_or-take, length-take-le}
use proofs.lemmas.List.FromFn.{fill_by_all}
use proofs.lemmas.Slice.{drop-append-drop}
use proofs.Math.Seq.{take-add}
use Rattle.aead_ciphers_base.specs.Bytes.{each_below, xored, ◌⊕◌}
use Rattle.aead_ciphers_base.proofs.EachLemmas.{length-each, each-append, each-same}
use Rattle.aead_ciphers_base.proofs.XorLemmas.{length-xor, xor-take, xor-append, xor-xor}

pub length-xored : (f : ℕ → ℕ) (text : List ℕ) → length (xored f text) ≡ length text
unfolding xored
length-xored f text = length-xor text _ (omega (arith, length-each (length text) f))

-- the stream of the second piece goes on where that of the first ends
pub xored-append : (f g : ℕ → ℕ) (xs ys : List ℕ) → ((i : ℕ) → f (length xs + i) ≡ g i) → xored f (xs ++ ys) ≡ xored f xs ++ xored g ys
unfolding xored
xored-append f g xs ys later =
    ap (λ n. (xs ++ ys) ⊕ each_below n f) (length-append xs ys)
    ∙ ap (λ us. (xs ++ ys) ⊕ us) (each-append (length xs) _ f)
    ∙ xor-append xs ys (each_below (length xs) f) _ (sym (length-each (length xs) f))
    ∙ ap (λ us. (xs ⊕ each_below (length xs) f) ++ (ys ⊕ us)) (each-same (length ys) _ g (λ i h. later i))

-- the first n bytes of an encrypted text are the first n bytes, encrypted
pub take-xored : (f : ℕ → ℕ) (n : ℕ) (text : List ℕ) → n ≤ length text → take n (xored f text) ≡ xored f (take n text)
take-xored f n text le =
    ap (λ u. take n (xored f u)) (sym (take-append-drop n text))
    ∙ ap (take n) (xored-append f (λ i. f _) _ (drop n text) (λ i. refl))
    ∙ take_at _ _ n (length-xored f _ ∙ length-take-le n text le)

-- encrypting twice gives the text back
pub xored-xored : (f : ℕ → ℕ) (text : List ℕ) → xored f (xored f text) ≡ text
unfolding xored
xored-xored f text =
    rw (length-xored f text) (xor-xor text _ (omega (arith, length-each (length text) f)))

-- the first n bytes of a list are the stream's if each is
pub stream_front : (f : ℕ → ℕ) (bytes : List ℕ) (n : ℕ) → n ≤ length bytes
    → ((i : ℕ) → i < n → get_or bytes i 0 ≡ f i) → take n bytes ≡ each_below n f
stream_front f bytes n le same = fill_by_all f _ n 0 (length-take-le n bytes le) (λ i h. get_or-take n bytes i 0 h ∙ same i h)

-- XOR with a list that begins with the stream's bytes is XOR with the stream
pub xored-is : (f : ℕ → ℕ) (text bytes : List ℕ) → take (length text) bytes ≡ each_below (length text) f → text ⊕ bytes ≡ xored f text
unfolding xored
xored-is f text bytes e = sym (xor-take text bytes) ∙ ap (λ u. text ⊕ u) e

-- The first d bytes of a buffer were written, from those s bytes further on. The next n, written in the same way, make it d + n.
pub advance : (f g : ℕ → ℕ) (d n s : ℕ) (was now : List ℕ) → ((i : ℕ) → f (d + i) ≡ g i) → s + d + n ≤ length was →
    now ≡ xored f (take d (drop s was)) ++ drop d was →
    take d now ++ xored g (take n (drop (s + d) now)) ++ drop (d + n) now ≡ xored f (take (d + n) (drop s was)) ++ drop (d + n) was
advance f g d n s was now later room e =
    let text = drop s was in
    let done = xored f (take d text) in
    let front = length-take-le d text (omega (arith, length-drop s was)) in
    let len = length-xored f _ ∙ front in
    let more = ap (take d) e ∙ take_at done _ d len in
    let input = ap (drop (s + d)) e ∙ drop-append-drop d was done _ (omega arith) len ∙ sym (drop-drop d s was) in
    let rest = ap (drop (d + n)) e ∙ drop-append-drop d was done _ (omega arith) len in
    ap₂ (λ u v. u ++ xored g (take n (drop (s + d) now)) ++ v) more rest
    ∙ ap (λ u. done ++ xored g (take n u) ++ drop (d + n) was) input
    ∙ ap (λ u. u ++ drop (d + n) was)
    (sym (xored-append f g _ _ (λ i. ap (λ m. f (m + i)) front ∙ later i))
    ∙ ap (xored f) (sym (take-add d n text)))

-- the d bytes from s on are all that are left if d = length was - s
pub all_from : (f : ℕ → ℕ) (s d : ℕ) (was : List ℕ) → d ≡ length was - s →
    xored f (take d (drop s was)) ++ drop d was ≡ xored f (drop s was) ++ drop (length was - s) was
all_from f s d was all =
    ap (λ n. xored f (take n (drop s was)) ++ drop n was) all
    ∙ ap (λ u. xored f u ++ drop (length was - s) was)
    (take_all (length was - s) (drop s was) (omega (arith, length-drop s was)))
