use Rattle.std.proofs.Common.{◌≡◌, ℕ, List, ◌+◌, ◌-◌, ◌≤◌, ◌++◌, length, take, drop, rules, ap, sym, ◌∙◌, arith, append_assoc, length-take, length-drop, take_at, drop-drop}
use Rattle.aead_ciphers_base.specs.Bytes.{◌⊕◌}
use Rattle.aead_ciphers_base.proofs
use proofs.XorLemmas.{length-xor, xor_comm}
use proofs.chacha.xor_stream.Goals as goal

-- n bytes of a block that was XORed with n bytes
front : (block mixed piece : List ℕ) (n : ℕ) → length piece ≡ n → n ≤ length block
    → mixed ≡ (block ⊕ piece) ++ drop (length piece) block → take n mixed ≡ piece ⊕ block
front block mixed piece n size short e =
    let order : block ⊕ piece ≡ piece ⊕ block = xor_comm block piece in
    let long : length (block ⊕ piece) ≡ n = ap length order ∙ length-xor piece block (omega arith) ∙ size in
    ap (take n) e ∙ take_at (block ⊕ piece) (drop (length piece) block) n long ∙ order

pub returns : goal.returns
returns g c =
    let size : length c.args.stream ≡ g.row.N = search rules in
    let from : ℕ = c.args.start + c.args.at in
    let source : List ℕ = c.args.in_out.now in
    let read : from + c.args.n - from ≡ c.args.n = omega arith in
    let wrote : c.args.at + c.args.n - c.args.at ≡ c.args.n = omega arith in
    let piece = rw read at c.xor_assign_at_start.ensures in
    let bytes : c.copy_from_slice.new.self ≡ take c.args.n (drop from source) ⊕ c.args.stream =
    c.copy_from_slice.ensures.after
    ∙ front c.args.stream _ (take c.args.n (drop from source)) c.args.n (simp (length-take, length-drop) (omega arith)) (omega arith) piece in
    rw (bytes, wrote, drop-drop c.args.n c.args.at source)
    (sym (append_assoc (take c.args.at source) (take c.args.n (drop from source) ⊕ c.args.stream) (drop (c.args.at + c.args.n) source)))
