use Rattle.std.proofs.Common.{◌≡◌, ℕ, ◌+◌, ◌≤◌, List, length, drop, arith, ap, ◌∙◌, length-append}
use Rattle.std.proofs.lemmas.List.{length-replicate, length-take}
use Rattle.std.proofs.lemmas.Slice.{drop-append-drop}
use Rattle.records.specs.Record.{plaintext}
use Rattle.records.specs.Steps.{overwritten}
use Rattle.records_tests.proofs.tests.examples.record_stream.receive.Goals as goal

length-plaintext : (content : List ℕ) (code padding : ℕ) → length (plaintext content code padding) ≡ length content + 1 + padding
length-plaintext content code padding = simp (length-append, length-replicate) (omega arith)

-- what lies past a record whose inner plaintext was written to the front
past_record : (old content : List ℕ) (code padding len n : ℕ) → length content ≤ len → 5 + (len + 1 + padding) + 16 ≡ n
    → drop n (overwritten old 0 (plaintext content code padding)) ≡ drop n old
past_record old content code padding len n few size =
    let same = length-plaintext content code padding in
    drop-append-drop (0 + length (plaintext content code padding)) old (plaintext content code padding) n
    (omega (arith, same, few, size)) (omega arith)

pub returns-in_ok-read-in-Record-Protected-default-clause-rest : goal.returns-in_ok-read-in-Record-Protected-default-clause-rest
returns-in_ok-read-in-Record-Protected-default-clause-rest c =
    let n = c.in-Record-Protected-default.len in
    let read = c.in_ok-read-in-Record-Protected-default.read in
    let put = c.in_ok-read-in-Record-Protected-default.ensures.put in
    ap (drop n) put.2
    ∙ past_record c.args.bytes.now _ _ put.0 read.1 n (omega (arith, length-take read.1 c.gather.new.bytes)) (omega (arith, put.1))
