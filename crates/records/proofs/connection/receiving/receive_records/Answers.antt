use Rattle.std.proofs.Common.{◌∙◌, arith, rules}
use Rattle.std.proofs.lemmas.Result.{err_from_is_err_and}
use Rattle.std.proofs.lemmas.Slice.{drop-put_mid}
use Rattle.records.proofs.ConnectionLemmas.{begins_alone, rejects_header, rejects_record, takes_record}
use Rattle.records.proofs.TakenLemmas.{kept_more}
use Rattle.records.proofs.connection.receiving.receive_records.Goals as goal

pub receive_record-requires-clause-header : goal.receive_record-requires-clause-header
receive_record-requires-clause-header c =
    let found = rw c.in-Some.is at c.in_ok-first.ensures.len in
    (rw c.in-Some.is at c.in_ok-first.ensures.header) ∙ (begins_alone c.loop-first.bytes c.loop-first.at c.in-Some.first.len found.2).0

pub receive_record-requires-clause-begins : goal.receive_record-requires-clause-begins
receive_record-requires-clause-begins c =
    let found = rw c.in-Some.is at c.in_ok-first.ensures.len in
    (begins_alone c.loop-first.bytes c.loop-first.at c.in-Some.first.len found.2).1

pub returns-in_err-first-clause-rejected : goal.returns-in_err-first-clause-rejected
returns-in_err-first-clause-rejected c =
    let p = err_from_is_err_and c.from_residual.result c.from_residual.ensures.1 in
    rw (p.1, p.2)
    (rejects_header _ _ c.loop-first.bytes _ _ c.loop-first.at _ c.loop-first.invariant.taken c.loop-first.invariant.kept
    c.in_err-first.ensures.refused)

pub returns-in_err-receive_record-clause-rejected : goal.returns-in_err-receive_record-clause-rejected
returns-in_err-receive_record-clause-rejected c =
    let p = err_from_is_err_and c.from_residual-in_err-receive_record.result c.from_residual-in_err-receive_record.ensures.1 in
    let found = rw c.in-Some.is at c.in_ok-first.ensures.len in
    let failed = c.in_err-receive_record.ensures in
    let before = c.loop-first.invariant in
    rw (p.1, p.2)
    (rejects_record _ _ _ c.loop-first.bytes c.receive_record.new.bytes _ _ _ c.loop-first.at c.in-Some.first.len _ before.taken
    before.kept before.in_range found.2 before.capacity failed.failed failed.left (search rules))

pub returns-then-incoming-clause-taken : goal.returns-then-incoming-clause-taken
returns-then-incoming-clause-taken c =
    let found = rw c.in-Some.is at c.in_ok-first.ensures.len in
    let before = c.loop-first.invariant in
    takes_record c.args.bytes.now c.loop-first.bytes _ _ _ c.loop-first.at c.in-Some.first.len before.taken before.kept before.same_len
    before.in_range found.1 c.in_ok-receive_record.ensures.step

pub returns-then-incoming-clause-kept : goal.returns-then-incoming-clause-kept
returns-then-incoming-clause-kept c =
    let before = c.loop-first.invariant in
    kept_more c.args.bytes.now c.loop-first.bytes _ c.loop-first.at _ before.kept (omega arith)
    (drop-put_mid c.loop-first.at _ c.loop-first.bytes c.receive_record.new.bytes _ (omega arith) before.in_range (search rules))

pub loop-first-preserved : goal.loop-first-preserved
loop-first-preserved c =
    let found = rw c.in-Some.is at c.in_ok-first.ensures.len in
    let before = c.loop-first.invariant in
    let received = c.in_ok-receive_record.ensures in
    record {
      in_range = search rules;
      same_len = search rules;
      taken = takes_record c.args.bytes.now c.loop-first.bytes _ _ _ c.loop-first.at c.in-Some.first.len before.taken before.kept
          before.same_len before.in_range found.1 received.step;
      kept = kept_more c.args.bytes.now c.loop-first.bytes _ c.loop-first.at _ before.kept (omega arith)
          (drop-put_mid c.loop-first.at _ c.loop-first.bytes c.receive_record.new.bytes _ (omega arith) before.in_range (search rules));
      is_of = received.is_of;
      going = c.if-incoming.false;
      is_open = received.open;
      capacity = omega (arith, before.capacity, received.capacity);
    }
