use Rattle.std.proofs.lemmas.Result.{IfOk-weaker}
use Rattle.records.proofs.RecordLemmas.{message_in_buffer, record_in_part}
use Rattle.records.proofs.key.RecordKey.open_message.Goals as goal

pub open_front-requires : goal.open_front-requires
open_front-requires c = record {
  whole = rw (record_in_part _ _ _ _ c.requires.before c.requires.range _ c.requires.header) c.requires.whole;
}

pub returns-clause-opened : goal.returns-clause-opened
returns-clause-opened c =
    IfOk-weaker c.open_front.result _ _
    (message_in_buffer _ _ _ _ c.requires.before c.requires.range _ c.requires.header c.args.self.now c.args.number c.open_front.new.bytes)
    c.open_front.ensures.opened

pub returns-clause-none : goal.returns-clause-none
returns-clause-none c = rw (record_in_part _ _ _ _ c.requires.before c.requires.range _ c.requires.header) at c.open_front.ensures.none
