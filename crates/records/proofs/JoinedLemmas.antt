-- Joined reading gives back what a writer was asked to write.
use Rattle.std.proofs.Common.{ℕ, Bool, List, [], ◌++◌, map, sym, subst}
use Rattle.aead_ciphers.specs.Runs.{Runs}
use Rattle.records.specs
use specs.Joined.{Joins, Says, Token, ends_in_update, joins_alert, joins_data, joins_messages, joins_nothing, joins_update}
use specs.Joined.{says_alert, says_data, says_messages, says_nothing, says_update}
use specs.Keys.{ReaderState, WriterState}
use specs.Record.{Inner}
use specs.Runs.{Answer, Event, Follows, ReadStep, WriteStep, as_asked}
use Rattle.std.specs.Prelude.{false}
use Rattle.tls_messages.specs.declared.stage.Stage.{Stage}
use Rattle.tls_messages.proofs.StreamLemmas.{of_splits}
use Rattle.records.proofs.RunLemmas.{reading_undoes_writing}

joins_asked : (stage : Stage) (bound : ℕ) (part : List ℕ) (is_due : Bool) (asked : List (Event Inner)) (tokens : List Token)
    → Says stage bound part is_due asked tokens → Joins stage bound part is_due (map as_asked asked) tokens
joins_asked stage bound part is_due asked tokens says_nothing = joins_nothing
joins_asked stage bound part is_due asked tokens (says_data content padding later rest says) =
    joins_data content (map as_asked later) rest (joins_asked stage bound [] false later rest says)
joins_asked stage bound part is_due asked tokens (says_messages was content left padding messages later rest splits accepted says) =
    let same = of_splits (was ++ content) messages left splits in
    rw (← same.0)
    (joins_messages was content (map as_asked later) rest (rw (same.0, same.1) accepted)
    (rw (same.0, same.1) (joins_asked stage bound left (ends_in_update messages) later rest says)))
joins_asked stage bound part is_due asked tokens (says_alert content padding later rest says) =
    joins_alert content (map as_asked later) rest (joins_asked stage bound [] false later rest says)
joins_asked stage bound part is_due asked tokens (says_update key iv later rest says) =
    joins_update key iv (map as_asked later) rest (joins_asked stage bound [] false later rest says)

pub joining_undoes_writing : (writer : WriterState) (reader : ReaderState) → Follows writer reader → (stage : Stage) (bound : ℕ)
    (asked : List (Event Inner)) (tokens : List Token) (sent : List (Event (List ℕ))) (read : List (Event Answer))
    (written : WriterState) (stands : ReaderState) → Says stage bound [] false asked tokens
    → Runs WriteStep writer written asked sent → Runs ReadStep reader stands sent read → Joins stage bound [] false read tokens
joining_undoes_writing writer reader f stage bound asked tokens sent read written stands says w r =
    let same = reading_undoes_writing writer reader f asked sent read written stands w r in
    subst (λ answers. Joins stage bound [] false answers tokens) (sym same.0) (joins_asked stage bound [] false asked tokens says)
