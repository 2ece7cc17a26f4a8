-- Alerts (RFC 8446 section 6).
use Rattle.std.specs.Prelude.{ℕ, List, [], ◌∷◌}
use Rattle.records.specs.Record.{Inner}
use Rattle.records.specs.declared.content_type.ContentType.TheVariants.{Alert}
use Rattle.tls_messages.specs.Steps.{alert_code}
use Rattle.tls_messages.specs.declared.alert.AlertDescription.{AlertDescription}

-- the record of close_notify, at the level of a warning (section 6.1)
abbrev pub close_notify : Inner
close_notify = record { content_type = Alert; content = 1 ∷ 0 ∷ []; padding = 0 }

-- a fatal alert (section 6.2), and its record
abbrev pub fatal_content : AlertDescription → List ℕ
fatal_content description = 2 ∷ alert_code description ∷ []

abbrev pub fatal_record : AlertDescription → Inner
fatal_record description = record { content_type = Alert; content = fatal_content description; padding = 0 }

-- the record of an alert in plaintext, of version 0x0303 (section 5.1)
abbrev pub plaintext_alert_record : List ℕ → List ℕ
plaintext_alert_record alert = 21 ∷ 3 ∷ 3 ∷ 0 ∷ 2 ∷ alert
