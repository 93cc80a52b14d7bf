use Rattle.asl_json_data.specs.Data.{text}
use Rattle.asl_session.proofs.Commanding.{if-ok-map, not-read}
use Rattle.asl_session.proofs.script_file.read_name.Goals as goal

pub returns-in-Ok-clause-only : goal.returns-in-Ok-clause-only
returns-in-Ok-clause-only c = if-ok-map c.named.result _ _ (λ o h n k. h n (c.in-Ok.ensures.only (text n) k.reads)) c.named.ensures.only

pub returns-in-Err-clause-only : goal.returns-in-Err-clause-only
returns-in-Err-clause-only c = if-ok-map c.unread.result _ _ (λ o h n k. absurd (not-read (text n) c.in-Err.fault h.1 (c.in-Err.ensures.only (text n) k.reads))) c.unread.ensures
