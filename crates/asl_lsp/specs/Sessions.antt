-- What happens to documents (Language Server Protocol 3.17, "Text Document Synchronization"), and what is sent then.
use Rattle.std.specs.Prelude.{ℕ, List, [], Option, Some, None, if◌then◌else◌}
use Rattle.asl_json_data.specs.Data.{Data}
use Rattle.asl_lsp_positions.specs.declared.position.Encoding.{Encoding}
use Rattle.asl_lsp.specs.declared.document.Document.{Document}
use Rattle.asl_lsp.specs.declared.method.Notification.{Notification}
use Rattle.asl_lsp.specs.declared.method.Notification.TheVariants as notification
use Rattle.asl_lsp.specs.declared.session.Session.{Session}
use Rattle.asl_lsp.specs.Documents.{found, is_open, put, without}
use Rattle.asl_lsp.specs.Params.{uri_of, opened_document, changed_document}
use Rattle.asl_lsp.specs.Replies.{Reply, diagnosed, cleared}

-- no document is open
abbrev pub begun : Encoding → Session
begun e = record { encoding = e; documents = [] }

-- what comes of the session, and what is sent
abbrev pub Done : Type 0
Done = Session × Option Reply

abbrev pub ignored : Session → Done
ignored s = (s, None)

-- a document stands so from now on, and what is found in it is told
abbrev pub accepted : Session → Document → Done
accepted s d = (record s { documents = put d s.documents }, Some (diagnosed s.encoding d))

-- ---- opened

abbrev pub opened : Session → Option Document → Done
opened s None = ignored s
opened s (Some d) = accepted s d

abbrev pub opened_by : Session → Option Data → Done
opened_by s ps = opened s (opened_document ps)

-- ---- changed: where it is open

abbrev pub changed : Session → Document → Done
changed s d = if is_open d.uri s.documents then accepted s d else ignored s

abbrev pub changed_where : Session → Option Document → Done
changed_where s None = ignored s
changed_where s (Some d) = changed s d

abbrev pub changed_by : Session → Option Data → Done
changed_by s ps = changed_where s (changed_document ps)

-- ---- saved: what is found in it is told again

abbrev pub told_again : Session → Option Document → Option Reply
told_again s None = None
told_again s (Some d) = Some (diagnosed s.encoding d)

abbrev pub saved_at : Session → Option (List ℕ) → Option Reply
saved_at s None = None
saved_at s (Some u) = told_again s (found u s.documents)

abbrev pub saved : Session → Option Data → Option Reply
saved s ps = saved_at s (uri_of ps)

-- ---- closed: nothing is told of it any more

abbrev pub closed_at : Session → Option (List ℕ) → Done
closed_at s None = ignored s
closed_at s (Some u) =
    if is_open u s.documents
    then (record s { documents = without u s.documents }, Some (cleared u))
    else ignored s

abbrev pub closed : Session → Option Data → Done
closed s ps = closed_at s (uri_of ps)

-- ---- all notifications

abbrev pub noted : Session → Notification → Option Data → Done
noted s notification.DidOpen ps = opened_by s ps
noted s notification.DidChange ps = changed_by s ps
noted s notification.DidSave ps = (s, saved s ps)
noted s notification.DidClose ps = closed s ps
noted s notification.Exit ps = ignored s
noted s notification.Unknown ps = ignored s
