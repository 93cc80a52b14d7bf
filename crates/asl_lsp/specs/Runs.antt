-- What a server sends while it receives many messages.
use Rattle.std.specs.Prelude.{ℕ, List, [], ◌∷◌, Bool, true, Option, Some, None, Result, Ok, Err, if◌then◌else◌}
use Rattle.asl_json_data.specs.Data.{Data}
use Rattle.asl_json.specs.Same.{bytes_eq}
use Rattle.asl_json_rpc.specs.declared.id.Id.{Id}
use Rattle.asl_json_rpc.specs.declared.id.Id.TheVariants as ids
use Rattle.asl_json_rpc.specs.declared.incoming.Incoming.{Incoming}
use Rattle.asl_json_rpc.specs.declared.incoming.Incoming.TheVariants as incoming
use Rattle.asl_json_rpc.specs.declared.incoming.CallFault.{CallFault}
use Rattle.asl_json_rpc.specs.declared.incoming.CallFault.TheVariants.{ParseError, InvalidRequest, OutOfMemory}
use Rattle.asl_lsp.specs.declared.method.Notification.{Notification}
use Rattle.asl_lsp.specs.declared.method.Notification.TheVariants as notification
use Rattle.asl_lsp.specs.declared.method.Request.{Request}
use Rattle.asl_lsp.specs.declared.method.Request.TheVariants as request
use Rattle.asl_lsp.specs.declared.phase.Phase.{Phase}
use Rattle.asl_lsp.specs.Methods.{request_of, notification_of}
use Rattle.asl_lsp.specs.Params.{uri_of}
use Rattle.asl_lsp.specs.Replies.{Reply, result, refused, located, prepared, renamed, diagnosed, cleared}
use Rattle.asl_lsp.specs.Server.{step, data_in}

-- what a message asks for
abbrev pub Call : Type 0
Call = Result Incoming CallFault

-- what is sent for each of these messages
abbrev pub sent_for : Phase → List Call → List (Option Reply)
sent_for p [] = []
sent_for p (c ∷ cs) = (step p c).1 ∷ sent_for (step p c).0 cs

-- ---- responses

-- the id of the request that a message is a response to
abbrev pub answered_id : Option Reply → Option Id
answered_id (Some (result i d)) = Some i
answered_id (Some (refused i r)) = Some i
answered_id (Some (located i e d w p)) = Some i
answered_id (Some (prepared i e d p)) = Some i
answered_id (Some (renamed i e d n p)) = Some i
answered_id (Some (diagnosed e d)) = None
answered_id (Some (cleared u)) = None
answered_id None = None

-- the id for which a message wants a response: that of a request; where it is none of the messages
-- there are, its id as far as it is known, else null
abbrev pub asked_id : Call → Option Id
asked_id (Ok (incoming.Request i m ps)) = Some i
asked_id (Ok (incoming.Notification m ps)) = None
asked_id (Ok incoming.Response) = None
asked_id (Err ParseError) = Some ids.Null
asked_id (Err (InvalidRequest i)) = Some i
asked_id (Err OutOfMemory) = None

-- ---- documents

-- the URI of the document that a message is about
abbrev pub named_by : Notification → Option Data → Option (List ℕ)
named_by notification.DidOpen ps = uri_of ps
named_by notification.DidChange ps = uri_of ps
named_by notification.DidSave ps = uri_of ps
named_by notification.DidClose ps = uri_of ps
named_by notification.Exit ps = None
named_by notification.Unknown ps = None

-- ... and that a request is about
abbrev pub asked_for : Request → Option Data → Option (List ℕ)
asked_for (request.About q) ps = uri_of ps
asked_for r ps = None

abbrev pub named : Call → Option (List ℕ)
named (Ok (incoming.Request i m ps)) = asked_for (request_of m) (data_in ps)
named (Ok (incoming.Notification m ps)) = named_by (notification_of m) (data_in ps)
named c = None

abbrev pub is_about : List ℕ → Option (List ℕ) → Bool
is_about u None = true
is_about u (Some v) = bytes_eq u v

-- whether a message is about the document with this URI, or about none
abbrev pub concerns : List ℕ → Call → Bool
concerns u c = is_about u (named c)

-- what is sent for those
abbrev pub sent_about : List ℕ → Phase → List Call → List (Option Reply)
sent_about u p [] = []
sent_about u p (c ∷ cs) =
    if concerns u c
    then (step p c).1 ∷ sent_about u (step p c).0 cs
    else sent_about u (step p c).0 cs
