-- What a server does at a message (Language Server Protocol 3.17, "Server lifecycle").
use Rattle.std.specs.Prelude.{ℕ, ◌≡◌, ◌≢◌, List, Bool, true, false, Option, Some, None, option_map, Result, Ok, Err}
use Rattle.asl_json_data.specs.Data.{Data, null}
use Rattle.asl_json.specs.View.{data_of}
use Rattle.asl_json.specs.declared.value.Json.{Json}
use Rattle.asl_json_rpc.specs.declared.id.Id.{Id}
use Rattle.asl_json_rpc.specs.declared.id.Id.TheVariants as ids
use Rattle.asl_json_rpc.specs.declared.incoming.Incoming.{Incoming}
use Rattle.asl_json_rpc.specs.declared.incoming.Incoming.TheVariants as incoming
use Rattle.asl_json_rpc.specs.declared.incoming.CallFault.{CallFault}
use Rattle.asl_json_rpc.specs.declared.incoming.CallFault.TheVariants.{ParseError, InvalidRequest, OutOfMemory}
use Rattle.asl_json_rpc.specs.Calls.{IsCallOf}
use Rattle.asl_lsp_positions.specs.declared.position.Encoding.{Encoding}
use Rattle.asl_lsp.specs.declared.method.Request.{Request}
use Rattle.asl_lsp.specs.declared.method.Request.TheVariants as request
use Rattle.asl_lsp.specs.declared.method.Notification.{Notification}
use Rattle.asl_lsp.specs.declared.method.Notification.TheVariants as notification
use Rattle.asl_lsp.specs.declared.phase.Phase.{Phase}
use Rattle.asl_lsp.specs.declared.phase.Phase.TheVariants.{Uninitialized, Running, ShutDown, Exited}
use Rattle.asl_lsp.specs.declared.refusal.Refusal.TheVariants as refusal
use Rattle.asl_lsp.specs.Capabilities.{initialize_result}
use Rattle.asl_lsp.specs.Methods.{request_of, notification_of}
use Rattle.asl_lsp.specs.Params.{offered}
use Rattle.asl_lsp.specs.Replies.{Reply, result, refused, IsSent}
use Rattle.asl_lsp.specs.Requests.{asked}
use Rattle.asl_lsp.specs.Sessions.{Done, begun, noted}

abbrev pub has_ended : Phase → Bool
has_ended Exited = true
has_ended p = false

-- ---- requests: each is answered

abbrev pub Answered : Type 0
Answered = Phase × Reply

abbrev pub initialized_as : Id → Option Encoding → Answered
initialized_as i None = (Uninitialized, refused i refusal.BadParams)
initialized_as i (Some e) = (Running (begun e), result i (initialize_result e))

abbrev pub initialized : Id → Option Data → Answered
initialized i ps = initialized_as i (offered ps)

abbrev pub shut_down : Id → Answered
shut_down i = (ShutDown, result i null)

abbrev pub answered : Phase → Id → Request → Option Data → Answered
answered Uninitialized i request.Initialize ps = initialized i ps
answered Uninitialized i r ps = (Uninitialized, refused i refusal.NotInitialized)
answered (Running s) i request.Initialize ps = (Running s, refused i refusal.InitializedBefore)
answered (Running s) i request.Shutdown ps = shut_down i
answered (Running s) i (request.About q) ps = (Running s, asked s i q ps)
answered (Running s) i request.Unknown ps = (Running s, refused i refusal.UnknownMethod)
answered ShutDown i r ps = (ShutDown, refused i refusal.ShutDown)
answered Exited i r ps = (Exited, refused i refusal.ShutDown)

-- ---- notifications

abbrev pub Next : Type 0
Next = Phase × Option Reply

abbrev pub still_running : Done → Next
still_running d = (Running d.0, d.1)

-- `exit` ends the server at any time; the others are heard while it runs
abbrev pub notified : Phase → Notification → Option Data → Next
notified p notification.Exit ps = (Exited, None)
notified (Running s) n ps = still_running (noted s n ps)
notified p n ps = (p, None)

-- ---- all messages

abbrev pub answered_so : Answered → Next
answered_so a = (a.0, Some a.1)

abbrev pub data_in : Option Json → Option Data
data_in o = option_map data_of o

-- what comes of the server, and what is sent. Want of memory is no message
abbrev pub step : Phase → Result Incoming CallFault → Next
step p (Ok (incoming.Request i m ps)) = answered_so (answered p i (request_of m) (data_in ps))
step p (Ok (incoming.Notification m ps)) = notified p (notification_of m) (data_in ps)
step p (Ok incoming.Response) = (p, None)
step p (Err ParseError) = (p, Some (refused ids.Null refusal.NoJson))
step p (Err (InvalidRequest i)) = (p, Some (refused i refusal.NoCall))
step p (Err OutOfMemory) = (p, None)

-- a server at p receives a text, is at q then, and sends o
pub record IsReceived (p : Phase) (t : List ℕ) (q : Phase) (o : Option (List ℕ)) : Type 0 where
  pub call : Result Incoming CallFault
  pub reads : IsCallOf t call
  pub whole : call ≢ Err OutOfMemory
  pub next : q ≡ (step p call).0
  pub sent : IsSent (step p call).1 o
