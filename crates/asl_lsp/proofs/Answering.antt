-- Each request is answered once.
use Rattle.std.proofs.Common.{◌≡◌, ℕ, true, false, List, [], ◌∷◌, refl, ap, ◌∙◌}
use Rattle.std.specs.Prelude.{Option, Some, None, Ok, Err, map, if◌then◌else◌}
use Rattle.asl_json_data.specs.Data.{Data}
use Rattle.asl_json_rpc.specs.declared.id.Id.{Id}
use Rattle.asl_json_rpc.specs.declared.incoming.Incoming.TheVariants as incoming
use Rattle.asl_json_rpc.specs.declared.incoming.CallFault.TheVariants.{ParseError, InvalidRequest, OutOfMemory}
use Rattle.asl_lsp_positions.specs.declared.position.Encoding.{Encoding}
use Rattle.asl_lsp_positions.specs.declared.position.Position.{Position}
use Rattle.asl_lsp_features.specs.declared.spot.Sought.{Sought}
use Rattle.asl_lsp_features.specs.declared.spot.Sought.TheVariants.{Declaration}
use Rattle.asl_lsp.specs.declared.document.Document.{Document}
use Rattle.asl_lsp.specs.declared.method.Query.{Query}
use Rattle.asl_lsp.specs.declared.method.Query.TheVariants as query
use Rattle.asl_lsp.specs.declared.method.Request.{Request}
use Rattle.asl_lsp.specs.declared.method.Request.TheVariants as request
use Rattle.asl_lsp.specs.declared.method.Notification.{Notification}
use Rattle.asl_lsp.specs.declared.method.Notification.TheVariants as notification
use Rattle.asl_lsp.specs.declared.phase.Phase.{Phase}
use Rattle.asl_lsp.specs.declared.phase.Phase.TheVariants.{Uninitialized, Running, ShutDown, Exited}
use Rattle.asl_lsp.specs.declared.session.Session.{Session}
use Rattle.asl_lsp.specs.Documents.{found, is_open, without}
use Rattle.asl_lsp.specs.Methods.{request_of, notification_of}
use Rattle.asl_lsp.specs.Params.{uri_of, offered, opened_document, changed_document, position_of, sought_of, new_name_of}
use Rattle.asl_lsp.specs.Requests.{places, preparing, renaming, asked_of, unopened, asked_where, asked_about}
use Rattle.asl_lsp.specs.Sessions.{ignored, accepted, opened, changed_where, told_again, saved_at, closed_at, noted}
use Rattle.asl_lsp.specs.Replies.{cleared}
use Rattle.asl_lsp.specs.Server.{initialized_as, answered, notified, step, data_in}
use Rattle.asl_lsp.specs.Runs.{Call, sent_for, answered_id, asked_id}

-- ---- requests

initialized_id : (i : Id) (o : Option Encoding) → answered_id (Some (initialized_as i o).1) ≡ Some i
initialized_id i None = refl
initialized_id i (Some e) = refl

places_id : (i : Id) (e : Encoding) (d : Document) (w : Option Sought) (p : Option Position) → answered_id (Some (places i e d w p)) ≡ Some i
places_id i e d (Some w) (Some p) = refl
places_id i e d (Some w) None = refl
places_id i e d None p = refl

preparing_id : (i : Id) (e : Encoding) (d : Document) (p : Option Position) → answered_id (Some (preparing i e d p)) ≡ Some i
preparing_id i e d (Some p) = refl
preparing_id i e d None = refl

renaming_id : (i : Id) (e : Encoding) (d : Document) (n : Option (List ℕ)) (p : Option Position) → answered_id (Some (renaming i e d n p)) ≡ Some i
renaming_id i e d (Some n) (Some p) = refl
renaming_id i e d (Some n) None = refl
renaming_id i e d None p = refl

open_id : (i : Id) (e : Encoding) (d : Document) (q : Query) (ps : Option Data) → answered_id (Some (asked_of i e d q ps)) ≡ Some i
open_id i e d query.Formatting ps = refl
open_id i e d query.Definition ps = places_id i e d (Some Declaration) (position_of ps)
open_id i e d query.References ps = places_id i e d (sought_of ps) (position_of ps)
open_id i e d query.PrepareRename ps = preparing_id i e d (position_of ps)
open_id i e d query.Rename ps = renaming_id i e d (new_name_of ps) (position_of ps)

unopened_id : (i : Id) (q : Query) → answered_id (Some (unopened i q)) ≡ Some i
unopened_id i query.Formatting = refl
unopened_id i query.Definition = refl
unopened_id i query.References = refl
unopened_id i query.PrepareRename = refl
unopened_id i query.Rename = refl

where_id : (i : Id) (e : Encoding) (q : Query) (ps : Option Data) (o : Option Document) → answered_id (Some (asked_where i e q ps o)) ≡ Some i
where_id i e q ps None = unopened_id i q
where_id i e q ps (Some d) = open_id i e d q ps

asked_id_of : (s : Session) (i : Id) (q : Query) (ps : Option Data) (o : Option (List ℕ)) → answered_id (Some (asked_about s i q ps o)) ≡ Some i
asked_id_of s i q ps None = refl
asked_id_of s i q ps (Some u) = where_id i s.encoding q ps (found u s.documents)

request_id : (p : Phase) (i : Id) (r : Request) (ps : Option Data) → answered_id (Some (answered p i r ps).1) ≡ Some i
request_id Uninitialized i request.Initialize ps = initialized_id i (offered ps)
request_id Uninitialized i request.Shutdown ps = refl
request_id Uninitialized i (request.About q) ps = refl
request_id Uninitialized i request.Unknown ps = refl
request_id (Running s) i request.Initialize ps = refl
request_id (Running s) i request.Shutdown ps = refl
request_id (Running s) i (request.About q) ps = asked_id_of s i q ps (uri_of ps)
request_id (Running s) i request.Unknown ps = refl
request_id ShutDown i r ps = refl
request_id Exited i r ps = refl

-- ---- notifications

opened_id : (s : Session) (o : Option Document) → answered_id (opened s o).1 ≡ None
opened_id s None = refl
opened_id s (Some d) = refl

changed_id : (s : Session) (o : Option Document) → answered_id (changed_where s o).1 ≡ None
changed_id s None = refl
changed_id s (Some d) = elim (is_open d.uri s.documents) as (λ b. answered_id (if b then accepted s d else ignored s).1 ≡ None) [ true ↦ refl | false ↦ refl ]

told_id : (s : Session) (o : Option Document) → answered_id (told_again s o) ≡ None
told_id s None = refl
told_id s (Some d) = refl

saved_id : (s : Session) (o : Option (List ℕ)) → answered_id (saved_at s o) ≡ None
saved_id s None = refl
saved_id s (Some u) = told_id s (found u s.documents)

closed_id : (s : Session) (o : Option (List ℕ)) → answered_id (closed_at s o).1 ≡ None
closed_id s None = refl
closed_id s (Some u) = elim (is_open u s.documents) as (λ b. answered_id (if b then (record s { documents = without u s.documents }, Some (cleared u)) else ignored s).1 ≡ None) [ true ↦ refl | false ↦ refl ]

noted_id : (s : Session) (n : Notification) (ps : Option Data) → answered_id (noted s n ps).1 ≡ None
noted_id s notification.DidOpen ps = opened_id s (opened_document ps)
noted_id s notification.DidChange ps = changed_id s (changed_document ps)
noted_id s notification.DidSave ps = saved_id s (uri_of ps)
noted_id s notification.DidClose ps = closed_id s (uri_of ps)
noted_id s notification.Exit ps = refl
noted_id s notification.Unknown ps = refl

notified_id : (p : Phase) (n : Notification) (ps : Option Data) → answered_id (notified p n ps).1 ≡ None
notified_id (Running s) notification.Exit ps = refl
notified_id (Running s) notification.DidOpen ps = noted_id s notification.DidOpen ps
notified_id (Running s) notification.DidChange ps = noted_id s notification.DidChange ps
notified_id (Running s) notification.DidSave ps = noted_id s notification.DidSave ps
notified_id (Running s) notification.DidClose ps = noted_id s notification.DidClose ps
notified_id (Running s) notification.Unknown ps = refl
notified_id Uninitialized notification.Exit ps = refl
notified_id Uninitialized n ps = refl
notified_id ShutDown notification.Exit ps = refl
notified_id ShutDown n ps = refl
notified_id Exited notification.Exit ps = refl
notified_id Exited n ps = refl

-- ---- all messages

call_id : (p : Phase) (c : Call) → answered_id (step p c).1 ≡ asked_id c
call_id p (Ok (incoming.Request i m ps)) = request_id p i (request_of m) (data_in ps)
call_id p (Ok (incoming.Notification m ps)) = notified_id p (notification_of m) (data_in ps)
call_id p (Ok incoming.Response) = refl
call_id p (Err ParseError) = refl
call_id p (Err (InvalidRequest i)) = refl
call_id p (Err OutOfMemory) = refl

pub all_ids : (p : Phase) (cs : List Call) → map answered_id (sent_for p cs) ≡ map asked_id cs
all_ids p [] = refl
all_ids p (c ∷ cs) =
    ap (λ (o : Option Id). o ∷ map answered_id (sent_for (step p c).0 cs)) (call_id p c)
    ∙ ap (λ (os : List (Option Id)). asked_id c ∷ os) (all_ids (step p c).0 cs)
