-- What is said of other documents makes no difference.
use Rattle.std.proofs.Common.{◌≡◌, ℕ, Bool, true, false, cond, List, [], ◌∷◌, refl, sym, ap, subst, ◌∙◌}
use Rattle.std.specs.Prelude.{Option, Some, None, Ok, Err, not, is_some, if◌then◌else◌}
use Rattle.std.specs.List.{filter}
use Rattle.std.specs.Cmp.Lexicographic.{same_text}
use Rattle.asl_json_data.specs.Data.{Data}
use Rattle.asl_json.specs.Same.{bytes_eq}
use Rattle.asl_json.specs.private.SameLaws.{bytes_refl}
use Rattle.asl_json_rpc.specs.declared.id.Id.{Id}
use Rattle.asl_json_rpc.specs.declared.incoming.Incoming.TheVariants as incoming
use Rattle.asl_json_rpc.specs.declared.incoming.CallFault.TheVariants.{ParseError, InvalidRequest, OutOfMemory}
use Rattle.asl_lsp_positions.specs.declared.position.Encoding.{Encoding}
use Rattle.asl_lsp.specs.declared.document.Document.{Document}
use Rattle.asl_lsp.specs.declared.method.Query.{Query}
use Rattle.asl_lsp.specs.declared.method.Request.{Request}
use Rattle.asl_lsp.specs.declared.method.Request.TheVariants as request
use Rattle.asl_lsp.specs.declared.method.Notification.{Notification}
use Rattle.asl_lsp.specs.declared.method.Notification.TheVariants as notification
use Rattle.asl_lsp.specs.declared.phase.Phase.{Phase}
use Rattle.asl_lsp.specs.declared.phase.Phase.TheVariants.{Uninitialized, Running, ShutDown, Exited}
use Rattle.asl_lsp.specs.declared.session.Session.{Session}
use Rattle.asl_lsp.specs.Documents.{found, is_open, put, without}
use Rattle.asl_lsp.specs.Methods.{request_of, notification_of}
use Rattle.asl_lsp.specs.Params.{uri_of, document_by}
use Rattle.asl_lsp.specs.Replies.{Reply, diagnosed, cleared}
use Rattle.asl_lsp.specs.Sessions.{Done, ignored, accepted, opened, changed, changed_where, told_again, saved_at, closed_at, noted}
use Rattle.asl_lsp.specs.Requests.{asked_where, asked_about}
use Rattle.asl_lsp.specs.Server.{answered, notified, step, data_in}
use Rattle.asl_lsp.specs.Runs.{Call, sent_for, is_about, named_by, asked_for, concerns, sent_about}

-- ---- documents

itself : (d : Document) (o : Option Document) → (if bytes_eq d.uri d.uri then Some d else o) ≡ Some d
itself d o = ap (λ (b : Bool). if b then Some d else o) (bytes_refl d.uri)

put_same_by : (d e : Document) (es : List Document) (b : Bool) → bytes_eq d.uri e.uri ≡ b → found d.uri (put d es) ≡ Some d → found d.uri (if b then d ∷ es else e ∷ put d es) ≡ Some d
put_same_by d e es true x h = itself d (found d.uri es)
put_same_by d e es false x h = ap (λ (b : Bool). if b then Some e else found d.uri (put d es)) x ∙ h

pub put_same : (d : Document) (ds : List Document) → found d.uri (put d ds) ≡ Some d
put_same d [] = itself d None
put_same d (e ∷ es) = put_same_by d e es (bytes_eq d.uri e.uri) refl (put_same d es)

put_other_by : (u : List ℕ) (d e : Document) (es : List Document) (b : Bool) → bytes_eq d.uri e.uri ≡ b → bytes_eq u d.uri ≡ false → found u (put d es) ≡ found u es → found u (if b then d ∷ es else e ∷ put d es) ≡ found u (e ∷ es)
put_other_by u d e es true x n h =
    let m : bytes_eq u e.uri ≡ false = subst (λ (v : List ℕ). bytes_eq u v ≡ false) (same_text d.uri e.uri (sym x)) n in
    ap (λ (b : Bool). if b then Some d else found u es) n ∙ sym (ap (λ (b : Bool). if b then Some e else found u es) m)
put_other_by u d e es false x n h = ap (λ (o : Option Document). if bytes_eq u e.uri then Some e else o) h

put_other : (u : List ℕ) (d : Document) (ds : List Document) → bytes_eq u d.uri ≡ false → found u (put d ds) ≡ found u ds
put_other u d [] n = ap (λ (b : Bool). if b then Some d else None) n
put_other u d (e ∷ es) n = put_other_by u d e es (bytes_eq d.uri e.uri) refl n (put_other u d es n)

differ : (u v : List ℕ) → bytes_eq v u ≡ false → bytes_eq u v ≡ false
differ u v n = by (bytes_eq u v) refl
  where
    by : (b : Bool) → bytes_eq u v ≡ b → bytes_eq u v ≡ false
    by false x = x
    by true x = let same = same_text u v (sym x) in absurd (let again : bytes_eq v u ≡ true = subst (λ (w : List ℕ). bytes_eq v w ≡ true) (sym same) (bytes_refl v) in cc)

without_same_by : (u : List ℕ) (e : Document) (es : List Document) (b : Bool) → bytes_eq e.uri u ≡ b → found u (without u es) ≡ None → found u (cond (not b) (e ∷ without u es) (without u es)) ≡ None
without_same_by u e es true x h = h
without_same_by u e es false x h = ap (λ (b : Bool). if b then Some e else found u (without u es)) (differ u e.uri x) ∙ h

pub without_same : (u : List ℕ) (ds : List Document) → found u (without u ds) ≡ None
without_same u [] = refl
without_same u (e ∷ es) = without_same_by u e es (bytes_eq e.uri u) refl (without_same u es)

without_other_by : (u v : List ℕ) (e : Document) (es : List Document) (b : Bool) → bytes_eq e.uri v ≡ b → bytes_eq u v ≡ false → found u (without v es) ≡ found u es → found u (cond (not b) (e ∷ without v es) (without v es)) ≡ found u (e ∷ es)
without_other_by u v e es true x n h =
    let m : bytes_eq u e.uri ≡ false = subst (λ (w : List ℕ). bytes_eq u w ≡ false) (sym (same_text e.uri v (sym x))) n in
    h ∙ sym (ap (λ (b : Bool). if b then Some e else found u es) m)
without_other_by u v e es false x n h = ap (λ (o : Option Document). if bytes_eq u e.uri then Some e else o) h

without_other : (u v : List ℕ) (ds : List Document) → bytes_eq u v ≡ false → found u (without v ds) ≡ found u ds
without_other u v [] n = refl
without_other u v (e ∷ es) n = without_other_by u v e es (bytes_eq e.uri v) refl n (without_other u v es n)

-- ---- an open document has its last text

pub opened_found : (s : Session) (o : Option Document) (d : Document) → o ≡ Some d → found d.uri (opened s o).0.documents ≡ Some d
opened_found s o d e = subst (λ (p : Option Document). found d.uri (opened s p).0.documents ≡ Some d) (sym e) (put_same d s.documents)

changed_there : (s : Session) (d : Document) → is_open d.uri s.documents ≡ true → found d.uri (changed s d).0.documents ≡ Some d
changed_there s d there = subst (λ (b : Bool). found d.uri (if b then accepted s d else ignored s).0.documents ≡ Some d) (sym there) (put_same d s.documents)

pub changed_found : (s : Session) (o : Option Document) (d : Document) → o ≡ Some d → is_open d.uri s.documents ≡ true → found d.uri (changed_where s o).0.documents ≡ Some d
changed_found s o d e there = subst (λ (p : Option Document). found d.uri (changed_where s p).0.documents ≡ Some d) (sym e) (changed_there s d there)

none_there : (o : Option Document) → is_some o ≡ false → o ≡ None
none_there None e = refl
none_there (Some d) e = absurd (let h : true ≡ false = e in cc)

abbrev removed : Session → List ℕ → Done
removed s u = (record s { documents = without u s.documents }, Some (cleared u))

closed_there : (s : Session) (u : List ℕ) (b : Bool) → is_open u s.documents ≡ b → found u (if b then removed s u else ignored s).0.documents ≡ None
closed_there s u true e = without_same u s.documents
closed_there s u false e = none_there (found u s.documents) e

pub closed_found : (s : Session) (o : Option (List ℕ)) (u : List ℕ) → o ≡ Some u → found u (closed_at s o).0.documents ≡ None
closed_found s o u e = subst (λ (p : Option (List ℕ)). found u (closed_at s p).0.documents ≡ None) (sym e) (closed_there s u (is_open u s.documents) refl)

-- ---- sessions that are alike at one document

abbrev Alike : List ℕ → Session → Session → Type 0
Alike u s t = (s.encoding ≡ t.encoding) × (found u s.documents ≡ found u t.documents)

abbrev Same : List ℕ → Done → Done → Type 0
Same u a b = Alike u a.0 b.0 × (a.1 ≡ b.1)

there : (u : List ℕ) (d : Document) (ds : List Document) → bytes_eq u d.uri ≡ true → found u (put d ds) ≡ Some d
there u d ds e = subst (λ (v : List ℕ). found v (put d ds) ≡ Some d) (sym (same_text u d.uri (sym e))) (put_same d ds)

accepted_same : (u : List ℕ) (s t : Session) (d : Document) → bytes_eq u d.uri ≡ true → Alike u s t → Same u (accepted s d) (accepted t d)
accepted_same u s t d e h =
    ((h.0, there u d s.documents e ∙ sym (there u d t.documents e)), ap (λ (k : Encoding). Some (diagnosed k d)) h.0)

opened_same : (u : List ℕ) (s t : Session) (o v x : Option (List ℕ)) → is_about u o ≡ true → Alike u s t → Same u (opened s (document_by o v x)) (opened t (document_by o v x))
opened_same u s t None v x e h = (h, refl)
opened_same u s t (Some w) None x e h = (h, refl)
opened_same u s t (Some w) (Some v) None e h = (h, refl)
opened_same u s t (Some w) (Some v) (Some x) e h = accepted_same u s t (record { uri = w; version = v; text = x }) e h

-- whether it is open
open_same : (u w : List ℕ) (s t : Session) → bytes_eq u w ≡ true → Alike u s t → is_open w s.documents ≡ is_open w t.documents
open_same u w s t e h = subst (λ (v : List ℕ). is_open v s.documents ≡ is_open v t.documents) (same_text u w (sym e)) (ap (λ (o : Option Document). is_some o) h.1)

choice : (u : List ℕ) (s t : Session) (a b : Done) (p q : Bool) → p ≡ q → Alike u s t → Same u a b → Same u (if p then a else ignored s) (if q then b else ignored t)
choice u s t a b true true e h k = k
choice u s t a b false false e h k = (h, refl)
choice u s t a b true false e h k = absurd (cc)
choice u s t a b false true e h k = absurd (cc)

changed_same : (u : List ℕ) (s t : Session) (o v x : Option (List ℕ)) → is_about u o ≡ true → Alike u s t → Same u (changed_where s (document_by o v x)) (changed_where t (document_by o v x))
changed_same u s t None v x e h = (h, refl)
changed_same u s t (Some w) None x e h = (h, refl)
changed_same u s t (Some w) (Some v) None e h = (h, refl)
changed_same u s t (Some w) (Some v) (Some x) e h =
    let d : Document = record { uri = w; version = v; text = x } in
    choice u s t (accepted s d) (accepted t d) (is_open w s.documents) (is_open w t.documents) (open_same u w s t e h) h (accepted_same u s t d e h)

told_same : (s t : Session) (o : Option Document) → s.encoding ≡ t.encoding → told_again s o ≡ told_again t o
told_same s t None e = refl
told_same s t (Some d) e = ap (λ (k : Encoding). Some (diagnosed k d)) e

saved_same : (u : List ℕ) (s t : Session) (o : Option (List ℕ)) → is_about u o ≡ true → Alike u s t → saved_at s o ≡ saved_at t o
saved_same u s t None e h = refl
saved_same u s t (Some w) e h =
    told_same s t (found w s.documents) h.0
    ∙ ap (told_again t) (subst (λ (v : List ℕ). found v s.documents ≡ found v t.documents) (same_text u w (sym e)) h.1)

removed_same : (u w : List ℕ) (s t : Session) → bytes_eq u w ≡ true → Alike u s t → Same u (removed s w) (removed t w)
removed_same u w s t e h =
    let gone : (r : Session) → found u (without w r.documents) ≡ None = λ (r : Session). subst (λ (v : List ℕ). found u (without v r.documents) ≡ None) (same_text u w (sym e)) (without_same u r.documents) in
    ((h.0, gone s ∙ sym (gone t)), refl)

closed_same : (u : List ℕ) (s t : Session) (o : Option (List ℕ)) → is_about u o ≡ true → Alike u s t → Same u (closed_at s o) (closed_at t o)
closed_same u s t None e h = (h, refl)
closed_same u s t (Some w) e h = choice u s t (removed s w) (removed t w) (is_open w s.documents) (is_open w t.documents) (open_same u w s t e h) h (removed_same u w s t e h)

noted_same : (u : List ℕ) (s t : Session) (n : Notification) (ps : Option Data) → is_about u (named_by n ps) ≡ true → Alike u s t → Same u (noted s n ps) (noted t n ps)
noted_same u s t notification.DidOpen ps e h = opened_same u s t (uri_of ps) _ _ e h
noted_same u s t notification.DidChange ps e h = changed_same u s t (uri_of ps) _ _ e h
noted_same u s t notification.DidSave ps e h = (h, saved_same u s t (uri_of ps) e h)
noted_same u s t notification.DidClose ps e h = closed_same u s t (uri_of ps) e h
noted_same u s t notification.Exit ps e h = (h, refl)
noted_same u s t notification.Unknown ps e h = (h, refl)

-- ---- a message about another document

itself_alike : (u : List ℕ) (s : Session) → Alike u s s
itself_alike u s = (refl, refl)

none_about : (u : List ℕ) → is_about u None ≡ false → ⊥
none_about u e = let h : true ≡ false = e in cc

opened_kept : (u : List ℕ) (s : Session) (o v x : Option (List ℕ)) → is_about u o ≡ false → Alike u (opened s (document_by o v x)).0 s
opened_kept u s None v x e = absurd (none_about u e)
opened_kept u s (Some w) None x e = itself_alike u s
opened_kept u s (Some w) (Some v) None e = itself_alike u s
opened_kept u s (Some w) (Some v) (Some x) e = (refl, put_other u (record { uri = w; version = v; text = x }) s.documents e)

chosen_kept : (u : List ℕ) (s : Session) (a : Done) (b : Bool) → Alike u a.0 s → Alike u (if b then a else ignored s).0 s
chosen_kept u s a true h = h
chosen_kept u s a false h = itself_alike u s

changed_kept : (u : List ℕ) (s : Session) (o v x : Option (List ℕ)) → is_about u o ≡ false → Alike u (changed_where s (document_by o v x)).0 s
changed_kept u s None v x e = absurd (none_about u e)
changed_kept u s (Some w) None x e = itself_alike u s
changed_kept u s (Some w) (Some v) None e = itself_alike u s
changed_kept u s (Some w) (Some v) (Some x) e =
    let d : Document = record { uri = w; version = v; text = x } in
    chosen_kept u s (accepted s d) (is_open w s.documents) (refl, put_other u d s.documents e)

closed_kept : (u : List ℕ) (s : Session) (o : Option (List ℕ)) → is_about u o ≡ false → Alike u (closed_at s o).0 s
closed_kept u s None e = absurd (none_about u e)
closed_kept u s (Some w) e = chosen_kept u s (removed s w) (is_open w s.documents) (refl, without_other u w s.documents e)

noted_kept : (u : List ℕ) (s : Session) (n : Notification) (ps : Option Data) → is_about u (named_by n ps) ≡ false → Alike u (noted s n ps).0 s
noted_kept u s notification.DidOpen ps e = opened_kept u s (uri_of ps) _ _ e
noted_kept u s notification.DidChange ps e = changed_kept u s (uri_of ps) _ _ e
noted_kept u s notification.DidSave ps e = itself_alike u s
noted_kept u s notification.DidClose ps e = closed_kept u s (uri_of ps) e
noted_kept u s notification.Exit ps e = itself_alike u s
noted_kept u s notification.Unknown ps e = itself_alike u s

-- ---- servers that are alike at one document

abbrev AlikeAt : List ℕ → Phase → Phase → Type 0
AlikeAt u Uninitialized Uninitialized = Unit {0}
AlikeAt u (Running s) (Running t) = Alike u s t
AlikeAt u ShutDown ShutDown = Unit {0}
AlikeAt u Exited Exited = Unit {0}
AlikeAt u p q = ⊥

itself_at : (u : List ℕ) (p : Phase) → AlikeAt u p p
itself_at u Uninitialized = tt
itself_at u (Running s) = itself_alike u s
itself_at u ShutDown = tt
itself_at u Exited = tt

through : (u : List ℕ) (p q r : Phase) → AlikeAt u p q → AlikeAt u q r → AlikeAt u p r
through u Uninitialized Uninitialized Uninitialized h k = tt
through u (Running s) (Running t) (Running r) h k = (h.0 ∙ k.0, h.1 ∙ k.1)
through u ShutDown ShutDown ShutDown h k = tt
through u Exited Exited Exited h k = tt
through u Uninitialized Uninitialized r h k = absurd k
through u (Running s) (Running t) r h k = absurd k
through u ShutDown ShutDown r h k = absurd k
through u Exited Exited r h k = absurd k
through u p q r h k = absurd h

-- a question about the document, or about none
about_same : (u : List ℕ) (s t : Session) (i : Id) (k : Query) (ps : Option Data) (o : Option (List ℕ)) → is_about u o ≡ true → Alike u s t → asked_about s i k ps o ≡ asked_about t i k ps o
about_same u s t i k ps None e h = refl
about_same u s t i k ps (Some w) e h =
    let f = subst (λ (v : List ℕ). found v s.documents ≡ found v t.documents) (same_text u w (sym e)) h.1 in
    ap (λ (x : Encoding). asked_where i x k ps (found w s.documents)) h.0 ∙ ap (λ (d : Option Document). asked_where i t.encoding k ps d) f

answered_same : (u : List ℕ) (p q : Phase) (i : Id) (r : Request) (ps : Option Data) → is_about u (asked_for r ps) ≡ true → AlikeAt u p q → AlikeAt u (answered p i r ps).0 (answered q i r ps).0 × (Some (answered p i r ps).1 ≡ Some (answered q i r ps).1)
answered_same u Uninitialized Uninitialized i r ps e h = (itself_at u (answered Uninitialized i r ps).0, refl)
answered_same u (Running s) (Running t) i request.Initialize ps e h = (h, refl)
answered_same u (Running s) (Running t) i request.Shutdown ps e h = (tt, refl)
answered_same u (Running s) (Running t) i (request.About k) ps e h = (h, ap (λ (a : Reply). Some a) (about_same u s t i k ps (uri_of ps) e h))
answered_same u (Running s) (Running t) i request.Unknown ps e h = (h, refl)
answered_same u ShutDown ShutDown i r ps e h = (tt, refl)
answered_same u Exited Exited i r ps e h = (tt, refl)
answered_same u p q i r ps e h = absurd h

-- a question changes nothing
answered_kept : (u : List ℕ) (p : Phase) (i : Id) (r : Request) (ps : Option Data) → is_about u (asked_for r ps) ≡ false → AlikeAt u (answered p i r ps).0 p
answered_kept u p i request.Initialize ps e = absurd (none_about u e)
answered_kept u p i request.Shutdown ps e = absurd (none_about u e)
answered_kept u p i request.Unknown ps e = absurd (none_about u e)
answered_kept u Uninitialized i (request.About k) ps e = tt
answered_kept u (Running s) i (request.About k) ps e = itself_alike u s
answered_kept u ShutDown i (request.About k) ps e = tt
answered_kept u Exited i (request.About k) ps e = tt

notified_same : (u : List ℕ) (p q : Phase) (n : Notification) (ps : Option Data) → is_about u (named_by n ps) ≡ true → AlikeAt u p q → AlikeAt u (notified p n ps).0 (notified q n ps).0 × ((notified p n ps).1 ≡ (notified q n ps).1)
notified_same u p q notification.Exit ps e h = (tt, refl)
notified_same u (Running s) (Running t) notification.DidOpen ps e h = noted_same u s t notification.DidOpen ps e h
notified_same u (Running s) (Running t) notification.DidChange ps e h = noted_same u s t notification.DidChange ps e h
notified_same u (Running s) (Running t) notification.DidSave ps e h = noted_same u s t notification.DidSave ps e h
notified_same u (Running s) (Running t) notification.DidClose ps e h = noted_same u s t notification.DidClose ps e h
notified_same u (Running s) (Running t) notification.Unknown ps e h = (h, refl)
notified_same u Uninitialized Uninitialized n ps e h = (tt, refl)
notified_same u ShutDown ShutDown n ps e h = (tt, refl)
notified_same u Exited Exited n ps e h = (tt, refl)
notified_same u p q n ps e h = absurd h

notified_kept : (u : List ℕ) (p : Phase) (n : Notification) (ps : Option Data) → is_about u (named_by n ps) ≡ false → AlikeAt u (notified p n ps).0 p
notified_kept u p notification.Exit ps e = absurd (none_about u e)
notified_kept u (Running s) notification.DidOpen ps e = noted_kept u s notification.DidOpen ps e
notified_kept u (Running s) notification.DidChange ps e = noted_kept u s notification.DidChange ps e
notified_kept u (Running s) notification.DidSave ps e = noted_kept u s notification.DidSave ps e
notified_kept u (Running s) notification.DidClose ps e = noted_kept u s notification.DidClose ps e
notified_kept u (Running s) notification.Unknown ps e = itself_alike u s
notified_kept u Uninitialized n ps e = tt
notified_kept u ShutDown n ps e = tt
notified_kept u Exited n ps e = tt

-- ---- all messages

step_same : (u : List ℕ) (p q : Phase) (c : Call) → concerns u c ≡ true → AlikeAt u p q → AlikeAt u (step p c).0 (step q c).0 × ((step p c).1 ≡ (step q c).1)
step_same u p q (Ok (incoming.Request i m ps)) e h = answered_same u p q i (request_of m) (data_in ps) e h
step_same u p q (Ok (incoming.Notification m ps)) e h = notified_same u p q (notification_of m) (data_in ps) e h
step_same u p q (Ok incoming.Response) e h = (h, refl)
step_same u p q (Err ParseError) e h = (h, refl)
step_same u p q (Err (InvalidRequest i)) e h = (h, refl)
step_same u p q (Err OutOfMemory) e h = (h, refl)

step_kept : (u : List ℕ) (p : Phase) (c : Call) → concerns u c ≡ false → AlikeAt u (step p c).0 p
step_kept u p (Ok (incoming.Request i m ps)) e = answered_kept u p i (request_of m) (data_in ps) e
step_kept u p (Ok (incoming.Notification m ps)) e = notified_kept u p (notification_of m) (data_in ps) e
step_kept u p (Ok incoming.Response) e = absurd (none_about u e)
step_kept u p (Err ParseError) e = absurd (none_about u e)
step_kept u p (Err (InvalidRequest i)) e = absurd (none_about u e)
step_kept u p (Err OutOfMemory) e = absurd (none_about u e)

-- by whether the first message is about the document
abbrev RestIsSame : List ℕ → List Call → Type 0
RestIsSame u cs = (p q : Phase) → AlikeAt u p q → sent_about u p cs ≡ sent_for q (filter (concerns u) cs)

first_same : (u : List ℕ) (p q : Phase) (c : Call) (cs : List Call) (b : Bool) → concerns u c ≡ b → AlikeAt u p q → RestIsSame u cs
    → (if b then (step p c).1 ∷ sent_about u (step p c).0 cs else sent_about u (step p c).0 cs) ≡ sent_for q (cond b (c ∷ filter (concerns u) cs) (filter (concerns u) cs))
first_same u p q c cs true e h rest =
    let s = step_same u p q c e h in
    ap (λ (o : Option Reply). o ∷ sent_about u (step p c).0 cs) s.1
    ∙ ap (λ (os : List (Option Reply)). (step q c).1 ∷ os) (rest (step p c).0 (step q c).0 s.0)
first_same u p q c cs false e h rest = rest (step p c).0 q (through u (step p c).0 p q (step_kept u p c e) h)

rest_same : (u : List ℕ) (cs : List Call) → RestIsSame u cs
rest_same u [] p q h = refl
rest_same u (c ∷ cs) p q h = first_same u p q c cs (concerns u c) refl h (rest_same u cs)

pub all_same : (u : List ℕ) (p : Phase) (cs : List Call) → sent_about u p cs ≡ sent_for p (filter (concerns u) cs)
all_same u p cs = rest_same u cs p p (itself_at u p)
