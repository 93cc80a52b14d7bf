-- Whatever a row has done before an error, the error comes to the same behind it.
use Rattle.std.proofs.Common.{◌≡◌, ℕ, List, [], ◌∷◌, ◌++◌, Bool, true, false, Option, Some, None, if◌then◌else◌, refl, sym, subst, ◌∙◌}
use Rattle.std.specs.Prelude.{Ok, Err, codes}
use Rattle.std.specs.List.{All}
use Rattle.std.proofs.lemmas.List.{append_assoc, append-nil}
use Rattle.std.proofs.lemmas.List.Elements.{All-append, All-cons, All-nil}
use Rattle.asl_json_data.specs.Data.{Data}
use Rattle.asl_json.specs.Meaning.{value_in}
use Rattle.asl_json.specs.declared.value.Json.{Json}
use Rattle.asl_history.specs.declared.kind.EventKind.{EventKind}
use Rattle.asl_history.specs.declared.kind.EventKind.TheVariants.{MapIterationStarted, MapIterationSucceeded, MapIterationFailed}
use Rattle.asl_handle.specs.Decisions.{Handling, again, caught, unhandled, decision}
use Rattle.asl_step.specs.declared.effect.Children.TheVariants.{Kept}
use Rattle.asl_step.specs.declared.effect.Draft.{Draft}
use Rattle.asl_step.specs.declared.effect.Effect.{Effect}
use Rattle.asl_step.specs.declared.effect.Progress.{Progress}
use Rattle.asl_step.specs.declared.record.ErrorOut.{ErrorOut}
use Rattle.asl_step.specs.declared.record.Record.{Record}
use Rattle.asl_step.specs.declared.record.Record.TheVariants.{New, Ready, Pausing, Again, Forked, Done, Failed}
use Rattle.asl_step.specs.Records.{name_in, uses_in, error_name}
use Rattle.asl_step.specs.Rows.{draft, iteration_event, told_begin, entering, unstarted, beginning_by, told_success, left, told_failure, failing, leaving, error_output, is_within_limit, over_limit}
use Rattle.asl_step.specs.Seen.{Seen}
use Rattle.asl_step_io.specs.Paths.{Given, put_into}
use Rattle.asl_kinds.specs.Members.{next_in}
use Rattle.asl_kinds.specs.Table.{passed, handled, raised}
use Rattle.asl_step_laws.specs.Faults.{error_failing, TellsFirst, is_of_work, InvokesNothing}

-- no event tells of work
abbrev pub AreQuiet : List Draft → Type 0
AreQuiet = All (λ (e : Draft). is_of_work e.kind ≡ false)

-- the step does with the error, behind what was done, what is done with it by itself
pub record GoesOn (done : Progress) (error step : Effect) : Type 0 where
  pub tells : TellsFirst done.events error step
  pub count : step.raises ≡ done.raises
  pub branches : step.children ≡ done.children
  pub quiet : AreQuiet done.events → AreQuiet step.events

-- ---- events that are no work

none-quiet : AreQuiet []
none-quiet = All-nil (λ (e : Draft). is_of_work e.kind ≡ false)

one-quiet : (kind : EventKind) (name : List ℕ) (body : Json) → is_of_work kind ≡ false
    → AreQuiet (draft kind name body ∷ [])
one-quiet kind name body h =
    All-cons (λ (e : Draft). is_of_work e.kind ≡ false) (draft kind name body) [] h none-quiet

both-quiet : (before behind : List Draft) → AreQuiet before → AreQuiet behind
    → AreQuiet (before ++ behind)
both-quiet before behind h g =
    All-append (λ (e : Draft). is_of_work e.kind ≡ false) before behind h g

iteration-quiet : (kind : EventKind) (forker : Option (List ℕ)) (p : List ℕ)
    → is_of_work kind ≡ false → AreQuiet (iteration_event kind forker p)
iteration-quiet kind None p h = none-quiet
iteration-quiet kind (Some m) p h = one-quiet kind m _ h

failure-quiet : (forker : Option (List ℕ)) (p : List ℕ) (e : ErrorOut)
    → AreQuiet (told_failure forker p e)
failure-quiet forker [] e = one-quiet _ [] _ refl
failure-quiet forker (i ∷ p) e = iteration-quiet MapIterationFailed forker (i ∷ p) refl

success-quiet : (next forker : Option (List ℕ)) (p : List ℕ) (x : Json)
    → AreQuiet (told_success next forker p x)
success-quiet None forker [] x = one-quiet _ [] _ refl
success-quiet None forker (i ∷ p) x = iteration-quiet MapIterationSucceeded forker (i ∷ p) refl
success-quiet (Some n) forker p x = none-quiet

begin-quiet : (r : Record) (forker : Option (List ℕ)) (p : List ℕ)
    → AreQuiet (told_begin r forker p)
begin-quiet (New n x) forker p = iteration-quiet MapIterationStarted forker p refl
begin-quiet (Ready n x) forker p = none-quiet
begin-quiet (Pausing n x since until) forker p = none-quiet
begin-quiet (Again n x since uses until) forker p = none-quiet
begin-quiet (Forked n x since uses items) forker p = none-quiet
begin-quiet (Done x) forker p = none-quiet
begin-quiet (Failed e) forker p = none-quiet

-- ---- what an error comes to

pub failing-goes : (v : Seen) (done : Progress) (e : ErrorOut)
    → GoesOn done (error_failing v e) (failing v done e)
failing-goes v done e = record {
  tells = record { events = refl; after = refl; outcome = refl };
  count = refl;
  branches = refl;
  quiet = λ h. both-quiet done.events (told_failure v.forker v.place e) h
      (failure-quiet v.forker v.place e);
}

left-goes : (v : Seen) (done : Progress) (exited : EventKind) (next : Option (List ℕ)) (x : Json)
    → is_of_work exited ≡ false
    → GoesOn done (left v unstarted exited next x) (left v done exited next x)
left-goes v done exited next x idle = record {
  tells = record {
    events = append_assoc done.events (draft exited (name_in v.current) x ∷ [])
        (told_success next v.forker v.place x);
    after = refl;
    outcome = refl;
  };
  count = refl;
  branches = refl;
  quiet = λ h. both-quiet _ (told_success next v.forker v.place x)
      (both-quiet done.events _ h (one-quiet exited (name_in v.current) x idle))
      (success-quiet next v.forker v.place x);
}

leaving-goes : (v : Seen) (done : Progress) (exited : EventKind) (next : Option (List ℕ)) (x : Json)
    → is_of_work exited ≡ false
    → GoesOn done (leaving v unstarted exited next x) (leaving v done exited next x)
leaving-goes v done exited next x idle = by (is_within_limit x)
  where
    by : (b : Bool)
        → GoesOn done (if b then left v unstarted exited next x else failing v unstarted over_limit)
        (if b then left v done exited next x else failing v done over_limit)
    by true = left-goes v done exited next x idle
    by false = failing-goes v done over_limit

passed-goes : (v : Seen) (done : Progress) (exited : EventKind) (next : Option (List ℕ)) (g : Given)
    → is_of_work exited ≡ false
    → GoesOn done (passed v unstarted exited next g) (passed v done exited next g)
passed-goes v done exited next (Ok z) idle = leaving-goes v done exited next z idle
passed-goes v done exited next (Err e) idle = failing-goes v done e

handled-goes : (retry : Option Data) (v : Seen) (done : Progress) (exited : EventKind) (x : Json)
    (e : ErrorOut) (h : Handling) → is_of_work exited ≡ false
    → GoesOn done (handled retry v unstarted exited x e h) (handled retry v done exited x e h)
handled-goes retry v done exited x e (again i until) idle = record {
  tells = record { events = sym (append-nil done.events); after = refl; outcome = refl };
  count = refl;
  branches = refl;
  quiet = λ h. h;
}
handled-goes retry v done exited x e (caught c) idle =
    passed-goes v done exited (next_in c)
    (put_into (value_in (codes "ResultPath") c) x (error_output e)) idle
handled-goes retry v done exited x e unhandled idle = failing-goes v done e

pub raised-goes : (retry catch : Option Data) (v : Seen) (done : Progress) (exited : EventKind)
    (x : Json) (e : ErrorOut) → is_of_work exited ≡ false
    → GoesOn done (raised retry catch v unstarted exited x e)
    (raised retry catch v done exited x e)
raised-goes retry catch v done exited x e idle =
    handled-goes retry v done exited x e
    (decision retry catch (error_name e) (uses_in v.current) v.moment) idle

-- a step that is one does
pub goes-as : {done : Progress} {error step : Effect} (same : Effect) → step ≡ same
    → GoesOn done error same → GoesOn done error step
goes-as {done} {error} same e h = subst (GoesOn done error) (sym e) h

-- ---- where no work was done before, none is done

-- so far no work was done
pub record IsIdle (done : Progress) : Type 0 where
  pub quiet : AreQuiet done.events
  pub count : done.raises ≡ false
  pub branches : done.children ≡ Kept

pub entering-idle : (v : Seen) (entered : EventKind) (x : Json) → is_of_work entered ≡ false
    → IsIdle (entering v entered x)
entering-idle v entered x h = record {
  quiet = both-quiet (told_begin v.current v.forker v.place) _
      (begin-quiet v.current v.forker v.place) (one-quiet entered (name_in v.current) x h);
  count = refl;
  branches = refl;
}

pub beginning-idle : (v : Seen) (entered : EventKind) (x : Json) (r : Record)
    → is_of_work entered ≡ false → IsIdle (beginning_by v entered x r)
beginning-idle v entered x (New n y) h = entering-idle v entered x h
beginning-idle v entered x (Ready n y) h = entering-idle v entered x h
beginning-idle v entered x (Pausing n y since until) h = entering-idle v entered x h
beginning-idle v entered x (Again n y since uses until) h =
    record { quiet = none-quiet; count = refl; branches = refl }
beginning-idle v entered x (Forked n y since uses items) h = entering-idle v entered x h
beginning-idle v entered x (Done y) h = entering-idle v entered x h
beginning-idle v entered x (Failed e) h = entering-idle v entered x h

pub nothing-invoked : {done : Progress} {error step : Effect} → IsIdle done
    → GoesOn done error step → InvokesNothing step
nothing-invoked idle goes = record {
  told = goes.quiet idle.quiet;
  count = goes.count ∙ idle.count;
  branches = goes.branches ∙ idle.branches;
}
