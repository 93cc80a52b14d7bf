-- The bounds of the pieces.
use Rattle.std.specs.Prelude.{ℕ, Bool, true, false, List, [], ◌∷◌, ◌≡◌, ◌<◌, ◌≤◌, length, Option, IsSome, Some, None, if◌then◌else◌, refl}
use Rattle.std.proofs.Common.{arith, length-append, sym, ap, ◌∙◌}
use Rattle.asl_json.specs.declared.value.Json.{Json}
use Rattle.asl_history.specs.declared.kind.EventKind.{EventKind}
use Rattle.asl_step.specs.declared.effect.Effect.{Effect}
use Rattle.asl_step.specs.declared.effect.Children.{Children}
use Rattle.asl_step.specs.declared.effect.Children.TheVariants.{Kept, Removed, Forked}
use Rattle.asl_step.specs.declared.effect.Progress.{Progress}
use Rattle.asl_step.specs.declared.effect.Draft.{Draft}
use Rattle.asl_step.specs.declared.record.Record.{Record}
use Rattle.asl_step.specs.declared.record.Record.TheVariants.{New, Ready, Pausing, Again, Done, Failed, Forked as Waits}
use Rattle.asl_step.specs.declared.record.ErrorOut.{ErrorOut}
use Rattle.asl_step.specs.Records.{is_finished}
use Rattle.asl_step.specs.Seen.{Seen}
use Rattle.asl_step.specs.Bounds.{is_forked, are_kept, AreFew, IsBounded}
use Rattle.asl_step.specs.Rows.{idle, iteration_event, told_begin, entering, unstarted, beginning_by, retrying, pausing, moved, ended, told_success, left, failed, told_failure, failing, is_within_limit, over_limit, leaving}

-- what a row may have done before the state is left or fails
pub record IsSoFar (invoking : Bool) (done : Progress) : Type 0 where
  pub short : length done.events ≤ 6
  pub unforked : is_forked done.children ≡ false
  pub changes_tell : are_kept done.children ≡ false → 0 < length done.events
  pub raises : done.raises ≡ true → invoking ≡ true
  pub tells : done.raises ≡ true → 0 < length done.events

pub few-unforked : (c : Children) → is_forked c ≡ false → AreFew c
few-unforked Kept e = tt
few-unforked Removed e = tt
few-unforked (Forked rs) e = absurd (cc)

iteration-short : (kind : EventKind) (forker : Option (List ℕ)) (p : List ℕ)
    → length (iteration_event kind forker p) ≤ 1
iteration-short kind None p = omega arith
iteration-short kind (Some m) p = omega arith

success-short : (next : Option (List ℕ)) (forker : Option (List ℕ)) (p : List ℕ) (x : Json)
    → length (told_success next forker p x) ≤ 1
success-short None forker [] x = omega arith
success-short None forker (i ∷ p) x = iteration-short _ forker (i ∷ p)
success-short (Some n) forker p x = omega arith

ended-root : (next : Option (List ℕ)) (p : List ℕ) (x : Json) → IsSome (ended next p x) → p ≡ []
ended-root None [] x h = refl
ended-root None (i ∷ p) x h = (cc)
ended-root (Some n) p x h = (cc)

ended-finished : (next : Option (List ℕ)) (p : List ℕ) (x : Json) → IsSome (ended next p x)
    → is_finished (moved next x) ≡ true
ended-finished None p x h = refl
ended-finished (Some n) p x h = (cc)

ended-ends : (next : Option (List ℕ)) (p : List ℕ) (x : Json) → p ≡ []
    → is_finished (moved next x) ≡ true → IsSome (ended next p x)
ended-ends None [] x root over = refl
ended-ends None (i ∷ p) x root over = (cc)
ended-ends (Some n) p x root over = (cc)

failure-short : (forker : Option (List ℕ)) (p : List ℕ) (e : ErrorOut)
    → length (told_failure forker p e) ≤ 1
failure-short forker [] e = omega arith
failure-short forker (i ∷ p) e = iteration-short _ forker (i ∷ p)

failed-root : (p : List ℕ) (e : ErrorOut) → IsSome (failed p e) → p ≡ []
failed-root [] e h = refl
failed-root (i ∷ p) e h = (cc)

failed-ends : (p : List ℕ) (e : ErrorOut) → p ≡ [] → IsSome (failed p e)
failed-ends [] e root = refl
failed-ends (i ∷ p) e root = (cc)

left-bounded : (v : Seen) (invoking : Bool) (done : Progress) (exited : EventKind)
    (next : Option (List ℕ)) (x : Json) → IsSoFar invoking done
    → IsBounded v invoking (left v done exited next x)
left-bounded v invoking done exited next x so = record {
  few = omega (arith, length-append {A = Draft}, success-short next v.forker v.place x, so.short);
  changes_tell = λ e. omega (arith, length-append {A = Draft}, so.changes_tell e);
  raises = so.raises;
  tells = λ e. omega (arith, length-append {A = Draft}, so.tells e);
  at_root = ended-root next v.place x;
  only_ends = ended-finished next v.place x;
  ends = λ root _ over. ended-ends next v.place x root over;
}

pub failing-bounded : (v : Seen) (invoking : Bool) (done : Progress) (e : ErrorOut)
    → IsSoFar invoking done → IsBounded v invoking (failing v done e)
failing-bounded v invoking done e so = record {
  few = omega (arith, length-append {A = Draft}, failure-short v.forker v.place e, so.short);
  changes_tell = λ h. omega (arith, length-append {A = Draft}, so.changes_tell h);
  raises = so.raises;
  tells = λ h. omega (arith, length-append {A = Draft}, so.tells h);
  at_root = failed-root v.place e;
  only_ends = λ _. refl;
  ends = λ root _ over. failed-ends v.place e root;
}

pub chosen-bounded : (b : Bool) (v : Seen) (invoking : Bool) (e f : Effect) → IsBounded v invoking e
    → IsBounded v invoking f → IsBounded v invoking (if b then e else f)
chosen-bounded true v invoking e f h g = h
chosen-bounded false v invoking e f h g = g

pub leaving-bounded : (v : Seen) (invoking : Bool) (done : Progress) (exited : EventKind)
    (next : Option (List ℕ)) (x : Json) → IsSoFar invoking done
    → IsBounded v invoking (leaving v done exited next x)
leaving-bounded v invoking done exited next x so =
    chosen-bounded (is_within_limit x) v invoking _ _
    (left-bounded v invoking done exited next x so)
    (failing-bounded v invoking done over_limit so)

pub unstarted-so-far : (invoking : Bool) → IsSoFar invoking unstarted
unstarted-so-far invoking = record {
  short = omega arith;
  unforked = refl;
  changes_tell = λ e. (cc);
  raises = λ e. (cc);
  tells = λ e. (cc);
}

pub retrying-bounded : (v : Seen) (invoking : Bool) (done : Progress) (x : Json) (n i until : ℕ)
    → IsSoFar invoking done → IsBounded v invoking (retrying v done x n i until)
retrying-bounded v invoking done x n i until so = record {
  few = omega (arith, so.short);
  changes_tell = so.changes_tell;
  raises = so.raises;
  tells = so.tells;
  at_root = λ h. (cc);
  only_ends = λ h. (cc);
  ends = λ root _ over. (cc);
}

pub pausing-bounded : (v : Seen) (invoking : Bool) (done : Progress) (x : Json) (until : ℕ)
    → IsSoFar invoking done → IsBounded v invoking (pausing v done x until)
pausing-bounded v invoking done x until so = record {
  few = omega (arith, so.short);
  changes_tell = so.changes_tell;
  raises = so.raises;
  tells = so.tells;
  at_root = λ h. (cc);
  only_ends = λ h. (cc);
  ends = λ root _ over. (cc);
}

begin-short : (r : Record) (forker : Option (List ℕ)) (p : List ℕ)
    → length (told_begin r forker p) ≤ 1
begin-short (New n x) forker p = iteration-short _ forker p
begin-short (Ready n x) forker p = omega arith
begin-short (Pausing n x since until) forker p = omega arith
begin-short (Again n x since uses until) forker p = omega arith
begin-short (Waits n x since uses items) forker p = omega arith
begin-short (Done x) forker p = omega arith
begin-short (Failed e) forker p = omega arith

pub entering-so-far : (v : Seen) (invoking : Bool) (entered : EventKind) (x : Json)
    → IsSoFar invoking (entering v entered x)
entering-so-far v invoking entered x = record {
  short = omega (arith, length-append {A = Draft}, begin-short v.current v.forker v.place);
  unforked = refl;
  changes_tell = λ e. (cc);
  raises = λ e. (cc);
  tells = λ e. (cc);
}

-- a state that is entered or retried has told of two events at most
pub beginning-short : (v : Seen) (entered : EventKind) (x : Json) (r : Record)
    → length (beginning_by v entered x r).events ≤ 2
beginning-short v entered x (New n y) =
    omega (arith, length-append {A = Draft}, begin-short v.current v.forker v.place)
beginning-short v entered x (Ready n y) =
    omega (arith, length-append {A = Draft}, begin-short v.current v.forker v.place)
beginning-short v entered x (Pausing n y since until) =
    omega (arith, length-append {A = Draft}, begin-short v.current v.forker v.place)
beginning-short v entered x (Again n y since uses until) = omega arith
beginning-short v entered x (Waits n y since uses items) =
    omega (arith, length-append {A = Draft}, begin-short v.current v.forker v.place)
beginning-short v entered x (Done y) =
    omega (arith, length-append {A = Draft}, begin-short v.current v.forker v.place)
beginning-short v entered x (Failed e) =
    omega (arith, length-append {A = Draft}, begin-short v.current v.forker v.place)

pub beginning-kept : (v : Seen) (entered : EventKind) (x : Json) (r : Record)
    → (beginning_by v entered x r).children ≡ Kept
beginning-kept v entered x (New n y) = refl
beginning-kept v entered x (Ready n y) = refl
beginning-kept v entered x (Pausing n y since until) = refl
beginning-kept v entered x (Again n y since uses until) = refl
beginning-kept v entered x (Waits n y since uses items) = refl
beginning-kept v entered x (Done y) = refl
beginning-kept v entered x (Failed e) = refl

pub beginning-so-far : (v : Seen) (invoking : Bool) (entered : EventKind) (x : Json) (r : Record)
    → IsSoFar invoking (beginning_by v entered x r)
beginning-so-far v invoking entered x (New n y) = entering-so-far v invoking entered x
beginning-so-far v invoking entered x (Ready n y) = entering-so-far v invoking entered x
beginning-so-far v invoking entered x (Pausing n y since until) =
    entering-so-far v invoking entered x
beginning-so-far v invoking entered x (Again n y since uses until) = unstarted-so-far invoking
beginning-so-far v invoking entered x (Waits n y since uses items) =
    entering-so-far v invoking entered x
beginning-so-far v invoking entered x (Done y) = entering-so-far v invoking entered x
beginning-so-far v invoking entered x (Failed e) = entering-so-far v invoking entered x

pub idle-bounded : (v : Seen) (invoking : Bool) (r : Record) → v.current ≡ r
    → IsBounded v invoking (idle r)
idle-bounded v invoking r e = record {
  few = omega arith;
  changes_tell = λ h. (cc);
  raises = λ h. (cc);
  tells = λ h. (cc);
  at_root = λ h. (cc);
  only_ends = λ h. (cc);
  ends = λ root live over. let h : false ≡ true = sym live ∙ ap is_finished e ∙ over in (cc);
}
