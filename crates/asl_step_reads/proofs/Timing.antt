-- Two steps that read the same but for moments.
use Rattle.std.proofs.Common.{◌≡◌, ℕ, List, [], ◌∷◌, ◌++◌, Bool, true, false, refl, ap, ◌∙◌, sym, cond, Option, Some, None, map}
use Rattle.std.specs.Prelude.{Ok, Err, codes, nat_lt}
use Rattle.std.specs.Option.{option_or}
use Rattle.asl_json_data.specs.Data.{Data}
use Rattle.asl_json.specs.Meaning.{value_in}
use Rattle.asl_json.specs.declared.value.Json.{Json}
use Rattle.asl_history.specs.declared.kind.EventKind.{EventKind}
use Rattle.asl_def_fields.specs.Retries.{attempts_of}
use Rattle.asl_handle.specs.Decisions.{again, handlers_in, first_for, used, wait_after, delayed, retried, caught_by, decision}
use Rattle.asl_def_schema.specs.Claims.{item_count}
use Rattle.asl_step.specs.declared.effect.Effect.{Effect}
use Rattle.asl_step.specs.declared.effect.Progress.{Progress}
use Rattle.asl_step.specs.declared.effect.Children.TheVariants.{Kept, Forked as Made}
use Rattle.asl_step.specs.declared.record.ErrorOut.{ErrorOut}
use Rattle.asl_step.specs.declared.record.Record.{Record}
use Rattle.asl_step.specs.declared.record.Record.TheVariants.{New, Ready, Pausing, Again, Forked, Done, Failed}
use Rattle.asl_step.specs.Records.{name_in, uses_in, uses_from, uses_after, entering_with, beginning_with, pausing_with, error_name}
use Rattle.asl_step.specs.Seen.{Seen}
use Rattle.asl_step.specs.Rows.{draft, idle, told_begin, entering, beginning_by, beginning, telling, retrying, forking, pausing, moved, ended, told_success, left, failed, told_failure, failing, leaving, error_output, is_within_limit, over_limit}
use Rattle.asl_step_io.specs.Paths.{Given, put_into}
use Rattle.asl_kinds.specs.Members.{next_in}
use Rattle.asl_kinds.specs.Forks.{forked_with, error_in, first_error, output_in, output_before, outputs}
use Rattle.asl_kinds.specs.Table.{passed, handled, raised, settled}
use Rattle.asl_step_reads.specs.Steps.{timeless_record, timeless, timeless_effect}

-- ---- what of a record hangs on no moment

name_stays : (r : Record) → name_in (timeless_record r) ≡ name_in r
name_stays (New n x) = refl
name_stays (Ready n x) = refl
name_stays (Pausing n x since until) = refl
name_stays (Again n x since uses until) = refl
name_stays (Forked n x since uses items) = refl
name_stays (Done x) = refl
name_stays (Failed e) = refl

uses_stay : (r : Record) → uses_in (timeless_record r) ≡ uses_in r
uses_stay (New n x) = refl
uses_stay (Ready n x) = refl
uses_stay (Pausing n x since until) = refl
uses_stay (Again n x since uses until) = refl
uses_stay (Forked n x since uses items) = refl
uses_stay (Done x) = refl
uses_stay (Failed e) = refl

entering_stays : (r : Record) → entering_with (timeless_record r) ≡ entering_with r
entering_stays (New n x) = refl
entering_stays (Ready n x) = refl
entering_stays (Pausing n x since until) = refl
entering_stays (Again n x since uses until) = refl
entering_stays (Forked n x since uses items) = refl
entering_stays (Done x) = refl
entering_stays (Failed e) = refl

beginning_stays : (r : Record) → beginning_with (timeless_record r) ≡ beginning_with r
beginning_stays (New n x) = refl
beginning_stays (Ready n x) = refl
beginning_stays (Pausing n x since until) = refl
beginning_stays (Again n x since uses until) = refl
beginning_stays (Forked n x since uses items) = refl
beginning_stays (Done x) = refl
beginning_stays (Failed e) = refl

pausing_stays : (r : Record) → pausing_with (timeless_record r) ≡ pausing_with r
pausing_stays (New n x) = refl
pausing_stays (Ready n x) = refl
pausing_stays (Pausing n x since until) = refl
pausing_stays (Again n x since uses until) = refl
pausing_stays (Forked n x since uses items) = refl
pausing_stays (Done x) = refl
pausing_stays (Failed e) = refl

forked_stays : (r : Record) → forked_with (timeless_record r) ≡ forked_with r
forked_stays (New n x) = refl
forked_stays (Ready n x) = refl
forked_stays (Pausing n x since until) = refl
forked_stays (Again n x since uses until) = refl
forked_stays (Forked n x since uses items) = refl
forked_stays (Done x) = refl
forked_stays (Failed e) = refl

told_stays : (r : Record) (forker : Option (List ℕ)) (p : List ℕ) → told_begin (timeless_record r) forker p ≡ told_begin r forker p
told_stays (New n x) forker p = refl
told_stays (Ready n x) forker p = refl
told_stays (Pausing n x since until) forker p = refl
told_stays (Again n x since uses until) forker p = refl
told_stays (Forked n x since uses items) forker p = refl
told_stays (Done x) forker p = refl
told_stays (Failed e) forker p = refl

error_stays : (r : Record) → error_in (timeless_record r) ≡ error_in r
error_stays (New n x) = refl
error_stays (Ready n x) = refl
error_stays (Pausing n x since until) = refl
error_stays (Again n x since uses until) = refl
error_stays (Forked n x since uses items) = refl
error_stays (Done x) = refl
error_stays (Failed e) = refl

output_stays : (r : Record) → output_in (timeless_record r) ≡ output_in r
output_stays (New n x) = refl
output_stays (Ready n x) = refl
output_stays (Pausing n x since until) = refl
output_stays (Again n x since uses until) = refl
output_stays (Forked n x since uses items) = refl
output_stays (Done x) = refl
output_stays (Failed e) = refl

errors_stay : (rs : List Record) → first_error (map timeless_record rs) ≡ first_error rs
errors_stay [] = refl
errors_stay (r ∷ rs) = λ i. option_or (error_stays r i) (errors_stay rs i)

outputs_stay : (rs : List Record) → outputs (map timeless_record rs) ≡ outputs rs
outputs_stay [] = refl
outputs_stay (r ∷ rs) = λ i. output_before (output_stays r i) (outputs_stay rs i)

-- by the record alone
begins_stay : (v : Seen) (entered : EventKind) (x : Json) (r : Record) → beginning_by v entered x (timeless_record r) ≡ beginning_by v entered x r
begins_stay v entered x (New n y) = refl
begins_stay v entered x (Ready n y) = refl
begins_stay v entered x (Pausing n y since until) = refl
begins_stay v entered x (Again n y since uses until) = refl
begins_stay v entered x (Forked n y since uses items) = refl
begins_stay v entered x (Done y) = refl
begins_stay v entered x (Failed e) = refl

entering_by : (v : Seen) (entered : EventKind) (x : Json) → entering (timeless v) entered x ≡ entering v entered x
entering_by v entered x = λ i. record { children = Kept; raises = false; events = told_stays v.current v.forker v.place i ++ draft entered (name_stays v.current i) x ∷ [] }

timeless_begins : (v : Seen) (entered : EventKind) (x : Json) (r : Record) → beginning_by (timeless v) entered x r ≡ beginning_by v entered x r
timeless_begins v entered x (New n y) = entering_by v entered x
timeless_begins v entered x (Ready n y) = entering_by v entered x
timeless_begins v entered x (Pausing n y since until) = entering_by v entered x
timeless_begins v entered x (Again n y since uses until) = refl
timeless_begins v entered x (Forked n y since uses items) = entering_by v entered x
timeless_begins v entered x (Done y) = entering_by v entered x
timeless_begins v entered x (Failed e) = entering_by v entered x

-- ---- of two steps

module _ (u v : Seen) (same : timeless u ≡ timeless v) where
  pub place_is : u.place ≡ v.place
  place_is = λ i. (same i).place

  pub forker_is : u.forker ≡ v.forker
  forker_is = λ i. (same i).forker

  pub iteration_is : u.iteration ≡ v.iteration
  iteration_is = λ i. (same i).iteration

  pub invokes_is : u.invokes ≡ v.invokes
  invokes_is = λ i. (same i).invokes

  pub count_is : u.count ≡ v.count
  count_is = λ i. (same i).count

  pub case_is : u.case ≡ v.case
  case_is = λ i. (same i).case

  pub current_is : timeless_record u.current ≡ timeless_record v.current
  current_is = λ i. (same i).current

  pub name_is : name_in u.current ≡ name_in v.current
  name_is = sym (name_stays u.current) ∙ ap name_in current_is ∙ name_stays v.current

  pub uses_is : uses_in u.current ≡ uses_in v.current
  uses_is = sym (uses_stay u.current) ∙ ap uses_in current_is ∙ uses_stay v.current

  pub entering_is : entering_with u.current ≡ entering_with v.current
  entering_is = sym (entering_stays u.current) ∙ ap entering_with current_is ∙ entering_stays v.current

  pub beginning_is : beginning_with u.current ≡ beginning_with v.current
  beginning_is = sym (beginning_stays u.current) ∙ ap beginning_with current_is ∙ beginning_stays v.current

  pub pausing_is : pausing_with u.current ≡ pausing_with v.current
  pausing_is = sym (pausing_stays u.current) ∙ ap pausing_with current_is ∙ pausing_stays v.current

  pub forked_is : forked_with u.current ≡ forked_with v.current
  forked_is = sym (forked_stays u.current) ∙ ap forked_with current_is ∙ forked_stays v.current

  pub error_is : first_error u.children ≡ first_error v.children
  error_is = sym (errors_stay u.children) ∙ ap first_error (λ i. (same i).children) ∙ errors_stay v.children

  pub outputs_are : outputs u.children ≡ outputs v.children
  outputs_are = sym (outputs_stay u.children) ∙ ap outputs (λ i. (same i).children) ∙ outputs_stay v.children

  -- ---- what is done so far

  pub entering_same : (entered : EventKind) (x : Json) → entering u entered x ≡ entering v entered x
  entering_same entered x = sym (entering_by u entered x) ∙ (λ i. entering (same i) entered x) ∙ entering_by v entered x

  begun_by : (w : Seen) (entered : EventKind) (x : Json) → beginning (timeless w) entered x ≡ beginning w entered x
  begun_by w entered x = timeless_begins w entered x (timeless_record w.current) ∙ begins_stay w entered x w.current

  pub beginning_same : (entered : EventKind) (x : Json) → beginning u entered x ≡ beginning v entered x
  beginning_same entered x = sym (begun_by u entered x) ∙ (λ i. beginning (same i) entered x) ∙ begun_by v entered x

  pub telling_same : (done : Progress) (kind : EventKind) (x : Json) → telling u done kind x ≡ telling v done kind x
  telling_same done kind x = λ i. record { children = done.children; raises = done.raises; events = done.events ++ draft kind (name_is i) x ∷ [] }

  -- ---- and what becomes of the branch, but for moments

  pub idle_same : timeless_effect (idle u.current) ≡ timeless_effect (idle v.current)
  idle_same = λ i. record { after = current_is i; children = Kept; raises = false; events = []; outcome = None }

  pub failing_same : (done : Progress) (e : ErrorOut) → timeless_effect (failing u done e) ≡ timeless_effect (failing v done e)
  failing_same done e = λ i. record { after = Failed e; children = done.children; raises = done.raises; events = done.events ++ told_failure (forker_is i) (place_is i) e; outcome = failed (place_is i) e }

  left_same : (done : Progress) (exited : EventKind) (next : Option (List ℕ)) (x : Json) → timeless_effect (left u done exited next x) ≡ timeless_effect (left v done exited next x)
  left_same done exited next x = λ i. record {
    after = timeless_record (moved next x);
    children = done.children;
    raises = done.raises;
    events = (done.events ++ draft exited (name_is i) x ∷ []) ++ told_success next (forker_is i) (place_is i) x;
    outcome = ended next (place_is i) x;
  }

  -- by what each of two ways does
  pub chosen_same : (c : Bool) (a b : Seen → Effect) → timeless_effect (a u) ≡ timeless_effect (a v) → timeless_effect (b u) ≡ timeless_effect (b v) → timeless_effect (cond c (a u) (b u)) ≡ timeless_effect (cond c (a v) (b v))
  chosen_same true a b h k = h
  chosen_same false a b h k = k

  pub leaving_same : (done : Progress) (exited : EventKind) (next : Option (List ℕ)) (x : Json) → timeless_effect (leaving u done exited next x) ≡ timeless_effect (leaving v done exited next x)
  leaving_same done exited next x = chosen_same (is_within_limit x) (λ w. left w done exited next x) (λ w. failing w done over_limit) (left_same done exited next x) (failing_same done over_limit)

  pub pausing_same : (done : Progress) (x : Json) (m n : ℕ) → timeless_effect (pausing u done x m) ≡ timeless_effect (pausing v done x n)
  pausing_same done x m n = λ i. record { after = Pausing (name_is i) x 0 0; children = done.children; raises = done.raises; events = done.events; outcome = None }

  retrying_same : (done : Progress) (x : Json) (n k m l : ℕ) → timeless_effect (retrying u done x n k m) ≡ timeless_effect (retrying v done x n k l)
  retrying_same done x n k m l = λ i. record { after = Again (name_is i) x 0 (uses_after n k (uses_is i)) 0; children = done.children; raises = done.raises; events = done.events; outcome = None }

  pub forking_same : (done : Progress) (x : Json) (n : ℕ) (items : List Data) (rs : List Record) → timeless_effect (forking u done x n items rs) ≡ timeless_effect (forking v done x n items rs)
  forking_same done x n items rs = λ i. record { after = Forked (name_is i) x 0 (uses_from n (uses_is i)) items; children = Made rs; raises = done.raises; events = done.events; outcome = None }

  pub passed_same : (done : Progress) (exited : EventKind) (next : Option (List ℕ)) (g : Given) → timeless_effect (passed u done exited next g) ≡ timeless_effect (passed v done exited next g)
  passed_same done exited next (Ok z) = leaving_same done exited next z
  passed_same done exited next (Err e) = failing_same done e

  -- ---- errors

  unretried_same : (retry : Option Data) (done : Progress) (exited : EventKind) (x : Json) (e : ErrorOut) (o : Option (ℕ × Data)) → timeless_effect (handled retry u done exited x e (caught_by o)) ≡ timeless_effect (handled retry v done exited x e (caught_by o))
  unretried_same retry done exited x e None = failing_same done e
  unretried_same retry done exited x e (Some c) = passed_same done exited (next_in c.1) (put_into (value_in (codes "ResultPath") c.1) x (error_output e))

  retried_same : (retry : Option Data) (done : Progress) (exited : EventKind) (x : Json) (e : ErrorOut) (uses : List ℕ) (m n : ℕ) (o c : Option (ℕ × Data)) → timeless_effect (handled retry u done exited x e (retried uses m o (caught_by c))) ≡ timeless_effect (handled retry v done exited x e (retried uses n o (caught_by c)))
  retried_same retry done exited x e uses m n None c = unretried_same retry done exited x e c
  retried_same retry done exited x e uses m n (Some r) c = by (nat_lt (used uses r.0) (attempts_of r.1))
    where
      by : (b : Bool) → timeless_effect (handled retry u done exited x e (cond b (again r.0 (delayed m (wait_after r.1 (used uses r.0)))) (caught_by c))) ≡ timeless_effect (handled retry v done exited x e (cond b (again r.0 (delayed n (wait_after r.1 (used uses r.0)))) (caught_by c)))
      by true = retrying_same done x (item_count (handlers_in retry)) r.0 (delayed m (wait_after r.1 (used uses r.0))) (delayed n (wait_after r.1 (used uses r.0)))
      by false = unretried_same retry done exited x e c

  raised_same : (retry catch : Option Data) (done : Progress) (exited : EventKind) (x : Json) (e : ErrorOut) → timeless_effect (raised retry catch u done exited x e) ≡ timeless_effect (raised retry catch v done exited x e)
  raised_same retry catch done exited x e =
      ap (λ (uses : List ℕ). timeless_effect (handled retry u done exited x e (decision retry catch (error_name e) uses u.moment))) uses_is
      ∙ retried_same retry done exited x e (uses_in v.current) u.moment v.moment (first_for (error_name e) 0 (handlers_in retry)) (first_for (error_name e) 0 (handlers_in catch))

  pub settled_same : (retry catch : Option Data) (next : Option (List ℕ)) (done : Progress) (exited : EventKind) (x : Json) (g : Given) → timeless_effect (settled retry catch next u done exited x g) ≡ timeless_effect (settled retry catch next v done exited x g)
  settled_same retry catch next done exited x (Ok z) = leaving_same done exited next z
  settled_same retry catch next done exited x (Err e) = raised_same retry catch done exited x e
