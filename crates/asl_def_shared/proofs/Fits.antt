-- Members of a state without faults are such as they are compiled from.
use Rattle.std.proofs.Common.{◌≡◌, ℕ, List, [], Bool, true, false, inl, inr, refl, sym, ◌∙◌, ap, subst}
use Rattle.std.specs.Prelude.{Option, Some, None, IfSome, is_some, codes, option_map}
use Rattle.asl_json_data.specs.Data.{Data, boolean, dict, pairs}
use Rattle.asl_json.specs.Same.{bytes_eq}
use Rattle.asl_json.specs.Meaning.{value_at}
use Rattle.asl_json_data.specs.Distinct.{AreDistinct}
use Rattle.asl_def_schema.specs.declared.sort.Sort.{Sort}
use Rattle.asl_def_schema.specs.declared.sort.Sort.TheVariants as sort
use Rattle.asl_def_schema.specs.declared.sort.Kind.{Kind}
use Rattle.asl_def_schema.specs.declared.sort.Kind.TheVariants as kind
use Rattle.asl_def_schema.specs.Members.{at_most_one, two, is_among, wait_time, state_shape, sort_at, kind_named, task_rows, pass_rows, wait_rows, parallel_rows, map_rows}
use Rattle.asl_json.specs.View.{data_of}
use Rattle.asl_json.specs.declared.value.Json.{Json}
use Rattle.std.specs.Borrow.{Bor}
use Rattle.asl_def_schema.specs.Canon.{Named, canon, kept_at}
use Rattle.asl_def_schema.specs.Clean.{IsClean, Fits, IsThere, IsThereAmong, GoesOneWay, goes_on}
use Rattle.asl_def_schema.proofs.Inside.{fits_at, clean}
use Rattle.asl_def_schema.proofs.Typed.{kind_inside, type_known}
use Rattle.asl_def_schema.proofs.Ways.{one_way, two_there, wait_one, wait_some, selector_one}
use Rattle.asl_def_schema.proofs.Canons.{plain_kept}
use Rattle.asl_def_schema.proofs.Ending.{end_off, end_on}
use Rattle.asl_def_fields.proofs.Fitting.{fit}
use Rattle.asl_def_shared.specs.Built.{IsOfKind, IsOfAny, has_completion, of_any_type}

-- the value of a member
pub fits_in : (k : Kind) (ms : List Named) (name : List ℕ) (s : Sort) → sort_at (state_shape (Some k)) name ≡ s → IsOfKind k ms → Fits s (value_at name (pairs ms))
fits_in k ms name s e h = subst (λ (q : Sort). Fits q (value_at name (pairs ms))) e (fits_at h.names (state_shape (Some k)) (pairs ms) name h.inside)

pub found_fits : (k : Kind) (ms : List Named) (name : List ℕ) (s : Sort) (o : Option Data) → sort_at (state_shape (Some k)) name ≡ s → IsOfKind k ms → o ≡ value_at name (pairs ms) → Fits s o
found_fits k ms name s o e h at = subst (λ (x : Option Data). Fits s x) (sym at) (fits_in k ms name s e h)

pub member_fits : (k : Kind) (ms : List Named) (name : List ℕ) (s : Sort) (P : Data → Type 0) (o : Option Data) → sort_at (state_shape (Some k)) name ≡ s → ((d : Data) → IsClean s d → P d) → IsOfKind k ms → o ≡ value_at name (pairs ms) → IfSome o P
member_fits k ms name s P o e f h at = fit s P f o (found_fits k ms name s o e h at)

-- of several types

comment_sort : (k : Kind) → sort_at (state_shape (Some k)) (codes "Comment") ≡ sort.Text
comment_sort kind.Task = refl
comment_sort kind.Pass = refl
comment_sort kind.Choice = refl
comment_sort kind.Wait = refl
comment_sort kind.Parallel = refl
comment_sort kind.Map = refl
comment_sort kind.Succeed = refl
comment_sort kind.Fail = refl

language_sort : (k : Kind) → sort_at (state_shape (Some k)) (codes "QueryLanguage") ≡ sort.QueryLanguage
language_sort kind.Task = refl
language_sort kind.Pass = refl
language_sort kind.Choice = refl
language_sort kind.Wait = refl
language_sort kind.Parallel = refl
language_sort kind.Map = refl
language_sort kind.Succeed = refl
language_sort kind.Fail = refl

pub comment_fits : (ms : List Named) (P : Data → Type 0) (o : Option Data) → ((d : Data) → IsClean sort.Text d → P d) → IsOfAny of_any_type ms → o ≡ value_at (codes "Comment") (pairs ms) → IfSome o P
comment_fits ms P o f h at = member_fits h.kind ms (codes "Comment") sort.Text P o (comment_sort h.kind) f h.is at

pub language_fits : (ms : List Named) (P : Data → Type 0) (o : Option Data) → ((d : Data) → IsClean sort.QueryLanguage d → P d) → IsOfAny of_any_type ms → o ≡ value_at (codes "QueryLanguage") (pairs ms) → IfSome o P
language_fits ms P o f h at = member_fits h.kind ms (codes "QueryLanguage") sort.QueryLanguage P o (language_sort h.kind) f h.is at

pub of_any : (p : Kind → Bool) (k : Kind) (ms : List Named) → p k ≡ true → IsOfKind k ms → IsOfAny p ms
of_any p k ms e h = record { kind = k; chosen = e; is = h }

next_sort : (k : Kind) → goes_on k ≡ true → sort_at (state_shape (Some k)) (codes "Next") ≡ sort.Target
unfolding task_rows pass_rows wait_rows parallel_rows map_rows
next_sort kind.Task e = refl
next_sort kind.Pass e = refl
next_sort kind.Wait e = refl
next_sort kind.Parallel e = refl
next_sort kind.Map e = refl
next_sort kind.Choice e = absurd cc
next_sort kind.Succeed e = absurd cc
next_sort kind.Fail e = absurd cc

pub next_fits : (ms : List Named) → IsOfAny goes_on ms → Fits sort.Target (value_at (codes "Next") (pairs ms))
next_fits ms h = fits_in h.kind ms (codes "Next") sort.Target (next_sort h.kind h.chosen) h.is

pub one : (ms : List Named) → IsOfAny goes_on ms → GoesOneWay (value_at (codes "Next") (pairs ms)) (value_at (codes "End") (pairs ms))
one ms h = one_way h.is.names h.kind ms h.chosen h.is.distinct h.is.inside

completion_sorts : (k : Kind) → has_completion k ≡ true
    → (sort_at (state_shape (Some k)) (codes "ResultSelector") ≡ sort.Template)
    × (sort_at (state_shape (Some k)) (codes "ResultPath") ≡ sort.PlaceOrNull)
    × (sort_at (state_shape (Some k)) (codes "OutputPath") ≡ sort.PathOrNull)
    × (sort_at (state_shape (Some k)) (codes "Retry") ≡ sort.Retriers)
    × (sort_at (state_shape (Some k)) (codes "Catch") ≡ sort.Catchers)
unfolding task_rows parallel_rows map_rows
completion_sorts kind.Task e = (refl, refl, refl, refl, refl)
completion_sorts kind.Parallel e = (refl, refl, refl, refl, refl)
completion_sorts kind.Map e = (refl, refl, refl, refl, refl)
completion_sorts x e = absurd cc

pub selector_fits : (ms : List Named) (P : Data → Type 0) (o : Option Data) → ((d : Data) → IsClean sort.Template d → P d) → IsOfAny has_completion ms → o ≡ value_at (codes "ResultSelector") (pairs ms) → IfSome o P
selector_fits ms P o f h at = member_fits h.kind ms (codes "ResultSelector") sort.Template P o (completion_sorts h.kind h.chosen).0 f h.is at

pub result_path_fits : (ms : List Named) (P : Data → Type 0) (o : Option Data) → ((d : Data) → IsClean sort.PlaceOrNull d → P d) → IsOfAny has_completion ms → o ≡ value_at (codes "ResultPath") (pairs ms) → IfSome o P
result_path_fits ms P o f h at = member_fits h.kind ms (codes "ResultPath") sort.PlaceOrNull P o (completion_sorts h.kind h.chosen).1 f h.is at

pub output_path_fits : (ms : List Named) (P : Data → Type 0) (o : Option Data) → ((d : Data) → IsClean sort.PathOrNull d → P d) → IsOfAny has_completion ms → o ≡ value_at (codes "OutputPath") (pairs ms) → IfSome o P
output_path_fits ms P o f h at = member_fits h.kind ms (codes "OutputPath") sort.PathOrNull P o (completion_sorts h.kind h.chosen).2 f h.is at

pub retry_fits : (ms : List Named) (o : Option Data) → IsOfAny has_completion ms → o ≡ value_at (codes "Retry") (pairs ms) → Fits sort.Retriers o
retry_fits ms o h at = found_fits h.kind ms (codes "Retry") sort.Retriers o (completion_sorts h.kind h.chosen).3 h.is at

pub catch_fits : (ms : List Named) (o : Option Data) → IsOfAny has_completion ms → o ≡ value_at (codes "Catch") (pairs ms) → Fits sort.Catchers o
catch_fits ms o h at = found_fits h.kind ms (codes "Catch") sort.Catchers o (completion_sorts h.kind h.chosen).4 h.is at

completion_goes_on : (k : Kind) → has_completion k ≡ true → goes_on k ≡ true
completion_goes_on kind.Task e = refl
completion_goes_on kind.Parallel e = refl
completion_goes_on kind.Map e = refl
completion_goes_on kind.Pass e = refl
completion_goes_on kind.Wait e = refl
completion_goes_on kind.Choice e = absurd cc
completion_goes_on kind.Succeed e = absurd cc
completion_goes_on kind.Fail e = absurd cc

pub completion_next : (ms : List Named) → IsOfAny has_completion ms → IsOfAny goes_on ms
completion_next ms h = record { kind = h.kind; chosen = completion_goes_on h.kind h.chosen; is = h.is }

-- a member that is there

pub is_there : (names : List ℕ → Bool) (s : Sort) (o : Option Data) → IsThereAmong names s o → IsThere s o
is_there names s None h = h
is_there names s (Some d) h = clean h

pub none_there : (names : List ℕ → Bool) (s : Sort) (o p : Option Data) → o ≡ None → o ≡ p → IsThereAmong names s p → ⊥
none_there names s o p e at h = subst (λ (x : Option Data). IsThereAmong names s x) (sym at ∙ e) h

pub some_there : (names : List ℕ → Bool) (s : Sort) (o p : Option Data) (d : Data) → o ≡ Some d → o ≡ p → IsThereAmong names s p → IsClean s d
some_there names s o p d e at h = clean (subst (λ (x : Option Data). IsThereAmong names s x) (sym at ∙ e) h)

-- the members of a state, by its type

pub of_kind : (v : Data) (ms : List Named) (k : Kind) → IsClean sort.State v → v ≡ dict (pairs ms) → AreDistinct [] ms → kind_named (value_at (codes "Type") (pairs ms)) ≡ Some k → IsOfKind k ms
of_kind v ms k c is distinct e =
    let c = subst (IsClean sort.State) is c in
    record { names = c.names; is = e; inside = kind_inside c.names (pairs ms) k c.is e; distinct = distinct }

pub of_none : (v : Data) (ms : List Named) → IsClean sort.State v → v ≡ dict (pairs ms) → kind_named (value_at (codes "Type") (pairs ms)) ≡ None → ⊥
of_none v ms c is e =
    let c = subst (IsClean sort.State) is c in
    type_known c.names (pairs ms) c.is e

-- one of two

error_one : (ms : List Named) → IsOfKind kind.Fail ms → is_some (value_at (codes "Error") (pairs ms)) ≡ true → is_some (value_at (codes "ErrorPath") (pairs ms)) ≡ false
error_one ms h e = two_there h.names (state_shape (Some kind.Fail)) (at_most_one (two (codes "Error") (codes "ErrorPath"))) (pairs ms) (codes "Error") (codes "ErrorPath") h.inside (inl refl) refl refl refl refl e

cause_one : (ms : List Named) → IsOfKind kind.Fail ms → is_some (value_at (codes "Cause") (pairs ms)) ≡ true → is_some (value_at (codes "CausePath") (pairs ms)) ≡ false
cause_one ms h e = two_there h.names (state_shape (Some kind.Fail)) (at_most_one (two (codes "Cause") (codes "CausePath"))) (pairs ms) (codes "Cause") (codes "CausePath") h.inside (inr (inl refl)) refl refl refl refl e

at_most : {A B : Type 0} (f : A → Data) (g : B → Data) (o : Option A) (p : Option B) (x y : Option Data) → option_map f o ≡ x → option_map g p ≡ y → (is_some x ≡ true → is_some y ≡ false) → is_some o ≡ true → is_some p ≡ false
at_most f g None p x y d e h q = absurd cc
at_most f g (Some a) None x y d e h q = refl
at_most f g (Some a) (Some b) x y d e h q = absurd (let off : is_some y ≡ false = h (sym (ap is_some d)) in let on : true ≡ is_some y = ap is_some e in let z : true ≡ false = on ∙ off in cc)

pub error_at_most : {A B : Type 0} (f : A → Data) (g : B → Data) (ms : List Named) (o : Option A) (p : Option B) → IsOfKind kind.Fail ms → option_map f o ≡ value_at (codes "Error") (pairs ms) → option_map g p ≡ value_at (codes "ErrorPath") (pairs ms) → is_some o ≡ true → is_some p ≡ false
error_at_most f g ms o p h d e = at_most f g o p _ _ d e (error_one ms h)

pub cause_at_most : {A B : Type 0} (f : A → Data) (g : B → Data) (ms : List Named) (o : Option A) (p : Option B) → IsOfKind kind.Fail ms → option_map f o ≡ value_at (codes "Cause") (pairs ms) → option_map g p ≡ value_at (codes "CausePath") (pairs ms) → is_some o ≡ true → is_some p ≡ false
cause_at_most f g ms o p h d e = at_most f g o p _ _ d e (cause_one ms h)

-- a Map has its machine in one spelling, and so the template for the inputs of its iterations

pub selector_at_most : {A B : Type 0} (f : A → Data) (g : B → Data) (ms : List Named) (o : Option A) (p : Option B) → IsOfKind kind.Map ms → option_map f o ≡ value_at (codes "Parameters") (pairs ms) → option_map g p ≡ value_at (codes "ItemSelector") (pairs ms) → is_some o ≡ true → is_some p ≡ false
selector_at_most f g ms o p h d e = at_most f g o p _ _ d e (selector_one h.names (pairs ms) h.inside)

-- how a state goes on

pub next_clean : (ms : List Named) (d : Data) → IsOfAny goes_on ms → Some d ≡ value_at (codes "Next") (pairs ms) → IsClean sort.Target d
next_clean ms d h e = subst (λ (o : Option Data). Fits sort.Target o) (sym e) (next_fits ms h)

pub next_so : (ms : List Named) (o : Option Data) → o ≡ value_at (codes "Next") (pairs ms) → o ≡ kept_at (codes "Next") sort.Target (pairs ms)
next_so ms o e = e ∙ sym (plain_kept (codes "Next") sort.Target (pairs ms) refl refl)

pub no_end : (ms : List Named) (d : Data) → IsOfAny goes_on ms → Some d ≡ value_at (codes "Next") (pairs ms) → None ≡ kept_at (codes "End") sort.Truth (pairs ms)
no_end ms d h e = sym (end_off (value_at (codes "Next") (pairs ms)) (value_at (codes "End") (pairs ms)) (one ms h) (sym (ap is_some e)))

pub an_end : (ms : List Named) → IsOfAny goes_on ms → None ≡ value_at (codes "Next") (pairs ms) → Some (boolean true) ≡ kept_at (codes "End") sort.Truth (pairs ms)
an_end ms h e = sym (end_on (value_at (codes "Next") (pairs ms)) (value_at (codes "End") (pairs ms)) (one ms h) (sym (ap is_some e)))

-- the time of a Wait state

none_of : (o : Option Data) → is_some o ≡ false → None ≡ o
none_of None e = refl
none_of (Some d) e = absurd cc

pub wait_none : (ms : List Named) (k l : List ℕ) (d : Data) → is_among k wait_time.names ≡ true → is_among l wait_time.names ≡ true → bytes_eq k l ≡ false → IsOfKind kind.Wait ms → Some d ≡ value_at k (pairs ms) → None ≡ value_at l (pairs ms)
wait_none ms k l d a b n h e = none_of (value_at l (pairs ms)) (wait_one h.names (pairs ms) k l h.inside a b n (sym (ap is_some e)))

pub wait_nothing : (ms : List Named) → IsOfKind kind.Wait ms → None ≡ value_at (codes "Seconds") (pairs ms) → None ≡ value_at (codes "SecondsPath") (pairs ms) → None ≡ value_at (codes "Timestamp") (pairs ms) → None ≡ value_at (codes "TimestampPath") (pairs ms) → ⊥
wait_nothing ms h a b c d = absurd (let e = wait_some h.names (pairs ms) h.inside in let x = rw (← a, ← b, ← c, ← d) at e in cc)

-- a member that was found
pub clean_in : (k : Kind) (ms : List Named) (name : List ℕ) (s : Sort) (d : Data) → sort_at (state_shape (Some k)) name ≡ s → IsOfKind k ms → Some d ≡ value_at name (pairs ms) → IsClean s d
clean_in k ms name s d e h at = subst (λ (o : Option Data). Fits s o) (sym at) (fits_in k ms name s e h)

pub map_same : (o : Option Data) → o ≡ option_map (λ (t : Data). t) o
map_same None = refl
map_same (Some d) = refl

-- in canonical form
pub canon_found : (s : Sort) (o : Option (Bor Json)) (p : Option Data) → option_map (λ v. data_of v.now) o ≡ p → option_map (λ v. canon s (data_of v.now)) o ≡ option_map (canon s) p
canon_found s None p e = ap (option_map (canon s)) e
canon_found s (Some v) p e = ap (option_map (canon s)) e
