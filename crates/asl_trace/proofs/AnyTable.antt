-- The stages of a state don't hang on the states of the machines inside it, nor on their table.
use Rattle.std.proofs.Common.{ℕ, ◌≡◌, true, false, List, [], ◌∷◌, refl, codes}
use Rattle.std.specs.Prelude.{Option, Some, None}
use Rattle.std.specs.Option.{option_or}
use Rattle.std.specs.Str.{bytes_eq}
use Rattle.asl_json_data.specs.Data.{Data}
use Rattle.asl_json.specs.Meaning.{value_in}
use Rattle.asl_json.specs.declared.value.Json.{Json}
use Rattle.asl_def_schema.specs.Canon.{Named}
use Rattle.asl_def_schema.specs.Members.{is_among}
use Rattle.asl_def_shared.specs.Member.{completion_names}
use Rattle.asl_def_shared.proofs.Names.{named}
use Rattle.asl_def_shared.proofs.Owning.{tied}
use Rattle.asl_def_states.specs.declared.state.State.{State}
use Rattle.asl_def_states.specs.declared.state.State.TheVariants as state
use Rattle.asl_def_states.specs.declared.choice.Choice.{Choice}
use Rattle.asl_def_states.specs.declared.task.Task.{Task}
use Rattle.asl_def_states.specs.declared.parallel.Parallel.{Parallel}
use Rattle.asl_def_states.specs.declared.map.Map.{Map}
use Rattle.asl_def_states.specs.Items.{selector_in}
use Rattle.asl_def_states.specs.Show.{pass_members, choice_members, wait_members, succeed_members, fail_members, parallel_members, parallel_object, map_members, map_object, state_of}
use Rattle.asl_step.specs.declared.facts.Facts.{Facts}
use Rattle.asl_step.specs.Records.{beginning_with}
use Rattle.asl_step.specs.Seen.{Seen}
use Rattle.asl_trace_data.specs.Kinds.{parallel_step, map_step, stages_of}
use Rattle.asl_trace.specs.Deciding.{kind_of}
use Rattle.asl_trace_data.proofs.Alike.{Same, parallel_joins, map_joins, parallel_forks, map_forks}

parallel_same : (d k : Data) (f : Facts) (v : Seen) (o : Option Json) → Same k d → value_in (codes "InputPath") k ≡ value_in (codes "InputPath") d → value_in (codes "Parameters") k ≡ value_in (codes "Parameters") d → parallel_step k f v o ≡ parallel_step d f v o
parallel_same d k f v None same path parameters = parallel_joins d k f v None same refl
parallel_same d k f v (Some x) same path parameters = parallel_forks d k f v x (Some x) (value_in (codes "InputPath") k) (value_in (codes "Parameters") k) path parameters same refl

map_same : (d k : Data) (f : Facts) (v : Seen) (o : Option Json) → Same k d → value_in (codes "InputPath") k ≡ value_in (codes "InputPath") d → value_in (codes "ItemsPath") k ≡ value_in (codes "ItemsPath") d → selector_in k ≡ selector_in d → map_step k f v o ≡ map_step d f v o
map_same d k f v None same path items selector = map_joins d k f v None same refl
map_same d k f v (Some x) same path items selector = map_forks d k f v x (Some x) (value_in (codes "InputPath") k) (value_in (codes "ItemsPath") k) (selector_in k) path items selector same refl

-- what stands as this member in the objects of a Parallel and of a Map
of_parallel : (t u : List Named) (x : Parallel) → Same (parallel_object t x) (parallel_object u x)
of_parallel t u x k among = tied completion_names (parallel_members t x) (parallel_members u x) k among (refl, (refl, (refl, (refl, (refl, (refl, (refl, tt)))))))

of_map : (t u : List Named) (x : Map) → Same (map_object t x) (map_object u x)
of_map t u x k among = tied completion_names (map_members t x) (map_members u x) k among (refl, (refl, (refl, (refl, (refl, (refl, (refl, tt)))))))

abbrev parallel_names : List (List ℕ)
parallel_names = codes "InputPath" ∷ codes "Parameters" ∷ []

abbrev map_names : List (List ℕ)
map_names = codes "InputPath" ∷ codes "ItemsPath" ∷ codes "Parameters" ∷ codes "ItemSelector" ∷ []

pub any_table : (t u : List Named) (s : State) (f : Facts) (v : Seen) → stages_of (state_of t s) f v ≡ stages_of (state_of u s) f v
any_table t u (state.Task x) f v = refl
any_table t u (state.Pass x) f v = refl
any_table t u (state.Choice x) f v = refl
any_table t u (state.Wait x) f v = refl
any_table t u (state.Parallel x) f v =
    let tie = λ (k : List ℕ) (e : is_among k parallel_names ≡ true). tied parallel_names (parallel_members t x) (parallel_members u x) k e (refl, (refl, tt)) in
    parallel_same (parallel_object u x) (parallel_object t x) f v (beginning_with v.current) (of_parallel t u x) (tie (codes "InputPath") refl) (tie (codes "Parameters") refl)
any_table t u (state.Map x) f v =
    let tie = λ (k : List ℕ) (e : is_among k map_names ≡ true). tied map_names (map_members t x) (map_members u x) k e (refl, (refl, (refl, (refl, tt)))) in
    map_same (map_object u x) (map_object t x) f v (beginning_with v.current) (of_map t u x) (tie (codes "InputPath") refl) (tie (codes "ItemsPath") refl) (λ i. option_or (tie (codes "Parameters") refl i) (tie (codes "ItemSelector") refl i))
any_table t u (state.Succeed x) f v = refl
any_table t u (state.Fail x) f v = refl

-- a state of another type has no Retry
pub no_retry : (t : List Named) (s : State) → ((x : Task) → s ≡ state.Task x → ⊥) → ((x : Parallel) → s ≡ state.Parallel x → ⊥) → ((x : Map) → s ≡ state.Map x → ⊥) → None ≡ value_in (codes "Retry") (state_of t s)
no_retry t (state.Task x) a b c = absurd (a x refl)
no_retry t (state.Pass x) a b c = named (codes "Retry") None (pass_members x) refl
no_retry t (state.Choice x) a b c = named (codes "Retry") None (choice_members x) refl
no_retry t (state.Wait x) a b c = named (codes "Retry") None (wait_members x) refl
no_retry t (state.Parallel x) a b c = absurd (b x refl)
no_retry t (state.Map x) a b c = absurd (c x refl)
no_retry t (state.Succeed x) a b c = named (codes "Retry") None (succeed_members x) refl
no_retry t (state.Fail x) a b c = named (codes "Retry") None (fail_members x) refl

-- a state of another type has no Catch
pub no_catch : (t : List Named) (s : State) → ((x : Task) → s ≡ state.Task x → ⊥) → ((x : Parallel) → s ≡ state.Parallel x → ⊥) → ((x : Map) → s ≡ state.Map x → ⊥) → None ≡ value_in (codes "Catch") (state_of t s)
no_catch t (state.Task x) a b c = absurd (a x refl)
no_catch t (state.Pass x) a b c = named (codes "Catch") None (pass_members x) refl
no_catch t (state.Choice x) a b c = named (codes "Catch") None (choice_members x) refl
no_catch t (state.Wait x) a b c = named (codes "Catch") None (wait_members x) refl
no_catch t (state.Parallel x) a b c = absurd (b x refl)
no_catch t (state.Map x) a b c = absurd (c x refl)
no_catch t (state.Succeed x) a b c = named (codes "Catch") None (succeed_members x) refl
no_catch t (state.Fail x) a b c = named (codes "Catch") None (fail_members x) refl

-- the type of another state isn't Choice
pub other_kind : (t : List Named) (s : State) → ((x : Choice) → s ≡ state.Choice x → ⊥) → bytes_eq (kind_of (state_of t s)) (codes "Choice") ≡ false
other_kind t (state.Task x) a = refl
other_kind t (state.Pass x) a = refl
other_kind t (state.Choice x) a = absurd (a x refl)
other_kind t (state.Wait x) a = refl
other_kind t (state.Parallel x) a = refl
other_kind t (state.Map x) a = refl
other_kind t (state.Succeed x) a = refl
other_kind t (state.Fail x) a = refl
