-- The stages of a state are those of its members.
use Rattle.std.proofs.Common.{ℕ, ◌≡◌, true, List, ◌++◌, refl, ap, ◌∙◌, codes}
use Rattle.std.specs.Prelude.{Option, Some, None, Ok}
use Rattle.std.specs.Result.{result_ok}
use Rattle.asl_json_data.specs.Results.{◌>>=◌}
use Rattle.asl_json_data.specs.Data.{Data}
use Rattle.asl_json.specs.Meaning.{value_in}
use Rattle.asl_json.specs.declared.value.Json.{Json}
use Rattle.asl_def_schema.specs.Members.{is_among}
use Rattle.asl_def_shared.specs.Member.{completion_names}
use Rattle.asl_def_states.specs.Items.{selector_in}
use Rattle.asl_step.specs.declared.facts.Facts.{Facts}
use Rattle.asl_step.specs.Context.{context_of}
use Rattle.asl_step.specs.Seen.{Seen}
use Rattle.asl_step_io.specs.Paths.{Given, taken}
use Rattle.asl_kinds.specs.Forks.{forked_with, first_error, outputs}
use Rattle.asl_kinds.specs.Members.{effective_by, placed_by, result_or, selected, selected_by}
use Rattle.asl_trace_data.specs.declared.part.Part.TheVariants.{Input, Result as Answered}
use Rattle.asl_trace_data.specs.Stages.{one, onward, stage, effective_stages, selected_stages, left, settled}
use Rattle.asl_trace_data.specs.Kinds.{pass_by, pass_step, passing_by, passing_step, answer_of, task_by, settled_of, task_step, joined_given, joined_by, join_step, parallel_step, map_by, map_step}

-- two objects have the same members that say what becomes of a result or an error
abbrev pub Same : Data → Data → Type 0
Same k d = (n : List ℕ) → is_among n completion_names ≡ true → value_in n k ≡ value_in n d

pub pass_alike : (d : Data) (f : Facts) (v : Seen) (x : Json) (o : Option Json) (p t r rp op : Option Data) → p ≡ value_in (codes "InputPath") d → t ≡ value_in (codes "Parameters") d → r ≡ value_in (codes "Result") d → rp ≡ value_in (codes "ResultPath") d → op ≡ value_in (codes "OutputPath") d → Some x ≡ o
    → left (pass_by p t r rp op x (context_of f v)) (result_ok ((effective_by p t x (context_of f v)) >>= (λ y. placed_by rp op x (context_of f v) (result_or r y)))) ≡ pass_step d f v o
pass_alike d f v x o p t r rp op ep et er erp eop eo =
    (λ i. left (pass_by (ep i) (et i) (er i) (erp i) (eop i) x (context_of f v)) (result_ok ((effective_by (ep i) (et i) x (context_of f v)) >>= (λ y. placed_by (erp i) (eop i) x (context_of f v) (result_or (er i) y)))))
    ∙ ap (pass_step d f v) eo

pub passing_alike : (d : Data) (f : Facts) (v : Seen) (x : Json) (o : Option Json) (p q : Option Data) → p ≡ value_in (codes "InputPath") d → q ≡ value_in (codes "OutputPath") d → Some x ≡ o
    → left (passing_by p q x (context_of f v)) (result_ok ((taken (codes "InputPath") p x (context_of f v)) >>= (λ y. taken (codes "OutputPath") q y (context_of f v)))) ≡ passing_step d f v o
passing_alike d f v x o p q ep eq eo =
    (λ i. left (passing_by (ep i) (eq i) x (context_of f v)) (result_ok ((taken (codes "InputPath") (ep i) x (context_of f v)) >>= (λ y. taken (codes "OutputPath") (eq i) y (context_of f v)))))
    ∙ ap (passing_step d f v) eo

pub task_alike : (d k : Data) (f : Facts) (v : Seen) (x : Json) (o : Option Json) (p t : Option Data) (g : Given) → p ≡ value_in (codes "InputPath") d → t ≡ value_in (codes "Parameters") d → Same k d → g ≡ answer_of v → Some x ≡ o
    → settled_of k v x (task_by p t k x (context_of f v) g) (result_ok ((effective_by p t x (context_of f v)) >>= (λ y. (g >>= (selected k x (context_of f v)))))) ≡ task_step d f v o
task_alike d k f v x o p t g ep et same eg eo =
    let es = same (codes "ResultSelector") refl in
    let er = same (codes "ResultPath") refl in
    let eu = same (codes "OutputPath") refl in
    let ey = same (codes "Retry") refl in
    let ec = same (codes "Catch") refl in
    (λ i. settled (ey i) (ec i) v x ((one Input (Ok x) ++ effective_stages (ep i) (et i) x (context_of f v)) ++ onward (λ y. stage Answered (eg i) (selected_stages (es i) (er i) (eu i) x (context_of f v))) (result_ok (effective_by (ep i) (et i) x (context_of f v)))) (result_ok ((effective_by (ep i) (et i) x (context_of f v)) >>= (λ y. ((eg i) >>= (selected_by (es i) (er i) (eu i) x (context_of f v)))))))
    ∙ ap (task_step d f v) eo

joined_alike : (d k : Data) (v : Seen) (x : Json) (c : Data) (g : Option Given) → Same k d → joined_by k v x c g ≡ joined_by d v x c g
joined_alike d k v x c None same = refl
joined_alike d k v x c (Some g) same =
    let es = same (codes "ResultSelector") refl in
    let er = same (codes "ResultPath") refl in
    let eu = same (codes "OutputPath") refl in
    let ey = same (codes "Retry") refl in
    let ec = same (codes "Catch") refl in
    λ i. settled (ey i) (ec i) v x (one Input (Ok x) ++ stage Answered g (selected_stages (es i) (er i) (eu i) x c)) (result_ok (g >>= (selected_by (es i) (er i) (eu i) x c)))

join_alike : (d k : Data) (f : Facts) (v : Seen) (o : Option Json) → Same k d → join_step k f v o ≡ join_step d f v o
join_alike d k f v None same = refl
join_alike d k f v (Some x) same = joined_alike d k v x (context_of f v) (joined_given (first_error v.children) (outputs v.children)) same

pub parallel_joins : (d k : Data) (f : Facts) (v : Seen) (o : Option Json) → Same k d → None ≡ o → join_step k f v (forked_with v.current) ≡ parallel_step d f v o
parallel_joins d k f v o same eo = join_alike d k f v (forked_with v.current) same ∙ ap (parallel_step d f v) eo

pub map_joins : (d k : Data) (f : Facts) (v : Seen) (o : Option Json) → Same k d → None ≡ o → join_step k f v (forked_with v.current) ≡ map_step d f v o
map_joins d k f v o same eo = join_alike d k f v (forked_with v.current) same ∙ ap (map_step d f v) eo

pub parallel_forks : (d k : Data) (f : Facts) (v : Seen) (x : Json) (o : Option Json) (p t : Option Data) → p ≡ value_in (codes "InputPath") d → t ≡ value_in (codes "Parameters") d → Same k d → Some x ≡ o
    → settled_of k v x (one Input (Ok x) ++ effective_stages p t x (context_of f v)) None ≡ parallel_step d f v o
parallel_forks d k f v x o p t ep et same eo =
    let ey = same (codes "Retry") refl in
    let ec = same (codes "Catch") refl in
    (λ i. settled (ey i) (ec i) v x (one Input (Ok x) ++ effective_stages (ep i) (et i) x (context_of f v)) None)
    ∙ ap (parallel_step d f v) eo

pub map_forks : (d k : Data) (f : Facts) (v : Seen) (x : Json) (o : Option Json) (p i s : Option Data) → p ≡ value_in (codes "InputPath") d → i ≡ value_in (codes "ItemsPath") d → s ≡ selector_in d → Same k d → Some x ≡ o
    → settled_of k v x (map_by p i s f v x) None ≡ map_step d f v o
map_forks d k f v x o p q s ep eq es same eo =
    let ey = same (codes "Retry") refl in
    let ec = same (codes "Catch") refl in
    (λ i. settled (ey i) (ec i) v x (map_by (ep i) (eq i) (es i) f v x) None)
    ∙ ap (map_step d f v) eo
