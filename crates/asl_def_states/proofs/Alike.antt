-- States are equal where what they show is.
use Rattle.std.proofs.Common.{◌≡◌, ◌∙◌, ℕ, Bool, true, false, List, [], ◌∷◌, ◌++◌, refl, sym, ap}
use Rattle.std.specs.Prelude.{◌&&◌, Option, Some, None, map, option_map, codes}
use Rattle.std.specs.Option.{option_eq}
use Rattle.std.specs.Cmp.Lexicographic.{pointwise}
use Rattle.asl_json_data.specs.Data.{Data, no_members, text, pairs}
use Rattle.asl_json.specs.View.{data_of}
use Rattle.asl_json.specs.Same.{equal, equal_members, items_equal, bytes_eq, json_equal}
use Rattle.asl_json.specs.private.SameLaws.{bytes_refl}
use Rattle.asl_json.specs.declared.value.Json.{Json}
use Rattle.asl_def_schema.specs.Canon.{Named}
use Rattle.asl_def_fields.specs.Shown.{path_shown}
use Rattle.asl_def_fields.proofs.Alike.{slots_eq, alike, shows, listed, path_alike, last, chains, and_true, and_and}
use Rattle.asl_def_shared.specs.declared.target.Target.{Target}
use Rattle.asl_def_shared.specs.Parts.{next_members}
use Rattle.asl_def_shared.specs.contracts.common.CommonPartialEq.TheImpl as commons
use Rattle.asl_def_shared.specs.contracts.completion.CompletionPartialEq.TheImpl as completions
use Rattle.asl_def_fields.specs.contracts.path.PathFieldPartialEq.TheImpl as paths
use Rattle.asl_def_shared.specs.contracts.target.TargetPartialEq.TheImpl as targets
use Rattle.asl_def_shared.proofs.Alike.{numbers, common_alike, limits_alike, next_alike, completion_alike}
use Rattle.asl_def_states.specs.declared.task.Task.{Task as TaskState}
use Rattle.asl_def_states.specs.declared.pass.Pass.{Pass as PassState}
use Rattle.asl_def_states.specs.declared.choice.Choice.{Choice as ChoiceState}
use Rattle.asl_def_states.specs.declared.choice.ChoiceRule.{ChoiceRule}
use Rattle.asl_def_states.specs.declared.wait.Wait.{Wait as WaitState}
use Rattle.asl_def_states.specs.declared.wait.Delay.{Delay}
use Rattle.asl_def_states.specs.declared.wait.Delay.TheVariants.{Seconds, SecondsPath, Timestamp, TimestampPath}
use Rattle.asl_def_states.specs.declared.parallel.Parallel.{Parallel as ParallelState}
use Rattle.asl_def_states.specs.declared.map.Map.{Map as MapState}
use Rattle.asl_def_states.specs.declared.processor.Selector.{Selector}
use Rattle.asl_def_states.specs.declared.processor.Selector.TheVariants.{Parameters, ItemSelector}
use Rattle.asl_def_states.specs.declared.processor.Processor.{Processor}
use Rattle.asl_def_states.specs.declared.processor.Processor.TheVariants.{Iterator, ItemProcessor}
use Rattle.asl_def_states.specs.declared.succeed.Succeed.{Succeed as SucceedState}
use Rattle.asl_def_states.specs.declared.fail.Fail.{Fail as FailState}
use Rattle.asl_def_states.specs.declared.fail.FailText.{FailText}
use Rattle.asl_def_states.specs.declared.fail.FailText.TheVariants.{Told, At}
use Rattle.asl_def_states.specs.declared.state.State.{State}
use Rattle.asl_def_states.specs.declared.state.State.TheVariants.{Task, Pass, Choice, Wait, Parallel, Map, Succeed, Fail}
use Rattle.asl_def_states.specs.contracts.choice.ChoiceRulePartialEq.TheImpl as rules
use Rattle.asl_def_states.specs.contracts.wait.DelayPartialEq.TheImpl as delays
use Rattle.asl_def_states.specs.contracts.processor.SelectorPartialEq.TheImpl as selectors
use Rattle.asl_def_states.specs.contracts.task.TaskPartialEq.TheImpl as tasks
use Rattle.asl_def_states.specs.contracts.pass.PassPartialEq.TheImpl as passes
use Rattle.asl_def_states.specs.contracts.choice.ChoicePartialEq.TheImpl as choices
use Rattle.asl_def_states.specs.contracts.wait.WaitPartialEq.TheImpl as waits
use Rattle.asl_def_states.specs.contracts.succeed.SucceedPartialEq.TheImpl as succeeds
use Rattle.asl_def_states.specs.Show.{choice_rule_object, task_members, task_object, pass_members, pass_object, choice_members, choice_object, wait_members, wait_object, succeed_members, succeed_object, fail_members, fail_object, parallel_members, parallel_object, map_members, map_object, state_of, seconds_shown, seconds_path_shown, timestamp_shown, timestamp_path_shown, told, told_at, parameters_shown, item_selector_shown, as_iterator, as_item_processor, machine_shown}
use Rattle.asl_def_states.specs.Equal.{spelled_equal, branches_equal, machine_equal, machines_equal, parallel_same, map_same, reason_same, fail_same, state_same}

-- ---- rules

and_false : (a : Bool) → (a && false) ≡ false
and_false true = refl
and_false false = refl

off_end : (k : List ℕ) (d : Data) (ms : List Named) → equal_members no_members (pairs (ms ++ (k, d) ∷ [])) ≡ false
off_end k d [] = refl
off_end k d (m ∷ ms) = refl

end_off : (k : List ℕ) (d : Data) (ms : List Named) → equal_members (pairs (ms ++ (k, d) ∷ [])) no_members ≡ false
end_off k d [] = refl
end_off k d (m ∷ ms) = refl

snoc : (r s : List Named) (k : List ℕ) (a b : Data) → equal_members (pairs (r ++ (k, a) ∷ [])) (pairs (s ++ (k, b) ∷ [])) ≡ (equal_members (pairs r) (pairs s) && equal a b)
snoc [] [] k a b = (λ i. bytes_refl k i && (equal a b && true)) ∙ and_true (equal a b)
snoc [] (n ∷ ns) k a b = (λ i. bytes_eq k n.0 && (equal a n.1 && off_end k b ns i)) ∙ ap (λ x. bytes_eq k n.0 && x) (and_false (equal a n.1)) ∙ and_false (bytes_eq k n.0)
snoc (m ∷ ms) [] k a b = (λ i. bytes_eq m.0 k && (equal m.1 b && end_off k a ms i)) ∙ ap (λ x. bytes_eq m.0 k && x) (and_false (equal m.1 b)) ∙ and_false (bytes_eq m.0 k)
snoc (m ∷ ms) (n ∷ ns) k a b =
    (λ i. bytes_eq m.0 n.0 && (equal m.1 n.1 && snoc ms ns k a b i))
    ∙ ap (λ x. bytes_eq m.0 n.0 && x) (and_and (equal m.1 n.1) (equal_members (pairs ms) (pairs ns)) (equal a b))
    ∙ and_and (bytes_eq m.0 n.0) (equal m.1 n.1 && equal_members (pairs ms) (pairs ns)) (equal a b)

rule_alike : (x y : ChoiceRule) → equal (choice_rule_object x) (choice_rule_object y) ≡ (rules.ghosts).eq x y
rule_alike x y = snoc x.rule y.rule (codes "Next") (text x.next.name) (text y.next.name)

pub rules_alike : (xs ys : List ChoiceRule) → items_equal (map choice_rule_object xs) (map choice_rule_object ys) ≡ pointwise (rules.ghosts).eq xs ys
rules_alike = listed (rules.ghosts).eq choice_rule_object rule_alike

-- ---- states without machines

jsons : (a b : Option Json) → option_eq equal (option_map data_of a) (option_map data_of b) ≡ option_eq json_equal a b
jsons = shows json_equal data_of (λ x y. refl)

target_texts : (a b : Option Target) → option_eq equal (option_map (λ (x : Target). text x.name) a) (option_map (λ (x : Target). text x.name) b) ≡ option_eq (targets.ghosts).eq a b
target_texts = shows (targets.ghosts).eq (λ x. text x.name) (λ x y. refl)

task_alike : (x y : TaskState) → equal (task_object x) (task_object y) ≡ (tasks.ghosts).eq x y
task_alike x y =
    alike (task_members x) (task_members y) refl refl
    ∙ common_alike x.common y.common _ _
    (λ i. bytes_eq x.resource y.resource
    && (path_alike x.input_path y.input_path i
    && (option_eq equal x.parameters y.parameters
    && (jsons x.credentials y.credentials i
    && limits_alike x.limits y.limits _ _ (completion_alike x.completion y.completion) i))))

pass_alike : (x y : PassState) → equal (pass_object x) (pass_object y) ≡ (passes.ghosts).eq x y
pass_alike x y =
    alike (pass_members x) (pass_members y) refl refl
    ∙ common_alike x.common y.common _ _
    (λ i. path_alike x.input_path y.input_path i
    && (option_eq equal x.parameters y.parameters
    && (jsons x.result y.result i
    && (path_alike x.result_path y.result_path i
    && (path_alike x.output_path y.output_path i && next_alike x.next y.next i)))))

choice_alike : (x y : ChoiceState) → equal (choice_object x) (choice_object y) ≡ (choices.ghosts).eq x y
choice_alike x y =
    alike (choice_members x) (choice_members y) refl refl
    ∙ common_alike x.common y.common _ _
    (λ i. path_alike x.input_path y.input_path i
    && (chains x.choices y.choices i
    && (target_texts x.default y.default i && last (path_alike x.output_path y.output_path) i)))

delay_alike : (x y : Delay) (r : Bool) → (option_eq equal (seconds_shown x) (seconds_shown y) && (option_eq equal (seconds_path_shown x) (seconds_path_shown y) && (option_eq equal (timestamp_shown x) (timestamp_shown y) && (option_eq equal (timestamp_path_shown x) (timestamp_path_shown y) && r)))) ≡ ((delays.ghosts).eq x y && r)
delay_alike (Seconds p) (Seconds q) r = refl
delay_alike (Seconds p) (SecondsPath q) r = refl
delay_alike (Seconds p) (Timestamp q) r = refl
delay_alike (Seconds p) (TimestampPath q) r = refl
delay_alike (SecondsPath p) (Seconds q) r = refl
delay_alike (SecondsPath p) (SecondsPath q) r = refl
delay_alike (SecondsPath p) (Timestamp q) r = refl
delay_alike (SecondsPath p) (TimestampPath q) r = refl
delay_alike (Timestamp p) (Seconds q) r = refl
delay_alike (Timestamp p) (SecondsPath q) r = refl
delay_alike (Timestamp p) (Timestamp q) r = refl
delay_alike (Timestamp p) (TimestampPath q) r = refl
delay_alike (TimestampPath p) (Seconds q) r = refl
delay_alike (TimestampPath p) (SecondsPath q) r = refl
delay_alike (TimestampPath p) (Timestamp q) r = refl
delay_alike (TimestampPath p) (TimestampPath q) r = refl

wait_alike : (x y : WaitState) → equal (wait_object x) (wait_object y) ≡ (waits.ghosts).eq x y
wait_alike x y =
    alike (wait_members x) (wait_members y) refl refl
    ∙ common_alike x.common y.common _ _
    ((λ i. path_alike x.input_path y.input_path i && delay_alike x.delay y.delay (option_eq equal (path_shown x.output_path) (path_shown y.output_path) && slots_eq (next_members x.next) (next_members y.next)) i)
    ∙ (λ i. (paths.ghosts).eq x.input_path y.input_path && ((delays.ghosts).eq x.delay y.delay && (path_alike x.output_path y.output_path i && next_alike x.next y.next i))))

succeed_alike : (x y : SucceedState) → equal (succeed_object x) (succeed_object y) ≡ (succeeds.ghosts).eq x y
succeed_alike x y =
    alike (succeed_members x) (succeed_members y) refl refl
    ∙ common_alike x.common y.common _ _ (λ i. path_alike x.input_path y.input_path i && last (path_alike x.output_path y.output_path) i)

told_alike : (x y : Option FailText) (r : Bool) → (option_eq equal (told x) (told y) && (option_eq equal (told_at x) (told_at y) && r)) ≡ (reason_same x y && r)
told_alike None None r = refl
told_alike None (Some (Told t)) r = refl
told_alike None (Some (At p)) r = refl
told_alike (Some (Told t)) None r = refl
told_alike (Some (Told t)) (Some (Told u)) r = refl
told_alike (Some (Told t)) (Some (At p)) r = refl
told_alike (Some (At p)) None r = refl
told_alike (Some (At p)) (Some (Told u)) r = refl
told_alike (Some (At p)) (Some (At q)) r = refl

fail_alike : (x y : FailState) → equal (fail_object x) (fail_object y) ≡ fail_same x y
fail_alike x y =
    alike (fail_members x) (fail_members y) refl refl
    ∙ common_alike x.common y.common _ _
    (told_alike x.error y.error _ ∙ ap (λ r. reason_same x.error y.error && r) (told_alike x.cause y.cause true ∙ and_true _))

-- ---- states with machines

and_comm : (a b : Bool) → (a && b) ≡ (b && a)
and_comm true true = refl
and_comm true false = refl
and_comm false true = refl
and_comm false false = refl

ahead : (a r s b : Bool) → r ≡ (s && b) → (a && r) ≡ ((a && s) && b)
ahead a r s b e = ap (λ x. a && x) e ∙ and_and a s b

behind_three : (a b c r k : Bool) → (a && (b && (c && (r && k)))) ≡ ((a && (b && (c && k))) && r)
behind_three a b c r k = ahead a (b && (c && (r && k))) (b && (c && k)) r (ahead b (c && (r && k)) (c && k) r (ahead c (r && k) k r (and_comm r k)))

behind_six : (d e f a b c r k : Bool) → (d && (e && (f && (a && (b && (c && (r && k))))))) ≡ ((d && (e && (f && (a && (b && (c && k)))))) && r)
behind_six d e f a b c r k =
    let u = a && (b && (c && (r && k))) in
    let v = a && (b && (c && k)) in
    ahead d (e && (f && u)) (e && (f && v)) r (ahead e (f && u) (f && v) r (ahead f u v r (behind_three a b c r k)))

parallel_alike : (t u : List Named) (x y : ParallelState) → equal (parallel_object t x) (parallel_object u y) ≡ (parallel_same x y && branches_equal t x u y)
parallel_alike t u x y =
    alike (parallel_members t x) (parallel_members u y) refl refl
    ∙ common_alike x.common y.common _ _
    (λ i. path_alike x.input_path y.input_path i
    && (option_eq equal x.parameters y.parameters
    && (branches_equal t x u y && completion_alike x.completion y.completion i)))
    ∙ behind_three ((commons.ghosts).eq x.common y.common) ((paths.ghosts).eq x.input_path y.input_path)
    (option_eq equal x.parameters y.parameters) (branches_equal t x u y)
    ((completions.ghosts).eq x.completion y.completion)

selector_alike : (x y : Option Selector) (r : Bool) → (option_eq equal (parameters_shown x) (parameters_shown y) && (option_eq equal (item_selector_shown x) (item_selector_shown y) && r)) ≡ (option_eq (selectors.ghosts).eq x y && r)
selector_alike None None r = refl
selector_alike None (Some (Parameters b)) r = refl
selector_alike None (Some (ItemSelector b)) r = refl
selector_alike (Some (Parameters a)) None r = refl
selector_alike (Some (Parameters a)) (Some (Parameters b)) r = refl
selector_alike (Some (Parameters a)) (Some (ItemSelector b)) r = refl
selector_alike (Some (ItemSelector a)) None r = refl
selector_alike (Some (ItemSelector a)) (Some (Parameters b)) r = refl
selector_alike (Some (ItemSelector a)) (Some (ItemSelector b)) r = refl

processor_alike : (p q : Processor) (d e : Data) (r : Bool) → (option_eq equal (as_iterator p d) (as_iterator q e) && (option_eq equal (as_item_processor p d) (as_item_processor q e) && r)) ≡ (spelled_equal p q && (equal d e && r))
processor_alike (Iterator a) (Iterator b) d e r = refl
processor_alike (Iterator a) (ItemProcessor f b) d e r = refl
processor_alike (ItemProcessor c a) (Iterator b) d e r = refl
processor_alike (ItemProcessor c a) (ItemProcessor f b) d e r = refl

map_alike : (t u : List Named) (x y : MapState) → equal (map_object t x) (map_object u y) ≡ (map_same x y && machine_equal t x u y)
map_alike t u x y =
    alike (map_members t x) (map_members u y) refl refl
    ∙ common_alike x.common y.common _ _
    (λ i. path_alike x.input_path y.input_path i
    && (shows bytes_eq text (λ a b. refl) x.items_path y.items_path i
    && (numbers x.max_concurrency y.max_concurrency i
    && (selector_alike x.selector y.selector _ ∙ ap (λ r. option_eq (selectors.ghosts).eq x.selector y.selector && r)
    (processor_alike x.processor y.processor (machine_shown t x.processor) (machine_shown u y.processor) _
    ∙ ap (λ r. spelled_equal x.processor y.processor && (machine_equal t x u y && r)) (completion_alike x.completion y.completion))) i)))
    ∙ behind_six ((commons.ghosts).eq x.common y.common) ((paths.ghosts).eq x.input_path y.input_path)
    (option_eq bytes_eq x.items_path y.items_path) (option_eq bytes_eq x.max_concurrency y.max_concurrency)
    (option_eq (selectors.ghosts).eq x.selector y.selector) (spelled_equal x.processor y.processor)
    (machine_equal t x u y) ((completions.ghosts).eq x.completion y.completion)

pub state_alike : (t u : List Named) (x y : State) → equal (state_of t x) (state_of u y) ≡ (state_same x y && machines_equal t x u y)
state_alike t u (Task x) (Task y) = task_alike x y ∙ sym (and_true _)
state_alike t u (Task x) (Pass y) = refl
state_alike t u (Task x) (Choice y) = refl
state_alike t u (Task x) (Wait y) = refl
state_alike t u (Task x) (Parallel y) = refl
state_alike t u (Task x) (Map y) = refl
state_alike t u (Task x) (Succeed y) = refl
state_alike t u (Task x) (Fail y) = refl
state_alike t u (Pass x) (Task y) = refl
state_alike t u (Pass x) (Pass y) = pass_alike x y ∙ sym (and_true _)
state_alike t u (Pass x) (Choice y) = refl
state_alike t u (Pass x) (Wait y) = refl
state_alike t u (Pass x) (Parallel y) = refl
state_alike t u (Pass x) (Map y) = refl
state_alike t u (Pass x) (Succeed y) = refl
state_alike t u (Pass x) (Fail y) = refl
state_alike t u (Choice x) (Task y) = refl
state_alike t u (Choice x) (Pass y) = refl
state_alike t u (Choice x) (Choice y) = choice_alike x y ∙ sym (and_true _)
state_alike t u (Choice x) (Wait y) = refl
state_alike t u (Choice x) (Parallel y) = refl
state_alike t u (Choice x) (Map y) = refl
state_alike t u (Choice x) (Succeed y) = refl
state_alike t u (Choice x) (Fail y) = refl
state_alike t u (Wait x) (Task y) = refl
state_alike t u (Wait x) (Pass y) = refl
state_alike t u (Wait x) (Choice y) = refl
state_alike t u (Wait x) (Wait y) = wait_alike x y ∙ sym (and_true _)
state_alike t u (Wait x) (Parallel y) = refl
state_alike t u (Wait x) (Map y) = refl
state_alike t u (Wait x) (Succeed y) = refl
state_alike t u (Wait x) (Fail y) = refl
state_alike t u (Parallel x) (Task y) = refl
state_alike t u (Parallel x) (Pass y) = refl
state_alike t u (Parallel x) (Choice y) = refl
state_alike t u (Parallel x) (Wait y) = refl
state_alike t u (Parallel x) (Parallel y) = parallel_alike t u x y
state_alike t u (Parallel x) (Map y) = refl
state_alike t u (Parallel x) (Succeed y) = refl
state_alike t u (Parallel x) (Fail y) = refl
state_alike t u (Map x) (Task y) = refl
state_alike t u (Map x) (Pass y) = refl
state_alike t u (Map x) (Choice y) = refl
state_alike t u (Map x) (Wait y) = refl
state_alike t u (Map x) (Parallel y) = refl
state_alike t u (Map x) (Map y) = map_alike t u x y
state_alike t u (Map x) (Succeed y) = refl
state_alike t u (Map x) (Fail y) = refl
state_alike t u (Succeed x) (Task y) = refl
state_alike t u (Succeed x) (Pass y) = refl
state_alike t u (Succeed x) (Choice y) = refl
state_alike t u (Succeed x) (Wait y) = refl
state_alike t u (Succeed x) (Parallel y) = refl
state_alike t u (Succeed x) (Map y) = refl
state_alike t u (Succeed x) (Succeed y) = succeed_alike x y ∙ sym (and_true _)
state_alike t u (Succeed x) (Fail y) = refl
state_alike t u (Fail x) (Task y) = refl
state_alike t u (Fail x) (Pass y) = refl
state_alike t u (Fail x) (Choice y) = refl
state_alike t u (Fail x) (Wait y) = refl
state_alike t u (Fail x) (Parallel y) = refl
state_alike t u (Fail x) (Map y) = refl
state_alike t u (Fail x) (Succeed y) = refl
state_alike t u (Fail x) (Fail y) = fail_alike x y ∙ sym (and_true _)
