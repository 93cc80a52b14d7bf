-- `==` of states is true exactly where two are one.
use Rattle.std.proofs.Common.{◌≡◌, ◌∙◌, Bool, true, refl, sym, ap, subst}
use Rattle.std.specs.Prelude.{◌↔◌, IsTrue}
use Rattle.std.specs.Option.{option_eq}
use Rattle.std.specs.Cmp.{IsPartialEquivalence, IsEquivalence, decided, partial_equiv_from_equiv}
use Rattle.asl_json.specs.Same.{json_equal}
use Rattle.asl_def_fields.specs.Equal.{IsExact}
use Rattle.asl_def_fields.specs.private.EqualLaws.{split, exact, options_exact, texts_exact, data_exact, items_exact, jsons_exact}
use Rattle.asl_def_fields.proofs.Exact.{path_exact, path_or_call_exact, config_exact}
use Rattle.asl_def_fields.specs.Laws.{config_eq}
use Rattle.asl_def_shared.specs.Laws.{target_eq}
use Rattle.asl_def_shared.proofs.Exact.{texts_decide, data_decide, target_exact, transition_exact, common_exact, limits_exact, completion_exact, body_exact, bodies_exact}
use Rattle.asl_choice.proofs.Exact.{rule_exact}
use Rattle.asl_def_states.specs.declared.task.Task.{Task as TaskState}
use Rattle.asl_def_states.specs.declared.pass.Pass.{Pass as PassState}
use Rattle.asl_def_states.specs.declared.choice.ChoiceRule.{ChoiceRule}
use Rattle.asl_def_states.specs.declared.choice.Choice.{Choice as ChoiceState}
use Rattle.asl_def_states.specs.declared.wait.Delay.{Delay}
use Rattle.asl_def_states.specs.declared.wait.Wait.{Wait as WaitState}
use Rattle.asl_def_states.specs.declared.parallel.Parallel.{Parallel as ParallelState}
use Rattle.asl_def_states.specs.declared.processor.Processor.{Processor}
use Rattle.asl_def_states.specs.declared.processor.Selector.{Selector}
use Rattle.asl_def_states.specs.declared.map.Map.{Map as MapState}
use Rattle.asl_def_states.specs.declared.succeed.Succeed.{Succeed as SucceedState}
use Rattle.asl_def_states.specs.declared.fail.FailText.{FailText}
use Rattle.asl_def_states.specs.declared.fail.Fail.{Fail as FailState}
use Rattle.asl_def_states.specs.declared.wait.Delay.TheVariants.{Seconds, SecondsPath, Timestamp, TimestampPath}
use Rattle.asl_def_states.specs.declared.processor.Selector.TheVariants.{Parameters, ItemSelector}
use Rattle.asl_def_states.specs.declared.processor.Processor.TheVariants.{Iterator, ItemProcessor}
use Rattle.asl_def_states.specs.declared.fail.FailText.TheVariants.{Told, At}
use Rattle.asl_def_states.specs.declared.state.State.{State}
use Rattle.asl_def_states.specs.declared.state.State.TheVariants.{Task, Pass, Choice, Wait, Parallel, Map, Succeed, Fail}
use Rattle.asl_def_states.specs.contracts.task.TaskEq.TheImpl.Laws as task_laws
use Rattle.asl_def_states.specs.contracts.pass.PassEq.TheImpl.Laws as pass_laws
use Rattle.asl_def_states.specs.contracts.choice.ChoiceRuleEq.TheImpl.Laws as choice_rule_laws
use Rattle.asl_def_states.specs.contracts.choice.ChoiceEq.TheImpl.Laws as choice_laws
use Rattle.asl_def_states.specs.contracts.wait.DelayEq.TheImpl.Laws as delay_laws
use Rattle.asl_def_states.specs.contracts.wait.WaitEq.TheImpl.Laws as wait_laws
use Rattle.asl_def_states.specs.contracts.parallel.ParallelEq.TheImpl.Laws as parallel_laws
use Rattle.asl_def_states.specs.contracts.processor.ProcessorEq.TheImpl.Laws as processor_laws
use Rattle.asl_def_states.specs.contracts.processor.SelectorEq.TheImpl.Laws as selector_laws
use Rattle.asl_def_states.specs.contracts.map.MapEq.TheImpl.Laws as map_laws
use Rattle.asl_def_states.specs.contracts.succeed.SucceedEq.TheImpl.Laws as succeed_laws
use Rattle.asl_def_states.specs.contracts.fail.FailTextEq.TheImpl.Laws as fail_text_laws
use Rattle.asl_def_states.specs.contracts.fail.FailEq.TheImpl.Laws as fail_laws
use Rattle.asl_def_states.specs.Laws.{task_eq, pass_eq, choice_rule_eq, choice_eq, delay_eq, wait_eq, parallel_eq, processor_eq, selector_eq, map_eq, succeed_eq, fail_text_eq, fail_eq, state_eq}

-- what may be there

jsons_decide : IsExact (option_eq json_equal)
jsons_decide = options_exact json_equal jsons_exact

targets_decide : IsExact (option_eq target_eq)
targets_decide = options_exact target_eq target_exact

pub task_exact : IsExact task_eq
task_exact = exact task_eq task_laws.laws-law by
  where
    by : (x y : TaskState) → task_eq x y ≡ true → x ≡ y
    by x y e =
        let a = split _ _ e in
        let b = split _ _ a.1 in
        let c = split _ _ b.1 in
        let d = split _ _ c.1 in
        let f = split _ _ d.1 in
        let g = split _ _ f.1 in
        λ i. record {
          common = (common_exact x.common y.common).0 a.0 i;
          resource = (texts_exact x.resource y.resource).0 b.0 i;
          input_path = (path_exact x.input_path y.input_path).0 c.0 i;
          parameters = (data_decide x.parameters y.parameters).0 d.0 i;
          credentials = (jsons_decide x.credentials y.credentials).0 f.0 i;
          limits = (limits_exact x.limits y.limits).0 g.0 i;
          completion = (completion_exact x.completion y.completion).0 g.1 i;
        }

pub pass_exact : IsExact pass_eq
pass_exact = exact pass_eq pass_laws.laws-law by
  where
    by : (x y : PassState) → pass_eq x y ≡ true → x ≡ y
    by x y e =
        let a = split _ _ e in
        let b = split _ _ a.1 in
        let c = split _ _ b.1 in
        let d = split _ _ c.1 in
        let f = split _ _ d.1 in
        let g = split _ _ f.1 in
        λ i. record {
          common = (common_exact x.common y.common).0 a.0 i;
          input_path = (path_exact x.input_path y.input_path).0 b.0 i;
          parameters = (data_decide x.parameters y.parameters).0 c.0 i;
          result = (jsons_decide x.result y.result).0 d.0 i;
          result_path = (path_exact x.result_path y.result_path).0 f.0 i;
          output_path = (path_exact x.output_path y.output_path).0 g.0 i;
          next = (transition_exact x.next y.next).0 g.1 i;
        }

pub choice_rule_exact : IsExact choice_rule_eq
choice_rule_exact = exact choice_rule_eq choice_rule_laws.laws-law by
  where
    by : (x y : ChoiceRule) → choice_rule_eq x y ≡ true → x ≡ y
    by x y e =
        let a = split _ _ e in
        λ i. record {
          rule = (rule_exact x.rule y.rule).0 a.0 i;
          next = (target_exact x.next y.next).0 a.1 i;
        }

pub choice_exact : IsExact choice_eq
choice_exact = exact choice_eq choice_laws.laws-law by
  where
    by : (x y : ChoiceState) → choice_eq x y ≡ true → x ≡ y
    by x y e =
        let a = split _ _ e in
        let b = split _ _ a.1 in
        let c = split _ _ b.1 in
        let d = split _ _ c.1 in
        λ i. record {
          common = (common_exact x.common y.common).0 a.0 i;
          input_path = (path_exact x.input_path y.input_path).0 b.0 i;
          choices = (items_exact x.choices y.choices).0 c.0 i;
          default = (targets_decide x.default y.default).0 d.0 i;
          output_path = (path_exact x.output_path y.output_path).0 d.1 i;
        }

pub delay_exact : IsExact delay_eq
delay_exact = exact delay_eq delay_laws.laws-law by
  where
    by : (x y : Delay) → delay_eq x y ≡ true → x ≡ y
    by (Seconds a) (Seconds b) e = ap Seconds ((texts_exact a b).0 e)
    by (SecondsPath a) (SecondsPath b) e = ap SecondsPath ((texts_exact a b).0 e)
    by (Timestamp a) (Timestamp b) e = ap Timestamp ((texts_exact a b).0 e)
    by (TimestampPath a) (TimestampPath b) e = ap TimestampPath ((texts_exact a b).0 e)
    by x y e = absurd cc

pub wait_exact : IsExact wait_eq
wait_exact = exact wait_eq wait_laws.laws-law by
  where
    by : (x y : WaitState) → wait_eq x y ≡ true → x ≡ y
    by x y e =
        let a = split _ _ e in
        let b = split _ _ a.1 in
        let c = split _ _ b.1 in
        let d = split _ _ c.1 in
        λ i. record {
          common = (common_exact x.common y.common).0 a.0 i;
          input_path = (path_exact x.input_path y.input_path).0 b.0 i;
          delay = (delay_exact x.delay y.delay).0 c.0 i;
          output_path = (path_exact x.output_path y.output_path).0 d.0 i;
          next = (transition_exact x.next y.next).0 d.1 i;
        }

pub parallel_exact : IsExact parallel_eq
parallel_exact = exact parallel_eq parallel_laws.laws-law by
  where
    by : (x y : ParallelState) → parallel_eq x y ≡ true → x ≡ y
    by x y e =
        let a = split _ _ e in
        let b = split _ _ a.1 in
        let c = split _ _ b.1 in
        let d = split _ _ c.1 in
        λ i. record {
          common = (common_exact x.common y.common).0 a.0 i;
          input_path = (path_exact x.input_path y.input_path).0 b.0 i;
          parameters = (data_decide x.parameters y.parameters).0 c.0 i;
          branches = (bodies_exact x.branches y.branches).0 d.0 i;
          completion = (completion_exact x.completion y.completion).0 d.1 i;
        }

pub processor_exact : IsExact processor_eq
processor_exact = exact processor_eq processor_laws.laws-law by
  where
    by : (x y : Processor) → processor_eq x y ≡ true → x ≡ y
    by (Iterator a) (Iterator b) e = ap Iterator ((body_exact a b).0 e)
    by (ItemProcessor c a) (ItemProcessor d b) e =
        let s = split _ _ e in
        λ i. ItemProcessor ((options_exact config_eq config_exact c d).0 s.0 i) ((body_exact a b).0 s.1 i)
    by x y e = absurd cc

pub selector_exact : IsExact selector_eq
selector_exact = exact selector_eq selector_laws.laws-law by
  where
    by : (x y : Selector) → selector_eq x y ≡ true → x ≡ y
    by (Parameters a) (Parameters b) e = ap Parameters ((data_exact a b).0 e)
    by (ItemSelector a) (ItemSelector b) e = ap ItemSelector ((data_exact a b).0 e)
    by x y e = absurd cc

selectors_decide : IsExact (option_eq selector_eq)
selectors_decide = options_exact selector_eq selector_exact

pub map_exact : IsExact map_eq
map_exact = exact map_eq map_laws.laws-law by
  where
    by : (x y : MapState) → map_eq x y ≡ true → x ≡ y
    by x y e =
        let a = split _ _ e in
        let b = split _ _ a.1 in
        let c = split _ _ b.1 in
        let d = split _ _ c.1 in
        let f = split _ _ d.1 in
        let g = split _ _ f.1 in
        λ i. record {
          common = (common_exact x.common y.common).0 a.0 i;
          input_path = (path_exact x.input_path y.input_path).0 b.0 i;
          items_path = (texts_decide x.items_path y.items_path).0 c.0 i;
          max_concurrency = (texts_decide x.max_concurrency y.max_concurrency).0 d.0 i;
          selector = (selectors_decide x.selector y.selector).0 f.0 i;
          processor = (processor_exact x.processor y.processor).0 g.0 i;
          completion = (completion_exact x.completion y.completion).0 g.1 i;
        }

pub succeed_exact : IsExact succeed_eq
succeed_exact = exact succeed_eq succeed_laws.laws-law by
  where
    by : (x y : SucceedState) → succeed_eq x y ≡ true → x ≡ y
    by x y e =
        let a = split _ _ e in
        let b = split _ _ a.1 in
        λ i. record {
          common = (common_exact x.common y.common).0 a.0 i;
          input_path = (path_exact x.input_path y.input_path).0 b.0 i;
          output_path = (path_exact x.output_path y.output_path).0 b.1 i;
        }

pub fail_text_exact : IsExact fail_text_eq
fail_text_exact = exact fail_text_eq fail_text_laws.laws-law by
  where
    by : (x y : FailText) → fail_text_eq x y ≡ true → x ≡ y
    by (Told a) (Told b) e = ap Told ((texts_exact a b).0 e)
    by (At a) (At b) e = ap At ((path_or_call_exact a b).0 e)
    by x y e = absurd cc

fail_texts_decide : IsExact (option_eq fail_text_eq)
fail_texts_decide = options_exact fail_text_eq fail_text_exact

pub fail_exact : IsExact fail_eq
fail_exact = exact fail_eq fail_laws.laws-law by
  where
    by : (x y : FailState) → fail_eq x y ≡ true → x ≡ y
    by x y e =
        let a = split _ _ e in
        let b = split _ _ a.1 in
        λ i. record {
          common = (common_exact x.common y.common).0 a.0 i;
          error = (fail_texts_decide x.error y.error).0 b.0 i;
          cause = (fail_texts_decide x.cause y.cause).0 b.1 i;
        }

-- ---- states

state_one : (x y : State) → state_eq x y ≡ true → x ≡ y
state_one (Task a) (Task b) e = ap Task ((task_exact a b).0 e)
state_one (Pass a) (Pass b) e = ap Pass ((pass_exact a b).0 e)
state_one (Choice a) (Choice b) e = ap Choice ((choice_exact a b).0 e)
state_one (Wait a) (Wait b) e = ap Wait ((wait_exact a b).0 e)
state_one (Parallel a) (Parallel b) e = ap Parallel ((parallel_exact a b).0 e)
state_one (Map a) (Map b) e = ap Map ((map_exact a b).0 e)
state_one (Succeed a) (Succeed b) e = ap Succeed ((succeed_exact a b).0 e)
state_one (Fail a) (Fail b) e = ap Fail ((fail_exact a b).0 e)
state_one x y e = absurd cc

state_refl : (x : State) → state_eq x x ≡ true
state_refl (Task a) = (task_exact a a).1 refl
state_refl (Pass a) = (pass_exact a a).1 refl
state_refl (Choice a) = (choice_exact a a).1 refl
state_refl (Wait a) = (wait_exact a a).1 refl
state_refl (Parallel a) = (parallel_exact a a).1 refl
state_refl (Map a) = (map_exact a a).1 refl
state_refl (Succeed a) = (succeed_exact a a).1 refl
state_refl (Fail a) = (fail_exact a a).1 refl

pub state_exact : IsExact state_eq
state_exact x y = (state_one x y, λ e. subst (λ (z : State). state_eq x z ≡ true) e (state_refl x))

pub state_equivalence : IsEquivalence state_eq
state_equivalence = decided state_eq state_exact

pub state_laws : IsPartialEquivalence state_eq
state_laws = partial_equiv_from_equiv state_equivalence

-- what says whether two states are equal says whether they are one
pub says_one : (r : Bool) (x y : State) → r ≡ state_eq x y → IsTrue r ↔ (x ≡ y)
says_one r x y e = (λ h. (state_exact x y).0 (sym e ∙ h), λ h. e ∙ (state_exact x y).1 h)
