-- `==` of each part is true exactly where two are one.
use Rattle.std.proofs.Common.{◌≡◌, true, refl, ap}
use Rattle.std.specs.Option.{option_eq}
use Rattle.std.specs.Cmp.{unsigned_Decides}
use Rattle.std.specs.Cmp.Lexicographic.{pointwise_decides}
use Rattle.asl_json.specs.Same.{bytes_eq, equal, items_equal}
use Rattle.asl_def_fields.specs.Equal.{IsExact}
use Rattle.asl_def_fields.specs.private.EqualLaws.{split, exact, options_exact, texts_exact, data_exact, items_exact, names_exact}
use Rattle.asl_def_fields.proofs.Exact.{path_exact}
use Rattle.asl_def_shared.specs.declared.target.Target.{Target}
use Rattle.asl_def_shared.specs.declared.target.Transition.{Transition}
use Rattle.asl_def_shared.specs.declared.catcher.Catcher.{Catcher}
use Rattle.asl_def_shared.specs.declared.common.Common.{Common}
use Rattle.asl_def_shared.specs.declared.limits.TimeLimits.{TimeLimits}
use Rattle.asl_def_shared.specs.declared.completion.Completion.{Completion}
use Rattle.asl_def_shared.specs.declared.body.Body.{Body}
use Rattle.asl_def_shared.specs.declared.heading.Heading.{Heading}
use Rattle.asl_def_shared.specs.declared.target.Transition.TheVariants.{End, To}
use Rattle.asl_def_shared.specs.contracts.target.TargetEq.TheImpl.Laws as target_laws
use Rattle.asl_def_shared.specs.contracts.target.TransitionEq.TheImpl.Laws as transition_laws
use Rattle.asl_def_shared.specs.contracts.catcher.CatcherEq.TheImpl.Laws as catcher_laws
use Rattle.asl_def_shared.specs.contracts.common.CommonEq.TheImpl.Laws as common_laws
use Rattle.asl_def_shared.specs.contracts.limits.TimeLimitsEq.TheImpl.Laws as limits_laws
use Rattle.asl_def_shared.specs.contracts.completion.CompletionEq.TheImpl.Laws as completion_laws
use Rattle.asl_def_shared.specs.contracts.body.BodyEq.TheImpl.Laws as body_laws
use Rattle.asl_def_shared.specs.contracts.heading.HeadingEq.TheImpl.Laws as heading_laws
use Rattle.asl_def_shared.specs.Laws.{target_eq, transition_eq, catcher_eq, common_eq, limits_eq, completion_eq, body_eq, bodies_eq, heading_eq}

-- what may be there

pub texts_decide : IsExact (option_eq bytes_eq)
texts_decide = options_exact bytes_eq texts_exact

pub data_decide : IsExact (option_eq equal)
data_decide = options_exact equal data_exact

pub lists_decide : IsExact (option_eq items_equal)
lists_decide = options_exact items_equal items_exact

-- ---- parts

pub target_exact : IsExact target_eq
target_exact = exact target_eq target_laws.laws-law by
  where
    by : (x y : Target) → target_eq x y ≡ true → x ≡ y
    by x y e = let h : x.name ≡ y.name = (texts_exact x.name y.name).0 e in λ i. record { name = h i }

pub transition_exact : IsExact transition_eq
transition_exact = exact transition_eq transition_laws.laws-law by
  where
    by : (x y : Transition) → transition_eq x y ≡ true → x ≡ y
    by End End e = refl
    by (To t) (To u) e = ap To ((target_exact t u).0 e)
    by x y e = absurd cc

pub catcher_exact : IsExact catcher_eq
catcher_exact = exact catcher_eq catcher_laws.laws-law by
  where
    by : (x y : Catcher) → catcher_eq x y ≡ true → x ≡ y
    by x y e =
        let a = split _ _ e in
        let b = split _ _ a.1 in
        let c = split _ _ b.1 in
        λ i. record {
          comment = (texts_decide x.comment y.comment).0 a.0 i;
          errors = (names_exact x.errors y.errors).0 b.0 i;
          result_path = (path_exact x.result_path y.result_path).0 c.0 i;
          next = (target_exact x.next y.next).0 c.1 i;
        }

pub common_exact : IsExact common_eq
common_exact = exact common_eq common_laws.laws-law by
  where
    by : (x y : Common) → common_eq x y ≡ true → x ≡ y
    by x y e =
        let a = split _ _ e in
        λ i. record {
          comment = (texts_decide x.comment y.comment).0 a.0 i;
          query_language = (texts_decide x.query_language y.query_language).0 a.1 i;
        }

pub limits_exact : IsExact limits_eq
limits_exact = exact limits_eq limits_laws.laws-law by
  where
    by : (x y : TimeLimits) → limits_eq x y ≡ true → x ≡ y
    by x y e =
        let a = split _ _ e in
        let b = split _ _ a.1 in
        let c = split _ _ b.1 in
        λ i. record {
          timeout = (texts_decide x.timeout y.timeout).0 a.0 i;
          timeout_path = (texts_decide x.timeout_path y.timeout_path).0 b.0 i;
          heartbeat = (texts_decide x.heartbeat y.heartbeat).0 c.0 i;
          heartbeat_path = (texts_decide x.heartbeat_path y.heartbeat_path).0 c.1 i;
        }

pub completion_exact : IsExact completion_eq
completion_exact = exact completion_eq completion_laws.laws-law by
  where
    by : (x y : Completion) → completion_eq x y ≡ true → x ≡ y
    by x y e =
        let a = split _ _ e in
        let b = split _ _ a.1 in
        let c = split _ _ b.1 in
        let d = split _ _ c.1 in
        let f = split _ _ d.1 in
        λ i. record {
          result_selector = (data_decide x.result_selector y.result_selector).0 a.0 i;
          result_path = (path_exact x.result_path y.result_path).0 b.0 i;
          output_path = (path_exact x.output_path y.output_path).0 c.0 i;
          retry = (lists_decide x.retry y.retry).0 d.0 i;
          catch = (lists_decide x.catch y.catch).0 f.0 i;
          next = (transition_exact x.next y.next).0 f.1 i;
        }

pub body_exact : IsExact body_eq
body_exact = exact body_eq body_laws.laws-law by
  where
    by : (x y : Body) → body_eq x y ≡ true → x ≡ y
    by x y e =
        let a = split _ _ e in
        let b = split _ _ a.1 in
        let c = split _ _ b.1 in
        λ i. record {
          comment = (texts_decide x.comment y.comment).0 a.0 i;
          start = (target_exact x.start y.start).0 b.0 i;
          first = (unsigned_Decides x.first y.first).0 c.0 i;
          count = (unsigned_Decides x.count y.count).0 c.1 i;
        }

pub bodies_exact : IsExact bodies_eq
bodies_exact = pointwise_decides body_exact

pub heading_exact : IsExact heading_eq
heading_exact = exact heading_eq heading_laws.laws-law by
  where
    by : (x y : Heading) → heading_eq x y ≡ true → x ≡ y
    by x y e =
        let a = split _ _ e in
        let b = split _ _ a.1 in
        λ i. record {
          query_language = (texts_decide x.query_language y.query_language).0 a.0 i;
          version = (texts_decide x.version y.version).0 b.0 i;
          timeout = (texts_decide x.timeout y.timeout).0 b.1 i;
        }
