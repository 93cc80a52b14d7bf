-- `==` of rules and tests is true exactly where two are one.
use Rattle.std.proofs.Common.{◌≡◌, true, List, ap}
use Rattle.asl_json.specs.declared.value.Json.TheVariants.{Dict}
use Rattle.asl_def_schema.specs.Canon.{Named}
use Rattle.asl_def_fields.specs.Equal.{IsExact}
use Rattle.asl_def_fields.specs.private.EqualLaws.{split, exact, texts_exact, jsons_exact}
use Rattle.asl_choice.specs.declared.comparison.Test.{Test}
use Rattle.asl_choice.specs.contracts.operator.OrderEq.TheImpl.Laws as order_laws
use Rattle.asl_choice.specs.contracts.operator.PropertyEq.TheImpl.Laws as property_laws
use Rattle.asl_choice.specs.contracts.comparison.TestEq.TheImpl.Laws as test_laws
use Rattle.asl_choice.specs.Equal.{order_eq, property_eq, rule_equal}
use Rattle.asl_choice.specs.Laws.{test_eq}
use Rattle.asl_choice.specs.private.EqualLaws.{order_true, property_true, comparison_decides}

pub order_exact : IsExact order_eq
order_exact = exact order_eq order_laws.laws-law order_true

pub property_exact : IsExact property_eq
property_exact = exact property_eq property_laws.laws-law property_true

pub test_exact : IsExact test_eq
test_exact = exact test_eq test_laws.laws-law by
  where
    by : (x y : Test) → test_eq x y ≡ true → x ≡ y
    by x y e =
        let a = split _ _ e in
        λ i. record {
          variable = (texts_exact x.variable y.variable).0 a.0 i;
          comparison = (comparison_decides x.comparison y.comparison).0 a.1 i;
        }

one_rule : (a b : List Named) → Dict a ≡ Dict b → a ≡ b
one_rule a b e = cc

pub rule_exact : IsExact rule_equal
rule_exact a b = (λ e. one_rule a b ((jsons_exact (Dict a) (Dict b)).0 e), λ e. (jsons_exact (Dict a) (Dict b)).1 (ap Dict e))
