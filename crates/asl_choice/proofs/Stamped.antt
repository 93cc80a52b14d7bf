-- A timestamp in a rule is compared by its moment.
use Rattle.std.proofs.Common.{◌≡◌, ℕ, List, Bool, sym, subst, ap, ◌∙◌}
use Rattle.std.specs.Prelude.{Option, Some, Ok}
use Rattle.std.specs.declared.cmp.Ordering.{Ordering}
use Rattle.std.specs.Ordering.{nat_cmp}
use Rattle.asl_json_data.specs.Results.{◌>>=◌}
use Rattle.asl_json_data.specs.Data.{Data}
use Rattle.asl_time.specs.Timestamp.{IsTimestamp}
use Rattle.asl_time.specs.Fields.{moment_in}
use Rattle.asl_time.proofs.FieldMoments.{moment_is}
use Rattle.asl_choice.specs.declared.operator.Order.{Order}
use Rattle.asl_choice.specs.declared.comparison.Comparison.{Comparison}
use Rattle.asl_choice.specs.declared.comparison.Comparison.TheVariants.{Timestamp}
use Rattle.asl_choice.specs.Rules.{comparison_operator, operand}
use Rattle.asl_choice.specs.Truth.{moment_of, compared, is_so, operand_value, judged}

pub stamp_says : (k : Comparison) (o : Order) (s : List ℕ) (m : ℕ) (v x c : Data) (left : Option ℕ) (r : Option Ordering) (b : Bool) → k ≡ Timestamp o s → IsTimestamp s m → left ≡ moment_of v → r ≡ compared nat_cmp left (Some m) → b ≡ is_so o r → Ok b ≡ ((operand_value (comparison_operator k) (operand k) x c) >>= (λ w. judged (comparison_operator k) v w))
stamp_says k o s m v x c left r b is at left_is r_is b_is =
    let right : moment_in s ≡ Some m = moment_is s m at in
    let both : r ≡ compared nat_cmp (moment_of v) (moment_in s) = r_is ∙ (λ i. compared nat_cmp (left_is i) (sym right i)) in
    subst (λ (k : Comparison). Ok b ≡ ((operand_value (comparison_operator k) (operand k) x c) >>= (λ w. judged (comparison_operator k) v w))) (sym is) (ap Ok (b_is ∙ ap (is_so o) both))
