use Rattle.std.proofs.Common.{refl}
use Rattle.asl_json_data.specs.Grammar.{is_space}
use Rattle.asl_json_data.specs.Number.{is_digit}
use Rattle.asl_json_data.specs.Text.{is_plain, is_letter}
use Rattle.asl_json_scan.specs.private.Chars.{in_text, on_unit}
use Rattle.asl_rules.specs.private.Steps.{run, deepens, in_operand, in_operator, in_wants, in_between, in_figure, grown}
use Rattle.asl_rules.proofs.laws.operators_bind_so.Goals as goal

pub returns-clause-and_before_or : goal.returns-clause-and_before_or
unfolding run deepens in_operand in_operator in_wants in_between in_figure grown is_space is_digit in_text is_plain is_letter on_unit
returns-clause-and_before_or c = refl

pub returns-clause-or_before_implies : goal.returns-clause-or_before_implies
unfolding run deepens in_operand in_operator in_wants in_between in_figure grown is_space is_digit in_text is_plain is_letter on_unit
returns-clause-or_before_implies c = refl

pub returns-clause-implies_to_the_right : goal.returns-clause-implies_to_the_right
unfolding run deepens in_operand in_operator in_wants in_between in_figure grown is_space is_digit in_text is_plain is_letter on_unit
returns-clause-implies_to_the_right c = refl

pub returns-clause-not_before_and : goal.returns-clause-not_before_and
unfolding run deepens in_operand in_operator in_wants in_between in_figure grown is_space is_digit in_text is_plain is_letter on_unit
returns-clause-not_before_and c = refl

pub returns-clause-parentheses : goal.returns-clause-parentheses
unfolding run deepens in_operand in_operator in_wants in_between in_figure grown is_space is_digit in_text is_plain is_letter on_unit
returns-clause-parentheses c = refl
