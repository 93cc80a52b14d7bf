use Rattle.std.proofs.Common.{refl}
use Rattle.asl_json_data.specs.Grammar.{is_space}
use Rattle.asl_json_data.specs.Number.{is_digit}
use Rattle.asl_json_data.specs.Text.{is_plain, is_letter}
use Rattle.asl_json_scan.specs.private.Chars.{in_text, on_unit}
use Rattle.asl_rules.specs.private.Steps.{run, deepens, in_operand, in_operator, in_wants, in_between, in_figure, grown}
use Rattle.asl_rules.proofs.laws.faults_are_told_so.Goals as goal

pub returns-clause-early : goal.returns-clause-early
unfolding run deepens in_operand in_operator in_wants in_between in_figure grown is_space is_digit in_text is_plain is_letter on_unit
returns-clause-early c = refl

pub returns-clause-none : goal.returns-clause-none
unfolding run deepens in_operand in_operator in_wants in_between in_figure grown is_space is_digit in_text is_plain is_letter on_unit
returns-clause-none c = refl

pub returns-clause-word : goal.returns-clause-word
unfolding run deepens in_operand in_operator in_wants in_between in_figure grown is_space is_digit in_text is_plain is_letter on_unit
returns-clause-word c = refl

pub returns-clause-operand : goal.returns-clause-operand
unfolding run deepens in_operand in_operator in_wants in_between in_figure grown is_space is_digit in_text is_plain is_letter on_unit
returns-clause-operand c = refl

pub returns-clause-name : goal.returns-clause-name
unfolding run deepens in_operand in_operator in_wants in_between in_figure grown is_space is_digit in_text is_plain is_letter on_unit
returns-clause-name c = refl

pub returns-clause-closed : goal.returns-clause-closed
unfolding run deepens in_operand in_operator in_wants in_between in_figure grown is_space is_digit in_text is_plain is_letter on_unit
returns-clause-closed c = refl

pub returns-clause-open : goal.returns-clause-open
unfolding run deepens in_operand in_operator in_wants in_between in_figure grown is_space is_digit in_text is_plain is_letter on_unit
returns-clause-open c = refl

pub returns-clause-number : goal.returns-clause-number
unfolding run deepens in_operand in_operator in_wants in_between in_figure grown is_space is_digit in_text is_plain is_letter on_unit
returns-clause-number c = refl

pub returns-clause-state : goal.returns-clause-state
unfolding run deepens in_operand in_operator in_wants in_between in_figure grown is_space is_digit in_text is_plain is_letter on_unit
returns-clause-state c = refl

pub returns-clause-syntax_first : goal.returns-clause-syntax_first
unfolding run deepens in_operand in_operator in_wants in_between in_figure grown is_space is_digit in_text is_plain is_letter on_unit
returns-clause-syntax_first c = refl

pub returns-clause-undo : goal.returns-clause-undo
unfolding run deepens in_operand in_operator in_wants in_between in_figure grown is_space is_digit in_text is_plain is_letter on_unit
returns-clause-undo c = refl
