-- What a clause sees of what the code has.
use Rattle.std.specs.Prelude.{List, map}
use denote.Ref.{Bor}
use Rattle.asl_json_data.specs.Distinct.{Members}
use Rattle.asl_json.specs.View.{data_of, member_of}
use Rattle.asl_json.specs.declared.value.Member.{Member}
use Rattle.asl_lint_choices.specs.declared.ands.ImpossibleAnd.{ImpossibleAnd}
use Rattle.asl_lint_choices.specs.declared.comparison.Comparison.{Comparison}
use Rattle.asl_lint_choices.specs.declared.condition.Condition.{Condition}
use Rattle.asl_lint_choices.specs.Ands.{Told}
use Rattle.asl_lint_choices.specs.Comparisons.{Compared, compared}

-- members, as they are lent
abbrev pub lent : List (Bor Member) → Members
lent ms = map (λ (m : Bor Member). member_of m.now) ms

-- what a rule asks
abbrev pub asked : Condition → Members
asked c = lent c.members.items

abbrev pub all_asked : List Condition → List Members
all_asked cs = map asked cs

abbrev pub seen : Comparison → Compared
seen c = compared c.variable.now c.operator.now (data_of c.operand.now)

abbrev pub told : ImpossibleAnd → Told
told a = (a.place.items, a.contradiction)

abbrev pub all_told : List ImpossibleAnd → List Told
all_told as_found = map told as_found
