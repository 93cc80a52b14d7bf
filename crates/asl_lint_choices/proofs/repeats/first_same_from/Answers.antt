use Rattle.std.proofs.Common.{sym, length, refl, ap, ◌∙◌}
use Rattle.std.specs.Prelude.{option_map}
use Rattle.std.proofs.lemmas.Bool.{ltb-true}
use Rattle.std.proofs.lemmas.Option.{slice_get-map, slice_get_read}
use Rattle.asl_lint_choices.specs.View.{all_asked, asked}
use Rattle.asl_lint_choices.proofs.Looking.{first_there}
use Rattle.asl_lint_choices.proofs.Standing.{stands_all}
use Rattle.asl_lint_choices.proofs.repeats.first_same_from.Goals as goal

pub returns-then-is_same : goal.returns-then-is_same
returns-then-is_same c =
    let cs = c.args.conditions.now in
    let look = c.in-Some.ensures.lookup in
    let at = slice_get_read cs (length cs) c.args.first c.in-Some.other.now refl (ltb-true c.args.first (length cs) (sym look.0)) look.1 in
    sym (first_there (asked c.args.condition.now) (all_asked cs) (all_asked cs) 0 c.args.first (asked c.in-Some.other.now) (stands_all (all_asked cs)) c.requires (slice_get-map asked cs c.args.first ∙ ap (option_map asked) at) (sym c.is_same.ensures ∙ c.if-is_same.true))
