use Rattle.std.proofs.Common.{Bor, List, ℕ, ◌-◌, length, refl, sym}
use Rattle.std.specs.Prelude.{Some, None}
use Rattle.std.proofs.lemmas.Option.{slice_get_read}
use Rattle.asl_error_plans.proofs.Known.{text_there, none_past}
use Rattle.asl_error_plans.proofs.grouping.outcome_of.Goals as goal

pub returns-in-Some : goal.returns-in-Some
returns-in-Some c =
    let all = c.args.outcomes.now in
    let one = c.in-Some.outcome.now in
    text_there (λ (t : Bor (List ℕ)). t.now) c.args.number all (Some one) c.if-number-eq0.false (sym (slice_get_read all (length all) (c.args.number - 1) one refl c.in-Some.ensures.lookup.3.0 c.in-Some.ensures.lookup.1))

pub returns-in-None : goal.returns-in-None
returns-in-None c = text_there (λ (t : Bor (List ℕ)). t.now) c.args.number c.args.outcomes.now None c.if-number-eq0.false (none_past c.args.outcomes.now (c.args.number - 1) c.in-None.ensures.lookup.3)
