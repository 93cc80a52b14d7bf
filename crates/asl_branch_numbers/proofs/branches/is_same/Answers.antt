use Rattle.std.proofs.Common.{◌≡◌, ◌∙◌, sym}
use Rattle.asl_run_branches.proofs.Linking.{same-eq}
use Rattle.asl_run_branches.proofs.Sameness.{record-one}
use Rattle.asl_branch_numbers.proofs.branches.is_same.Goals as goal

pub returns-then-eq : goal.returns-then-eq
returns-then-eq c t =
    let place = same-eq c.args.one.now.place c.args.place.now (sym c.eq.ensures ∙ c.if-eq.true) in
    let held = record-one c.args.one.now.held c.args.held.now (sym c.eq-then-eq.ensures ∙ t) in
    λ i. record { place = place i; current = held i }
