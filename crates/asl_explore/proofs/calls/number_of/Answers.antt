use Rattle.std.proofs.Common.{◌∙◌, arith, sym}
use Rattle.std.proofs.lemmas.List.{length-map}
use Rattle.asl_run_state.proofs.Bareness.{outcome-one}
use Rattle.asl_explore.specs.declared.found.Found.{Found}
use Rattle.asl_explore.proofs.Finding.{at-map}
use Rattle.asl_explore.proofs.calls.number_of.Goals as goal

pub returns-then-eq : goal.returns-then-eq
returns-then-eq c =
    let f = c.index-found-number.result in (
      omega (arith, c.loop-number-test.true, length-map c.args.found.now (λ (z : Found). z.outcome)),
      λ d. at-map c.args.found.now c.loop-number.number f d c.loop-number-test.true c.index-found-number.is ∙ outcome-one f.outcome c.args.outcome.now (sym c.eq.ensures ∙ c.if-eq.true),
    )
