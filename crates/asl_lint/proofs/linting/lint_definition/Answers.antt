use Rattle.std.specs.Prelude.{map, option_map}
use Rattle.asl_json.specs.View.{data_of}
use Rattle.asl_lint.specs.private.Founds.{noted}
use Rattle.asl_lint.proofs.Mocking.{judged}
use Rattle.asl_lint.proofs.linting.lint_definition.Goals as goal

pub returns-clause-judged : goal.returns-clause-judged
returns-clause-judged c =
    let source = c.args.source.now in
    judged (option_map (λ k. k.now) source.machine) (option_map (λ b. b.now) source.mocks) source.definition.now (data_of c.args.definition.now) c.in_ok-states.states.list.items (map noted c.in_ok-found.found.items) (map noted c.lint_beside.new.found.items) c.in_ok-findings.findings.items c.in_ok-mocks.mocks.items
    c.requires c.in_ok-states.ensures c.in_ok-found.ensures c.in_ok-mocks.ensures.found (c.in_ok-findings.ensures.placed c.requires.reads.0) c.in_ok-mocks.ensures.told
