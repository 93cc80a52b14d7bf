use Rattle.std.specs.Prelude.{map}
use Rattle.asl_json.specs.View.{data_of}
use Rattle.asl_lint.specs.private.Founds.{noted}
use Rattle.asl_lint.proofs.linting.lint_value.Goals as goal

pub returns-clause-told : goal.returns-clause-told
returns-clause-told c = record {
  value = data_of c.args.file.now;
  reads = c.requires;
  all = map noted c.in_ok-found.found.items;
  found = c.in_ok-found.ensures;
  placed = c.in_ok-findings.ensures.placed c.requires.reads.0;
}
