use Rattle.std.proofs.Common.{◌++◌, refl}
use Rattle.asl_arguments.specs.Given.{said_all}
use Rattle.asl_host.specs.Outcomes.{sink_use}
use Rattle.asl_cli.specs.Streams.{file_system, io}
use Rattle.asl_cli.proofs.Lints.{both_named, linted_as, one_named}
use Rattle.asl_cli.proofs.projects.lint_one.Goals as goal

pub returns-in-Some : goal.returns-in-Some
returns-in-Some g c = (
  record { machine = c.text_of.result; format = c.args.words.now.format; strict = c.args.words.now.strict },
  record { machine = c.text_of.ensures; format = refl; strict = refl },
  linted_as (file_system (g.F.Files.gives c.args.files.now) (g.F.Files.lacks c.args.files.now))
      (io (sink_use g.O.Sink.taken g.O.Sink.failures c.args.out.now c.lint_but.new.out) (sink_use g.E.Sink.taken g.E.Sink.failures c.args.err.now c.lint_but.new.err) c.lint_but.result)
      c.args.quiet _ (c.names.result.now ++ said_all c.as_slice.result.now) (c.args.workflow.now.ignore ++ said_all c.args.lists.now.ignored.items) _ _ (rw (c.names.ensures, c.as_slice.ensures.value))
      (both_named c.args.workflow.now c.wanted_as-definition.result c.wanted_as.result c.as_str.result.now c.in-Some.mocks.now c.wanted_as-definition.ensures c.as_str.ensures c.wanted_as.ensures c.in-Some.ensures)
      c.lint_but.ensures,
)

pub returns-in-None : goal.returns-in-None
returns-in-None g c = (
  record { machine = c.text_of.result; format = c.args.words.now.format; strict = c.args.words.now.strict },
  record { machine = c.text_of.ensures; format = refl; strict = refl },
  linted_as (file_system (g.F.Files.gives c.args.files.now) (g.F.Files.lacks c.args.files.now))
      (io (sink_use g.O.Sink.taken g.O.Sink.failures c.args.out.now c.lint_but-in-None.new.out) (sink_use g.E.Sink.taken g.E.Sink.failures c.args.err.now c.lint_but-in-None.new.err) c.lint_but-in-None.result)
      c.args.quiet _ (c.names.result.now ++ said_all c.as_slice.result.now) (c.args.workflow.now.ignore ++ said_all c.args.lists.now.ignored.items) _ _ (rw (c.names.ensures, c.as_slice.ensures.value))
      (one_named c.args.workflow.now c.wanted_as-definition.result c.as_str.result.now c.wanted_as-definition.ensures c.as_str.ensures c.in-None.ensures)
      c.lint_but-in-None.ensures,
)
