use Rattle.std.proofs.Common.{◌∙◌, sym}
use Rattle.std.proofs.lemmas.Slice.Eq.{bytes_eq-Decides}
use Rattle.asl_cli.proofs.Held.{known-at}
use Rattle.asl_cli.proofs.inputs.known_of.Goals as goal

pub returns-then-eq : goal.returns-then-eq
returns-then-eq c =
    known-at c.args.known.now c.loop-one.one-index c.one-item.result c.args.name.now c.in_ok-try_clone.field-0 c.loop-one-test.true c.one-item.is
    (sym c.as_str.ensures ∙ (bytes_eq-Decides c.as_str.result.now c.args.name.now).0 (sym c.if-eq.ensures))
    c.in_ok-try_clone.ensures
