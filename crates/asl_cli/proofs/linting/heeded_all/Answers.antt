use Rattle.std.proofs.Common.{arith, ◌≡◌, []}
use Rattle.std.proofs.lemmas.List.{nil_from_length}
use Rattle.std.specs.Vec.Iter.{into_iter_items}
use Rattle.asl_lint_files.proofs.Paired.{all_done}
use Rattle.asl_cli.proofs.linting.heeded_all.Goals as goal

pub returns : goal.returns
returns c =
    let none : into_iter_items c.loop-file.file-iterator ≡ [] = nil_from_length _ (omega (arith, c.in-None.ensures.steps.0, c.loop-file.file-iterator.rest.ok.0)) in
    all_done _ c.args.files.items (into_iter_items c.loop-file.file-iterator) c.loop-file.all.items none c.loop-file.invariant
