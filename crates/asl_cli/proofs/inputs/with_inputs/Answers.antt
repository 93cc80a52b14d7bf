use Rattle.std.proofs.Common.{arith, ◌≡◌, []}
use Rattle.std.proofs.lemmas.List.{nil_from_length}
use Rattle.std.specs.Vec.Iter.{into_iter_items}
use Rattle.asl_cli.proofs.Held.{first-more, held-known, test-known, tests-done, tests-more}
use Rattle.asl_cli.proofs.inputs.with_inputs.Goals as goal

pub loop-draft-preserved : goal.loop-draft-preserved
loop-draft-preserved g c =
    let gives = g.F.Files.gives in
    let lacks = g.F.Files.lacks in
    let was = c.loop-draft.invariant in
    let on = test-known (gives c.args.files.now) (gives c.loop-draft.files) (lacks c.args.files.now) (lacks c.loop-draft.files) was.kept was.lacking c.args.file.now c.loop-draft.known.items was.known c.in-Some.draft c.in_ok-test.test c.in_ok-test.ensures.test in
    record {
      kept = λ n b h. was.kept n b (c.test_of.ensures.kept n b h);
      lacking = λ n u h. was.lacking n u (c.test_of.ensures.lacking n u h);
      known = λ n v h. held-known (gives c.args.files.now) (gives c.loop-draft.files) (lacks c.args.files.now) (lacks c.loop-draft.files) was.kept was.lacking c.args.file.now c.loop-draft.known.items was.known n v (c.in_ok-test.ensures.known n v h);
      tests = tests-more (gives c.args.files.now) c.args.file.now c.args.drafts.list.items (into_iter_items c.next.new.self) (into_iter_items c.loop-draft.draft-iterator) c.in-Some.draft c.in-Some.ensures.steps.0 c.loop-draft.list.items c.add.new.list.items c.in_ok-test.test c.in_ok-add.ensures on was.tests;
      first = first-more (gives c.args.files.now) c.args.file.now c.args.drafts.list.items (into_iter_items c.next.new.self) (into_iter_items c.loop-draft.draft-iterator) c.in-Some.draft c.in-Some.ensures.steps.0 (lacks c.args.files.now) c.in_ok-test.test on was.first;
    }

pub returns-clause-tests : goal.returns-clause-tests
returns-clause-tests g c =
    let none : into_iter_items c.loop-draft.draft-iterator ≡ [] = nil_from_length _ (omega (arith, c.in-None.ensures.steps.0, c.loop-draft.draft-iterator.rest.ok.0)) in
    tests-done (g.F.Files.gives c.args.files.now) c.args.file.now c.args.drafts.list.items (into_iter_items c.loop-draft.draft-iterator) c.loop-draft.list.items none c.loop-draft.invariant.tests
