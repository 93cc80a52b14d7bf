use Rattle.std.proofs.Common.{◌≡◌, ◌<◌, ◌++◌, ◌∙◌, ap, subst, List, length, get_or, [], ◌∷◌, ℕ}
use Rattle.asl_run_branches.specs.declared.earliest.Earliest.{Earliest}
use Rattle.asl_run_state.specs.Bare.{earliest}
use Rattle.asl_branch_numbers.specs.Numbers.{branch_at, branches_in}
use Rattle.asl_branch_numbers.proofs.AsNumbers.{numbers-more}
use Rattle.asl_branch_numbers.proofs.AtPlaces.{branch-there, turn-of}
use Rattle.asl_branch_numbers.proofs.branches.Branches.numbers_behind.Goals as goal

pub loop-turn-preserved : goal.loop-turn-preserved
loop-turn-preserved c known behind =
    let w = c.args.world.now in
    let i = c.loop-turn.turn-index in
    let turn = c.turn-item.result in
    let all = earliest w.last w.branches in
    let turns : c.deref-turn-items.result.now ≡ all =
    c.deref-turn-items.ensures.value ∙ c.in_ok-put_earliest.ensures ∙ ap (λ (es : List Earliest). es ++ all) c.new-turns.ensures.items in
    let within : i < length all = subst (λ (es : List Earliest). i < length es) turns c.loop-turn-test.true in
    let here = turn-of w.last w.branches i turn within (subst (λ (es : List Earliest). turn ≡ get_or es i turn) turns c.turn-item.is) in
    rw c.in_ok-push.ensures.items
    (numbers-more (branches_in c.args.self.now) c.loop-turn.found.items w.branches i c.in-Some.number here.0 here.1.0
    (c.in-Some.ensures known behind ∙ ap (λ (q : List ℕ). branch_at q w.branches) here.1.1 ∙ branch-there w.branches i here.0 c.is_in_order.ensures here.1.0)
    (c.loop-turn.invariant known behind))
