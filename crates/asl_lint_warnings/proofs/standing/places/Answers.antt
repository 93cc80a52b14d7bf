use Rattle.std.proofs.Common.{◌∙◌, ap, cond, List, ℕ, Some}
use Rattle.std.specs.Str.{bytes_eq}
use Rattle.std.proofs.lemmas.Map.Text.{hash_map_updates_str}
use Rattle.asl_lint_warnings.specs.private.Places.{place_by}
use Rattle.asl_lint_warnings.proofs.Placing.{places_step}
use Rattle.asl_lint_warnings.proofs.standing.places.Goals as goal

pub loop-i-preserved : goal.loop-i-preserved
loop-i-preserved c = λ k.
    places_step c.args.states.now c.loop-i.i c.index-states-i.result (place_by c.loop-i.places k) (place_by c.insert.new.self k) _ k c.loop-i-test.true c.index-states-i.is (c.loop-i.invariant k)
    (hash_map_updates_str c.as_str.result.now c.loop-i.places c.insert.new.self (Some c.loop-i.i) c.in_ok-insert.ensures.updates k
    ∙ ap (λ (bs : List ℕ). cond (bytes_eq bs k) (Some c.loop-i.i) (place_by c.loop-i.places k)) c.as_str.ensures)
