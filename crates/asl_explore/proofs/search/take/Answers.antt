use Rattle.std.proofs.Common.{ℕ, ◌≡◌, ◌∙◌, sym, subst, List, get_or, None}
use Rattle.std.specs.Prelude.{IfOk}
use Rattle.std.specs.List.{All}
use Rattle.std.proofs.lemmas.Result.{IfOk-weaker}
use Rattle.asl_run_state.specs.World.{World}
use Rattle.asl_run_state.specs.Bare.{bare}
use Rattle.asl_exec.specs.Steps.{refusal_in, step}
use Rattle.asl_exec.specs.Probes.{setup_of}
use Rattle.asl_explore.specs.Searches.{IsReached, worlds_of, outcomes_of}
use Rattle.asl_explore.proofs.Growing.{later-same}
use Rattle.asl_explore.proofs.search.take.Goals as goal

pub returns-then-is_beyond-clause-later : goal.returns-then-is_beyond-clause-later
returns-then-is_beyond-clause-later c = later-same (worlds_of c.args.met.now.nodes.items) (outcomes_of c.args.found.now.list.items)

pub returns-in_err-try_clone-clause-later : goal.returns-in_err-try_clone-clause-later
returns-in_err-try_clone-clause-later c = later-same (worlds_of c.args.met.now.nodes.items) (outcomes_of c.args.found.now.list.items)

pub returns-clause-reached : goal.returns-clause-reached
returns-clause-reached c o =
    let s = setup_of c.args.probe.now in
    let ws = worlds_of c.args.met.now.nodes.items in
    let xs = worlds_of c.visit.new.met.nodes.items in
    let number = c.args.number in
    let moment = c.args.turn.now.moment in
    IfOk-weaker c.visit.result _ _ (λ b h all stepped. h all (stepped (sym c.is_beyond.ensures ∙ c.if-is_beyond.false)))
    (subst (λ (p : List ℕ). IfOk c.visit.result (λ b. All (IsReached o s) ws → ((d : World) → refusal_in s (get_or ws number d) p moment ≡ None → IsReached o s (bare (step s (get_or ws number d) p moment))) → All (IsReached o s) xs)) c.in_ok-try_clone.ensures (c.visit.ensures.reached o))
