use Rattle.std.proofs.Common.{◌≡◌, ◌≤◌, ◌+◌, ◌∙◌, true, length, refl, sym, ap, subst, arith}
use Rattle.std.specs.Prelude.{is_some}
use Rattle.asl_history.specs.Events.{previous_id}
use Rattle.asl_run_branches.specs.Branches.{record_at, branches_after}
use Rattle.asl_run_branches.specs.Trees.{branches_of, nodes_of}
use Rattle.asl_run_branches.specs.Changes.{litter_of, change, nodes_after}
use Rattle.asl_run_branches.proofs.Changing.{branches-applied}
use Rattle.asl_run_state.specs.World.{World, events_after, outcome_after}
use Rattle.asl_run_state.specs.private.Telling.{last_id}
use Rattle.asl_run_state.proofs.Sound.{there-node, sound-after, goes-on, nodes-same, last-same}
use Rattle.asl_history.specs.declared.event.Event.{Event}
use Rattle.asl_run_state.proofs.Telling.{told-at, all-at, events-length}
use Rattle.asl_run_state.proofs.world.World.apply.Goals as goal

pub tell-requires-clause-at : goal.tell-requires-clause-at
tell-requires-clause-at c = rw c.in_ok-told.ensures (all-at c.args.place.now c.args.effect.events)

pub tell-requires-clause-link : goal.tell-requires-clause-link
tell-requires-clause-link c =
    let there : is_some (record_at c.args.place.now (branches_of c.self.inside.root)) ≡ true = ap (λ (w : World). is_some (record_at c.args.place.now w.branches)) c.self.view_is ∙ c.requires.there in
    c.latest_along-previous.ensures ∙ c.self.invariant.linked.links c.args.place.now (there-node c.self.inside.root c.args.place.now there) ∙ ap (previous_id c.args.place.now) (sym c.in_ok-reserve.ensures.events)

pub invariant_of-self-2 : goal.invariant_of-self-2
invariant_of-self-2 c =
    let p = c.args.place.now in
    let e = c.args.effect in
    let old = c.self.inside.history.events in
    let all = events_after p c.args.moment e.events old in
    let there : is_some (record_at p (branches_of c.self.inside.root)) ≡ true = ap (λ (w : World). is_some (record_at p w.branches)) c.self.view_is ∙ c.requires.there in
    let told : c.tell.new.history.events ≡ all = c.tell.ensures ∙ rw (c.in_ok-reserve.ensures.events, c.in_ok-told.ensures) (told-at p c.args.moment e.events old) in
    let long : length c.reserve.new.self.events + c.count_of_drafts-count.result ≡ length all = omega (arith, ap (length {A = Event}) c.in_ok-reserve.ensures.events, c.count_of_drafts-count.ensures, events-length p c.args.moment e.events old) in
    let nodes : nodes_of c.apply.new.self ≡ nodes_after p (change e.after (last_id (length e.events) (length all)) (litter_of p e.children)) (nodes_of c.self.inside.root)
    = nodes-same p e.after c.last_id-latest.result _ c.in_ok-offspring.offspring _ (nodes_of c.self.inside.root) _ c.in_ok-apply.ensures.ok (last-same _ _ _ _ _ c.last_id-latest.ensures c.count_of_drafts-count.ensures long) c.in_ok-offspring.ensures in
    let room : length old ≤ 24992 = subst (λ (w : World). length w.events ≤ 24992) (sym c.self.view_is) c.requires.room in
    rw (nodes, c.raise.ensures, told, c.outcome_after.ensures, c.replace-before.ensures.value)
    (sound-after p c.args.state c.args.moment e (nodes_of c.self.inside.root) c.self.inside.counts.items old c.self.inside.outcome (outcome_after e.outcome c.self.inside.outcome) c.self.invariant (there-node c.self.inside.root p there) room c.requires.few c.requires.tells c.requires.changes_tell
    (goes-on p e (last_id (length e.events) (length all)) c.self.inside.root c.self.inside.outcome c.self.invariant.goes c.requires.ends))

pub returns-clause-ok : goal.returns-clause-ok
returns-clause-ok c =
    let p = c.args.place.now in
    let e = c.args.effect in
    let old = c.self.inside.history.events in
    let all = events_after p c.args.moment e.events old in
    let told : c.tell.new.history.events ≡ all = c.tell.ensures ∙ rw (c.in_ok-reserve.ensures.events, c.in_ok-told.ensures) (told-at p c.args.moment e.events old) in
    let long : length c.reserve.new.self.events + c.count_of_drafts-count.result ≡ length all = omega (arith, ap (length {A = Event}) c.in_ok-reserve.ensures.events, c.count_of_drafts-count.ensures, events-length p c.args.moment e.events old) in
    let nodes : nodes_of c.apply.new.self ≡ nodes_after p (change e.after (last_id (length e.events) (length all)) (litter_of p e.children)) (nodes_of c.self.inside.root)
    = nodes-same p e.after c.last_id-latest.result _ c.in_ok-offspring.offspring _ (nodes_of c.self.inside.root) _ c.in_ok-apply.ensures.ok (last-same _ _ _ _ _ c.last_id-latest.ensures c.count_of_drafts-count.ensures long) c.in_ok-offspring.ensures in
    let branches : branches_of c.apply.new.self ≡ branches_after p e.after e.children (branches_of c.self.inside.root)
    = branches-applied c.self.inside.root c.apply.new.self p e.after (last_id (length e.events) (length all)) e.children nodes in
    rw (← c.self.view_is, branches, c.raise.ensures, told, c.outcome_after.ensures, c.replace-before.ensures.value) refl
