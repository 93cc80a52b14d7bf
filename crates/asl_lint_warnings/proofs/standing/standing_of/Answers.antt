use Rattle.std.proofs.Common.{◌∙◌, map, List, ℕ, Vec, Global, ap, sym, subst, length}
use Rattle.std.specs.Prelude.{option_map}
use Rattle.std.proofs.lemmas.List.{length-map}
use Rattle.asl_json_data.specs.Data.{pairs}
use Rattle.asl_json.specs.View.{data_of, members_of}
use Rattle.asl_lint_warnings.specs.private.Places.{place_by, AreTurned}
use Rattle.asl_lint_warnings.proofs.Marking.{many_members, standing_reached, standing_ending}
use Rattle.asl_lint_warnings.proofs.standing.standing_of.Goals as goal

pub returns-clause-reached : goal.returns-clause-reached
returns-clause-reached c =
    let f : Vec ℕ Global → List ℕ = λ v. v.items in
    standing_reached (pairs (members_of c.args.machine.now)) (pairs (members_of c.states_in-states.result.now)) (place_by c.in_ok-places.places) (map f c.deref-2.result.now) c.deref-3.result.now (length c.states_in-states.result.now) (length c.deref-2.result.now) c.place_named-start.result (option_map (λ v. data_of v.now) c.find.result) c.in_ok-reached.field-0.items
    c.states_in-states.ensures c.in_ok-places.ensures (ap (map f) c.deref-2.ensures.value ∙ c.in_ok-ways.ensures.edges) (many_members c.states_in-states.result.now) c.place_named-start.ensures c.find.ensures (c.deref-3.ensures.value ∙ c.in_ok-starts.ensures) (length-map c.deref-2.result.now f) c.in_ok-reached.ensures.size c.in_ok-reached.ensures.marks

pub returns-clause-ending : goal.returns-clause-ending
returns-clause-ending c =
    let f : Vec ℕ Global → List ℕ = λ v. v.items in
    let es : List (List ℕ) = map f c.deref.result.now in
    let fs : List (List ℕ) = map f c.deref-4.result.now in
    let turned : AreTurned es fs = subst (λ (x : List (Vec ℕ Global)). AreTurned es (map f x)) (sym c.deref-4.ensures.value) c.in_ok-turned.ensures in
    standing_ending (pairs (members_of c.args.machine.now)) (pairs (members_of c.states_in-states.result.now)) (place_by c.in_ok-places.places) es fs c.deref-5.result.now (length c.deref-4.result.now) c.in_ok-reached-2.field-0.items
    c.states_in-states.ensures c.in_ok-places.ensures (ap (map f) c.deref.ensures.value ∙ c.in_ok-ways.ensures.edges) turned (c.deref-5.ensures.value ∙ c.in_ok-ways.ensures.ends) (length-map c.deref-4.result.now f) c.in_ok-reached-2.ensures.size c.in_ok-reached-2.ensures.marks
