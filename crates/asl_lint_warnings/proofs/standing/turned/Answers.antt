use Rattle.std.proofs.Common.{◌≡◌, ◌<◌, [], ◌∙◌, map, List, ℕ, Vec, Global, ap, sym, subst, get_or, length, add-one}
use Rattle.std.proofs.lemmas.List.{length-map, get_or_read}
use Rattle.std.proofs.Math.ListN.{get_or-map}
use Rattle.asl_lint_warnings.specs.private.Places.{HasTurned}
use Rattle.asl_lint_warnings.proofs.Turning.{TurnedTo, turned_more}
use Rattle.asl_lint_warnings.proofs.standing.turned.Goals as goal

pub loop-from-preserved : goal.loop-from-preserved
loop-from-preserved c =
    let f : Vec ℕ Global → List ℕ = λ v. v.items in
    let l = c.args.edges.now in
    let m = c.loop-from.from in
    let es : List (List ℕ) = map f l in
    let fs : List (List ℕ) = map f c.loop-from.turned.items in
    let gs : List (List ℕ) = map f c.turn.new.turned.items in
    let x : List ℕ = c.index-edges-from.result.items in
    let within : m < length es = subst (λ (n : ℕ). m < n) (sym (length-map l f)) c.loop-from-test.true in
    let read : x ≡ get_or es m x = ap f c.index-edges-from.is ∙ sym (get_or-map f l m c.index-edges-from.result) in
    let here : c.deref.result.now ≡ get_or es m [] = c.deref.ensures.value ∙ get_or_read es m x within read [] in
    let size : length gs ≡ length fs = length-map c.turn.new.turned.items f ∙ c.in_ok-turn.ensures.size ∙ sym (length-map c.loop-from.turned.items f) in
    subst (λ (n : ℕ). TurnedTo es n gs) (sym (add-one m))
    (turned_more es fs gs m c.loop-from.invariant size (subst (λ (ns : List ℕ). HasTurned fs m ns gs) here c.in_ok-turn.ensures.edges))
