use Rattle.std.proofs.Common.{◌≡◌, ◌<◌, [], ◌∷◌, ◌++◌, ◌∙◌, map, set, List, ℕ, Vec, Global, ap, sym, subst, get_or, length, arith}
use Rattle.std.proofs.lemmas.List.{length-map, map-set, get_or_read}
use Rattle.std.proofs.Math.ListN.{get_or-map}
use Rattle.asl_lint_warnings.specs.private.Places.{HasTurned}
use Rattle.asl_lint_warnings.proofs.Turning.{edge_added}
use Rattle.asl_lint_warnings.proofs.standing.turn_one.Goals as goal

pub returns-clause-edges : goal.returns-clause-edges
returns-clause-edges c =
    let f : Vec ℕ Global → List ℕ = λ v. v.items in
    let l = c.args.turned.now.items in
    let to = c.args.to in
    let es : List (List ℕ) = map f l in
    let x : List ℕ = c.index_mut.result.now.items in
    let read : x ≡ get_or es to x = ap f c.index_mut.ensures.value ∙ sym (get_or-map f l to c.index_mut.result.now) in
    let lt : to < length l = omega (arith, c.if-to-len.false, c.len.ensures) in
    let within : to < length es = subst (λ (n : ℕ). to < n) (sym (length-map l f)) lt in
    let old : x ≡ get_or es to [] = get_or_read es to x within read [] in
    let new : map f (set l to c.push.new.self) ≡ set es to (get_or es to [] ++ c.args.from ∷ []) =
    map-set f l to c.push.new.self ∙ ap (set es to) (c.in_ok-push.ensures.items ∙ ap (λ (xs : List ℕ). xs ++ c.args.from ∷ []) old) in
    subst (HasTurned es c.args.from (to ∷ [])) (sym new) (edge_added es to c.args.from within)
