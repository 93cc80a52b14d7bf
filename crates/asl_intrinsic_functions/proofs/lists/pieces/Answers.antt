use Rattle.std.proofs.Common.{◌≡◌, ◌++◌, ◌∷◌, [], ◌-◌, ◌∙◌, ap, arith, List, ℕ, length, min, take, drop}
use Rattle.std.proofs.lemmas.List.{length-append}
use Rattle.asl_json.specs.View.{items_of}
use Rattle.asl_json.specs.declared.value.Json.{Json}
use Rattle.asl_intrinsic_functions.specs.Lists.{pieces}
use Rattle.asl_intrinsic_functions.proofs.Partitioning.{next_piece}
use Rattle.asl_intrinsic_functions.proofs.lists.pieces.Goals as goal

pub loop-rest-preserved : goal.loop-rest-preserved
loop-rest-preserved c =
    let l = length c.args.items.now in
    let n = c.args.size in
    let rest = c.loop-rest.rest.now in
    let done = c.loop-rest.pieces.items in
    let at : c.min.result ≡ min n (length rest) = c.min.ensures in
    let grown : c.push.new.self.items ≡ done ++ c.in_ok-piece.field-0 ∷ [] = c.in_ok-push.ensures.items in
    let behind : c.split_at.result.1.now ≡ drop (min n (length rest)) rest = c.split_at.ensures.back ∙ ap (λ (k : ℕ). drop k rest) at in
    let front : c.split_at.result.0.now ≡ take (min n (length rest)) rest = c.split_at.ensures.front ∙ ap (λ (k : ℕ). take k rest) at in
    let next = next_piece l n done c.split_at.result.0.now rest c.in_ok-piece.field-0 c.in_ok-piece.ensures front c.loop-rest-test.true c.loop-rest.invariant.1 in (
      ap (λ (x : List Json). items_of x ++ pieces (l - length x) n (items_of c.split_at.result.1.now)) grown
          ∙ ap (λ (x : List Json). items_of (done ++ c.in_ok-piece.field-0 ∷ []) ++ pieces (l - length (done ++ c.in_ok-piece.field-0 ∷ [])) n (items_of x)) behind
          ∙ next ∙ c.loop-rest.invariant.0,
      omega (arith, at, c.split_at.ensures.back_len, ap length grown, length-append done (c.in_ok-piece.field-0 ∷ []), c.loop-rest.invariant.1, c.requires, c.loop-rest-test.true),
    )
