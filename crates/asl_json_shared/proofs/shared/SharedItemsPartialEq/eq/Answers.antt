use Rattle.std.proofs.Common.{◌≡◌, ◌&&◌, Bool, List, [], ◌∷◌, refl, ap, ◌∙◌}
use Rattle.std.specs.Cmp.Lexicographic.{pointwise}
use Rattle.asl_json_data.specs.Data.{Data}
use Rattle.asl_json.specs.Same.{equal, json_equal, items_equal}
use Rattle.asl_json.specs.View.{items_of}
use Rattle.asl_json.specs.declared.value.Json.{Json}
use Rattle.asl_json_shared.proofs.shared.SharedItemsPartialEq.eq.Goals as goal

same_items : (xs ys : List Json) → pointwise json_equal xs ys ≡ items_equal (items_of xs) (items_of ys)
same_items [] [] = refl
same_items [] (y ∷ ys) = refl
same_items (x ∷ xs) [] = refl
same_items (x ∷ xs) (y ∷ ys) = ap (λ (b : Bool). json_equal x y && b) (same_items xs ys)

pub returns : goal.returns
returns c =
    let one = c.values.ensures in
    let other = c.values-2.ensures in
    c.eq.ensures ∙ same_items c.values.result.now c.values-2.result.now ∙ ap (λ (xs : List Data). items_equal xs (items_of c.values-2.result.now)) one ∙ ap (items_equal c.args.self.now) other
