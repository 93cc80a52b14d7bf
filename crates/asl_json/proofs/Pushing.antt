-- One part more behind a list's items or an object's members.
use Rattle.std.proofs.Common.{◌≡◌, false, List, [], ◌∷◌, ◌++◌, sym, ap, subst, ◌∙◌}
use Rattle.std.proofs.lemmas.List.{map_push}
use Rattle.asl_json.specs.View.{data_of, items_of, member_of, members_of}
use Rattle.asl_json_data.specs.Distinct.{has_key, AreDistinct, distinct_push}
use Rattle.asl_json.specs.declared.value.Json.{Json}
use Rattle.asl_json.specs.declared.value.Member.{Member}

pub pushed_item : (loop new : List Json) (v : Json) → new ≡ loop ++ v ∷ [] → items_of loop ++ data_of v ∷ [] ≡ items_of new
pushed_item loop new v e = sym (ap items_of e ∙ map_push data_of loop v)

pub pushed : (loop new : List Member) (m : Member) → new ≡ loop ++ m ∷ [] → members_of loop ++ member_of m ∷ [] ≡ members_of new
pushed loop new m e = sym (ap members_of e ∙ map_push member_of loop m)

pub still_distinct : (seen loop new : List Member) (m : Member) → seen ≡ loop → new ≡ loop ++ m ∷ [] → AreDistinct [] (members_of loop) → has_key m.key (members_of seen) ≡ false → AreDistinct [] (members_of new)
still_distinct seen loop new m same is so_far fresh =
    let fresh' : has_key m.key (members_of loop) ≡ false = subst (λ (ms : List Member). has_key m.key (members_of ms) ≡ false) same fresh in
    subst (AreDistinct []) (pushed loop new m is) (distinct_push [] (members_of loop) (member_of m) so_far fresh')
