use Rattle.std.proofs.Common.{◌≡◌, ◌++◌, ◌∷◌, [], ◌∙◌, sym, ap, cond, List, ℕ, Some, None, length, Option}
use Rattle.std.specs.Str.{bytes_eq}
use Rattle.std.specs.HashMap.{get_by}
use Rattle.std.proofs.lemmas.Map.Text.{hash_map_updates_str}
use Rattle.asl_json_data.specs.Data.{Data}
use Rattle.asl_json.specs.View.{data_of}
use Rattle.asl_json.specs.Access.{key_index}
use Rattle.asl_json_data.specs.Distinct.{has_key}
use Rattle.asl_json.specs.declared.value.Json.{Json}
use Rattle.asl_intrinsic_functions.specs.private.Loops.{with_member}
use Rattle.asl_intrinsic_functions.proofs.Merging.{place_within, place_set, index_set, no_place_key, no_place_push, index_push}
use Rattle.asl_intrinsic_functions.proofs.merge.put_member.Goals as goal

pub value_mut-requires : goal.value_mut-requires
value_mut-requires c =
    let ms = c.args.members.now in
    let found : key_index c.args.member.now.key ms ≡ Some c.in-Some.place.now = ap (λ (k : List ℕ). key_index k ms) (sym c.as_str.ensures) ∙ sym (c.requires c.as_str.result.now) ∙ sym c.in-Some.ensures.value in
    place_within c.args.member.now.key ms c.in-Some.place.now found

pub returns-in-Some-clause-members : goal.returns-in-Some-clause-members
returns-in-Some-clause-members c =
    let ms = c.args.members.now in
    let found : key_index c.args.member.now.key ms ≡ Some c.in-Some.place.now = ap (λ (k : List ℕ). key_index k ms) (sym c.as_str.ensures) ∙ sym (c.requires c.as_str.result.now) ∙ sym c.in-Some.ensures.value in
    place_set c.args.member.now.key ms c.in-Some.place.now (data_of c.in_ok-value.value) found ∙ ap (λ (v : Json). with_member ms c.args.member.now.key (data_of v)) c.in_ok-value.ensures

pub returns-in-Some-clause-places : goal.returns-in-Some-clause-places
returns-in-Some-clause-places c = λ k. c.requires k ∙ sym (index_set k c.args.members.now c.in-Some.place.now (data_of c.in_ok-value.value))

pub push-requires : goal.push-requires
push-requires c =
    let ms = c.args.members.now in
    let none : key_index c.args.member.now.key ms ≡ None = ap (λ (k : List ℕ). key_index k ms) (sym c.as_str.ensures) ∙ sym (c.requires c.as_str.result.now) ∙ sym c.in-None.ensures.value in
    ap (λ (k : List ℕ). has_key k ms) c.in_ok-try_clone-in-None.ensures ∙ no_place_key c.args.member.now.key ms none

pub returns-in_ok-push-in-None-clause-members : goal.returns-in_ok-push-in-None-clause-members
returns-in_ok-push-in-None-clause-members c =
    let ms = c.args.members.now in
    let key = c.args.member.now.key in
    let none : key_index key ms ≡ None = ap (λ (k : List ℕ). key_index k ms) (sym c.as_str.ensures) ∙ sym (c.requires c.as_str.result.now) ∙ sym c.in-None.ensures.value in
    c.in_ok-push-in-None.ensures.ok ∙ ap (λ (k : List ℕ). ms ++ (k, data_of c.in_ok-value.value) ∷ []) c.in_ok-try_clone-in-None.ensures
    ∙ ap (λ (v : Json). ms ++ (key, data_of v) ∷ []) c.in_ok-value.ensures ∙ sym (no_place_push key ms (data_of c.args.member.now.value) none)

pub returns-in_ok-push-in-None-clause-places : goal.returns-in_ok-push-in-None-clause-places
returns-in_ok-push-in-None-clause-places c =
    let ms = c.args.members.now in
    let key = c.args.member.now.key in
    let d = data_of c.in_ok-value.value in
    let bs = c.as_str-in-None.result.now in
    let none : key_index key ms ≡ None = ap (λ (k : List ℕ). key_index k ms) (sym c.as_str.ensures) ∙ sym (c.requires c.as_str.result.now) ∙ sym c.in-None.ensures.value in
    let absent : key_index bs ms ≡ None = ap (λ (k : List ℕ). key_index k ms) c.as_str-in-None.ensures ∙ none in
    let grown : c.push.new.self ≡ ms ++ (bs, d) ∷ [] = c.in_ok-push-in-None.ensures.ok ∙ ap (λ (k : List ℕ). ms ++ (k, d) ∷ []) (c.in_ok-try_clone-in-None.ensures ∙ sym c.as_str-in-None.ensures) in
    λ k. hash_map_updates_str bs c.args.places.now c.insert.new.self (Some c.len.result) c.in_ok-insert-in-None.ensures.updates k
    ∙ ap (λ (n : ℕ). cond (bytes_eq bs k) (Some n) (get_by (λ x. bytes_eq k x.now) c.args.places.now)) c.len.ensures
    ∙ ap (λ (o : Option ℕ). cond (bytes_eq bs k) (Some (length ms)) o) (c.requires k)
    ∙ sym (index_push k bs ms d absent)
    ∙ ap (λ (x : List (List ℕ × Data)). key_index k x) (sym grown)
