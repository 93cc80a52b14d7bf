-- What is told of a list or an object that is searched, and of one that isn't.
use Rattle.std.proofs.Common.{◌≡◌, Bool, true, false, List, [], ◌++◌, refl, sym, subst, ◌∙◌}
use Rattle.std.proofs.lemmas.List.{append-nil}
use Rattle.asl_json_data.specs.Data.{Data, Chain, Pairs, list, dict}
use Rattle.asl_json_data.specs.Distinct.{Members}
use Rattle.asl_json.specs.View.{data_of}
use Rattle.asl_json.specs.declared.value.Json.{Json}
use Rattle.asl_json.specs.declared.value.Json.TheVariants.{Null, Bool as Truth, Num, Text, List as JsonList, Dict}
use Rattle.asl_json.specs.Meaning.{count}
use Rattle.asl_def_schema.specs.declared.sort.Sort.{Sort}
use Rattle.asl_def_schema.specs.Members.{Shape, shape_in, item_sort}
use Rattle.asl_def_schema.specs.Claims.{Claim, Spot, heres, demands, claims, item_claims, member_claims, row_claims, group_demands, inside, object_claims, is_list, is_object}
use Rattle.asl_def_schema.specs.First.{Found}
use Rattle.asl_lint_faults.specs.Told.{AreTold}
use Rattle.asl_lint_faults.proofs.Telling.{told_append}

pub list_whole : (p : Spot) (s t : Sort) (v : Data) (ds : Chain) (own inside result : List Found) (b : Bool) → v ≡ list ds → b ≡ is_list s → b ≡ true → AreTold (heres (demands p s v)) own → t ≡ item_sort s → AreTold (item_claims p t 0 ds) inside → result ≡ own ++ inside → AreTold (claims p s v) result
list_whole p s t v ds own inside result b e q on h sort i is =
    let searched : is_list s ≡ true = sym q ∙ on in
    let own_is = subst (λ (x : Data). AreTold (heres (demands p s x)) own) e h in
    let parts = told_append (heres (demands p s (list ds))) (item_claims p (item_sort s) 0 ds) own inside own_is (subst (λ (u : Sort). AreTold (item_claims p u 0 ds) inside) sort i) in
    let whole : AreTold (claims p s (list ds)) (own ++ inside) = rw searched parts in
    subst (λ (x : Data). AreTold (claims p s x) result) (sym e) (subst (AreTold (claims p s (list ds))) (sym is) whole)

pub list_only : (p : Spot) (s : Sort) (v : Data) (ds : Chain) (own : List Found) (b : Bool) → v ≡ list ds → b ≡ is_list s → b ≡ false → AreTold (heres (demands p s v)) own → AreTold (claims p s v) own
list_only p s v ds own b e q off h =
    let left : is_list s ≡ false = sym q ∙ off in
    let own_is = subst (λ (x : Data). AreTold (heres (demands p s x)) own) e h in
    let whole : AreTold (claims p s (list ds)) own = rw left (subst (λ (cs : List Claim). AreTold cs own) (sym (append-nil (heres (demands p s (list ds))))) own_is) in
    subst (λ (x : Data). AreTold (claims p s x) own) (sym e) whole

pub object_whole : (p : Spot) (s : Sort) (v : Data) (ms : Pairs) (own inside result : List Found) (b : Bool) → v ≡ dict ms → b ≡ is_object s → b ≡ true → AreTold (heres (demands p s v)) own → AreTold (object_claims p s ms) inside → result ≡ own ++ inside → AreTold (claims p s v) result
object_whole p s v ms own inside result b e q on h i is =
    let searched : is_object s ≡ true = sym q ∙ on in
    let own_is = subst (λ (x : Data). AreTold (heres (demands p s x)) own) e h in
    let whole : AreTold (claims p s (dict ms)) (own ++ inside) = rw searched (told_append (heres (demands p s (dict ms))) (object_claims p s ms) own inside own_is i) in
    subst (λ (x : Data). AreTold (claims p s x) result) (sym e) (subst (AreTold (claims p s (dict ms))) (sym is) whole)

pub object_only : (p : Spot) (s : Sort) (v : Data) (ms : Pairs) (own : List Found) (b : Bool) → v ≡ dict ms → b ≡ is_object s → b ≡ false → AreTold (heres (demands p s v)) own → AreTold (claims p s v) own
object_only p s v ms own b e q off h =
    let left : is_object s ≡ false = sym q ∙ off in
    let own_is = subst (λ (x : Data). AreTold (heres (demands p s x)) own) e h in
    let whole : AreTold (claims p s (dict ms)) own = rw left (subst (λ (cs : List Claim). AreTold cs own) (sym (append-nil (heres (demands p s (dict ms))))) own_is) in
    subst (λ (x : Data). AreTold (claims p s x) own) (sym e) whole

-- the groups, the members, then what is missing
pub parts_told : (p : Spot) (s : Sort) (sh : Shape) (xs ms : Pairs) (groups members rows both result : List Found) → xs ≡ ms → sh ≡ shape_in s xs
    → AreTold (heres (group_demands sh.groups xs)) groups
    → AreTold (member_claims (inside p s ms) sh [] 0 ms) members
    → AreTold (row_claims (count xs) sh.rows xs) rows
    → both ≡ members ++ rows → result ≡ groups ++ both
    → AreTold (object_claims p s ms) result
parts_told p s sh xs ms groups members rows both result same shape g m r is_both is =
    let at : AreTold (heres (group_demands (shape_in s ms).groups ms)) groups = subst (λ (ys : Pairs). AreTold (heres (group_demands (shape_in s ys).groups ys)) groups) same (subst (λ (h : Shape). AreTold (heres (group_demands h.groups xs)) groups) shape g) in
    let bt : AreTold (member_claims (inside p s ms) (shape_in s ms) [] 0 ms) members = subst (λ (ys : Pairs). AreTold (member_claims (inside p s ms) (shape_in s ys) [] 0 ms) members) same (subst (λ (h : Shape). AreTold (member_claims (inside p s ms) h [] 0 ms) members) shape m) in
    let ct : AreTold (row_claims (count ms) (shape_in s ms).rows ms) rows = subst (λ (ys : Pairs). AreTold (row_claims (count ys) (shape_in s ys).rows ys) rows) same (subst (λ (h : Shape). AreTold (row_claims (count xs) h.rows xs) rows) shape r) in
    let two : AreTold (member_claims (inside p s ms) (shape_in s ms) [] 0 ms ++ row_claims (count ms) (shape_in s ms).rows ms) both = subst (AreTold _) (sym is_both) (told_append _ _ members rows bt ct) in
    subst (AreTold (object_claims p s ms)) (sym is) (told_append _ _ groups both at two)

-- a value that is neither has no more
plain_claims : (p : Spot) (s : Sort) (v : Json) → ((ds : List Data) → v ≡ JsonList ds → ⊥) → ((ms : Members) → v ≡ Dict ms → ⊥) → claims p s (data_of v) ≡ heres (demands p s (data_of v))
plain_claims p s Null no_list no_dict = refl
plain_claims p s (Truth b) no_list no_dict = refl
plain_claims p s (Num n) no_list no_dict = refl
plain_claims p s (Text t) no_list no_dict = refl
plain_claims p s (JsonList ds) no_list no_dict = absurd (no_list ds refl)
plain_claims p s (Dict ms) no_list no_dict = absurd (no_dict ms refl)

pub plain_whole : (p : Spot) (s : Sort) (v : Json) (own : List Found) → ((ds : List Data) → v ≡ JsonList ds → ⊥) → ((ms : Members) → v ≡ Dict ms → ⊥) → AreTold (heres (demands p s (data_of v))) own → AreTold (claims p s (data_of v)) own
plain_whole p s v own no_list no_dict h = subst (λ (cs : List Claim). AreTold cs own) (sym (plain_claims p s v no_list no_dict)) h
