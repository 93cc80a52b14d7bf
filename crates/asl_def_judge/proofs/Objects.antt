-- What is demanded of a list or an object that is searched, and of one that isn't.
use Rattle.std.proofs.Common.{◌≡◌, Bool, true, false, List, [], sym, subst, ◌∙◌}
use Rattle.std.specs.Prelude.{Option, option_map}
use Rattle.asl_def_schema.specs.declared.fault.FaultKind.{FaultKind}
use Rattle.asl_json_data.specs.Data.{Data, Chain, Pairs, list, dict}
use Rattle.asl_json.specs.Meaning.{count}
use Rattle.asl_def_schema.specs.declared.sort.Sort.{Sort}
use Rattle.asl_def_schema.specs.Members.{Shape, shape_in, item_sort}
use Rattle.asl_def_schema.specs.Claims.{Claim, Spot, heres, demands, claims, item_claims, member_claims, row_claims, group_demands, inside, object_claims, is_list, is_object}
use Rattle.asl_def_schema.specs.First.{Found, Answers, better}
use Rattle.asl_def_judge.specs.private.Firsts.{Judges, at_root}
use Rattle.asl_def_judge.proofs.Answering.{answers-append}
use Rattle.std.proofs.lemmas.List.{append-nil}

pub list_answered : (p : Spot) (s : Sort) (ds : Chain) (own inside result : Option Found) → is_list s ≡ true → Answers (heres (demands p s (list ds))) own → Answers (item_claims p (item_sort s) 0 ds) inside → result ≡ better own inside → Answers (claims p s (list ds)) result
list_answered p s ds own inside result e h k is = subst (Answers (claims p s (list ds))) (sym is) (rw e (answers-append (heres (demands p s (list ds))) (item_claims p (item_sort s) 0 ds) own inside h k))

pub list_alone : (p : Spot) (s : Sort) (ds : Chain) (own : Option Found) → is_list s ≡ false → Answers (heres (demands p s (list ds))) own → Answers (claims p s (list ds)) own
list_alone p s ds own e h = rw e (subst (λ (cs : List Claim). Answers cs own) (sym (append-nil (heres (demands p s (list ds))))) h)

pub object_answered : (p : Spot) (s : Sort) (ms : Pairs) (own inside result : Option Found) → is_object s ≡ true → Answers (heres (demands p s (dict ms))) own → Answers (object_claims p s ms) inside → result ≡ better own inside → Answers (claims p s (dict ms)) result
object_answered p s ms own inside result e h k is = subst (Answers (claims p s (dict ms))) (sym is) (rw e (answers-append (heres (demands p s (dict ms))) (object_claims p s ms) own inside h k))

pub object_alone : (p : Spot) (s : Sort) (ms : Pairs) (own : Option Found) → is_object s ≡ false → Answers (heres (demands p s (dict ms))) own → Answers (claims p s (dict ms)) own
object_alone p s ms own e h = rw e (subst (λ (cs : List Claim). Answers cs own) (sym (append-nil (heres (demands p s (dict ms))))) h)

-- the groups, the members, then what is missing
pub parts_answered : (p : Spot) (s : Sort) (sh : Shape) (xs ms : Pairs) (groups members rows result : Option Found) → xs ≡ ms → sh ≡ shape_in s xs
    → Answers (heres (group_demands sh.groups xs)) groups
    → Answers (member_claims (inside p s ms) sh [] 0 ms) members
    → Answers (row_claims (count xs) sh.rows xs) rows
    → result ≡ better groups (better members rows)
    → Answers (object_claims p s ms) result
parts_answered p s sh xs ms groups members rows result same shape g m r is =
    let at : Answers (heres (group_demands (shape_in s ms).groups ms)) groups = subst (λ (ys : Pairs). Answers (heres (group_demands (shape_in s ys).groups ys)) groups) same (subst (λ (h : Shape). Answers (heres (group_demands h.groups xs)) groups) shape g) in
    let bt : Answers (member_claims (inside p s ms) (shape_in s ms) [] 0 ms) members = subst (λ (ys : Pairs). Answers (member_claims (inside p s ms) (shape_in s ys) [] 0 ms) members) same (subst (λ (h : Shape). Answers (member_claims (inside p s ms) h [] 0 ms) members) shape m) in
    let ct : Answers (row_claims (count ms) (shape_in s ms).rows ms) rows = subst (λ (ys : Pairs). Answers (row_claims (count ys) (shape_in s ys).rows ys) rows) same (subst (λ (h : Shape). Answers (row_claims (count xs) h.rows xs) rows) shape r) in
    subst (Answers (object_claims p s ms)) (sym is) (answers-append _ _ groups (better members rows) at (answers-append _ _ members rows bt ct))

-- of a value that is a list or an object

own_is : (p : Spot) (s : Sort) (v d : Data) (k : Option FaultKind) (own : Option Found) → v ≡ d → Judges (demands p s v) k → own ≡ option_map at_root k → Answers (heres (demands p s d)) own
own_is p s v d k own e h is = subst (λ (x : Data). Answers (heres (demands p s x)) own) e (subst (Answers (heres (demands p s v))) (sym is) h)

pub list_whole : (p : Spot) (s t : Sort) (v : Data) (ds : Chain) (k : Option FaultKind) (own inside result : Option Found) (b : Bool) → v ≡ list ds → b ≡ is_list s → b ≡ true → Judges (demands p s v) k → own ≡ option_map at_root k
    → t ≡ item_sort s → Answers (item_claims p t 0 ds) inside → result ≡ better own inside → Answers (claims p s v) result
list_whole p s t v ds k own inside result b e q on h o sort i is =
    subst (λ (x : Data). Answers (claims p s x) result) (sym e) (list_answered p s ds own inside result (sym q ∙ on) (own_is p s v (list ds) k own e h o) (subst (λ (u : Sort). Answers (item_claims p u 0 ds) inside) sort i) is)

pub list_only : (p : Spot) (s : Sort) (v : Data) (ds : Chain) (k : Option FaultKind) (own : Option Found) (b : Bool) → v ≡ list ds → b ≡ is_list s → b ≡ false → Judges (demands p s v) k → own ≡ option_map at_root k → Answers (claims p s v) own
list_only p s v ds k own b e q off h o = subst (λ (x : Data). Answers (claims p s x) own) (sym e) (list_alone p s ds own (sym q ∙ off) (own_is p s v (list ds) k own e h o))

pub object_whole : (p : Spot) (s : Sort) (v : Data) (ms : Pairs) (k : Option FaultKind) (own inside result : Option Found) (b : Bool) → v ≡ dict ms → b ≡ is_object s → b ≡ true → Judges (demands p s v) k → own ≡ option_map at_root k
    → Answers (object_claims p s ms) inside → result ≡ better own inside → Answers (claims p s v) result
object_whole p s v ms k own inside result b e q on h o i is =
    subst (λ (x : Data). Answers (claims p s x) result) (sym e) (object_answered p s ms own inside result (sym q ∙ on) (own_is p s v (dict ms) k own e h o) i is)

pub object_only : (p : Spot) (s : Sort) (v : Data) (ms : Pairs) (k : Option FaultKind) (own : Option Found) (b : Bool) → v ≡ dict ms → b ≡ is_object s → b ≡ false → Judges (demands p s v) k → own ≡ option_map at_root k → Answers (claims p s v) own
object_only p s v ms k own b e q off h o = subst (λ (x : Data). Answers (claims p s x) own) (sym e) (object_alone p s ms own (sym q ∙ off) (own_is p s v (dict ms) k own e h o))
