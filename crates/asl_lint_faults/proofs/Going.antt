-- The walk over the parts of a value, one behind another.
use Rattle.std.proofs.Common.{◌≡◌, ℕ, suc, ◌+◌, ◌<◌, ◌≤◌, Bool, true, false, ◌||◌, not, List, [], ◌∷◌, ◌++◌, length, get_or, take, drop, refl, sym, subst, ◌∙◌, ap, add-one, arith, append_assoc}
use Rattle.std.specs.Prelude.{Option, map, option_to_list, if◌then◌else◌}
use Rattle.std.specs.Fmt.{decimal}
use Rattle.std.proofs.lemmas.List.{drop_more, drop_all, take_more, map-append, append-nil}
use Rattle.asl_json_data.specs.Data.{chain, Pairs, pairs}
use Rattle.asl_json_data.specs.Distinct.{Members}
use Rattle.asl_json.specs.Meaning.{value_at, count}
use Rattle.asl_json.specs.View.{data_of, items_of, members_of, member_of}
use Rattle.asl_json.specs.declared.value.Json.{Json}
use Rattle.asl_json.specs.declared.value.Member.{Member}
use Rattle.asl_def_schema.specs.declared.fault.FaultKind.{FaultKind}
use Rattle.asl_def_schema.specs.declared.fault.FaultKind.TheVariants as kind
use Rattle.asl_def_schema.specs.declared.sort.Sort.{Sort}
use Rattle.asl_def_schema.specs.declared.rows.Row.{Row as CodeRow}
use Rattle.asl_def_schema.specs.declared.rows.Group.{Group as CodeGroup}
use Rattle.asl_def_schema.specs.Members.{Row, Shape, sort_at}
use Rattle.asl_def_schema.specs.Demands.{there, decided}
use Rattle.asl_def_schema.specs.private.Code.{row_of, rows_of, group_of, groups_of}
use Rattle.asl_def_schema.specs.Claims.{Claim, Spot, under, step, heres, is_nonempty, at_item, at_member, claims, item_claims, member_claims, row_claims, is_needed, group_demands, any_in, any_counts}
use Rattle.asl_def_schema.specs.First.{Found, Answers}
use Rattle.asl_def_judge.specs.private.Firsts.{under_step, unless}
use Rattle.asl_def_judge.proofs.Answering.{decided_judged}
use Rattle.asl_def_judge.proofs.Walking.{any_in-counts, count_is}
use Rattle.asl_lint_faults.specs.Told.{AreTold}
use Rattle.asl_lint_faults.specs.private.Parts.{listed}
use Rattle.asl_lint_faults.proofs.Telling.{told_append, told_under, told_then, one_told, none_told}

-- what is told of all, once the rest is told
abbrev pub Goes : List Claim → List Claim → List Found → Type 0
Goes rest all best = (r : List Found) → AreTold rest r → AreTold all (best ++ r)

pub goes-start : (all : List Claim) (none : List Found) → none ≡ [] → Goes all all none
goes-start all none e = λ r h. subst (λ (x : List Found). AreTold all (x ++ r)) (sym e) h

pub goes-step : (part rest all : List Claim) (best f : List Found) → Goes (part ++ rest) all best → AreTold part f → Goes rest all (best ++ f)
goes-step part rest all best f so_far h = λ r k. subst (AreTold all) (sym (append_assoc best f r)) (so_far (f ++ r) (told_append part rest f r h k))

pub goes-end : (all : List Claim) (best : List Found) → Goes [] all best → AreTold all best
goes-end all best so_far = subst (AreTold all) (append-nil best) (so_far [] refl)

-- items

pub items_step : (p : Spot) (s : Sort) (all : List Claim) (best new f : List Found) (vs : List Json) (i : ℕ) (v : Json) (ends : Bool) → i < length vs → v ≡ get_or vs i v
    → ends ≡ not (is_nonempty (chain (items_of (drop (i + 1) vs))))
    → Goes (item_claims p s i (chain (items_of (drop i vs)))) all best
    → AreTold (claims (at_item p ends) s (data_of v)) f
    → new ≡ best ++ (map (under_step (step i (decimal i))) f)
    → Goes (item_claims p s (i + 1) (chain (items_of (drop (i + 1) vs)))) all new
items_step p s all best new f vs i v ends lt at last so_far h is =
    let d : drop i vs ≡ v ∷ drop (i + 1) vs = drop_more vs i v lt ∙ ap (λ (x : Json). x ∷ drop (i + 1) vs) (sym at) in
    let rest = item_claims p s (suc i) (chain (items_of (drop (i + 1) vs))) in
    let part = map (under (step i (decimal i))) (claims (at_item p (not (is_nonempty (chain (items_of (drop (i + 1) vs)))))) s (data_of v)) in
    let split : item_claims p s i (chain (items_of (drop i vs))) ≡ part ++ rest = ap (λ (xs : List Json). item_claims p s i (chain (items_of xs))) d in
    let h2 : AreTold (claims (at_item p (not (is_nonempty (chain (items_of (drop (i + 1) vs)))))) s (data_of v)) f = subst (λ (b : Bool). AreTold (claims (at_item p b) s (data_of v)) f) last h in
    let all_so_far : Goes (part ++ rest) all best = subst (λ (cs : List Claim). Goes cs all best) split so_far in
    let next = goes-step part rest all best (map (under_step (step i (decimal i))) f) all_so_far (told_under (step i (decimal i)) _ f h2) in
    subst (λ (n : ℕ). Goes (item_claims p s n (chain (items_of (drop (i + 1) vs)))) all new) (sym (add-one i)) (subst (Goes rest all) (sym is) next)

pub items_end : (p : Spot) (s : Sort) (all : List Claim) (best : List Found) (vs : List Json) (i : ℕ) → length vs ≤ i → Goes (item_claims p s i (chain (items_of (drop i vs)))) all best → AreTold all best
items_end p s all best vs i past so_far = goes-end all best (subst (λ (xs : List Json). Goes (item_claims p s i (chain (items_of xs))) all best) (drop_all i vs past) so_far)

-- members

pub members_step : (p : Spot) (sh : Shape) (all : List Claim) (best new f : List Found) (ms : List Member) (i : ℕ) (m : Member) → i < length ms → m ≡ get_or ms i m
    → Goes (member_claims p sh (members_of (take i ms)) i (pairs (members_of (drop i ms)))) all best
    → AreTold (claims (at_member p sh (members_of (take i ms)) m.key (data_of m.value)) (sort_at sh m.key) (data_of m.value)) f
    → new ≡ best ++ (map (under_step (step i m.key)) f)
    → Goes (member_claims p sh (members_of (take (i + 1) ms)) (i + 1) (pairs (members_of (drop (i + 1) ms)))) all new
members_step p sh all best new f ms i m lt at so_far h is =
    let seen = members_of (take i ms) in
    let d : drop i ms ≡ m ∷ drop (i + 1) ms = drop_more ms i m lt ∙ ap (λ (x : Member). x ∷ drop (i + 1) ms) (sym at) in
    let t : take (i + 1) ms ≡ take i ms ++ m ∷ [] = take_more ms i m lt ∙ ap (λ (x : Member). take i ms ++ x ∷ []) (sym at) in
    let more : members_of (take (i + 1) ms) ≡ seen ++ (m.key, data_of m.value) ∷ [] = ap members_of t ∙ map-append member_of (take i ms) (m ∷ []) in
    let rest = member_claims p sh (seen ++ (m.key, data_of m.value) ∷ []) (suc i) (pairs (members_of (drop (i + 1) ms))) in
    let part = map (under (step i m.key)) (claims (at_member p sh seen m.key (data_of m.value)) (sort_at sh m.key) (data_of m.value)) in
    let split : member_claims p sh seen i (pairs (members_of (drop i ms))) ≡ part ++ rest = ap (λ (xs : List Member). member_claims p sh seen i (pairs (members_of xs))) d in
    let all_so_far : Goes (part ++ rest) all best = subst (λ (cs : List Claim). Goes cs all best) split so_far in
    let next = goes-step part rest all best (map (under_step (step i m.key)) f) all_so_far (told_under (step i m.key) _ f h) in
    subst (λ (n : ℕ). Goes (member_claims p sh (members_of (take (i + 1) ms)) n (pairs (members_of (drop (i + 1) ms)))) all new) (sym (add-one i))
    (subst (λ (xs : Members). Goes (member_claims p sh xs (suc i) (pairs (members_of (drop (i + 1) ms)))) all new) (sym more) (subst (Goes rest all) (sym is) next))

pub members_end : (p : Spot) (sh : Shape) (all : List Claim) (best : List Found) (ms : List Member) (i : ℕ) → length ms ≤ i → Goes (member_claims p sh (members_of (take i ms)) i (pairs (members_of (drop i ms)))) all best → AreTold all best
members_end p sh all best ms i past so_far = goes-end all best (subst (λ (xs : List Member). Goes (member_claims p sh (members_of (take i ms)) i (pairs (members_of xs))) all best) (drop_all i ms past) so_far)

-- rows

single_row : (i : ℕ) (r : Row) (rs : List Row) (ms : Pairs) → row_claims i (r ∷ rs) ms ≡ row_claims i (r ∷ []) ms ++ row_claims (suc i) rs ms
single_row i r rs ms = by (is_needed r ms)
  where
    one : Claim
    one = (there (value_at r.name ms), step i r.name ∷ [])

    by : (b : Bool) → (if b then one ∷ [] else []) ++ row_claims (suc i) rs ms ≡ ((if b then one ∷ [] else []) ++ []) ++ row_claims (suc i) rs ms
    by true = refl
    by false = refl

rows_step : (ms : Pairs) (at : ℕ) (all : List Claim) (best new f : List Found) (rs : List CodeRow) (i : ℕ) (dr : CodeRow) → i < length rs
    → Goes (row_claims (at + i) (rows_of (drop i rs)) ms) all best
    → AreTold (row_claims (at + i) (row_of (get_or rs i dr) ∷ []) ms) f
    → new ≡ best ++ f
    → Goes (row_claims (at + (i + 1)) (rows_of (drop (i + 1) rs)) ms) all new
rows_step ms at all best new f rs i dr lt so_far h is =
    let r = get_or rs i dr in
    let d : drop i rs ≡ r ∷ drop (i + 1) rs = drop_more rs i dr lt in
    let n : at + (i + 1) ≡ suc (at + i) = omega arith in
    let rest = row_claims (suc (at + i)) (rows_of (drop (i + 1) rs)) ms in
    let split : row_claims (at + i) (rows_of (drop i rs)) ms ≡ row_claims (at + i) (row_of r ∷ []) ms ++ rest = ap (λ (xs : List CodeRow). row_claims (at + i) (rows_of xs) ms) d ∙ single_row (at + i) (row_of r) (rows_of (drop (i + 1) rs)) ms in
    let next = goes-step (row_claims (at + i) (row_of r ∷ []) ms) rest all best f (subst (λ (cs : List Claim). Goes cs all best) split so_far) h in
    subst (λ (k : ℕ). Goes (row_claims k (rows_of (drop (i + 1) rs)) ms) all new) (sym n) (subst (Goes rest all) (sym is) next)

pub rows_end : (ms : Pairs) (at : ℕ) (all : List Claim) (best : List Found) (rs : List CodeRow) (i : ℕ) → length rs ≤ i → Goes (row_claims (at + i) (rows_of (drop i rs)) ms) all best → AreTold all best
rows_end ms at all best rs i past so_far = goes-end all best (subst (λ (xs : List CodeRow). Goes (row_claims (at + i) (rows_of xs) ms) all best) (drop_all i rs past) so_far)

-- what is answered of one row is told
row_answered : (i : ℕ) (r : Row) (ms : Pairs) (f : Option Found) → Answers (row_claims i (r ∷ []) ms) f → AreTold (row_claims i (r ∷ []) ms) (option_to_list f)
row_answered i r ms f h = by (is_needed r ms) h
  where
    one : Claim
    one = (there (value_at r.name ms), step i r.name ∷ [])

    by : (b : Bool) → Answers ((if b then one ∷ [] else []) ++ []) f → AreTold ((if b then one ∷ [] else []) ++ []) (option_to_list f)
    by true k = one_told one f k
    by false k = none_told f k

pub rows_more : (ms : List Member) (all : List Claim) (best new : List Found) (f : Option Found) (rs : List CodeRow) (i : ℕ) (dr : CodeRow) → i < length rs
    → Goes (row_claims (count (pairs (members_of ms)) + i) (rows_of (drop i rs)) (pairs (members_of ms))) all best
    → Answers (row_claims (length ms + i) (row_of (get_or rs i dr) ∷ []) (pairs (members_of ms))) f
    → new ≡ best ++ option_to_list f
    → Goes (row_claims (count (pairs (members_of ms)) + (i + 1)) (rows_of (drop (i + 1) rs)) (pairs (members_of ms))) all new
rows_more ms all best new f rs i dr lt so_far h is =
    let xs = pairs (members_of ms) in
    let r = row_of (get_or rs i dr) in
    let at : Answers (row_claims (count xs + i) (r ∷ []) xs) f = subst (λ (n : ℕ). Answers (row_claims (n + i) (r ∷ []) xs) f) (sym (count_is ms)) h in
    rows_step xs (count xs) all best new (option_to_list f) rs i dr lt so_far (row_answered (count xs + i) r xs f at) is

-- groups

pub groups_step : (xs : Members) (all : List Claim) (best new : List Found) (f : Option FaultKind) (gs : List CodeGroup) (i : ℕ) (d : CodeGroup) → i < length gs
    → Goes (heres (group_demands (groups_of (drop i gs)) (pairs xs))) all best
    → f ≡ unless (not (get_or gs i d).exact || any_counts (group_of (get_or gs i d)) xs) kind.Neither
    → new ≡ best ++ listed f
    → Goes (heres (group_demands (groups_of (drop (i + 1) gs)) (pairs xs))) all new
groups_step xs all best new f gs i d lt so_far f_is is =
    let g = get_or gs i d in
    let rest = heres (group_demands (groups_of (drop (i + 1) gs)) (pairs xs)) in
    let q = not g.exact || any_in (group_of g) (pairs xs) in
    let one = decided_judged q (not g.exact || any_counts (group_of g) xs) f (ap (λ (c : Bool). not g.exact || c) (sym (any_in-counts (group_of g) xs))) f_is in
    let told : AreTold (heres (decided q ∷ [])) (listed f) = told_then [] (decided q ∷ []) [] (listed f) f (omega arith) refl one refl in
    let split : heres (group_demands (groups_of (drop i gs)) (pairs xs)) ≡ (decided q, []) ∷ rest = ap (λ (hs : List CodeGroup). heres (group_demands (groups_of hs) (pairs xs))) (drop_more gs i d lt) in
    subst (Goes rest all) (sym is) (goes-step ((decided q, []) ∷ []) rest all best (listed f) (subst (λ (cs : List Claim). Goes cs all best) split so_far) told)

pub groups_end : (xs : Members) (all : List Claim) (best : List Found) (gs : List CodeGroup) (i : ℕ) → length gs ≤ i → Goes (heres (group_demands (groups_of (drop i gs)) (pairs xs))) all best → AreTold all best
groups_end xs all best gs i past so_far = goes-end all best (subst (λ (hs : List CodeGroup). Goes (heres (group_demands (groups_of hs) (pairs xs))) all best) (drop_all i gs past) so_far)
