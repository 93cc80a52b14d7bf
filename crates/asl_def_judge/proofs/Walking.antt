-- The walk over the parts of a value, one behind another.
use Rattle.std.proofs.Common.{◌≡◌, ℕ, zero, suc, ◌+◌, ◌<◌, ◌≤◌, Bool, true, false, ◌||◌, not, List, [], ◌∷◌, ◌++◌, length, get_or, take, drop, refl, sym, subst, ◌∙◌, ap, add-one, arith}
use Rattle.std.specs.Prelude.{Option, Some, None, is_some, option_map, map, nat_eq, if◌then◌else◌}
use Rattle.std.specs.Fmt.{decimal}
use Rattle.std.proofs.lemmas.List.{drop_more, drop_all, take_more, map-append}
use Rattle.std.proofs.lemmas.Bool.Decides.{nat_tests}
use Rattle.asl_json_data.specs.Data.{Data, chain, Pairs, pairs}
use Rattle.asl_json.specs.Same.{bytes_eq}
use Rattle.asl_json_data.specs.Distinct.{Members}
use Rattle.asl_json.specs.Meaning.{value_at, count}
use Rattle.asl_json.specs.View.{data_of, items_of, members_of, member_of}
use Rattle.asl_json.specs.declared.value.Json.{Json}
use Rattle.asl_json.specs.declared.value.Member.{Member}
use Rattle.asl_def_schema.specs.declared.fault.FaultKind.{FaultKind}
use Rattle.asl_def_schema.specs.declared.fault.FaultKind.TheVariants as kind
use Rattle.asl_def_schema.specs.declared.sort.Sort.{Sort}
use Rattle.asl_def_schema.specs.declared.rows.Row.{Row as CodeRow}
use Rattle.asl_def_schema.specs.declared.rows.Group.{Group as CodeGroup}
use Rattle.asl_def_schema.specs.Members.{Row, Group, Shape, sort_at, is_among}
use Rattle.asl_def_schema.specs.Demands.{Demand, there, decided}
use Rattle.asl_def_schema.specs.private.Code.{row_of, rows_of, group_of, groups_of}
use Rattle.asl_def_schema.specs.Claims.{Claim, Spot, under, step, is_nonempty, at_item, at_member, claims, item_claims, member_claims, row_claims, is_needed, group_demands, any_in, any_counts, counts}
use Rattle.asl_def_schema.specs.First.{Found, Answers, better}
use Rattle.asl_def_judge.specs.private.Firsts.{under_step, Judges, sooner, unless}
use Rattle.asl_def_judge.proofs.Answering.{answers-append, answers-under, judges-append, decided_judged, one_broken}

-- what is answered for all, once the rest is answered
abbrev pub Goes : List Claim → List Claim → Option Found → Type 0
Goes rest all best = (r : Option Found) → Answers rest r → Answers all (better best r)

better_assoc : (a b c : Option Found) → better (better a b) c ≡ better a (better b c)
better_assoc None b c = refl
better_assoc (Some a) None c = refl
better_assoc (Some a) (Some b) None = grind (arith, nat_tests)
better_assoc (Some a) (Some b) (Some c) = grind (arith, nat_tests)

better-none : (a : Option Found) → better a None ≡ a
better-none None = refl
better-none (Some a) = refl

pub goes-start : (all : List Claim) → Goes all all None
goes-start all = λ r h. h

pub goes-step : (part rest all : List Claim) (best f : Option Found) → Goes (part ++ rest) all best → Answers part f → Goes rest all (better best f)
goes-step part rest all best f so_far h = λ r k. subst (Answers all) (sym (better_assoc best f r)) (so_far (better f r) (answers-append part rest f r h k))

pub goes-end : (all : List Claim) (best : Option Found) → Goes [] all best → Answers all best
goes-end all best so_far = subst (Answers all) (better-none best) (so_far None tt)

-- items

dropped : (vs : List Json) (n : ℕ) → drop n vs ≡ [] → length vs ≤ n
dropped vs zero e = let h : length vs ≡ 0 = ap length e in omega (arith, h)
dropped [] (suc n) e = omega arith
dropped (v ∷ vs) (suc n) e = omega (arith, dropped vs n e)

left : (vs : List Json) (n : ℕ) (w : Json) (ws : List Json) → drop n vs ≡ w ∷ ws → n < length vs
left vs zero w ws e = let h : length vs ≡ suc (length ws) = ap length e in omega (arith, h)
left [] (suc n) w ws e = absurd cc
left (v ∷ vs) (suc n) w ws e = omega (arith, left vs n w ws e)

-- whether the item is the last one
pub last_item : (vs : List Json) (i : ℕ) → i < length vs → nat_eq (i + 1) (length vs) ≡ not (is_nonempty (chain (items_of (drop (i + 1) vs))))
last_item vs i lt = by (drop (i + 1) vs) refl
  where
    by : (ws : List Json) → drop (i + 1) vs ≡ ws → nat_eq (i + 1) (length vs) ≡ not (is_nonempty (chain (items_of (drop (i + 1) vs))))
    by [] e = rw e (let n : length vs ≤ i + 1 = dropped vs (i + 1) e in grind (arith, nat_tests))
    by (w ∷ ws) e = rw e (let n : i + 1 < length vs = left vs (i + 1) w ws e in grind (arith, nat_tests))

pub items_step : (p : Spot) (s : Sort) (all : List Claim) (best new f : Option Found) (vs : List Json) (i : ℕ) (v : Json) (ends : Bool) → i < length vs → v ≡ get_or vs i v
    → ends ≡ not (is_nonempty (chain (items_of (drop (i + 1) vs))))
    → Goes (item_claims p s i (chain (items_of (drop i vs)))) all best
    → Answers (claims (at_item p ends) s (data_of v)) f
    → new ≡ better best (option_map (under_step (step i (decimal i))) f)
    → Goes (item_claims p s (i + 1) (chain (items_of (drop (i + 1) vs)))) all new
items_step p s all best new f vs i v ends lt at last so_far h is =
    let d : drop i vs ≡ v ∷ drop (i + 1) vs = drop_more vs i v lt ∙ ap (λ (x : Json). x ∷ drop (i + 1) vs) (sym at) in
    let rest = item_claims p s (suc i) (chain (items_of (drop (i + 1) vs))) in
    let part = map (under (step i (decimal i))) (claims (at_item p (not (is_nonempty (chain (items_of (drop (i + 1) vs)))))) s (data_of v)) in
    let split : item_claims p s i (chain (items_of (drop i vs))) ≡ part ++ rest = ap (λ (xs : List Json). item_claims p s i (chain (items_of xs))) d in
    let h2 : Answers (claims (at_item p (not (is_nonempty (chain (items_of (drop (i + 1) vs)))))) s (data_of v)) f = subst (λ (b : Bool). Answers (claims (at_item p b) s (data_of v)) f) last h in
    let all_so_far : Goes (part ++ rest) all best = subst (λ (cs : List Claim). Goes cs all best) split so_far in
    let next = goes-step part rest all best (option_map (under_step (step i (decimal i))) f) all_so_far (answers-under (step i (decimal i)) _ f h2) in
    subst (λ (n : ℕ). Goes (item_claims p s n (chain (items_of (drop (i + 1) vs)))) all new) (sym (add-one i)) (subst (Goes rest all) (sym is) next)

pub items_end : (p : Spot) (s : Sort) (all : List Claim) (best : Option Found) (vs : List Json) (i : ℕ) → length vs ≤ i → Goes (item_claims p s i (chain (items_of (drop i vs)))) all best → Answers all best
items_end p s all best vs i past so_far = goes-end all best (subst (λ (xs : List Json). Goes (item_claims p s i (chain (items_of xs))) all best) (drop_all i vs past) so_far)

-- members

pub members_step : (p : Spot) (sh : Shape) (all : List Claim) (best new f : Option Found) (ms : List Member) (i : ℕ) (m : Member) → i < length ms → m ≡ get_or ms i m
    → Goes (member_claims p sh (members_of (take i ms)) i (pairs (members_of (drop i ms)))) all best
    → Answers (claims (at_member p sh (members_of (take i ms)) m.key (data_of m.value)) (sort_at sh m.key) (data_of m.value)) f
    → new ≡ better best (option_map (under_step (step i m.key)) f)
    → Goes (member_claims p sh (members_of (take (i + 1) ms)) (i + 1) (pairs (members_of (drop (i + 1) ms)))) all new
members_step p sh all best new f ms i m lt at so_far h is =
    let seen = members_of (take i ms) in
    let d : drop i ms ≡ m ∷ drop (i + 1) ms = drop_more ms i m lt ∙ ap (λ (x : Member). x ∷ drop (i + 1) ms) (sym at) in
    let t : take (i + 1) ms ≡ take i ms ++ m ∷ [] = take_more ms i m lt ∙ ap (λ (x : Member). take i ms ++ x ∷ []) (sym at) in
    let more : members_of (take (i + 1) ms) ≡ seen ++ (m.key, data_of m.value) ∷ [] = ap members_of t ∙ map-append member_of (take i ms) (m ∷ []) in
    let rest = member_claims p sh (seen ++ (m.key, data_of m.value) ∷ []) (suc i) (pairs (members_of (drop (i + 1) ms))) in
    let part = map (under (step i m.key)) (claims (at_member p sh seen m.key (data_of m.value)) (sort_at sh m.key) (data_of m.value)) in
    let split : member_claims p sh seen i (pairs (members_of (drop i ms))) ≡ part ++ rest = ap (λ (xs : List Member). member_claims p sh seen i (pairs (members_of xs))) d in
    let all_so_far : Goes (part ++ rest) all best = subst (λ (cs : List Claim). Goes cs all best) split so_far in
    let next = goes-step part rest all best (option_map (under_step (step i m.key)) f) all_so_far (answers-under (step i m.key) _ f h) in
    subst (λ (n : ℕ). Goes (member_claims p sh (members_of (take (i + 1) ms)) n (pairs (members_of (drop (i + 1) ms)))) all new) (sym (add-one i))
    (subst (λ (xs : Members). Goes (member_claims p sh xs (suc i) (pairs (members_of (drop (i + 1) ms)))) all new) (sym more) (subst (Goes rest all) (sym is) next))

pub members_end : (p : Spot) (sh : Shape) (all : List Claim) (best : Option Found) (ms : List Member) (i : ℕ) → length ms ≤ i → Goes (member_claims p sh (members_of (take i ms)) i (pairs (members_of (drop i ms)))) all best → Answers all best
members_end p sh all best ms i past so_far = goes-end all best (subst (λ (xs : List Member). Goes (member_claims p sh (members_of (take i ms)) i (pairs (members_of xs))) all best) (drop_all i ms past) so_far)

-- rows

single_row : (i : ℕ) (r : Row) (rs : List Row) (ms : Pairs) → row_claims i (r ∷ rs) ms ≡ row_claims i (r ∷ []) ms ++ row_claims (suc i) rs ms
single_row i r rs ms = by (is_needed r ms)
  where
    one : Claim
    one = (there (value_at r.name ms), step i r.name ∷ [])

    by : (b : Bool) → (if b then one ∷ [] else []) ++ row_claims (suc i) rs ms ≡ ((if b then one ∷ [] else []) ++ []) ++ row_claims (suc i) rs ms
    by true = refl
    by false = refl

pub rows_step : (ms : Pairs) (at : ℕ) (all : List Claim) (best new f : Option Found) (rs : List CodeRow) (i : ℕ) (dr : CodeRow) → i < length rs
    → Goes (row_claims (at + i) (rows_of (drop i rs)) ms) all best
    → Answers (row_claims (at + i) (row_of (get_or rs i dr) ∷ []) ms) f
    → new ≡ better best f
    → Goes (row_claims (at + (i + 1)) (rows_of (drop (i + 1) rs)) ms) all new
rows_step ms at all best new f rs i dr lt so_far h is =
    let r = get_or rs i dr in
    let d : drop i rs ≡ r ∷ drop (i + 1) rs = drop_more rs i dr lt in
    let n : at + (i + 1) ≡ suc (at + i) = omega arith in
    let rest = row_claims (suc (at + i)) (rows_of (drop (i + 1) rs)) ms in
    let split : row_claims (at + i) (rows_of (drop i rs)) ms ≡ row_claims (at + i) (row_of r ∷ []) ms ++ rest = ap (λ (xs : List CodeRow). row_claims (at + i) (rows_of xs) ms) d ∙ single_row (at + i) (row_of r) (rows_of (drop (i + 1) rs)) ms in
    let next = goes-step (row_claims (at + i) (row_of r ∷ []) ms) rest all best f (subst (λ (cs : List Claim). Goes cs all best) split so_far) h in
    subst (λ (k : ℕ). Goes (row_claims k (rows_of (drop (i + 1) rs)) ms) all new) (sym n) (subst (Goes rest all) (sym is) next)

pub rows_end : (ms : Pairs) (at : ℕ) (all : List Claim) (best : Option Found) (rs : List CodeRow) (i : ℕ) → length rs ≤ i → Goes (row_claims (at + i) (rows_of (drop i rs)) ms) all best → Answers all best
rows_end ms at all best rs i past so_far = goes-end all best (subst (λ (xs : List CodeRow). Goes (row_claims (at + i) (rows_of xs) ms) all best) (drop_all i rs past) so_far)

pub count_is : (ms : List Member) → count (pairs (members_of ms)) ≡ length ms
count_is [] = refl
count_is (m ∷ ms) = ap suc (count_is ms)

-- a row that isn't needed, one that is there, and one that is missing
pub row_unneeded : (i : ℕ) (r : Row) (ms : Pairs) → is_needed r ms ≡ false → Answers (row_claims i (r ∷ []) ms) None
row_unneeded i r ms e = rw e tt

pub row_there : (i : ℕ) (r : Row) (ms : Pairs) → is_some (value_at r.name ms) ≡ true → Answers (row_claims i (r ∷ []) ms) None
row_there i r ms e = by (is_needed r ms)
  where
    by : (b : Bool) → Answers ((if b then (there (value_at r.name ms), step i r.name ∷ []) ∷ [] else []) ++ []) None
    by true = (e, tt)
    by false = tt

pub row_missing : (i : ℕ) (r : Row) (ms : Pairs) → is_needed r ms ≡ true → is_some (value_at r.name ms) ≡ false → Answers (row_claims i (r ∷ []) ms) (Some (kind.Missing, step i r.name ∷ []))
row_missing i r ms n e = rw n (one_broken (there (value_at r.name ms), step i r.name ∷ []) (λ h. absurd (let x = sym e ∙ h in cc)))

-- groups

abbrev pub Decides : List Demand → List Demand → Option FaultKind → Type 0
Decides rest all o = (r : Option FaultKind) → Judges rest r → Judges all (sooner o r)

sooner_assoc : (a b c : Option FaultKind) → sooner (sooner a b) c ≡ sooner a (sooner b c)
sooner_assoc None b c = refl
sooner_assoc (Some a) None c = refl
sooner_assoc (Some a) (Some b) None = grind (arith, nat_tests)
sooner_assoc (Some a) (Some b) (Some c) = grind (arith, nat_tests)

sooner-none : (a : Option FaultKind) → sooner a None ≡ a
sooner-none None = refl
sooner-none (Some a) = refl

pub any_in-counts : (g : Group) (xs : Members) → any_in g (pairs xs) ≡ any_counts g xs
any_in-counts g [] = refl
any_in-counts g (x ∷ xs) = ap (λ (b : Bool). counts g x.0 x.1 || b) (any_in-counts g xs)

pub groups_step : (xs : Members) (all : List Demand) (best new f : Option FaultKind) (gs : List CodeGroup) (i : ℕ) (d : CodeGroup) → i < length gs
    → Decides (group_demands (groups_of (drop i gs)) (pairs xs)) all best
    → f ≡ unless (not (get_or gs i d).exact || any_counts (group_of (get_or gs i d)) xs) kind.Neither
    → new ≡ sooner best f
    → Decides (group_demands (groups_of (drop (i + 1) gs)) (pairs xs)) all new
groups_step xs all best new f gs i d lt so_far f_is is = λ r k.
    let g = get_or gs i d in
    let split : drop i gs ≡ g ∷ drop (i + 1) gs = drop_more gs i d lt in
    let rest = group_demands (groups_of (drop (i + 1) gs)) (pairs xs) in
    let q = not g.exact || any_in (group_of g) (pairs xs) in
    let one = decided_judged q (not g.exact || any_counts (group_of g) xs) f (ap (λ (c : Bool). not g.exact || c) (sym (any_in-counts (group_of g) xs))) f_is in
    let two = judges-append (decided q ∷ []) rest f r one k in
    let whole = so_far (sooner f r) (subst (λ (hs : List CodeGroup). Judges (group_demands (groups_of hs) (pairs xs)) (sooner f r)) (sym split) two) in
    subst (Judges all) (sym (ap (λ (o : Option FaultKind). sooner o r) is ∙ sooner_assoc best f r)) whole

pub groups_end : (xs : Members) (all : List Demand) (best : Option FaultKind) (gs : List CodeGroup) (i : ℕ) → length gs ≤ i → Decides (group_demands (groups_of (drop i gs)) (pairs xs)) all best → Judges all best
groups_end xs all best gs i past so_far = subst (Judges all) (sooner-none best) (so_far None (subst (λ (hs : List CodeGroup). Judges (group_demands (groups_of hs) (pairs xs)) None) (sym (drop_all i gs past)) tt))

-- names of groups

pub among_append : (k : List ℕ) (ls ms : List (List ℕ)) → is_among k (ls ++ ms) ≡ (is_among k ls || is_among k ms)
among_append k [] ms = refl
among_append k (l ∷ ls) ms = ap (λ (b : Bool). bytes_eq k l || b) (among_append k ls ms) ∙ or_assoc (bytes_eq k l) (is_among k ls) (is_among k ms)
  where
    or_assoc : (a b c : Bool) → (a || (b || c)) ≡ ((a || b) || c)
    or_assoc true b c = refl
    or_assoc false b c = refl

pub rows_more : (ms : List Member) (all : List Claim) (best new f : Option Found) (rs : List CodeRow) (i : ℕ) (dr : CodeRow) → i < length rs
    → Goes (row_claims (count (pairs (members_of ms)) + i) (rows_of (drop i rs)) (pairs (members_of ms))) all best
    → Answers (row_claims (length ms + i) (row_of (get_or rs i dr) ∷ []) (pairs (members_of ms))) f
    → new ≡ better best f
    → Goes (row_claims (count (pairs (members_of ms)) + (i + 1)) (rows_of (drop (i + 1) rs)) (pairs (members_of ms))) all new
rows_more ms all best new f rs i dr lt so_far h is =
    rows_step (pairs (members_of ms)) (count (pairs (members_of ms))) all best new f rs i dr lt so_far (subst (λ (n : ℕ). Answers (row_claims (n + i) (row_of (get_or rs i dr) ∷ []) (pairs (members_of ms))) f) (sym (count_is ms)) h) is

-- what is missing, told
pub row_told : (i : ℕ) (r : Row) (ms : Pairs) (f : Found) (name : List ℕ) → is_needed r ms ≡ true → is_some (value_at r.name ms) ≡ false → name ≡ r.name → f ≡ (kind.Missing, step i name ∷ []) → Answers (row_claims i (r ∷ []) ms) (Some f)
row_told i r ms f name n e same is = subst (λ (g : Found). Answers (row_claims i (r ∷ []) ms) (Some g)) (sym (is ∙ ap (λ (k : List ℕ). (kind.Missing, step i k ∷ [])) same)) (row_missing i r ms n e)

pub not_there : {X : Type 0} (f : X → Data) (o : Option X) (b : Bool) (k l : List ℕ) (ms : Pairs) → option_map f o ≡ value_at k ms → b ≡ is_some o → b ≡ false → k ≡ l → is_some (value_at l ms) ≡ false
not_there f o b k l ms e is off same = subst (λ (n : List ℕ). is_some (value_at n ms) ≡ false) same (ap is_some (sym e) ∙ mapped o ∙ sym is ∙ off)
  where
    mapped : (o : Option _) → is_some (option_map f o) ≡ is_some o
    mapped None = refl
    mapped (Some x) = refl

pub members_more : (ms : List Member) (i : ℕ) (m : Member) → i < length ms → m ≡ get_or ms i m → members_of (take (i + 1) ms) ≡ members_of (take i ms) ++ (m.key, data_of m.value) ∷ []
members_more ms i m lt at = ap members_of (take_more ms i m lt ∙ ap (λ (x : Member). take i ms ++ x ∷ []) (sym at)) ∙ map-append member_of (take i ms) (m ∷ [])
