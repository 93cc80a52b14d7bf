-- Names of states that come again.
use Rattle.std.proofs.Common.{◌≡◌, ℕ, ◌+◌, ◌<◌, ◌≤◌, Bool, true, false, cond, ◌||◌, not, List, [], ◌∷◌, ◌++◌, length, get_or, drop, refl, sym, subst, ◌∙◌, ap, add-one, append_assoc, arith}
use Rattle.std.specs.Prelude.{Some, None, Result, Ok, Err, IfOk, map}
use Rattle.std.specs.Fmt.{decimal}
use Rattle.std.specs.declared.string.String.{String}
use Rattle.std.specs.HashSet.{HashSet, contains_text, Updates}
use Rattle.std.specs.String.{string_eq, string_bytes}
use Rattle.std.proofs.lemmas.Map.Text.{hash_set_updates_text}
use Rattle.asl_json.proofs.Knowing.{bytes_eq-flip}
use Rattle.std.proofs.lemmas.List.{drop_more, drop_all, append-nil, map-append}
use Rattle.asl_json_data.specs.Data.{Data, chain, pairs}
use Rattle.asl_json.specs.Same.{bytes_eq}
use Rattle.asl_json.specs.View.{data_of, items_of, members_of}
use Rattle.asl_json.specs.declared.value.Json.{Json}
use Rattle.asl_json.specs.declared.value.Member.{Member}
use Rattle.asl_def_schema.specs.declared.fault.FaultKind.TheVariants.{DuplicateState}
use Rattle.asl_def_schema.specs.declared.fault.Step.{Step}
use Rattle.asl_def_schema.specs.declared.sort.Sort.{Sort}
use Rattle.asl_def_schema.specs.Members.{Shape, sort_at, is_among}
use Rattle.asl_def_schema.specs.Demands.{number_of, unique}
use Rattle.asl_def_schema.specs.Claims.{Claim, step, under}
use Rattle.asl_def_schema.specs.First.{Hold, Each, Found, number, IsFirst}
use Rattle.asl_def_judge.specs.private.Firsts.{under_step}
use Rattle.asl_def_schema.specs.States.{Named, further, own_name, states_in, item_states, member_states, unique_claims, names_of, Has, Finds}
use Rattle.asl_def_judge.proofs.Answering.{each-append, each-weaken, first_before, first_behind, vacuous, answers-under, one_broken}

unique_append : (ks : List (List ℕ)) (xs ys : List Named) → unique_claims ks (xs ++ ys) ≡ unique_claims ks xs ++ unique_claims (ks ++ names_of xs) ys
unique_append ks [] ys = ap (λ (ls : List (List ℕ)). unique_claims ls ys) (sym (append-nil ks))
unique_append ks (x ∷ xs) ys =
    ap (λ (cs : List Claim). (unique (not (is_among x.0 ks)), x.1) ∷ cs)
    (unique_append (ks ++ x.0 ∷ []) xs ys ∙ ap (λ (ls : List (List ℕ)). unique_claims (ks ++ x.0 ∷ []) xs ++ unique_claims ls ys) (append_assoc ks (x.0 ∷ []) (names_of xs)))

unique_further : (s : Step) (ks : List (List ℕ)) (ns : List Named) → unique_claims ks (map (further s) ns) ≡ map (under s) (unique_claims ks ns)
unique_further s ks [] = refl
unique_further s ks (n ∷ ns) = ap (λ (cs : List Claim). (unique (not (is_among n.0 ks)), s ∷ n.1) ∷ cs) (unique_further s (ks ++ n.0 ∷ []) ns)

names_further : (s : Step) (ns : List Named) → names_of (map (further s) ns) ≡ names_of ns
names_further s [] = refl
names_further s (n ∷ ns) = ap (λ (ls : List (List ℕ)). n.0 ∷ ls) (names_further s ns)

-- all of one number
alike : (ks : List (List ℕ)) (ns : List Named) → Each (λ c. number c ≡ 11) (unique_claims ks ns)
alike ks [] = tt
alike ks (n ∷ ns) = (refl, alike (ks ++ n.0 ∷ []) ns)

of_all : (P : Claim → Type 0) (before : List Claim) (c : Claim) (after : List Claim) → Each P (before ++ c ∷ after) → P c
of_all P [] c after h = h.0
of_all P (b ∷ before) c after h = of_all P before c after h.1

found_number : (ks : List (List ℕ)) (ns : List Named) (f : Found) → IsFirst (unique_claims ks ns) f → number_of f.0 ≡ 11
found_number ks ns f h =
    let all = subst (Each (λ c. number c ≡ 11)) h.parts (alike ks ns) in
    ap (λ (g : Found). number_of g.0) h.fault ∙ of_all (λ c. number c ≡ 11) h.before h.claim h.after all

pub finds_early : (ks : List (List ℕ)) (xs ys : List Named) (f : Found) → IsFirst (unique_claims ks xs) f → IsFirst (unique_claims ks (xs ++ ys)) f
finds_early ks xs ys f h =
    let e = found_number ks xs f h in
    subst (λ (cs : List Claim). IsFirst cs f) (sym (unique_append ks xs ys)) (first_before (unique_claims ks xs) (unique_claims (ks ++ names_of xs) ys) f h (each-weaken _ _ (λ c k n. omega (arith, k, e)) (unique_claims (ks ++ names_of xs) ys) (alike (ks ++ names_of xs) ys)))

pub finds_later : {Y S : Type 0} (ks : List (List ℕ)) (xs ys : List Named) (r : Result (HashSet (String Y) S) Found) → Each Hold (unique_claims ks xs) → Finds (ks ++ names_of xs) ys r → Finds ks (xs ++ ys) r
finds_later ks xs ys (Ok s) h k = (
  subst (Each Hold) (sym (unique_append ks xs ys)) (each-append _ (unique_claims ks xs) (unique_claims (ks ++ names_of xs) ys) h k.0),
  λ n. k.1 n ∙ ap (is_among n) (append_assoc ks (names_of xs) (names_of ys) ∙ ap (λ (ls : List (List ℕ)). ks ++ ls) (sym (map-append (λ (m : Named). m.0) xs ys))),
)
finds_later ks xs ys (Err f) h k =
    subst (λ (cs : List Claim). IsFirst cs f) (sym (unique_append ks xs ys)) (first_behind (unique_claims ks xs) (unique_claims (ks ++ names_of xs) ys) f k (vacuous _ (unique_claims ks xs) h))

-- one part further out
holds_further : (s : Step) (ks : List (List ℕ)) (ns : List Named) → Each Hold (unique_claims ks ns) → Each Hold (unique_claims ks (map (further s) ns))
holds_further s ks ns h = subst (Each Hold) (sym (unique_further s ks ns)) (answers-under s (unique_claims ks ns) None h)

first_further : (s : Step) (ks : List (List ℕ)) (ns : List Named) (f : Found) → IsFirst (unique_claims ks ns) f → IsFirst (unique_claims ks (map (further s) ns)) (under_step s f)
first_further s ks ns f h = subst (λ (cs : List Claim). IsFirst cs (under_step s f)) (sym (unique_further s ks ns)) (answers-under s (unique_claims ks ns) (Some f) h)

-- what is found in all, once the rest is found
pub record Continues {Y S : Type 0} (ks : List (List ℕ)) (s : HashSet (String Y) S) (rest all : List Named) : Type 0 where
  so_far : List (List ℕ)
  has : Has s so_far
  goes : (r : Result (HashSet (String Y) S) Found) → Finds so_far rest r → Finds ks all r

pub continues-start : {Y S : Type 0} (ks : List (List ℕ)) (s : HashSet (String Y) S) (all : List Named) → Has s ks → Continues ks s all all
continues-start ks s all h = record { so_far = ks; has = h; goes = λ r k. k }

pub continues-step : {Y S : Type 0} (ks : List (List ℕ)) (s more : HashSet (String Y) S) (st : Step) (part rest all : List Named) (w : Continues ks s (map (further st) part ++ rest) all) → Finds w.so_far part (Ok more) → Continues ks more rest all
continues-step ks s more st part rest all w h = record {
  so_far = w.so_far ++ names_of part;
  has = h.1;
  goes = λ r k. w.goes r (finds_later w.so_far (map (further st) part) rest r (holds_further st w.so_far part h.0) (subst (λ (ls : List (List ℕ)). Finds (w.so_far ++ ls) rest r) (sym (names_further st part)) k));
}

pub continues-stop : {Y S : Type 0} (ks : List (List ℕ)) (s : HashSet (String Y) S) (st : Step) (part rest all : List Named) (f : Found) (w : Continues ks s (map (further st) part ++ rest) all) → IsFirst (unique_claims w.so_far part) f → IsFirst (unique_claims ks all) (under_step st f)
continues-stop {Y = Y} {S = S} ks s st part rest all f w h = w.goes (Err (under_step st f)) (finds_early w.so_far (map (further st) part) rest (under_step st f) (first_further st w.so_far part f h))

pub continues-end : {Y S : Type 0} (ks : List (List ℕ)) (s : HashSet (String Y) S) (all : List Named) → Continues ks s [] all → Finds ks all (Ok s)
continues-end ks s all w = w.goes (Ok s) (tt, λ n. w.has n ∙ ap (is_among n) (sym (append-nil w.so_far)))

pub items_split : (s : Sort) (vs : List Json) (i : ℕ) (v : Json) → i < length vs → v ≡ get_or vs i v → item_states s i (chain (items_of (drop i vs))) ≡ map (further (step i (decimal i))) (states_in s (data_of v)) ++ item_states s (i + 1) (chain (items_of (drop (i + 1) vs)))
items_split s vs i v lt at = ap (λ (xs : List Json). item_states s i (chain (items_of xs))) (drop_more vs i v lt ∙ ap (λ (x : Json). x ∷ drop (i + 1) vs) (sym at)) ∙ ap (λ (n : ℕ). map (further (step i (decimal i))) (states_in s (data_of v)) ++ item_states s n (chain (items_of (drop (i + 1) vs)))) (sym (add-one i))

pub members_split : (sh : Shape) (ms : List Member) (i : ℕ) (m : Member) → i < length ms → m ≡ get_or ms i m → member_states sh i (pairs (members_of (drop i ms))) ≡ map (further (step i m.key)) (own_name (sort_at sh m.key) m.key ++ states_in (sort_at sh m.key) (data_of m.value)) ++ member_states sh (i + 1) (pairs (members_of (drop (i + 1) ms)))
members_split sh ms i m lt at = ap (λ (xs : List Member). member_states sh i (pairs (members_of xs))) (drop_more ms i m lt ∙ ap (λ (x : Member). x ∷ drop (i + 1) ms) (sym at)) ∙ ap (λ (n : ℕ). map (further (step i m.key)) (own_name (sort_at sh m.key) m.key ++ states_in (sort_at sh m.key) (data_of m.value)) ++ member_states sh n (pairs (members_of (drop (i + 1) ms)))) (sym (add-one i))

-- what a set and its successor find, in words of what is left

pub stopped : {Y S : Type 0} (ks : List (List ℕ)) (s : HashSet (String Y) S) (st : Step) (part old rest all : List Named) (r : Result (HashSet (String Y) S) Found) (f told : Found) → Continues ks s old all → old ≡ map (further st) part ++ rest
    → ((ls : List (List ℕ)) → Has s ls → Finds ls part r) → r ≡ Err f → told ≡ under_step st f → IsFirst (unique_claims ks all) told
stopped ks s st part old rest all r f told w e found is t =
    let w2 = subst (λ (ns : List Named). Continues ks s ns all) e w in
    let h : IsFirst (unique_claims w2.so_far part) f = subst (Finds w2.so_far part) is (found w2.so_far w2.has) in
    subst (IsFirst (unique_claims ks all)) (sym t) (continues-stop ks s st part rest all f w2 h)

pub went_on : {Y S : Type 0} (ks : List (List ℕ)) (s more : HashSet (String Y) S) (st : Step) (part old rest all : List Named) (r : Result (HashSet (String Y) S) Found) → Continues ks s old all → old ≡ map (further st) part ++ rest
    → ((ls : List (List ℕ)) → Has s ls → Finds ls part r) → r ≡ Ok more → Continues ks more rest all
went_on ks s more st part old rest all r w e found is =
    let w2 = subst (λ (ns : List Named). Continues ks s ns all) e w in
    continues-step ks s more st part rest all w2 (subst (Finds w2.so_far part) is (found w2.so_far w2.has))

pub items_done : {Y S : Type 0} (ks : List (List ℕ)) (s : HashSet (String Y) S) (t : Sort) (vs : List Json) (i : ℕ) (ds : List Data) → length vs ≤ i → items_of vs ≡ ds → Continues ks s (item_states t i (chain (items_of (drop i vs)))) (item_states t 0 (chain (items_of vs))) → Finds ks (item_states t 0 (chain ds)) (Ok s)
items_done ks s t vs i ds past e w =
    subst (λ (xs : List Data). Finds ks (item_states t 0 (chain xs)) (Ok s)) e (continues-end ks s _ (subst (λ (xs : List Json). Continues ks s (item_states t i (chain (items_of xs))) (item_states t 0 (chain (items_of vs)))) (drop_all i vs past) w))

pub members_done : {Y S : Type 0} (ks : List (List ℕ)) (s : HashSet (String Y) S) (sh : Shape) (ms : List Member) (i : ℕ) (xs : List (List ℕ × Data)) → length ms ≤ i → members_of ms ≡ xs → Continues ks s (member_states sh i (pairs (members_of (drop i ms)))) (member_states sh 0 (pairs (members_of ms))) → Finds ks (member_states sh 0 (pairs xs)) (Ok s)
members_done ks s sh ms i xs past e w =
    subst (λ (ys : List (List ℕ × Data)). Finds ks (member_states sh 0 (pairs ys)) (Ok s)) e (continues-end ks s _ (subst (λ (ys : List Member). Continues ks s (member_states sh i (pairs (members_of ys))) (member_states sh 0 (pairs (members_of ms)))) (drop_all i ms past) w))

if_ok : {A E : Type 0} (P Q : A → Type 0) (r : Result A E) → ((x : A) → P x → Q x) → IfOk r P → IfOk r Q
if_ok P Q (Ok x) f h = f x h
if_ok P Q (Err e) f h = tt

pub name_then : {Y S E : Type 0} (ks : List (List ℕ)) (s : HashSet (String Y) S) (own inner : List Named) (n : Result (HashSet (String Y) S) Found) (r : Result (Result (HashSet (String Y) S) Found) E) → Finds ks own n → n ≡ Ok s → ((ls : List (List ℕ)) → Has s ls → IfOk r (Finds ls inner)) → IfOk r (Finds ks (own ++ inner))
name_then ks s own inner n r h is found =
    let k = subst (Finds ks own) is h in
    if_ok (Finds (ks ++ names_of own) inner) (Finds ks (own ++ inner)) r (λ x m. finds_later ks own inner x k.0 m) (found (ks ++ names_of own) k.1)

pub name_again : {Y S : Type 0} (ks : List (List ℕ)) (own inner : List Named) (n : Result (HashSet (String Y) S) Found) (f : Found) → Finds ks own n → n ≡ Err f → IsFirst (unique_claims ks (own ++ inner)) f
name_again ks own inner n f h is = finds_early ks own inner f (subst (Finds ks own) is h)

-- one name

pub name_kept : {Y S : Type 0} (ks : List (List ℕ)) (k : List ℕ) (s n : HashSet (String Y) S) → Has s ks → (key : String Y) → string_bytes key ≡ k → Updates string_eq s n key true → Has n (ks ++ k ∷ [])
name_kept ks k s n has key bytes updates = λ l. hash_set_updates_text (string_bytes key) s n true updates l ∙ ap (λ (m : List ℕ). cond (bytes_eq m l) true (contains_text s l)) bytes ∙ chosen (bytes_eq k l) (contains_text s l) ∙ (λ i. has l i || bytes_eq-flip k l i) ∙ among_push l ks k
  where
    chosen : (c x : Bool) → cond c true x ≡ (x || c)
    chosen true true = refl
    chosen true false = refl
    chosen false true = refl
    chosen false false = refl

    or_false : (c : Bool) → c ≡ (c || false)
    or_false true = refl
    or_false false = refl

    or_assoc : (a c d : Bool) → ((a || c) || d) ≡ (a || (c || d))
    or_assoc true c d = refl
    or_assoc false c d = refl

    among_push : (l : List ℕ) (ls : List (List ℕ)) (m : List ℕ) → (is_among l ls || bytes_eq l m) ≡ is_among l (ls ++ m ∷ [])
    among_push l [] m = or_false (bytes_eq l m)
    among_push l (x ∷ xs) m = or_assoc (bytes_eq l x) (is_among l xs) (bytes_eq l m) ∙ ap (λ (c : Bool). bytes_eq l x || c) (among_push l xs m)

pub new_name : {Y S : Type 0} (ks : List (List ℕ)) (k : List ℕ) (s n : HashSet (String Y) S) (b : Bool) → Has s ks → b ≡ contains_text s k → b ≡ false → (key : String Y) → string_bytes key ≡ k → Updates string_eq s n key true → Finds ks ((k, []) ∷ []) (Ok n)
new_name ks k s n b has is off key bytes updates = ((ap not (sym (has k) ∙ sym is ∙ off), tt), name_kept ks k s n has key bytes updates)

pub old_name : {Y S : Type 0} (ks : List (List ℕ)) (k : List ℕ) (s : HashSet (String Y) S) (b : Bool) (f : Found) → Has s ks → b ≡ contains_text s k → b ≡ true → f ≡ (DuplicateState, []) → IsFirst (unique_claims ks ((k, []) ∷ [])) f
old_name ks k s b f has is on t =
    let known : is_among k ks ≡ true = sym (has k) ∙ sym is ∙ on in
    subst (IsFirst (unique_claims ks ((k, []) ∷ []))) (sym t) (one_broken (unique (not (is_among k ks)), []) (λ h. absurd (let x : false ≡ true = sym (ap not known) ∙ h in cc)))
