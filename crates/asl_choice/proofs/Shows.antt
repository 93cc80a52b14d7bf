-- A rule that is read shows the canonical form.
use Rattle.std.proofs.Common.{◌≡◌, ℕ, ◌+◌, ◌<◌, ◌≤◌, List, [], ◌∷◌, ◌++◌, length, take, get_or, Bool, true, false, ◌||◌, refl, sym, subst, ap, ◌∙◌, arith}
use Rattle.std.specs.Prelude.{Option, Some, None, Result, Ok, Err, IfOk, option_map, codes, map}
use Rattle.std.proofs.lemmas.List.{take_more, take_all, map-append}
use Rattle.asl_json_data.specs.Data.{Data, text, list, dict, chain, Pairs, no_members, member, pairs, depth, members_depth}
use Rattle.asl_json.specs.Same.{bytes_eq}
use Rattle.asl_json.specs.Meaning.{value_at}
use Rattle.asl_json.specs.View.{data_of, items_of}
use Rattle.asl_json.specs.declared.value.Json.{Json}
use Rattle.asl_def_schema.specs.declared.sort.Sort.{Sort}
use Rattle.asl_def_schema.specs.declared.sort.Sort.TheVariants.{Text, Path, InnerRule, InnerRules}
use Rattle.asl_def_schema.specs.Members.{shape_of, sort_at, is_among, inner_rule_rows, row_names, operators, connectives, test_rows}
use Rattle.asl_def_schema.specs.Canon.{Named, is_plain, opt, kept, kept_at, canon, canon_items, picked_at}
use Rattle.asl_def_schema.specs.Clean.{IsClean}
use Rattle.asl_def_schema.proofs.Canons.{picked-canon, plain_kept, plain_canon, not_end}
use Rattle.asl_def_schema.proofs.Inside.{object_inside, clean}
use Rattle.asl_def_schema.proofs.Parts.{items_clean, item_clean}
use Rattle.asl_choice.specs.declared.operator.RuleKind.{RuleKind}
use Rattle.asl_choice.specs.declared.operator.RuleKind.TheVariants as kind
use Rattle.asl_choice.specs.declared.operator.Operator.{Operator}
use Rattle.asl_choice.specs.declared.operator.Operator.TheVariants as operator
use Rattle.asl_choice.specs.declared.rule.Condition.{Condition}
use Rattle.asl_choice.specs.Rules.{IsRule, inner, canonical_rule, rule_object, rule_list, rule_named, condition_named, kind_name, kind_names, kind_sort, operator_name, operand_sort}
use Rattle.asl_choice.proofs.Names.{kind_stood, kind_sorted, deciding_rows}
use Rattle.asl_choice.proofs.Picked.{picked_one}
use Rattle.asl_choice.proofs.Ruled.{ruled}

among-append : (l : List ℕ) (ks bs : List (List ℕ)) → is_among l (ks ++ bs) ≡ (is_among l ks || is_among l bs)
among-append l [] bs = refl
among-append l (a ∷ ks) bs = by (bytes_eq l a) (among-append l ks bs)
  where
    by : (b : Bool) → is_among l (ks ++ bs) ≡ (is_among l ks || is_among l bs) → (b || is_among l (ks ++ bs)) ≡ ((b || is_among l ks) || is_among l bs)
    by true e = refl
    by false e = e

last_first : (a b c d : Bool) → (a || (b || (c || d))) ≡ true → (d || (a || (b || (c || false)))) ≡ true
last_first a b c true e = refl
last_first true b c false e = refl
last_first false true c false e = refl
last_first false false true false e = refl
last_first false false false false e = e

tests_named : row_names test_rows ≡ operators
unfolding operators test_rows
tests_named = refl

rows_decide : (l : List ℕ) → is_among l (row_names deciding_rows) ≡ true → is_among l kind_names ≡ true
rows_decide l e =
    let named = rw tests_named at e in
    among-append l operators connectives ∙ last_first (bytes_eq l (codes "And")) (bytes_eq l (codes "Or")) (bytes_eq l (codes "Not")) (is_among l operators) named

-- what decides it, alone
one_picked : (ms : Pairs) (k : RuleKind) (d : Data) → IsRule ms → value_at (kind_name k) ms ≡ Some d → picked_at (shape_of InnerRule None) deciding_rows ms ≡ (kind_name k, canon (kind_sort k) d) ∷ []
one_picked ms k d is at =
    let sh = shape_of InnerRule None in
    let n = kind_name k in
    let there : kept_at n (sort_at sh n) ms ≡ Some (canon (kind_sort k) d) = ap (λ (s : Sort). kept_at n s ms) (kind_sorted k) ∙ ap (λ (o : Option Data). kept n (option_map (canon (kind_sort k)) o)) at ∙ not_end n (Some (canon (kind_sort k) d)) (kind_stood k).not_end in
    picked_one sh deciding_rows ms n (kind_stood k).once (λ l e other. (ruled ms is).alone k d l at (rows_decide l e) other) ∙ ap (λ (o : Option Data). opt n o) there

-- the members of a rule in the order of the table
rule_rows_are : (ms : Pairs) → canonical_rule ms ≡ opt (codes "Comment") (kept_at (codes "Comment") Text ms) ++ (opt (codes "Variable") (kept_at (codes "Variable") Path ms) ++ picked_at (shape_of InnerRule None) deciding_rows ms)
unfolding inner_rule_rows
rule_rows_are ms = refl

pub rule_shows : (ms : Pairs) (comment : Option (List ℕ)) (c : Condition) (k : RuleKind) (d : Data) → IsRule ms → value_at (kind_name k) ms ≡ Some d
    → option_map text comment ≡ value_at (codes "Comment") ms
    → condition_named c ≡ opt (codes "Variable") (value_at (codes "Variable") ms) ++ (kind_name k, canon (kind_sort k) d) ∷ []
    → rule_named comment c ≡ canonical_rule ms
rule_shows ms comment c k d is at first second =
    let commented = first ∙ sym (plain_kept (codes "Comment") Text ms refl refl) in
    let varied = plain_kept (codes "Variable") Path ms refl refl in
    let rest : condition_named c ≡ opt (codes "Variable") (kept_at (codes "Variable") Path ms) ++ picked_at (shape_of InnerRule None) deciding_rows ms = second ∙ ap (λ (o : Option Data). opt (codes "Variable") o ++ (kind_name k, canon (kind_sort k) d) ∷ []) (sym varied) ∙ ap (λ (xs : List Named). opt (codes "Variable") (kept_at (codes "Variable") Path ms) ++ xs) (sym (one_picked ms k d is at)) in
    ap (λ (o : Option Data). opt (codes "Comment") o ++ condition_named c) commented ∙ ap (λ (xs : List Named). opt (codes "Comment") (kept_at (codes "Comment") Text ms) ++ xs) rest ∙ sym (rule_rows_are ms)

-- ---- rules inside

pub inner_is : (v : Data) (xs ys : List Named) → IsClean InnerRule v → v ≡ dict (pairs ys) → xs ≡ ys → IsRule (pairs xs)
inner_is v xs ys c e same =
    let whole : IsClean InnerRule (dict (pairs xs)) = subst (λ (d : Data). IsClean InnerRule d) (e ∙ ap (λ (zs : List Named). dict (pairs zs)) (sym same)) c in
    inner whole.names (object_inside whole.names InnerRule (pairs xs) refl whole.is)

pub inner_shows : (v : Data) (xs ys r : List Named) → v ≡ dict (pairs ys) → xs ≡ ys → r ≡ canonical_rule (pairs xs) → rule_object r ≡ canon InnerRule v
inner_shows v xs ys r e same is =
    ap rule_object is
    ∙ ap (λ (zs : List Named). dict (pairs zs)) (sym (picked-canon (shape_of InnerRule None) inner_rule_rows (pairs xs)))
    ∙ ap (canon InnerRule) (ap (λ (zs : List Named). dict (pairs zs)) same ∙ sym e)

canon_chain : (ds : List Data) → canon_items InnerRule (chain ds) ≡ chain (map (canon InnerRule) ds)
canon_chain [] = refl
canon_chain (d ∷ ds) = rw (canon_chain ds) refl

abbrev pub canonical_rules : List Json → List Data
canonical_rules vs = map (canon InnerRule) (items_of vs)

pub rules_push : (vs : List Json) (i : ℕ) (v : Json) (rs : List (List Named)) (r : List Named) (after : List (List Named)) → i < length vs → v ≡ get_or vs i v → map rule_object rs ≡ canonical_rules (take i vs) → rule_object r ≡ canon InnerRule (data_of v) → after ≡ rs ++ r ∷ [] → map rule_object after ≡ canonical_rules (take (i + 1) vs)
rules_push vs i v rs r after lt e h one pushed =
    let more : take (i + 1) vs ≡ take i vs ++ v ∷ [] = take_more vs i v lt ∙ ap (λ (x : Json). take i vs ++ x ∷ []) (sym e) in
    ap (λ (xs : List (List Named)). map rule_object xs) pushed
    ∙ map-append rule_object rs (r ∷ [])
    ∙ (λ j. h j ++ one j ∷ [])
    ∙ sym (ap canonical_rules more ∙ ap (λ (xs : List Data). map (canon InnerRule) xs) (map-append data_of (take i vs) (v ∷ [])) ∙ map-append (canon InnerRule) (items_of (take i vs)) (data_of v ∷ []))

pub rules_show : (v : Data) (vs : List Json) (ds : List Data) (i : ℕ) (rs : List (List Named)) → length vs ≤ i → v ≡ list (chain ds) → items_of vs ≡ ds → map rule_object rs ≡ canonical_rules (take i vs) → rule_list rs ≡ canon InnerRules v
rules_show v vs ds i rs le e same h =
    let all : map rule_object rs ≡ map (canon InnerRule) ds = h ∙ ap canonical_rules (take_all i vs le) ∙ ap (λ (xs : List Data). map (canon InnerRule) xs) same in
    ap (λ (xs : List Data). list (chain xs)) all ∙ ap list (sym (canon_chain ds)) ∙ ap (canon InnerRules) (sym e)

pub inner_ok : {E : Type 0} (v : Data) (xs ys : List Named) (res : Result (List Named) E) → v ≡ dict (pairs ys) → xs ≡ ys → IfOk res (λ r. r ≡ canonical_rule (pairs xs)) → IfOk res (λ r. rule_object r ≡ canon InnerRule v)
inner_ok v xs ys (Ok r) e same h = inner_shows v xs ys r e same h
inner_ok v xs ys (Err x) e same h = tt

pub inner_item : (v : Data) (vs : List Json) (ds : List Data) (i : ℕ) (x : Json) → IsClean InnerRules v → v ≡ list (chain ds) → items_of vs ≡ ds → i < length vs → x ≡ get_or vs i x → IsClean InnerRule (data_of x)
inner_item v vs ds i x c e same lt at =
    let whole : IsClean InnerRules (list (chain (items_of vs))) = subst (λ (d : Data). IsClean InnerRules d) (e ∙ ap (λ (zs : List Data). list (chain zs)) (sym same)) c in
    clean (item_clean whole.names InnerRule vs i x (items_clean whole.names InnerRules (items_of vs) refl whole.is) lt at)

-- ---- what a rule asks

pub connected : (k j : RuleKind) (v : Option Data) (d x : Data) → k ≡ j → v ≡ None → x ≡ canon (kind_sort j) d → (kind_name j, x) ∷ [] ≡ opt (codes "Variable") v ++ (kind_name k, canon (kind_sort k) d) ∷ []
connected k j v d x is none e =
    ap (λ (y : Data). (kind_name j, y) ∷ []) e
    ∙ ap (λ (i : RuleKind). (kind_name i, canon (kind_sort i) d) ∷ []) (sym is)
    ∙ ap (λ (o : Option Data). opt (codes "Variable") o ++ (kind_name k, canon (kind_sort k) d) ∷ []) (sym none)

operand_plain : (o : Operator) → is_plain (operand_sort o) ≡ true
operand_plain (operator.String o) = refl
operand_plain (operator.StringPath o) = refl
operand_plain (operator.Numeric o) = refl
operand_plain (operator.NumericPath o) = refl
operand_plain (operator.Timestamp o) = refl
operand_plain (operator.TimestampPath o) = refl
operand_plain operator.Boolean = refl
operand_plain operator.BooleanPath = refl
operand_plain operator.Matches = refl
operand_plain (operator.Is p) = refl

pub tested : (k : RuleKind) (o : Operator) (v : Option Data) (d : Data) (p : List ℕ) (m : Named) → k ≡ kind.Test o → Some (text p) ≡ v → m ≡ (operator_name o, d) → (codes "Variable", text p) ∷ m ∷ [] ≡ opt (codes "Variable") v ++ (kind_name k, canon (kind_sort k) d) ∷ []
tested k o v d p m is var e =
    ap (λ (x : Named). (codes "Variable", text p) ∷ x ∷ []) e
    ∙ ap (λ (x : Data). (codes "Variable", text p) ∷ (operator_name o, x) ∷ []) (sym (plain_canon (operand_sort o) d (operand_plain o)))
    ∙ ap (λ (i : RuleKind). (codes "Variable", text p) ∷ (kind_name i, canon (kind_sort i) d) ∷ []) (sym is)
    ∙ ap (λ (x : Option Data). opt (codes "Variable") x ++ (kind_name k, canon (kind_sort k) d) ∷ []) var

pub value_within : (k : List ℕ) (ms : Pairs) (d : Data) → value_at k ms ≡ Some d → depth d ≤ members_depth ms
value_within k no_members d e = absurd cc
value_within k (member l v ms) d e = by (bytes_eq k l) refl (λ f. value_within k ms d f)
  where
    by : (b : Bool) → bytes_eq k l ≡ b → (value_at k ms ≡ Some d → depth d ≤ members_depth ms) → depth d ≤ members_depth (member l v ms)
    by true p rest =
        let same : v ≡ d = let x = rw p at e in cc in
        rw (← same) (omega arith)
    by false p rest = let x = rest (rw p at e) in omega arith
