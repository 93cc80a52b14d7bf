-- At each place that is told in a rule stands a rule that never holds.
use Rattle.std.proofs.Common.{◌≡◌, ℕ, suc, ◌+◌, Bool, true, false, List, [], ◌∷◌, ◌++◌, refl, sym, ap, subst, ◌∙◌, arith}
use Rattle.std.specs.Prelude.{◌||◌, Option, None, Some, codes, if◌then◌else◌}
use Rattle.std.specs.List.{All, slice_get}
use Rattle.std.specs.Cmp.Lexicographic.{bytes_decides}
use Rattle.std.proofs.lemmas.List.Elements.{All-append}
use Rattle.asl_json_data.specs.Data.{Data, null, boolean, number, text, list, dict, Chain, no_items, item, Pairs, no_members, member, chain}
use Rattle.asl_json_data.specs.Distinct.{Members}
use Rattle.asl_json.specs.View.{unchained, unpaired}
use Rattle.asl_json.specs.Same.{bytes_eq}
use Rattle.asl_lint_choices.specs.declared.contradictions.Contradiction.{Contradiction}
use Rattle.asl_lint_choices.specs.Conditions.{is_aside, without_asides, condition}
use Rattle.asl_lint_choices.specs.Contradictions.{first_contradiction}
use Rattle.asl_lint_choices.specs.Ands.{Told, told_at, own_and, item_list, is_one, has_one_part, by_key, in_rule, in_members, in_rules, in_items}
use Rattle.asl_lint_choices.specs.Laws.{made_of, made_by, inner_rules, given, rule_at, NeverHoldsAt, ImpossibleAndsNeverHold}
use Rattle.asl_lint_choices.proofs.Each.{all_none, all_one}
use Rattle.asl_lint_choices.proofs.Contradicting.{never_hold}

-- ---- places

-- one step further
deeper : (place : List ℕ) (n : ℕ) (root d e : Data) → rule_at place root ≡ Some d → slice_get (inner_rules d) n ≡ Some e
    → rule_at (place ++ n ∷ []) root ≡ Some e
deeper [] n root d e at is =
    let same : root ≡ d = cc at in
    ap (λ (r : Data). given (slice_get (inner_rules r) n) (rule_at [])) same ∙ ap (λ (o : Option Data). given o (rule_at [])) is
deeper (m ∷ ms) n root d e at is = by (slice_get (inner_rules root) m) (λ r h. deeper ms n r d e h is) at
  where
    by : (o : Option Data) → ((r : Data) → rule_at ms r ≡ Some d → rule_at (ms ++ n ∷ []) r ≡ Some e)
        → given o (rule_at ms) ≡ Some d → given o (rule_at (ms ++ n ∷ [])) ≡ Some e
    by (Some r) f h = f r h
    by None f h = absurd (cc h)

-- at the rules of a rule
abbrev StandIn : Data → List ℕ → Data → Type 0
StandIn root place d = (i : ℕ) (e : Data) → slice_get (item_list d) i ≡ Some e → rule_at (place ++ i ∷ []) root ≡ Some e

-- ---- the And itself

again : (ds : Chain) → chain (unchained ds) ≡ ds
again no_items = refl
again (item d ds) = ap (item d) (again ds)

own_so : (root rule : Data) (place : List ℕ) → rule_at place root ≡ Some rule → (d : Data) → condition rule ≡ (codes "And", d) ∷ []
    → All (NeverHoldsAt root) (own_and place (item_list d))
unfolding first_contradiction
own_so root rule place at (list ds) is = by (first_contradiction (unchained ds)) refl
  where
    by : (o : Option Contradiction) → first_contradiction (unchained ds) ≡ o → All (NeverHoldsAt root) (told_at place o)
    by (Some t) told =
        all_one (NeverHoldsAt root) (place, t)
        (rule, at, never_hold (unchained ds) t told rule (is ∙ ap (λ (rs : Chain). (codes "And", list rs) ∷ []) (sym (again ds))))
    by None told = all_none (NeverHoldsAt root)
own_so root rule place at null is = all_none (NeverHoldsAt root)
own_so root rule place at (boolean b) is = all_none (NeverHoldsAt root)
own_so root rule place at (number n) is = all_none (NeverHoldsAt root)
own_so root rule place at (text t) is = all_none (NeverHoldsAt root)
own_so root rule place at (dict ms) is = all_none (NeverHoldsAt root)

-- ---- what decides a rule

-- what is in the member with this key
abbrev found_by : List ℕ → List ℕ → Data → List Told
found_by place k d = by_key k (own_and place (item_list d)) (in_rules place d) (in_rule (place ++ 0 ∷ []) d)

key_so : (root rule : Data) (place : List ℕ) → rule_at place root ≡ Some rule → (k : List ℕ) (d : Data) → condition rule ≡ (k, d) ∷ []
    → (StandIn root place d → All (NeverHoldsAt root) (in_rules place d))
    → (rule_at (place ++ 0 ∷ []) root ≡ Some d → All (NeverHoldsAt root) (in_rule (place ++ 0 ∷ []) d))
    → All (NeverHoldsAt root) (found_by place k d)
key_so root rule place at k d is inner opposite =
    by (bytes_eq k (codes "And")) refl (bytes_eq k (codes "Or")) refl (bytes_eq k (codes "Not")) refl
  where
    -- where the rules that the rule is made of are those
    placed : (rs : List Data) → made_of k d ≡ rs → (i : ℕ) (e : Data) → slice_get rs i ≡ Some e → rule_at (place ++ i ∷ []) root ≡ Some e
    placed rs made i e h =
        deeper place i root rule e at
        (ap (λ (ms : Members). slice_get (made_by ms) i) is ∙ ap (λ (xs : List Data). slice_get xs i) made ∙ h)

    by : (a : Bool) → bytes_eq k (codes "And") ≡ a → (o : Bool) → bytes_eq k (codes "Or") ≡ o → (n : Bool) → bytes_eq k (codes "Not") ≡ n
        → All (NeverHoldsAt root)
        (if a then own_and place (item_list d) ++ in_rules place d else if o then in_rules place d
        else if n then in_rule (place ++ 0 ∷ []) d else [])
    by true ia o io n it =
        let same : k ≡ codes "And" = (bytes_decides k (codes "And")).0 ia in
        All-append (NeverHoldsAt root) (own_and place (item_list d)) (in_rules place d)
        (own_so root rule place at d (is ∙ ap (λ (j : List ℕ). (j, d) ∷ []) same))
        (inner (placed (item_list d) (ap (λ (j : List ℕ). made_of j d) same)))
    by false ia true io n it =
        let same : k ≡ codes "Or" = (bytes_decides k (codes "Or")).0 io in
        inner (placed (item_list d) (ap (λ (j : List ℕ). made_of j d) same))
    by false ia false io true it =
        let same : k ≡ codes "Not" = (bytes_decides k (codes "Not")).0 it in
        opposite (placed (d ∷ []) (ap (λ (j : List ℕ). made_of j d) same) 0 d refl)
    by false ia false io false it = all_none (NeverHoldsAt root)

-- what doesn't decide has no Ands
silent_key : (k : List ℕ) → is_aside k ≡ true → (a b c : List Told) → by_key k a b c ≡ []
silent_key k e a b c = which (bytes_eq k (codes "Next")) refl e
  where
    which : (s : Bool) → bytes_eq k (codes "Next") ≡ s → (s || bytes_eq k (codes "Comment")) ≡ true → by_key k a b c ≡ []
    which true is e = ap (λ (j : List ℕ). by_key j a b c) ((bytes_decides k (codes "Next")).0 is)
    which false is e = ap (λ (j : List ℕ). by_key j a b c) ((bytes_decides k (codes "Comment")).0 e)

-- the members that are left have what decides a rule, or nothing that does
data Rest (rule : Data) (ms : Members) : Type 0 where
  whole : ms ≡ condition rule → Rest rule ms
  nothing : ms ≡ [] → Rest rule ms

only : (m : List ℕ × Data) (ms : Members) → is_one (m ∷ ms) ≡ true → ms ≡ []
only m [] e = refl
only m (n ∷ ms) e = absurd (cc e)

member_so : (root rule : Data) (place k : List ℕ) (d : Data) (ms : Pairs) → has_one_part rule ≡ true
    → Rest rule (without_asides ((k, d) ∷ unpaired ms))
    → (condition rule ≡ (k, d) ∷ [] → All (NeverHoldsAt root) (found_by place k d))
    → (Rest rule (without_asides (unpaired ms)) → All (NeverHoldsAt root) (in_members place ms))
    → All (NeverHoldsAt root) (found_by place k d ++ in_members place ms)
member_so root rule place k d ms one rest here there = by (is_aside k) refl rest
  where
    by : (b : Bool) → is_aside k ≡ b → Rest rule (if b then without_asides (unpaired ms) else (k, d) ∷ without_asides (unpaired ms))
        → All (NeverHoldsAt root) (found_by place k d ++ in_members place ms)
    by true is rest =
        All-append (NeverHoldsAt root) (found_by place k d) (in_members place ms)
        (subst (λ (ts : List Told). All (NeverHoldsAt root) ts)
        (sym (silent_key k is (own_and place (item_list d)) (in_rules place d) (in_rule (place ++ 0 ∷ []) d))) (all_none (NeverHoldsAt root)))
        (there rest)
    by false is (whole e) =
        let none_left : without_asides (unpaired ms) ≡ [] = only (k, d) (without_asides (unpaired ms)) (ap is_one e ∙ one) in
        All-append (NeverHoldsAt root) (found_by place k d) (in_members place ms)
        (here (sym e ∙ ap (λ (rs : Members). (k, d) ∷ rs) none_left)) (there (nothing none_left))
    by false is (nothing e) = absurd (cc e)

-- ---- all of a rule

if_one : (root d : Data) (place : List ℕ) (ts : List Told) → (has_one_part d ≡ true → All (NeverHoldsAt root) ts)
    → All (NeverHoldsAt root) (if has_one_part d then ts else [])
if_one root d place ts f = by (has_one_part d) refl
  where
    by : (b : Bool) → has_one_part d ≡ b → All (NeverHoldsAt root) (if b then ts else [])
    by true is = f is
    by false is = all_none (NeverHoldsAt root)

mutual
  rule_so : (d root : Data) (place : List ℕ) → rule_at place root ≡ Some d → All (NeverHoldsAt root) (in_rule place d)
  rule_so (dict ms) root place at =
      if_one root (dict ms) place (in_members place ms) (λ one. members_so ms root (dict ms) place at one (whole refl))
  rule_so null root place at = all_none (NeverHoldsAt root)
  rule_so (boolean b) root place at = all_none (NeverHoldsAt root)
  rule_so (number n) root place at = all_none (NeverHoldsAt root)
  rule_so (text t) root place at = all_none (NeverHoldsAt root)
  rule_so (list ds) root place at = all_none (NeverHoldsAt root)

  members_so : (ms : Pairs) (root rule : Data) (place : List ℕ) → rule_at place root ≡ Some rule → has_one_part rule ≡ true
      → Rest rule (without_asides (unpaired ms)) → All (NeverHoldsAt root) (in_members place ms)
  members_so no_members root rule place at one rest = all_none (NeverHoldsAt root)
  members_so (member k d ms) root rule place at one rest =
      member_so root rule place k d ms one rest
      (λ is. key_so root rule place at k d is (λ stand. rules_so d root place stand) (λ there. rule_so d root (place ++ 0 ∷ []) there))
      (λ left. members_so ms root rule place at one left)

  rules_so : (d root : Data) (place : List ℕ) → StandIn root place d → All (NeverHoldsAt root) (in_rules place d)
  rules_so (list ds) root place stand =
      items_so ds root place 0
      (λ i e h. subst (λ (k : ℕ). rule_at (place ++ k ∷ []) root ≡ Some e) (omega (arith)) (stand i e h))
  rules_so null root place stand = all_none (NeverHoldsAt root)
  rules_so (boolean b) root place stand = all_none (NeverHoldsAt root)
  rules_so (number n) root place stand = all_none (NeverHoldsAt root)
  rules_so (text t) root place stand = all_none (NeverHoldsAt root)
  rules_so (dict ms) root place stand = all_none (NeverHoldsAt root)

  items_so : (ds : Chain) (root : Data) (place : List ℕ) (n : ℕ)
      → ((i : ℕ) (e : Data) → slice_get (unchained ds) i ≡ Some e → rule_at (place ++ (i + n) ∷ []) root ≡ Some e)
      → All (NeverHoldsAt root) (in_items place n ds)
  items_so no_items root place n stand = all_none (NeverHoldsAt root)
  items_so (item d ds) root place n stand =
      All-append (NeverHoldsAt root) (in_rule (place ++ n ∷ []) d) (in_items place (n + 1) ds)
      (rule_so d root (place ++ n ∷ [])
      (subst (λ (k : ℕ). rule_at (place ++ k ∷ []) root ≡ Some d) (omega (arith)) (stand 0 d refl)))
      (items_so ds root place (n + 1)
      (λ i e h. subst (λ (k : ℕ). rule_at (place ++ k ∷ []) root ≡ Some e) (omega (arith)) (stand (suc i) e h)))

pub each_never_holds : ImpossibleAndsNeverHold
each_never_holds rule = rule_so rule rule [] refl
