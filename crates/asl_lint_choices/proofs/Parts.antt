-- Rules in a rule.
use Rattle.std.proofs.Common.{◌≡◌, ℕ, ◌≤◌, Bool, true, false, List, [], ◌∷◌, ◌++◌, length, drop, refl, sym, ap, ◌∙◌}
use Rattle.std.specs.Prelude.{if◌then◌else◌}
use Rattle.std.proofs.lemmas.List.{drop_all, append-nil}
use Rattle.asl_json_data.specs.Data.{Data, null, boolean, number, text, list, dict, chain, pairs}
use Rattle.asl_json_data.specs.Distinct.{Members}
use Rattle.asl_json.specs.View.{members_of, unchained}
use Rattle.asl_json.specs.Access.{members_in, items_in}
use Rattle.asl_json.specs.declared.value.Member.{Member}
use Rattle.asl_lint_choices.specs.Ands.{Told, is_one, has_one_part, in_rule, in_members, item_list}

-- where one was found that says when a rule holds, or none, these are left
abbrev pub one_more : Bool → Members → Bool
one_more true [] = true
one_more true (m ∷ ms) = false
one_more false ms = is_one ms

again : (xs : List Data) → unchained (chain xs) ≡ xs
again [] = refl
again (x ∷ xs) = ap (λ (ys : List Data). x ∷ ys) (again xs)

pub listed : (d : Data) (xs : List Data) → chain xs ≡ items_in d → xs ≡ item_list d
listed d xs e = sym (again xs) ∙ ap unchained e

one_part : (place : List ℕ) (d : Data) → has_one_part d ≡ true → in_members place (members_in d) ≡ in_rule place d
one_part place (dict ms) e = ap (λ (b : Bool). if b then in_members place ms else []) (sym e)
one_part place null e = absurd (cc e)
one_part place (boolean b) e = absurd (cc e)
one_part place (number n) e = absurd (cc e)
one_part place (text t) e = absurd (cc e)
one_part place (list ds) e = absurd (cc e)

-- all members were gone through
pub over : (xs ys : List Told) (place : List ℕ) (ms : List Member) (i : ℕ) (d : Data) → length ms ≤ i → has_one_part d ≡ true
    → pairs (members_of ms) ≡ members_in d
    → xs ++ in_members place (pairs (members_of (drop i ms))) ≡ ys ++ in_members place (pairs (members_of ms))
    → xs ≡ ys ++ in_rule place d
over xs ys place ms i d le one is h =
    sym (append-nil xs) ∙ ap (λ (rest : List Member). xs ++ in_members place (pairs (members_of rest))) (sym (drop_all i ms le)) ∙ h
    ∙ ap (λ z. ys ++ in_members place z) is ∙ ap (λ (z : List Told). ys ++ z) (one_part place d one)
