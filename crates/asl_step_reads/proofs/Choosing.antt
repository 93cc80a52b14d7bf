-- Whether a rule holds, where all of its texts agree on two Context Objects.
use Rattle.std.proofs.Common.{◌≡◌, ℕ, List, [], ◌∷◌, Bool, true, false, refl, ap, cond, Option, Some}
use Rattle.std.specs.Prelude.{Ok, codes, is_some}
use Rattle.asl_json_data.specs.Results.{◌>>=◌}
use Rattle.asl_json_data.specs.Data.{Data, null, boolean, number, text, list, dict, Chain, no_items, item, Pairs, no_members, member}
use Rattle.asl_json.specs.Same.{bytes_eq}
use Rattle.asl_json.specs.Meaning.{value_at, value_in}
use Rattle.asl_choice.specs.declared.operator.Operator.{Operator}
use Rattle.asl_choice.specs.declared.operator.Operator.TheVariants as operator
use Rattle.asl_choice.specs.declared.operator.Property.TheVariants as property
use Rattle.asl_choice.specs.Truth.{truths, present, at_path, operand_value, judged, looked_up, test, kind_of, variable, chosen, and_also, or_else, negated, holds, decided, each, each_holds, any, any_holds}
use Rattle.asl_def_states.specs.Choosing.{chosen_next}
use Rattle.asl_step_reads.proofs.Agreeing.{Agrees, AllAgree, ItemsAgree, MembersAgree}

module _ (a b : Data) where
  -- ---- a test

  at_path_agrees : (d x : Data) → AllAgree a b d → at_path d x a ≡ at_path d x b
  at_path_agrees null x h = refl
  at_path_agrees (boolean c) x h = refl
  at_path_agrees (number n) x h = refl
  at_path_agrees (text t) x h = ap (present t) (h.names x)
  at_path_agrees (list ds) x h = refl
  at_path_agrees (dict ms) x h = refl

  operand_agrees : (o : Operator) (d x : Data) → AllAgree a b d → operand_value o d x a ≡ operand_value o d x b
  operand_agrees (operator.String o) d x h = refl
  operand_agrees (operator.StringPath o) d x h = at_path_agrees d x h
  operand_agrees (operator.Numeric o) d x h = refl
  operand_agrees (operator.NumericPath o) d x h = at_path_agrees d x h
  operand_agrees (operator.Timestamp o) d x h = refl
  operand_agrees (operator.TimestampPath o) d x h = at_path_agrees d x h
  operand_agrees operator.Boolean d x h = refl
  operand_agrees operator.BooleanPath d x h = at_path_agrees d x h
  operand_agrees operator.Matches d x h = refl
  operand_agrees (operator.Is p) d x h = refl

  looked_agrees : (o : Operator) (p : List ℕ) (d x : Data) → Agrees a b p → AllAgree a b d → looked_up o p d x a ≡ looked_up o p d x b
  looked_agrees o p d x g h = λ i. ((present p (g.names x i)) >>= (λ v. ((operand_agrees o d x h i) >>= (λ w. judged o v w))))

  test_agrees : (o : Operator) (p : List ℕ) (d x : Data) → Agrees a b p → AllAgree a b d → test o p d x a ≡ test o p d x b
  test_agrees (operator.Is property.Present) p d x g h = λ i. Ok (truths (boolean (is_some (g.names x i))) d)
  test_agrees o p d x g h = looked_agrees o p d x g h

  -- ---- a rule

  -- no text at all
  none_agrees : Agrees a b []
  none_agrees = record { names = λ x. refl; gives = λ x. refl }

  variable_agrees : (ms : Pairs) → MembersAgree a b ms → Agrees a b (variable (value_at (codes "Variable") ms))
  variable_agrees no_members h = none_agrees
  variable_agrees (member k d ms) h = by (bytes_eq (codes "Variable") k) d (value_at (codes "Variable") ms) h.0 (variable_agrees ms h.1)
    where
      by : (c : Bool) (d : Data) (o : Option Data) → AllAgree a b d → Agrees a b (variable o) → Agrees a b (variable (cond c (Some d) o))
      by true null o g f = none_agrees
      by true (boolean c) o g f = none_agrees
      by true (number n) o g f = none_agrees
      by true (text t) o g f = g
      by true (list ds) o g f = none_agrees
      by true (dict ns) o g f = none_agrees
      by false d o g f = f

  mutual
    pub holds_agrees : (d x : Data) → AllAgree a b d → holds d x a ≡ holds d x b
    holds_agrees null x h = refl
    holds_agrees (boolean c) x h = refl
    holds_agrees (number n) x h = refl
    holds_agrees (text t) x h = refl
    holds_agrees (list ds) x h = refl
    holds_agrees (dict ms) x h = decided_agrees (variable (value_at (codes "Variable") ms)) ms x (variable_agrees ms h) h

    decided_agrees : (p : List ℕ) (ms : Pairs) (x : Data) → Agrees a b p → MembersAgree a b ms → decided p ms x a ≡ decided p ms x b
    decided_agrees p no_members x g h = refl
    decided_agrees p (member k d ms) x g h =
        let every = each_agrees d x h.0 in
        let some = any_agrees d x h.0 in
        let opposite = holds_agrees d x h.0 in
        let others = decided_agrees p ms x g h.1 in
        λ i. chosen (kind_of k) (every i) (some i) (negated (opposite i)) (λ o. test_agrees o p d x g h.0 i) (others i)

    each_agrees : (d x : Data) → AllAgree a b d → each d x a ≡ each d x b
    each_agrees null x h = refl
    each_agrees (boolean c) x h = refl
    each_agrees (number n) x h = refl
    each_agrees (text t) x h = refl
    each_agrees (list rs) x h = each_holds_agree rs x h
    each_agrees (dict ms) x h = refl

    each_holds_agree : (rs : Chain) (x : Data) → ItemsAgree a b rs → each_holds rs x a ≡ each_holds rs x b
    each_holds_agree no_items x h = refl
    each_holds_agree (item r rs) x h =
        let first = holds_agrees r x h.0 in
        let rest = each_holds_agree rs x h.1 in
        λ i. and_also (first i) (rest i)

    any_agrees : (d x : Data) → AllAgree a b d → any d x a ≡ any d x b
    any_agrees null x h = refl
    any_agrees (boolean c) x h = refl
    any_agrees (number n) x h = refl
    any_agrees (text t) x h = refl
    any_agrees (list rs) x h = any_holds_agree rs x h
    any_agrees (dict ms) x h = refl

    any_holds_agree : (rs : Chain) (x : Data) → ItemsAgree a b rs → any_holds rs x a ≡ any_holds rs x b
    any_holds_agree no_items x h = refl
    any_holds_agree (item r rs) x h =
        let first = holds_agrees r x h.0 in
        let rest = any_holds_agree rs x h.1 in
        λ i. or_else (first i) (rest i)

  -- ---- the rules of a state

  abbrev pub EachAgrees : List Data → Type 0
  EachAgrees [] = Unit {0}
  EachAgrees (d ∷ ds) = AllAgree a b d × EachAgrees ds

  pub next_agrees : (rs : List Data) (x : Data) → EachAgrees rs → chosen_next rs x a ≡ chosen_next rs x b
  next_agrees [] x h = refl
  next_agrees (r ∷ rs) x h =
      let first = holds_agrees r x h.0 in
      let rest = next_agrees rs x h.1 in
      λ i. ((first i) >>= (λ c. cond c (Ok (value_in (codes "Next") r)) (rest i)))
