-- Names of responses that aren't there, where all values fit.
use Rattle.std.proofs.Common.{◌≡◌, ℕ, Bool, true, false, List, [], ◌∷◌, ◌++◌, refl, sym, ap, subst, ◌∙◌}
use Rattle.std.specs.Prelude.{Option, Some, None, if◌then◌else◌, codes}
use Rattle.std.specs.Cmp.Lexicographic.{bytes_decides}
use Rattle.asl_json_data.specs.Data.{Data, null, boolean, number, text, list, dict, Pairs, no_members, member}
use Rattle.asl_json.specs.Same.{bytes_eq}
use Rattle.asl_json.specs.Meaning.{value_at}
use Rattle.asl_json.specs.View.{unpaired}
use Rattle.asl_mock.specs.Answers.{Response, responses_of}
use Rattle.asl_mock.specs.Faults.{is_response, lost_name, lost_in_case, lost_in_machine, lost_names as all_lost}
use Rattle.asl_mock.specs.Form.{part_shape, fits, has, unless, misfits, misfits_below}
use Rattle.asl_mock.specs.Places.{Place, under, in_each}
use Rattle.asl_json.specs.Access.{member_list, member_list_at}
use Rattle.asl_lint_mocks.proofs.Each.{list_of_any}
use Rattle.asl_mock.specs.Tables.{Named}
use Rattle.asl_mock.specs.declared.shape.Shape.{Shape}
use Rattle.asl_mock.specs.declared.shape.Shape.TheVariants.{Text, Top, Machines, Machine, Cases, Case}
use Rattle.asl_lint_mocks.specs.Lost.{is_known, lost_names}

front_none : (xs ys : List Place) → xs ++ ys ≡ [] → xs ≡ []
front_none [] ys e = refl
front_none (x ∷ xs) ys e = absurd (cc e)

back_none : (xs ys : List Place) → xs ++ ys ≡ [] → ys ≡ []
back_none [] ys e = e
back_none (x ∷ xs) ys e = absurd (cc e)

under_none : (k : List ℕ) (ps : List Place) → under k ps ≡ [] → ps ≡ []
under_none k [] e = refl
under_none k (p ∷ ps) e = absurd (cc e)

-- parts that are told alike where they fit are told alike in an object whose parts fit
alike : (f g : List ℕ × Data → List Place) (s : Shape) (ms : Pairs) → misfits_below s ms ≡ [] → ((k : List ℕ) (d : Data) → misfits (part_shape s k) d ≡ [] → f (k, d) ≡ g (k, d)) → in_each f (unpaired ms) ≡ in_each g (unpaired ms)
alike f g s no_members fit same = refl
alike f g s (member k d ms) fit same =
    let own = under_none k (misfits (part_shape s k) d) (front_none (under k (misfits (part_shape s k) d)) (misfits_below s ms) fit) in
    let rest = back_none (under k (misfits (part_shape s k) d)) (misfits_below s ms) fit in
    ap (λ (ps : List Place). under k ps ++ in_each f (unpaired ms)) (same k d own)
    ∙ ap (λ (ps : List Place). under k (g (k, d)) ++ ps) (alike f g s ms rest same)

-- what an object has under a key fits
at_key : (s : Shape) (k : List ℕ) (ms : Pairs) (v : Data) → misfits_below s ms ≡ [] → value_at k ms ≡ Some v → misfits (part_shape s k) v ≡ []
at_key s k no_members v fit at = absurd (cc at)
at_key s k (member l d ms) v fit at =
    let own = under_none l (misfits (part_shape s l) d) (front_none (under l (misfits (part_shape s l) d)) (misfits_below s ms) fit) in
    let rest = back_none (under l (misfits (part_shape s l) d)) (misfits_below s ms) fit in
    which (bytes_eq k l) refl at own (at_key s k ms v rest)
  where
    some_data : (a b : Data) → Some a ≡ Some b → a ≡ b
    some_data a b e = ap (λ (o : Option Data). or_else a o) e
      where
        or_else : Data → Option Data → Data
        or_else x None = x
        or_else x (Some y) = y

    which : (b : Bool) → bytes_eq k l ≡ b → (if b then Some d else value_at k ms) ≡ Some v → misfits (part_shape s l) d ≡ [] → (value_at k ms ≡ Some v → misfits (part_shape s k) v ≡ []) → misfits (part_shape s k) v ≡ []
    which true is there own next = subst (λ (x : Data). misfits (part_shape s k) x ≡ []) (some_data d v there) (subst (λ (x : List ℕ). misfits (part_shape s x) d ≡ []) (sym ((bytes_decides k l).0 is)) own)
    which false is there own next = next there

-- ---- from the inside out

in_name : (rs : List (Named Response)) (k : List ℕ) (d : Data) → misfits Text d ≡ [] → lost_name (is_known rs) (k, d) ≡ lost_name (is_response rs) (k, d)
in_name rs k (text t) fit = refl
in_name rs k null fit = absurd (cc fit)
in_name rs k (boolean b) fit = absurd (cc fit)
in_name rs k (number b) fit = absurd (cc fit)
in_name rs k (list b) fit = absurd (cc fit)
in_name rs k (dict ms) fit = absurd (cc fit)

in_a_case : (rs : List (Named Response)) (k : List ℕ) (d : Data) → misfits Case d ≡ [] → lost_in_case (is_known rs) (k, d) ≡ lost_in_case (is_response rs) (k, d)
in_a_case rs k null fit = refl
in_a_case rs k (boolean b) fit = refl
in_a_case rs k (number b) fit = refl
in_a_case rs k (text b) fit = refl
in_a_case rs k (list b) fit = refl
in_a_case rs k (dict ms) fit = alike (lost_name (is_known rs)) (lost_name (is_response rs)) Case ms fit (in_name rs)

in_cases : (rs : List (Named Response)) (d : Data) → misfits Cases d ≡ [] → in_each (lost_in_case (is_known rs)) (member_list d) ≡ in_each (lost_in_case (is_response rs)) (member_list d)
in_cases rs null fit = refl
in_cases rs (boolean b) fit = refl
in_cases rs (number b) fit = refl
in_cases rs (text b) fit = refl
in_cases rs (list b) fit = refl
in_cases rs (dict ms) fit = alike (lost_in_case (is_known rs)) (lost_in_case (is_response rs)) Cases ms fit (in_a_case rs)

-- under a key, where the value there fits
in_value : (f g : List ℕ × Data → List Place) (o : Option Data) → ((v : Data) → o ≡ Some v → in_each f (member_list v) ≡ in_each g (member_list v)) → in_each f (list_of_any o) ≡ in_each g (list_of_any o)
in_value f g None same = refl
in_value f g (Some v) same = same v refl

in_a_machine : (rs : List (Named Response)) (k : List ℕ) (d : Data) → misfits Machine d ≡ [] → lost_in_machine (is_known rs) (k, d) ≡ lost_in_machine (is_response rs) (k, d)
in_a_machine rs k null fit = refl
in_a_machine rs k (boolean b) fit = refl
in_a_machine rs k (number b) fit = refl
in_a_machine rs k (text b) fit = refl
in_a_machine rs k (list b) fit = refl
in_a_machine rs k (dict ms) fit =
    let rest = back_none (unless (fits Machine (dict ms))) (misfits_below Machine ms) fit in
    ap (under (codes "TestCases")) (in_value (lost_in_case (is_known rs)) (lost_in_case (is_response rs)) (value_at (codes "TestCases") ms) (λ v at. in_cases rs v (at_key Machine (codes "TestCases") ms v rest at)))

in_machines : (rs : List (Named Response)) (d : Data) → misfits Machines d ≡ [] → in_each (lost_in_machine (is_known rs)) (member_list d) ≡ in_each (lost_in_machine (is_response rs)) (member_list d)
in_machines rs null fit = refl
in_machines rs (boolean b) fit = refl
in_machines rs (number b) fit = refl
in_machines rs (text b) fit = refl
in_machines rs (list b) fit = refl
in_machines rs (dict ms) fit = alike (lost_in_machine (is_known rs)) (lost_in_machine (is_response rs)) Machines ms fit (in_a_machine rs)

pub same_lost : (d : Data) → misfits Top d ≡ [] → lost_names d ≡ all_lost d
same_lost null fit = refl
same_lost (boolean b) fit = refl
same_lost (number b) fit = refl
same_lost (text b) fit = refl
same_lost (list b) fit = refl
same_lost (dict ms) fit =
    let rs = responses_of (member_list_at (codes "MockedResponses") (dict ms)) in
    ap (under (codes "StateMachines")) (in_value (lost_in_machine (is_known rs)) (lost_in_machine (is_response rs)) (value_at (codes "StateMachines") ms) (λ v at. in_machines rs v (at_key Top (codes "StateMachines") ms v fit at)))
