-- The members of a Context Object.
use Rattle.std.proofs.Common.{ℕ, ◌≡◌, List, [], ◌∷◌, ◌++◌, codes, refl, sym, ap, ◌∙◌}
use Rattle.std.specs.Prelude.{Some, option_map, slice_get}
use Rattle.asl_json_data.specs.Data.{Data, null}
use Rattle.asl_json.specs.Access.{with_value}
use Rattle.asl_json.specs.declared.value.Json.TheVariants.{Dict}
use Rattle.asl_step.specs.declared.facts.Facts.{Facts}
use Rattle.asl_step.specs.Context.{execution_of, state_machine_of, members_with}

-- the fixed ones, put behind one another
pub two_behind : (f : Facts) {n a b : List (List ℕ × Data)} {d e : Data} → n ≡ [] → a ≡ n ++ (codes "Execution", d) ∷ [] → b ≡ a ++ (codes "StateMachine", e) ∷ [] → d ≡ execution_of f → e ≡ state_machine_of f → b ≡ members_with f []
two_behind f hn ha hb hd he = rw (hb, ha, hn, hd, he) refl

-- what a step changes, behind the fixed ones of the object before
pub with_fixed : (f : Facts) (rest tail before u m n b o p : List (List ℕ × Data)) (s d e : Data)
    → Dict before ≡ Dict (members_with f rest)
    → u ≡ (codes "Execution", null) ∷ (codes "StateMachine", null) ∷ []
    → m ≡ u ++ (codes "State", s) ∷ []
    → n ≡ m ++ tail
    → option_map (λ (x : List ℕ × Data). x.1) (slice_get before 0) ≡ Some d
    → b ≡ with_value before 0 null
    → option_map (λ (x : List ℕ × Data). x.1) (slice_get b 1) ≡ Some e
    → o ≡ with_value n 0 d
    → p ≡ with_value o 1 e
    → p ≡ members_with f ((codes "State", s) ∷ tail)
with_fixed f rest tail before u m n b o p s d e hb hu hm hn hd h he ho hp =
    let same : before ≡ members_with f rest = cc in
    let first : Some d ≡ Some (execution_of f) = sym hd ∙ ap (λ (ms : List (List ℕ × Data)). option_map (λ (x : List ℕ × Data). x.1) (slice_get ms 0)) same in
    let second : Some e ≡ Some (state_machine_of f) = sym he ∙ ap (λ (ms : List (List ℕ × Data)). option_map (λ (x : List ℕ × Data). x.1) (slice_get ms 1)) (h ∙ ap (λ (ms : List (List ℕ × Data)). with_value ms 0 null) same) in
    let d_is : d ≡ execution_of f = cc in
    let e_is : e ≡ state_machine_of f = cc in
    rw (hp, ho, hn, hm, hu, d_is, e_is) refl
