-- Machines are judged alike, whatever they are called.
use Rattle.std.proofs.Common.{◌≡◌, ℕ, List, [], Bool, ◌⊎◌, inl, inr, sym, ap, ◌∙◌, subst}
use Rattle.std.specs.Prelude.{Result, IfOk}
use Rattle.asl_json_data.specs.Data.{Pairs}
use Rattle.asl_def_schema.specs.declared.sort.Sort.{Sort}
use Rattle.asl_def_schema.specs.declared.sort.Sort.TheVariants as sort
use Rattle.asl_def_schema.specs.Members.{Shape}
use Rattle.asl_def_schema.specs.Claims.{Spot, inside, one_deeper, names_in, member_claims}
use Rattle.asl_def_schema.specs.First.{Found}
use Rattle.asl_lint_faults.specs.Told.{AreTold}

abbrev inner : Spot → (List ℕ → Bool) → ℕ → Spot
inner p names level = record { names = names; level = level; ends = p.ends; key = p.key; doubled = p.doubled }

-- what targets may name in it
inside_machine : (p : Spot) (s : Sort) (ms : Pairs) → (s ≡ sort.Definition) ⊎ ((s ≡ sort.Machine) ⊎ (s ≡ sort.ItemProcessor)) → inside p s ms ≡ inner p (names_in ms) (one_deeper p.level)
inside_machine p s ms (inl e) = ap (λ (x : Sort). inside p x ms) e
inside_machine p s ms (inr (inl e)) = ap (λ (x : Sort). inside p x ms) e
inside_machine p s ms (inr (inr e)) = ap (λ (x : Sort). inside p x ms) e

pub machine_inside : {X E : Type 0} (listed : X → List Found) (r : Result X E) (p : Spot) (names : List ℕ → Bool) (level : ℕ) (s : Sort) (sh : Shape) (ms ns : Pairs) → (s ≡ sort.Definition) ⊎ ((s ≡ sort.Machine) ⊎ (s ≡ sort.ItemProcessor)) → ns ≡ ms → ((k : List ℕ) → names k ≡ names_in ns k) → level ≡ one_deeper p.level → IfOk r (λ x. AreTold (member_claims (inner p names level) sh [] 0 ms) (listed x)) → IfOk r (λ x. AreTold (member_claims (inside p s ms) sh [] 0 ms) (listed x))
machine_inside listed r p names level s sh ms ns at is named deeper h =
    let same : inner p names level ≡ inner p (names_in ms) (one_deeper p.level) = λ i. inner p (λ k. (named k ∙ ap (λ (x : Pairs). names_in x k) is) i) (deeper i) in
    subst (λ (q : Spot). IfOk r (λ x. AreTold (member_claims q sh [] 0 ms) (listed x))) (same ∙ sym (inside_machine p s ms at)) h
