-- Machines are judged alike, whatever they are called.
use Rattle.std.proofs.Common.{◌≡◌, ℕ, List, [], ◌∷◌, Bool, ◌⊎◌, inl, inr, refl, sym, ap, ◌∙◌, subst}
use Rattle.std.specs.Prelude.{Option, Result, IfOk, nat_lt}
use Rattle.asl_json_data.specs.Data.{Pairs}
use Rattle.asl_def_schema.specs.declared.sort.Sort.{Sort}
use Rattle.asl_def_schema.specs.declared.sort.Sort.TheVariants as sort
use Rattle.asl_def_schema.specs.Members.{Shape}
use Rattle.asl_def_schema.specs.Demands.{Demand, within}
use Rattle.asl_def_schema.specs.Claims.{Spot, spot_demands, max_machines, inside, one_deeper, names_in, member_claims}
use Rattle.asl_def_schema.specs.First.{Found, Answers}

-- of how many machines one stands in
pub machine_spot : (p : Spot) (s : Sort) → (s ≡ sort.Machine) ⊎ (s ≡ sort.ItemProcessor) → spot_demands p s ≡ within (nat_lt p.level max_machines) ∷ []
machine_spot p s (inl e) = ap (spot_demands p) e
machine_spot p s (inr e) = ap (spot_demands p) e

abbrev inner : Spot → (List ℕ → Bool) → ℕ → Spot
inner p names level = record { names = names; level = level; ends = p.ends; key = p.key; doubled = p.doubled }

-- of what targets may name in it
inside_machine : (p : Spot) (s : Sort) (ms : Pairs) → (s ≡ sort.Definition) ⊎ ((s ≡ sort.Machine) ⊎ (s ≡ sort.ItemProcessor)) → inside p s ms ≡ inner p (names_in ms) (one_deeper p.level)
inside_machine p s ms (inl e) = ap (λ (x : Sort). inside p x ms) e
inside_machine p s ms (inr (inl e)) = ap (λ (x : Sort). inside p x ms) e
inside_machine p s ms (inr (inr e)) = ap (λ (x : Sort). inside p x ms) e

pub machine_inside : {E : Type 0} (r : Result (Option Found) E) (p : Spot) (names : List ℕ → Bool) (level : ℕ) (s : Sort) (sh : Shape) (ms ns : Pairs) → (s ≡ sort.Definition) ⊎ ((s ≡ sort.Machine) ⊎ (s ≡ sort.ItemProcessor)) → ns ≡ ms → ((k : List ℕ) → names k ≡ names_in ns k) → level ≡ one_deeper p.level → IfOk r (Answers (member_claims (inner p names level) sh [] 0 ms)) → IfOk r (Answers (member_claims (inside p s ms) sh [] 0 ms))
machine_inside r p names level s sh ms ns at is named deeper h =
    let same : inner p names level ≡ inner p (names_in ms) (one_deeper p.level) = λ i. inner p (λ k. (named k ∙ ap (λ (x : Pairs). names_in x k) is) i) (deeper i) in
    subst (λ (q : Spot). IfOk r (Answers (member_claims q sh [] 0 ms))) (same ∙ sym (inside_machine p s ms at)) h
