use Rattle.std.proofs.Common.{◌≡◌, ℕ, List, [], true, ◌∙◌, ap, sym, refl, ◌⊎◌, inl, inr}
use Rattle.std.specs.Prelude.{Option, None}
use Rattle.asl_json_data.specs.Data.{Data}
use Rattle.asl_def_schema.specs.Canon.{Named}
use Rattle.asl_def_states.specs.declared.choice.Choice.{Choice as ChoiceState}
use Rattle.asl_def_states.specs.declared.wait.Wait.{Wait as WaitState}
use Rattle.asl_def_states.specs.declared.succeed.Succeed.{Succeed as SucceedState}
use Rattle.asl_def_states.specs.declared.fail.Fail.{Fail as FailState}
use Rattle.asl_def_states.specs.declared.state.State.{State}
use Rattle.asl_def_states.specs.declared.state.State.TheVariants.{Choice, Wait, Succeed, Fail}
use Rattle.asl_def_states.specs.Show.{state_members, state_of}
use Rattle.asl_def_shared.specs.Member.{template_names, template_member}
use Rattle.asl_def_shared.proofs.Owning.{lacks, not_own}
use Rattle.asl_def_states.proofs.state.State.template.Goals as goal

pub returns-in-Map : goal.returns-in-Map
returns-in-Map c t = c.template-in-Map.ensures t ∙ ap (λ (s : State). template_member c.args.member.now (state_of t s)) (sym c.in-Map.is)

-- a state of a type without templates
none : (k : List ℕ) (t : List Named) (s u : State) → s ≡ u → lacks template_names [] (state_members t u) ≡ true → None ≡ template_member k (state_of t s)
none k t s u is lacking = not_own template_names (λ (o : Option Data). o) [] k (state_members t u) refl lacking tt ∙ ap (λ (x : State). template_member k (state_of t x)) (sym is)

-- one of the four types without templates
abbrev IsPlain : State → Type 0
IsPlain s = ((x : ChoiceState) × (s ≡ Choice x)) ⊎ (((x : WaitState) × (s ≡ Wait x)) ⊎ (((x : SucceedState) × (s ≡ Succeed x)) ⊎ ((x : FailState) × (s ≡ Fail x))))

of_plain : (k : List ℕ) (t : List Named) (s : State) → IsPlain s → None ≡ template_member k (state_of t s)
of_plain k t s (inl x) = none k t s (Choice x.0) x.1 refl
of_plain k t s (inr (inl x)) = none k t s (Wait x.0) x.1 refl
of_plain k t s (inr (inr (inl x))) = none k t s (Succeed x.0) x.1 refl
of_plain k t s (inr (inr (inr x))) = none k t s (Fail x.0) x.1 refl

pub returns-in-Choice : goal.returns-in-Choice
returns-in-Choice c t = of_plain c.args.member.now t c.args.self.now c.in-Choice.is
