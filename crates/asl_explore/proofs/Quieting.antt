-- What is known of a quiet step.
use Rattle.std.proofs.Common.{ℕ, ◌≡◌, ◌<◌, ◌∙◌, ap, sym, subst, List, length, get_or}
use Rattle.asl_run_state.specs.World.{World}
use Rattle.asl_run_state.specs.Bare.{bare}
use Rattle.asl_run_state.specs.declared.outcome.Outcome.{Outcome}
use Rattle.asl_run_input.specs.declared.setup.Setup.{Setup}
use Rattle.asl_exec.specs.Steps.{step}
use Rattle.asl_explore.specs.Searches.{IsQuietAt, IsReduced, IsLater, StandsAt}
use Rattle.asl_explore.proofs.Growing.{later-at}

pub reduced-is : (s z : Setup) (ws vs : List World) (os : List Outcome) (number index : ℕ) (w v u next : World) (p : List ℕ) → z ≡ s → v ≡ bare w → IsLater ws os vs os → number < length ws → ((d : World) → get_or ws number d ≡ bare w)
    → IsQuietAt z v p → u ≡ step z v p v.last → next ≡ bare u → StandsAt vs index (bare next) → number < index → (d : World) → IsReduced s vs number (get_or vs number d)
reduced-is s z ws vs os number index w v u next p ez ev l lt at quiet eu en stands later d =
    let same : get_or vs number d ≡ bare w = later-at ws vs os os number d l lt ∙ at d in
    let leads : bare next ≡ bare (step s (bare w) p w.last) = ap bare en ∙ ap bare eu ∙ (λ i. bare (step (ez i) (ev i) p (ev i).last)) in
    subst (IsReduced s vs number) (sym same) (record {
      place = p;
      quiet = subst (λ (x : Setup). IsQuietAt x (bare w) p) ez (subst (λ (x : World). IsQuietAt z x p) ev quiet);
      next = index;
      later = later;
      leads = (stands.0, λ e. stands.1 e ∙ leads);
    })
