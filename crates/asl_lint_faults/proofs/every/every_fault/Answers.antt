use Rattle.std.proofs.Common.{◌≡◌, subst, sym, [], List, ℕ, Bool, false, true}
use Rattle.std.specs.HashSet.{contains_text}
use Rattle.asl_json.specs.View.{data_of}
use Rattle.asl_def_schema.specs.declared.sort.Sort.TheVariants.{Definition}
use Rattle.asl_def_schema.specs.Claims.{claims, outside}
use Rattle.asl_def_schema.specs.Faults.{claims_of}
use Rattle.asl_def_schema.specs.States.{Named, states_in, unique_claims}
use Rattle.asl_lint_faults.specs.Told.{AreTold}
use Rattle.asl_lint_faults.proofs.Telling.{told_append}
use Rattle.asl_lint_faults.proofs.every.every_fault.Goals as goal

pub returns : goal.returns
returns c =
    let d = data_of c.args.definition.now in
    let none : contains_text c.no_names-names.result ≡ (λ (k : List ℕ). false) = λ i k. c.no_names-names.ensures k i in
    let walked : AreTold (claims outside Definition d) c.in_ok-walked.walked.items = subst (λ (f : List ℕ → Bool). AreTold (claims (record { names = f; level = 0; ends = true; key = []; doubled = false }) Definition d) c.in_ok-walked.walked.items) none c.in_ok-walked.ensures in
    let again : AreTold (unique_claims [] (states_in Definition d)) c.in_ok-again.again.items = subst (λ (ns : List Named). AreTold (unique_claims [] ns) c.in_ok-again.again.items) c.in_ok-states.ensures c.in_ok-again.ensures in
    subst (AreTold (claims_of d)) (sym c.in_ok-told.ensures) (told_append (claims outside Definition d) (unique_claims [] (states_in Definition d)) c.in_ok-walked.walked.items c.in_ok-again.again.items walked again)
