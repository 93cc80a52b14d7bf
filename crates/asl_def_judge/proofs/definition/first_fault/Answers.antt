use Rattle.std.proofs.Common.{◌≡◌, subst, sym, [], List, ℕ, Bool, false, true}
use Rattle.std.specs.HashSet.{contains_text}
use Rattle.asl_json.specs.View.{data_of}
use Rattle.asl_def_schema.specs.declared.sort.Sort.TheVariants.{Definition}
use Rattle.asl_def_schema.specs.Claims.{claims, outside}
use Rattle.asl_def_schema.specs.First.{Answers}
use Rattle.asl_def_schema.specs.Faults.{claims_of}
use Rattle.asl_def_schema.specs.States.{states_in, unique_claims}
use Rattle.asl_def_judge.proofs.Answering.{answers-append}
use Rattle.asl_def_judge.proofs.definition.first_fault.Goals as goal

pub returns : goal.returns
returns c =
    let d = data_of c.args.definition.now in
    let none : contains_text c.no_names-names.result ≡ (λ (k : List ℕ). false) = λ i k. c.no_names-names.ensures k i in
    let walked : Answers (claims outside Definition d) c.in_ok-walked.walked = subst (λ (f : List ℕ → Bool). Answers (claims (record { names = f; level = 0; ends = true; key = []; doubled = false }) Definition d) c.in_ok-walked.walked) none c.in_ok-walked.ensures in
    subst (Answers (claims_of d)) (sym c.better.ensures) (answers-append (claims outside Definition d) (unique_claims [] (states_in Definition d)) c.in_ok-walked.walked c.in_ok-again.again walked c.in_ok-again.ensures)
