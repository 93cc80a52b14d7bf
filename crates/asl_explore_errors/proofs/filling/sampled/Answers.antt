use Rattle.std.proofs.Common.{◌∙◌, List, ℕ, ap, subst, inl, inr}
use Rattle.std.specs.Prelude.{is_none}
use Rattle.std.proofs.lemmas.Result.{IfOk-weaker}
use Rattle.asl_json.specs.View.{data_of}
use Rattle.asl_mock.specs.Answers.{Case}
use Rattle.asl_mock_sample.specs.Files.{sample_text}
use Rattle.asl_explore_errors.specs.Filling.{IsNoMockFile}
use Rattle.asl_explore_errors.proofs.filling.sampled.Goals as goal

pub returns-in-None : goal.returns-in-None
returns-in-None c =
    let s = c.args.setup.now in
    let same = c.as_bytes.ensures.value ∙ c.in_ok-text.ensures ∙ ap (λ (n : List ℕ). sample_text n (data_of c.in_ok-definition.definition)) c.as_str-machine.ensures ∙ ap (sample_text s.name_of_machine) c.in_ok-definition.ensures in
    let none = c.in_ok-read.ensures.none (ap is_none c.in-None.is) in
    IfOk-weaker c.try_clone.result _ _ (λ (x : Case) e. inr (inl (subst IsNoMockFile same none), e)) c.try_clone.ensures
