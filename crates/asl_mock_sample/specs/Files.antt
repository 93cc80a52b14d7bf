-- A mock file to begin with (Step Functions Developer Guide, "Mocked service integrations").
use Rattle.std.specs.Prelude.{ℕ, suc, List, [], ◌∷◌, ◌++◌, codes}
use Rattle.asl_json_data.specs.Data.{Data}
use Rattle.asl_json_data.specs.Compact.{compact, quoted, separator}
use Rattle.asl_json_data.specs.Distinct.{Members}
use Rattle.asl_mock_sample.specs.declared.call.Call.{Call}
use Rattle.asl_mock_sample.specs.Answers.{answer_of}
use Rattle.asl_mock_sample.specs.Calls.{calls_in}
use Rattle.asl_mock_sample.specs.Merging.{both}
use Rattle.asl_mock_sample.specs.Wants.{last_of, wanted_results}

-- each Task has the response of its own name
abbrev pub state_entry : Call → List ℕ
state_entry c = quoted c.name ++ (codes ":" ++ quoted c.name)

abbrev pub state_entries : ℕ → List Call → List ℕ
state_entries i [] = []
state_entries i (c ∷ cs) = separator i ++ (state_entry c ++ state_entries (suc i) cs)

-- which answers each invocation alike: their numbers go as far as they may
unfoldable pub return_open : List ℕ
return_open = codes ":{\"0-999999999\":{\"Return\":"

-- what the service answers, with what the definition reads of it
abbrev pub answer_to : Members → Call → Data
answer_to wanted c = both (answer_of c.resource) (last_of wanted c.name)

abbrev pub answer_entry : Members → Call → List ℕ
answer_entry wanted c =
    quoted c.name ++ (return_open ++ (compact (answer_to wanted c) ++ codes "}}"))

abbrev pub answer_entries : Members → ℕ → List Call → List ℕ
answer_entries wanted i [] = []
answer_entries wanted i (c ∷ cs) =
    separator i ++ (answer_entry wanted c ++ answer_entries wanted (suc i) cs)

unfoldable pub machines_open : List ℕ
machines_open = codes "{\"StateMachines\":{"

unfoldable pub case_open : List ℕ
case_open = codes ":{\"TestCases\":{\"good\":{"

-- the cases of the machine of this name: one, in which all goes well
abbrev pub machines_part : List ℕ → List Call → List ℕ
machines_part machine cs =
    machines_open
    ++ (quoted machine ++ (case_open ++ (state_entries 0 cs ++ codes "}}}},")))

unfoldable pub responses_open : List ℕ
responses_open = codes "\"MockedResponses\":{"

abbrev pub responses_part : Members → List Call → List ℕ
responses_part wanted cs =
    responses_open ++ (answer_entries wanted 0 cs ++ (codes "}}" ++ 10 ∷ []))

abbrev pub sample_of : List ℕ → Members → List Call → List ℕ
sample_of machine wanted cs = machines_part machine cs ++ responses_part wanted cs

abbrev pub sample_text : List ℕ → Data → List ℕ
sample_text machine d = sample_of machine (wanted_results d) (calls_in d)
