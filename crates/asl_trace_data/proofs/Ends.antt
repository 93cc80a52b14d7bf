-- Stages end with what the state gives.
use Rattle.std.proofs.Common.{◌≡◌, refl, List, codes}
use Rattle.std.specs.Prelude.{Option, Some, None, Ok, Err, ◌++◌}
use Rattle.std.specs.Result.{result_ok}
use Rattle.asl_json_data.specs.Results.{◌>>=◌}
use Rattle.asl_json_data.specs.Data.{Data}
use Rattle.asl_json.specs.declared.value.Json.{Json}
use Rattle.asl_json.specs.Meaning.{value_in}
use Rattle.asl_step_io.specs.Paths.{Given, taken, put_into}
use Rattle.asl_step_io.specs.Payload.{filled}
use Rattle.asl_kinds.specs.Members.{effective, effective_by, result_or, placed, placed_by, selected_by, selected}
use Rattle.asl_trace_data.specs.declared.part.Part.{Part}
use Rattle.asl_trace_data.specs.declared.part.Part.TheVariants.{InputPath, Parameters, ResultSelector, ResultPath, Result as Answered}
use Rattle.asl_trace_data.specs.declared.stage.Stage.{Stage}
use Rattle.asl_trace_data.specs.Stages.{one, onward, stage, effective_stages, output_stages, placed_stages, selected_stages}
use Rattle.asl_trace_data.specs.Kinds.{effective_of, selected_of, answer_stages}
use Rattle.asl_trace_data.specs.Laws.{last_of, StagesEnd}

-- the last of a stage and those behind it is what the first gives, and then what these give
ends : (b : Option Given) (p : Part) (g : Given) (rest : Json → List Stage) (f : Json → Given) → ((v : Json) → last_of (Some (Ok v)) (rest v) ≡ Some (f v)) → last_of b (stage p g rest) ≡ Some (g >>= f)
ends b p (Ok v) rest f h = h v
ends b p (Err e) rest f h = refl

effective_ends : (b : Option Given) (p t : Option Data) (x : Json) (c : Data) → last_of b (effective_stages p t x c) ≡ Some (effective_by p t x c)
effective_ends b p t x c = ends b InputPath (taken (codes "InputPath") p x c) (λ y. one Parameters (filled t y c)) (λ y. filled t y c) (λ v. refl)

placed_ends : (b : Option Given) (p o : Option Data) (x : Json) (c : Data) (r : Json) → last_of b (placed_stages p o x c r) ≡ Some (placed_by p o x c r)
placed_ends b p o x c r = ends b ResultPath (put_into p x r) (λ z. output_stages o z c) (λ z. taken (codes "OutputPath") o z c) (λ v. refl)

selected_ends : (b : Option Given) (s p o : Option Data) (x : Json) (c : Data) (r : Json) → last_of b (selected_stages s p o x c r) ≡ Some (selected_by s p o x c r)
selected_ends b s p o x c r = ends b ResultSelector (filled s r c) (λ z. placed_stages p o x c z) (λ z. placed_by p o x c z) (λ v. placed_ends (Some (Ok v)) p o x c v)

-- the last of what is behind a stage that gives this
after : (g : Given) (rest : Json → List Stage) (f : Json → Given) → ((v : Json) (b : Option Given) → last_of b (rest v) ≡ Some (f v)) → last_of (Some g) (onward rest (result_ok g)) ≡ Some (g >>= f)
after (Ok v) rest f h = h v (Some (Ok v))
after (Err e) rest f h = refl

-- the same behind two stages
two : (b : Option Given) (p q : Part) (g : Given) (then : Json → Given) (rest : Json → List Stage) (f : Json → Given) → ((v : Json) (b : Option Given) → last_of b (rest v) ≡ Some (f v)) → last_of b ((one p g ++ onward (λ y. one q (then y)) (result_ok g)) ++ onward rest (result_ok (g >>= then))) ≡ Some ((g >>= then) >>= f)
two b p q (Ok y) then rest f h = after (then y) rest f h
two b p q (Err e) then rest f h = refl

-- the same behind the effective input of a state
behind : (b : Option Given) (d : Data) (x : Json) (c : Data) (rest : Json → List Stage) (f : Json → Given) → ((v : Json) (b : Option Given) → last_of b (rest v) ≡ Some (f v)) → last_of b (effective_of d x c ++ onward rest (result_ok (effective d x c))) ≡ Some ((effective d x c) >>= f)
behind b d x c rest f h = two b InputPath Parameters (taken (codes "InputPath") (value_in (codes "InputPath") d) x c) (λ y. filled (value_in (codes "Parameters") d) y c) rest f h

pub ends_there : StagesEnd
ends_there = record {
  effective = λ d x c. effective_ends None (value_in (codes "InputPath") d) (value_in (codes "Parameters") d) x c;
  pass = λ d x c. behind (Some (Ok x)) d x c (λ y. one Answered (Ok (result_or (value_in (codes "Result") d) y)) ++ placed_stages (value_in (codes "ResultPath") d) (value_in (codes "OutputPath") d) x c (result_or (value_in (codes "Result") d) y)) (λ y. placed d x c (result_or (value_in (codes "Result") d) y)) (λ v b. placed_ends (Some (Ok (result_or (value_in (codes "Result") d) v))) (value_in (codes "ResultPath") d) (value_in (codes "OutputPath") d) x c (result_or (value_in (codes "Result") d) v));
  passing = λ d x c. ends (Some (Ok x)) InputPath (taken (codes "InputPath") (value_in (codes "InputPath") d) x c) (λ y. output_stages (value_in (codes "OutputPath") d) y c) (λ y. taken (codes "OutputPath") (value_in (codes "OutputPath") d) y c) (λ v. refl);
  selecting = λ r d x c. selected_ends None (value_in (codes "ResultSelector") d) (value_in (codes "ResultPath") d) (value_in (codes "OutputPath") d) x c r;
  task = λ g d x c. behind (Some (Ok x)) d x c (λ y. answer_stages d x c g) (λ y. (g >>= (selected d x c))) (λ v b. ends b Answered g (selected_of d x c) (selected d x c) (λ w. selected_ends (Some (Ok w)) (value_in (codes "ResultSelector") d) (value_in (codes "ResultPath") d) (value_in (codes "OutputPath") d) x c w));
}
