-- What a step may read, with no reference in it.
use Rattle.std.specs.Prelude.{ℕ, Bool, List, map, Option, option_map}
use Rattle.asl_json_data.specs.Data.{Data}
use Rattle.asl_json.specs.View.{data_of}
use Rattle.asl_mock.specs.Answers.{Case}
use Rattle.asl_step.specs.declared.record.Record.{Record}
use Rattle.asl_step.specs.declared.visit.Visit.{Visit}

pub record Seen : Type 0 where
  pub place : List ℕ
  pub current : Record
  pub children : List Record
  -- the name of the Map of which the branch is an iteration
  pub forker : Option (List ℕ)
  -- the number and the item of the innermost iteration of a Map that the branch is in
  pub iteration : Option (ℕ × Data)
  -- whether the state invokes a service, and how often it did before
  pub invokes : Bool
  pub count : ℕ
  -- the test case, which answers in the services' place
  pub case : Case
  pub moment : ℕ

abbrev pub seen : Visit → Seen
seen v = record {
  place = v.place.now;
  current = v.current.now;
  children = map (λ r. r.now) v.children.now;
  forker = option_map (λ n. n.now) v.forker;
  iteration = option_map (λ i. (i.0, data_of i.1.now)) v.iteration;
  invokes = v.invokes;
  count = v.count;
  case = v.case.now;
  moment = v.moment;
}
