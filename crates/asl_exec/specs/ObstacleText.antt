-- The texts of the reasons why two steps may not change places.
use Rattle.std.specs.Prelude.{ℕ, List, ◌∷◌, ◌++◌, Some, codes}
use Rattle.asl_json_data.specs.Data.{text}
use Rattle.asl_json_data.specs.Compact.{compact}
use Rattle.asl_history.specs.Places.{place_text}
use Rattle.asl_run_state.specs.Lines.{reply_text}
use Rattle.asl_exec.specs.declared.obstacle.Obstacle.{Obstacle}
use Rattle.asl_exec.specs.declared.obstacle.Obstacle.TheVariants.{OnePlace, Above, TwoMoments, Refused, OneTask, Ends, Fails, NoRoom}

-- a name is a JSON text, a refusal its number and its name
abbrev pub reason_text : Obstacle → List ℕ
reason_text (OnePlace p) = codes "both are at " ++ place_text p
reason_text (Above p q) = place_text p ++ (codes " is above " ++ place_text q)
reason_text TwoMoments = codes "the moments differ"
reason_text (Refused p r) = place_text p ++ 32 ∷ reply_text (Some r)
reason_text (OneTask n) = codes "both invoke " ++ compact (text n)
reason_text (Ends p) = place_text p ++ codes " ends the execution"
reason_text (Fails p) = place_text p ++ codes " fails its branch"
reason_text NoRoom = codes "more than 24984 events"

abbrev pub obstacle_text : Obstacle → List ℕ
obstacle_text o = codes "not exchangeable: " ++ reason_text o
