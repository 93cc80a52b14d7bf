-- What is wrong with a text, or with the value that it spells, is why the text is no definition.
use Rattle.std.proofs.Common.{◌≡◌, ℕ, List}
use Rattle.asl_json_data.specs.Data.{Data}
use Rattle.asl_json_data.specs.Reads.{ReadsAs}
use Rattle.asl_check.specs.declared.fault.Fault.{Fault}
use Rattle.asl_check.specs.declared.fault.Fault.TheVariants.{Json, Definition, OutOfMemory}
use Rattle.asl_check.specs.Judged.{IsUnread, IsFaulty, IsFaultOf}

pub of_text : (b : List ℕ) (e : Fault) → IsUnread b e → IsFaultOf b e
of_text b (Json f) h = h
of_text b (Definition k p) h = absurd h
of_text b OutOfMemory h = tt

pub of_value : (b : List ℕ) (d : Data) (e : Fault) → ReadsAs b d → IsFaulty d e → IsFaultOf b e
of_value b d (Json f) r h = absurd h
of_value b d (Definition k p) r h = record { value = d; reads = r; fault = h }
of_value b d OutOfMemory r h = tt
