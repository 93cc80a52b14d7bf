-- The inputs of a Map's iterations, one after another.
use Rattle.std.proofs.Common.{ℕ, ◌≡◌, ◌≤◌, ◌<◌, ◌+◌, ◌∙◌, List, [], ◌∷◌, ◌++◌, drop, length, refl, sym, ap, append_assoc, append-nil}
use Rattle.std.specs.Prelude.{Option, Some, Result, Ok, Err, slice_get}
use Rattle.std.proofs.lemmas.List.{drop_more, drop_all}
use Rattle.std.proofs.lemmas.Option.{slice_get_within, get_or_from_slice_get}
use Rattle.asl_json_data.specs.Data.{Data}
use Rattle.asl_json.specs.View.{data_of}
use Rattle.asl_json.specs.declared.value.Json.{Json}
use Rattle.asl_step.specs.declared.facts.Facts.{Facts}
use Rattle.asl_step.specs.declared.record.ErrorOut.{ErrorOut}
use Rattle.asl_step.specs.Seen.{Seen}
use Rattle.asl_step_io.specs.Gives.{Gives}
use Rattle.asl_step_io.specs.Paths.{Given}
use Rattle.asl_step_io.specs.declared.fault.Fault.{Fault}
use Rattle.asl_step_io.specs.declared.fault.Fault.TheVariants.{Memory, Raised}
use Rattle.asl_kinds.specs.Forks.{item_input}
use Rattle.asl_trace_data.specs.Kinds.{input_before, inputs}

abbrev pub GivenInputs : Type 0
GivenInputs = Result (List Data) ErrorOut

-- inputs behind those that were made
abbrev pub behind : List Data → GivenInputs → GivenInputs
behind done (Ok ds) = Ok (done ++ ds)
behind done (Err e) = Err e

-- one more is made
one-made : (done : List Data) (x : Json) (others : GivenInputs) → behind done (input_before (Ok x) others) ≡ behind (done ++ data_of x ∷ []) others
one-made done x (Ok ds) = ap (λ (z : List Data). Ok z) (sym (append_assoc done (data_of x ∷ []) ds))
one-made done x (Err e) = refl

next-made : (done : List Data) (t : Data) (y : Json) (f : Facts) (v : Seen) (i : ℕ) (d : Data) (ds : List Data) (x : Json) → item_input (Some t) y f v i d ≡ Ok x → behind done (inputs t y f v i (d ∷ ds)) ≡ behind (done ++ data_of x ∷ []) (inputs t y f v (i + 1) ds)
next-made done t y f v i d ds x e = rw e (one-made done x (inputs t y f v (i + 1) ds))

next-fails : (done : List Data) (t : Data) (y : Json) (f : Facts) (v : Seen) (i : ℕ) (d : Data) (ds : List Data) (e : ErrorOut) → item_input (Some t) y f v i d ≡ Err e → behind done (inputs t y f v i (d ∷ ds)) ≡ Err e
next-fails done t y f v i d ds e is = rw is refl

-- the item of a number comes first of those from it on
rest-with : (ds : List Data) (i : ℕ) (d : Data) → Some d ≡ slice_get ds i → drop i ds ≡ d ∷ drop (i + 1) ds
rest-with ds i d e = drop_more ds i d (slice_get_within ds i d (sym e)) ∙ ap (λ (z : Data). z ∷ drop (i + 1) ds) (get_or_from_slice_get ds i d d (sym e))

pub made-from : (done : List Data) (t : Data) (y : Json) (f : Facts) (v : Seen) (i : ℕ) (d : Data) (ds : List Data) (x : Json) → Some d ≡ slice_get ds i → item_input (Some t) y f v i d ≡ Ok x → behind done (inputs t y f v i (drop i ds)) ≡ behind (done ++ data_of x ∷ []) (inputs t y f v (i + 1) (drop (i + 1) ds))
made-from done t y f v i d ds x is e = rw (rest-with ds i d is) (next-made done t y f v i d (drop (i + 1) ds) x e)

pub fails-from : (done : List Data) (t : Data) (y : Json) (f : Facts) (v : Seen) (i : ℕ) (d : Data) (ds : List Data) (e : ErrorOut) → Some d ≡ slice_get ds i → item_input (Some t) y f v i d ≡ Err e → behind done (inputs t y f v i (drop i ds)) ≡ Err e
fails-from done t y f v i d ds e is fails = rw (rest-with ds i d is) (next-fails done t y f v i d (drop (i + 1) ds) e fails)

-- an input that can't be made is told of all
pub fault_told : (g : Given) (h : GivenInputs) (fault : Fault) → ((e : ErrorOut) → g ≡ Err e → h ≡ Err e) → Gives g (Err fault) → Gives h (Err fault)
fault_told g h Memory more k = tt
fault_told g h (Raised e) more k = more e k

pub all-made : (done : List Data) (t : Data) (y : Json) (f : Facts) (v : Seen) (i : ℕ) (ds : List Data) → length ds ≤ i → behind done (inputs t y f v i (drop i ds)) ≡ Ok done
all-made done t y f v i ds past = rw (drop_all i ds past) (ap (λ (z : List Data). Ok z) (append-nil done))
