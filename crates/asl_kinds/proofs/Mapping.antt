-- The iterations of a Map, one after another.
use Rattle.std.proofs.Common.{ℕ, ◌≡◌, ◌≤◌, ◌+◌, ◌∙◌, List, [], ◌∷◌, ◌++◌, drop, length, refl, sym, ap, append_assoc, append-nil}
use Rattle.std.specs.Prelude.{Option, Some, Ok, Err, codes, slice_get}
use Rattle.std.proofs.lemmas.List.{drop_more, drop_all}
use Rattle.std.proofs.lemmas.Option.{slice_get_within, get_or_from_slice_get}
use Rattle.asl_json_data.specs.Data.{Data}
use Rattle.asl_json.specs.declared.value.Json.{Json}
use Rattle.asl_step.specs.declared.facts.Facts.{Facts}
use Rattle.asl_step.specs.declared.record.Record.{Record}
use Rattle.asl_step.specs.declared.record.Record.TheVariants.{New}
use Rattle.asl_step.specs.declared.record.ErrorOut.{ErrorOut}
use Rattle.asl_step.specs.Seen.{Seen}
use Rattle.asl_json.specs.Meaning.{value_in}
use Rattle.asl_def_schema.specs.Claims.{item_count}
use Rattle.asl_handle.specs.Decisions.{handlers_in}
use Rattle.asl_history.specs.declared.kind.EventKind.TheVariants.{MapStateStarted}
use Rattle.asl_step.specs.declared.effect.Progress.{Progress}
use Rattle.asl_step.specs.Rows.{forking, telling}
use Rattle.asl_step_io.specs.Gives.{Gives}
use Rattle.asl_step_io.specs.Paths.{Given}
use Rattle.asl_step_io.specs.declared.fault.Fault.{Fault}
use Rattle.asl_step_io.specs.declared.fault.Fault.TheVariants.{Memory, Raised}
use Rattle.asl_kinds.specs.Forks.{GivenRecords, new_before, item_input, iterations}
use Rattle.asl_kinds.specs.Table.{length_body, map_forks}

-- iterations behind those that were made
abbrev pub behind : List Record → GivenRecords → GivenRecords
behind done (Ok rs) = Ok (done ++ rs)
behind done (Err e) = Err e

-- one more is made
one-made : (done : List Record) (start : List ℕ) (x : Json) (others : GivenRecords) → behind done (new_before start (Ok x) others) ≡ behind (done ++ New start x ∷ []) others
one-made done start x (Ok rs) = ap (λ (z : List Record). Ok z) (sym (append_assoc done (New start x ∷ []) rs))
one-made done start x (Err e) = refl

next-made : (done : List Record) (start : List ℕ) (t : Option Data) (y : Json) (f : Facts) (v : Seen) (i : ℕ) (d : Data) (ds : List Data) (x : Json) → item_input t y f v i d ≡ Ok x → behind done (iterations start t y f v i (d ∷ ds)) ≡ behind (done ++ New start x ∷ []) (iterations start t y f v (i + 1) ds)
next-made done start t y f v i d ds x e = rw e (one-made done start x (iterations start t y f v (i + 1) ds))

next-fails : (done : List Record) (start : List ℕ) (t : Option Data) (y : Json) (f : Facts) (v : Seen) (i : ℕ) (d : Data) (ds : List Data) (e : ErrorOut) → item_input t y f v i d ≡ Err e → behind done (iterations start t y f v i (d ∷ ds)) ≡ Err e
next-fails done start t y f v i d ds e is = rw is refl

-- the item of a number comes first of those from it on
rest-with : (ds : List Data) (i : ℕ) (d : Data) → Some d ≡ slice_get ds i → drop i ds ≡ d ∷ drop (i + 1) ds
rest-with ds i d e = drop_more ds i d (slice_get_within ds i d (sym e)) ∙ ap (λ (z : Data). z ∷ drop (i + 1) ds) (get_or_from_slice_get ds i d d (sym e))

pub made-from : (done : List Record) (start : List ℕ) (t : Option Data) (y : Json) (f : Facts) (v : Seen) (i : ℕ) (d : Data) (ds : List Data) (x : Json) → Some d ≡ slice_get ds i → item_input t y f v i d ≡ Ok x → behind done (iterations start t y f v i (drop i ds)) ≡ behind (done ++ New start x ∷ []) (iterations start t y f v (i + 1) (drop (i + 1) ds))
made-from done start t y f v i d ds x is e = rw (rest-with ds i d is) (next-made done start t y f v i d (drop (i + 1) ds) x e)

pub fails-from : (done : List Record) (start : List ℕ) (t : Option Data) (y : Json) (f : Facts) (v : Seen) (i : ℕ) (d : Data) (ds : List Data) (e : ErrorOut) → Some d ≡ slice_get ds i → item_input t y f v i d ≡ Err e → behind done (iterations start t y f v i (drop i ds)) ≡ Err e
fails-from done start t y f v i d ds e is fails = rw (rest-with ds i d is) (next-fails done start t y f v i d (drop (i + 1) ds) e fails)

-- an input that can't be made is told of the iterations
pub fault_told : (g : Given) (h : GivenRecords) (fault : Fault) → ((e : ErrorOut) → g ≡ Err e → h ≡ Err e) → Gives g (Err fault) → Gives h (Err fault)
fault_told g h Memory more k = tt
fault_told g h (Raised e) more k = more e k

pub all-made : (done : List Record) (start : List ℕ) (t : Option Data) (y : Json) (f : Facts) (v : Seen) (i : ℕ) (ds : List Data) → length ds ≤ i → behind done (iterations start t y f v i (drop i ds)) ≡ Ok done
all-made done start t y f v i ds past = rw (drop_all i ds past) (ap (λ (z : List Record). Ok z) (append-nil done))

-- what a Map makes of its items is what its object says
pub forked_over : (d : Data) (v : Seen) (done told : Progress) (started x : Json) (n : ℕ) (items : List Data) (rs : List Record)
    → told ≡ telling v done MapStateStarted started
    → started ≡ length_body items
    → n ≡ item_count (handlers_in (value_in (codes "Retry") d))
    → forking v told x n items rs ≡ map_forks d v done x (Ok (items, rs))
forked_over d v done told started x n items rs ht hs hn = rw (ht, hs, hn) refl
