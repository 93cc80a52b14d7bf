-- What is told of a step is what happened in it.
use Rattle.std.proofs.Common.{◌≡◌, ℕ, Bool, true, false, List, [], ◌++◌, refl, sym, ap, ◌∙◌, length}
use Rattle.std.specs.Prelude.{Option, Some, None, option_map, codes, if◌then◌else◌}
use Rattle.std.specs.Str.{bytes_eq}
use Rattle.std.specs.Option.{option_copied}
use Rattle.std.specs.Borrow.{Bor}
use Rattle.std.proofs.lemmas.List.{length-map}
use Rattle.asl_json_data.specs.Data.{Data}
use Rattle.asl_def_schema.specs.Canon.{Named}
use Rattle.asl_def_states.specs.declared.state.State.{State}
use Rattle.asl_def_states.specs.Show.{state_of}
use Rattle.asl_step.specs.declared.facts.Facts.{Facts}
use Rattle.asl_step.specs.declared.record.Record.{Record}
use Rattle.asl_step.specs.declared.record.ErrorOut.{ErrorOut}
use Rattle.asl_step.specs.Context.{context_of}
use Rattle.asl_step.specs.Records.{entering_with}
use Rattle.asl_step.specs.Seen.{Seen}
use Rattle.asl_run_branches.specs.Branches.{children_at}
use Rattle.asl_run_branches.specs.Trees.{Family, below_of, branches_of}
use Rattle.asl_run_branches.proofs.Reading.{children-of}
use Rattle.asl_run_input.specs.declared.setup.Setup.{Setup}
use Rattle.asl_run_state.specs.World.{World}
use Rattle.asl_trace_lines.specs.Seen.{Seen as Told}
use Rattle.asl_trace_lines.specs.Handling.{handles}
use Rattle.asl_trace_data.specs.declared.stage.Stage.{Stage}
use Rattle.asl_trace_data.specs.Kinds.{stages_of}
use Rattle.asl_trace.specs.declared.deciding.Staged.{Staged}
use Rattle.asl_trace.specs.declared.deciding.Staged.TheVariants as staged
use Rattle.asl_trace.specs.declared.tree.Shows.{Shows}
use Rattle.asl_trace.specs.declared.tree.Shows.TheVariants.{Changes, Stages}
use Rattle.asl_trace.specs.Deciding.{kind_of, rule_with, by_error, raised_by, raised_at, is_wanted, wanted_of, wanted_in, deciding_in, deciding_of, deciding_with}
use Rattle.asl_trace.specs.Steps.{lines_of, happening_lines}
use Rattle.asl_trace.specs.private.Known.{staged_by}
use Rattle.asl_trace.proofs.AnyTable.{any_table}

pub told_is : (h k : Told) → h.start ≡ k.start → h.now ≡ k.now → h.place ≡ k.place → h.kind ≡ k.kind → h.retry ≡ k.retry → h.catch ≡ k.catch → h.count ≡ k.count → h.before ≡ k.before → h.after ≡ k.after → h.branches ≡ k.branches → h.raised ≡ k.raised → h.rule ≡ k.rule → h ≡ k
told_is h k start now place kind retry catch count before after branches raised rule = λ i. record {
  start = start i;
  now = now i;
  place = place i;
  kind = kind i;
  retry = retry i;
  catch = catch i;
  count = count i;
  before = before i;
  after = after i;
  branches = branches i;
  raised = raised i;
  rule = rule i;
}

-- what is lent of an optional value
pub copied : {A : Type 0} (o : Option (Bor A)) → option_copied o ≡ option_map (λ v. v.now) o
copied None = refl
copied (Some v) = refl

-- how many children a frame has
pub many : (f : Family) (ks : List Family) → f.below ≡ below_of 0 ks → length ks ≡ length (children_at [] (branches_of f))
many f ks e = sym (length-map ks (λ k. k.head.current)) ∙ sym (ap length (children-of f ks e))

-- the stages of a state that may have Retry and Catch are wanted always
raised_of : (sort : Staged) (d : Data) (f : Facts) (v : Seen) (b : Bool) → handles (kind_of d) ≡ b → raised_by d (wanted_of sort d f v) ≡ raised_at d f v
raised_of sort d f v false e = rw e refl
raised_of staged.Handling d f v true e = rw e refl
raised_of staged.All d f v true e = refl

pub raised_is : (sort : Staged) (d : Data) (o : Option Data) (f : Facts) (v : Seen) (ss : List Stage) → o ≡ Some d → ss ≡ wanted_in sort o f v → raised_by d ss ≡ raised_at d f v
raised_is sort d o f v ss is are = ap (raised_by d) (are ∙ ap (λ (x : Option Data). wanted_in sort x f v) is) ∙ raised_of sort d f v (handles (kind_of d)) refl

pub deciding_is : (d : Data) (o : Option Data) (f : Facts) (v : Seen) → o ≡ Some d → deciding_in o f v ≡ deciding_of d f v
deciding_is d o f v is = ap (λ (x : Option Data). deciding_in x f v) is

-- what decides is asked of the error alone that is raised where stages are wanted
pub deciding_wanted : (sort : Staged) (d : Data) (f : Facts) (v : Seen) → deciding_with d f v (wanted_of sort d f v) ≡ deciding_of d f v
deciding_wanted sort d f v = ap (λ (o : Option ErrorOut). if bytes_eq (kind_of d) (codes "Choice") then rule_with d (context_of f v) (entering_with v.current) else by_error d v o) (raised_of sort d f v (handles (kind_of d)) refl)

-- of a state that is no Choice
pub by_other : (d : Data) (f : Facts) (v : Seen) (ss : List Stage) → bytes_eq (kind_of d) (codes "Choice") ≡ false → by_error d v (raised_by d ss) ≡ deciding_with d f v ss
by_other d f v ss e = sym (ap (λ (b : Bool). if b then rule_with d (context_of f v) (entering_with v.current) else by_error d v (raised_by d ss)) e)

-- lines with changes don't hang on the stages; those with stages have all of them
lines_with : (sh : Shows) (h : Told) (d : Data) (f : Facts) (v : Seen) → lines_of sh h (wanted_of (staged_by sh) d f v) ≡ lines_of sh h (stages_of d f v)
lines_with Changes h d f v = refl
lines_with Stages h d f v = refl

-- none, where no branch is there or it is in no state
pub no_branch : (sh : Shows) (f : Facts) (s : Setup) (u : World) (v : Seen) (after : Option Record) (o : Option Data) → after ≡ None → happening_lines sh f s u v after o ≡ []
no_branch sh f s u v after o e = ap (λ (x : Option Record). happening_lines sh f s u v x o) e

no_state_by : (sh : Shows) (f : Facts) (s : Setup) (u : World) (v : Seen) (after : Option Record) → happening_lines sh f s u v after None ≡ []
no_state_by sh f s u v None = refl
no_state_by sh f s u v (Some r) = refl

pub no_state : (sh : Shows) (f : Facts) (s : Setup) (u : World) (v : Seen) (after : Option Record) (o : Option Data) → o ≡ None → happening_lines sh f s u v after o ≡ []
no_state sh f s u v after o e = ap (λ (x : Option Data). happening_lines sh f s u v after x) e ∙ no_state_by sh f s u v after

-- the stages of a state in any table, where they are wanted
pub wanted_is : (sort : Staged) (t u : List Named) (x : State) (f : Facts) (v : Seen) → is_wanted sort (state_of u x) ≡ true → stages_of (state_of t x) f v ≡ wanted_of sort (state_of u x) f v
wanted_is sort t u x f v e = any_table t u x f v ∙ sym (ap (λ (b : Bool). if b then stages_of (state_of u x) f v else []) e)

-- what is told of a step behind other lines
pub told_lines : (sh : Shows) (f : Facts) (v : Seen) (d : Data) (o : Option Data) (h k : Told) (ss : List Stage) (out new : List ℕ) → o ≡ Some d → h ≡ k → ss ≡ wanted_in (staged_by sh) o f v → new ≡ out ++ lines_of sh h ss → new ≡ out ++ lines_of sh k (stages_of d f v)
told_lines sh f v d o h k ss out new is told are lines =
    lines ∙ ap (λ (l : List ℕ). out ++ l) ((λ i. lines_of sh (told i) ((are ∙ ap (λ (x : Option Data). wanted_in (staged_by sh) x f v) is) i)) ∙ lines_with sh k d f v)
