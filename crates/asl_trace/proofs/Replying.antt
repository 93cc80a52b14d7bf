-- The lines of a step by why it is refused, and whether the time is over.
use Rattle.std.proofs.Common.{◌≡◌, ℕ, true, false, List, ◌++◌, refl, ap, ◌∙◌}
use Rattle.std.specs.Prelude.{Option, Some, None, is_some, Result, Ok, Err, is_ok, OnOk, codes, if◌then◌else◌}
use Rattle.asl_json_data.specs.Compact.{escaped_byte}
use Rattle.asl_step.specs.declared.facts.Facts.{Facts}
use Rattle.asl_run_branches.specs.Branches.{record_at}
use Rattle.asl_run_input.specs.declared.setup.Setup.{Setup}
use Rattle.asl_run_state.specs.declared.refusal.Refusal.{Refusal}
use Rattle.asl_run_state.specs.World.{World, is_late}
use Rattle.asl_run_state.specs.Lines.{step_line, status_text}
use Rattle.asl_run_state.specs.declared.outcome.Outcome.TheVariants.{TimedOut}
use Rattle.asl_trace_lines.specs.Lines.{timed_out_line}
use Rattle.asl_trace.specs.declared.tree.Shows.{Shows}
use Rattle.asl_trace.specs.Stopped.{stopped_lines}
use Rattle.asl_trace.specs.Steps.{branch_lines, accepted_lines, replied_lines}

pub refused : (sh : Shows) (f : Facts) (s : Setup) (w u : World) (p : List ℕ) (now : ℕ) (o : Option Refusal) → is_some o ≡ true → replied_lines sh f s w u p now o ≡ step_line p o
refused sh f s w u p now None e = absurd (cc)
refused sh f s w u p now (Some r) e = refl

accepted : (sh : Shows) (f : Facts) (s : Setup) (w u : World) (p : List ℕ) (now : ℕ) (o : Option Refusal) → is_some o ≡ false → replied_lines sh f s w u p now o ≡ accepted_lines sh f s w u p now
accepted sh f s w u p now None e = refl
accepted sh f s w u p now (Some r) e = absurd (cc)

pub late : (sh : Shows) (f : Facts) (s : Setup) (w u : World) (p : List ℕ) (now : ℕ) (o : Option Refusal) → is_some o ≡ false → is_late now w.deadline ≡ true → replied_lines sh f s w u p now o ≡ timed_out_line s.start now
late sh f s w u p now o e l = accepted sh f s w u p now o e ∙ rw l refl

pub taken : (sh : Shows) (f : Facts) (s : Setup) (w u : World) (p : List ℕ) (now : ℕ) (o : Option Refusal) → is_some o ≡ false → is_late now w.deadline ≡ false
    → replied_lines sh f s w u p now o ≡ stopped_lines s.start now p w.branches ++ branch_lines sh f s w u p now (record_at p w.branches)
taken sh f s w u p now o e l = accepted sh f s w u p now o e ∙ rw l refl

-- a text is appended, where memory is left
pub appended : {E : Type 0} (r : Result (Unit {0}) E) (out new t u : List ℕ) → t ≡ u → new ≡ (if is_ok r then out ++ t else out) → OnOk r (new ≡ out ++ u)
appended (Ok x) out new t u same told = told ∙ ap (λ (l : List ℕ). out ++ l) same
appended (Err e) out new t u same told = tt

-- the line of an execution whose time was over
pub timed_out_text : codes "status TIMED_OUT {\"Error\":\"States.Timeout\"}" ≡ status_text TimedOut
unfolding escaped_byte
timed_out_text = refl
