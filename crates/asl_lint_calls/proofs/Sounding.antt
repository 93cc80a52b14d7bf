-- A text that is told has no value on any input.
use Rattle.std.proofs.Common.{◌≡◌, ℕ, List, refl, sym, ◌∙◌, subst}
use Rattle.std.specs.Prelude.{Option, Some, None, IfSome, option_map}
use Rattle.std.proofs.Common.{ap}
use Rattle.asl_json_data.specs.Data.{Data}
use Rattle.asl_intrinsic_functions.specs.Outcome.{Outcome}
use Rattle.asl_intrinsic.specs.Faults.{max_calls}
use Rattle.asl_intrinsic.specs.Tree.{Argument}
use Rattle.asl_intrinsic.specs.Calls.{value_of}
use Rattle.asl_intrinsic.specs.Values.{ev}
use Rattle.asl_intrinsic.proofs.Answering.{meaning}
use Rattle.asl_lint_calls.specs.declared.failure.Failure.{Failure}
use Rattle.asl_lint_calls.specs.Known.{Known, any, value, never, known}
use Rattle.asl_lint_calls.specs.Reading.{read_call}
use Rattle.asl_lint_calls.specs.private.View.{failure_known}
use Rattle.asl_lint_calls.specs.Failing.{failure_in, failure_of, failing, IsFault, AlwaysFails}
use Rattle.asl_lint_calls.proofs.Meeting.{Meets, meets}
use Rattle.asl_lint_calls.proofs.Spelling.{call_is}

fault_of : (k : Known) (w : Failure) (o : Outcome Data) → failure_in k ≡ Some w → Meets k o → IsFault o
fault_of any w o h m = absurd (cc)
fault_of (value v d) w o h m = absurd (cc)
fault_of (never f) w o h m = m

pub always : (t : List ℕ) (w : Failure) → failing t ≡ Some w → AlwaysFails t
unfolding failing
always t w h = by (read_call max_calls t) refl h
  where
    by : (o : Option Argument) → read_call max_calls t ≡ o → failure_of o ≡ Some w → AlwaysFails t
    by (Some a) e g =
        let r = call_is max_calls t a e in
        λ x c. subst (λ (z : Outcome Data). IsFault z) (sym ((meaning a t r.spelled r.fits).value x c)) (fault_of (known a) w (value_of a x c) g (meets a x c))
    by None e g = absurd (cc)

-- what is known of a text tells why it has none
pub told : (t : List ℕ) (o : Option Known) → o ≡ option_map known (read_call max_calls t) → failure_known o ≡ failing t
unfolding failing
told t o h = ap failure_known h ∙ by (read_call max_calls t)
  where
    in_known : (k : Known) → failure_known (Some k) ≡ failure_in k
    in_known any = refl
    in_known (value w d) = refl
    in_known (never w) = refl

    by : (a : Option Argument) → failure_known (option_map known a) ≡ failure_of a
    by (Some a) = in_known (known a)
    by None = refl

pub sound : (t : List ℕ) (o : Option Failure) → o ≡ failing t → IfSome o (λ _. AlwaysFails t)
sound t (Some w) h = always t w (sym h)
sound t None h = tt
