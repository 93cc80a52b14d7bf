-- Values without faults are such as members are compiled from.
use Rattle.std.proofs.Common.{◌≡◌, ℕ, List, true, false, refl, ◌∙◌, ap, rules}
use Rattle.std.specs.Prelude.{Option, Some, None, IfSome, ℤ, pos}
use Rattle.asl_json_data.specs.Data.{Data, null, boolean, number, text, list, dict}
use Rattle.asl_json.specs.Whole.{whole_of}
use Rattle.asl_path.specs.Grammar.{IsPath, StartsFrom}
use Rattle.asl_path.specs.declared.step.Root.TheVariants.{Input}
use Rattle.asl_def_schema.specs.declared.sort.Sort.{Sort}
use Rattle.asl_def_schema.specs.declared.sort.Sort.TheVariants as sort
use Rattle.asl_def_schema.specs.declared.sort.Form.{Form}
use Rattle.asl_def_schema.specs.declared.sort.Form.TheVariants as form
use Rattle.asl_def_schema.specs.Demands.{form_of, is_of}
use Rattle.asl_def_schema.specs.Claims.{is_between, is_between_whole}
use Rattle.asl_def_schema.specs.Clean.{IsClean, Fits}
use Rattle.asl_def_schema.proofs.Kept.{unfit, path_text, path_or_null, place_or_null, from_zero, from_one, rate, delay_limit, jitter, mode, has_moment}
use Rattle.asl_def_fields.specs.Readable.{IsText, IsTruth, IsNumeric, IsPathText, IsPathOrCall, IsPathOrNull, IsCount, IsRate, IsDelayLimit, IsJitter, IsMode, IsStamp}

-- where it is there
pub fit : (s : Sort) (P : Data → Type 0) → ((d : Data) → IsClean s d → P d) → (o : Option Data) → Fits s o → IfSome o P
fit s P f None h = tt
fit s P f (Some d) h = f d h

other : (s : Sort) (d : Data) (f : Form) → form_of s ≡ f → IsClean s d → is_of f d ≡ false → ⊥
other s d f e c differs = unfit s d c (ap (λ (g : Form). is_of g d) e ∙ differs)

pub text_fits : (s : Sort) (d : Data) → form_of s ≡ form.Text → IsClean s d → IsText d
text_fits s (text t) e c = tt
text_fits s null e c = other s null form.Text e c refl
text_fits s (boolean b) e c = other s (boolean b) form.Text e c refl
text_fits s (number n) e c = other s (number n) form.Text e c refl
text_fits s (list ds) e c = other s (list ds) form.Text e c refl
text_fits s (dict ms) e c = other s (dict ms) form.Text e c refl

pub truth_fits : (d : Data) → IsClean sort.Truth d → IsTruth d
truth_fits (boolean b) c = tt
truth_fits null c = unfit sort.Truth null c refl
truth_fits (text t) c = unfit sort.Truth (text t) c refl
truth_fits (number n) c = unfit sort.Truth (number n) c refl
truth_fits (list ds) c = unfit sort.Truth (list ds) c refl
truth_fits (dict ms) c = unfit sort.Truth (dict ms) c refl

pub numeric_fits : (d : Data) → IsClean sort.Number d → IsNumeric d
numeric_fits (number n) c = tt
numeric_fits null c = unfit sort.Number null c refl
numeric_fits (text t) c = unfit sort.Number (text t) c refl
numeric_fits (boolean b) c = unfit sort.Number (boolean b) c refl
numeric_fits (list ds) c = unfit sort.Number (list ds) c refl
numeric_fits (dict ms) c = unfit sort.Number (dict ms) c refl

pub path_fits : (d : Data) → IsClean sort.Path d → IsPathText d
path_fits (text t) c = path_text t c
path_fits null c = unfit sort.Path null c refl
path_fits (boolean b) c = unfit sort.Path (boolean b) c refl
path_fits (number n) c = unfit sort.Path (number n) c refl
path_fits (list ds) c = unfit sort.Path (list ds) c refl
path_fits (dict ms) c = unfit sort.Path (dict ms) c refl

pub path_or_call_fits : (d : Data) → IsClean sort.PathOrCall d → IsPathOrCall d
path_or_call_fits (text t) c = c.is.hold.1.1.0
path_or_call_fits null c = unfit sort.PathOrCall null c refl
path_or_call_fits (boolean b) c = unfit sort.PathOrCall (boolean b) c refl
path_or_call_fits (number n) c = unfit sort.PathOrCall (number n) c refl
path_or_call_fits (list ds) c = unfit sort.PathOrCall (list ds) c refl
path_or_call_fits (dict ms) c = unfit sort.PathOrCall (dict ms) c refl

pub path_or_null_fits : (d : Data) → IsClean sort.PathOrNull d → IsPathOrNull d
path_or_null_fits null c = tt
path_or_null_fits (text t) c = path_or_null t c
path_or_null_fits (boolean b) c = unfit sort.PathOrNull (boolean b) c refl
path_or_null_fits (number n) c = unfit sort.PathOrNull (number n) c refl
path_or_null_fits (list ds) c = unfit sort.PathOrNull (list ds) c refl
path_or_null_fits (dict ms) c = unfit sort.PathOrNull (dict ms) c refl

starts : (t : List ℕ) → StartsFrom Input t → IsPath t
starts t h = record { root = Input; steps = h.steps; spelled = h.spelled }

pub place_or_null_fits : (d : Data) → IsClean sort.PlaceOrNull d → IsPathOrNull d
place_or_null_fits null c = tt
place_or_null_fits (text t) c = starts t (place_or_null t c)
place_or_null_fits (boolean b) c = unfit sort.PlaceOrNull (boolean b) c refl
place_or_null_fits (number n) c = unfit sort.PlaceOrNull (number n) c refl
place_or_null_fits (list ds) c = unfit sort.PlaceOrNull (list ds) c refl
place_or_null_fits (dict ms) c = unfit sort.PlaceOrNull (dict ms) c refl

pub from_zero_fits : (d : Data) → IsClean sort.FromZero d → IsCount d
from_zero_fits (number n) c = from_zero n c
from_zero_fits null c = unfit sort.FromZero null c refl
from_zero_fits (boolean b) c = unfit sort.FromZero (boolean b) c refl
from_zero_fits (text t) c = unfit sort.FromZero (text t) c refl
from_zero_fits (list ds) c = unfit sort.FromZero (list ds) c refl
from_zero_fits (dict ms) c = unfit sort.FromZero (dict ms) c refl

at_least_one : (n : ℤ) → is_between (pos 1) (pos 99999999) n ≡ true → is_between (pos 0) (pos 99999999) n ≡ true
at_least_one n h = search rules

wide : (o : Option ℤ) → is_between_whole (pos 1) (pos 99999999) o ≡ true → is_between_whole (pos 0) (pos 99999999) o ≡ true
wide None h = h
wide (Some n) h = at_least_one n h

pub from_one_fits : (d : Data) → IsClean sort.FromOne d → IsCount d
from_one_fits (number n) c = wide (whole_of n) (from_one n c)
from_one_fits null c = unfit sort.FromOne null c refl
from_one_fits (boolean b) c = unfit sort.FromOne (boolean b) c refl
from_one_fits (text t) c = unfit sort.FromOne (text t) c refl
from_one_fits (list ds) c = unfit sort.FromOne (list ds) c refl
from_one_fits (dict ms) c = unfit sort.FromOne (dict ms) c refl

pub rate_fits : (d : Data) → IsClean sort.Rate d → IsRate d
rate_fits (number n) c = rate n c
rate_fits null c = unfit sort.Rate null c refl
rate_fits (boolean b) c = unfit sort.Rate (boolean b) c refl
rate_fits (text t) c = unfit sort.Rate (text t) c refl
rate_fits (list ds) c = unfit sort.Rate (list ds) c refl
rate_fits (dict ms) c = unfit sort.Rate (dict ms) c refl

pub delay_limit_fits : (d : Data) → IsClean sort.DelayLimit d → IsDelayLimit d
delay_limit_fits (number n) c = delay_limit n c
delay_limit_fits null c = unfit sort.DelayLimit null c refl
delay_limit_fits (boolean b) c = unfit sort.DelayLimit (boolean b) c refl
delay_limit_fits (text t) c = unfit sort.DelayLimit (text t) c refl
delay_limit_fits (list ds) c = unfit sort.DelayLimit (list ds) c refl
delay_limit_fits (dict ms) c = unfit sort.DelayLimit (dict ms) c refl

pub jitter_fits : (d : Data) → IsClean sort.Jitter d → IsJitter d
jitter_fits (text t) c = jitter t c
jitter_fits null c = unfit sort.Jitter null c refl
jitter_fits (boolean b) c = unfit sort.Jitter (boolean b) c refl
jitter_fits (number n) c = unfit sort.Jitter (number n) c refl
jitter_fits (list ds) c = unfit sort.Jitter (list ds) c refl
jitter_fits (dict ms) c = unfit sort.Jitter (dict ms) c refl

pub mode_fits : (d : Data) → IsClean sort.Mode d → IsMode d
mode_fits (text t) c = mode t c
mode_fits null c = unfit sort.Mode null c refl
mode_fits (boolean b) c = unfit sort.Mode (boolean b) c refl
mode_fits (number n) c = unfit sort.Mode (number n) c refl
mode_fits (list ds) c = unfit sort.Mode (list ds) c refl
mode_fits (dict ms) c = unfit sort.Mode (dict ms) c refl

pub stamp_fits : (d : Data) → IsClean sort.Timestamp d → IsStamp d
stamp_fits (text t) c = has_moment t c
stamp_fits null c = unfit sort.Timestamp null c refl
stamp_fits (boolean b) c = unfit sort.Timestamp (boolean b) c refl
stamp_fits (number n) c = unfit sort.Timestamp (number n) c refl
stamp_fits (list ds) c = unfit sort.Timestamp (list ds) c refl
stamp_fits (dict ms) c = unfit sort.Timestamp (dict ms) c refl
