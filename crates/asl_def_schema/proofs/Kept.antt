-- What the value of a member keeps, by what it is to be.
use Rattle.std.proofs.Common.{◌≡◌, ℕ, List, [], ◌∷◌, ◌++◌, Bool, true, false, sym, ◌∙◌}
use Rattle.std.specs.Prelude.{Option, Some, None, IfSome, pos, nat_le, ◌&&◌, codes}
use Rattle.asl_json_data.specs.Data.{Data, number, text, list, Chain}
use Rattle.asl_json_data.specs.Number.{units_of}
use Rattle.asl_json.specs.Same.{bytes_eq}
use Rattle.asl_json.specs.Whole.{whole_of}
use Rattle.asl_path.specs.Grammar.{IsPath, StartsFrom}
use Rattle.asl_path.specs.declared.step.Root.TheVariants.{Input}
use Rattle.asl_intrinsic.specs.Faults.{IsCall}
use Rattle.asl_template.specs.Filling.{is_path}
use Rattle.asl_def_schema.specs.declared.sort.Sort.{Sort}
use Rattle.asl_def_schema.specs.declared.sort.Sort.TheVariants as sort
use Rattle.asl_def_schema.specs.Demands.{Demand, Holds, form_of, is_of, HasMoment}
use Rattle.asl_def_schema.specs.Claims.{heres, spot_demands, form_demand, value_demands, is_between, is_between_whole, is_jitter, is_nonempty, item_count}
use Rattle.asl_def_schema.specs.First.{Each, Hold}
use Rattle.asl_def_schema.specs.Clean.{IsCleanAmong, IsClean, Fits}
use Rattle.asl_def_schema.proofs.Inside.{own_hold}

-- of demands in a row
middle : (xs : List Demand) (q : Demand) (ys : List Demand) → Each Hold (heres (xs ++ q ∷ ys)) → Holds q
middle [] q ys h = h.0
middle (x ∷ xs) q ys h = middle xs q ys h.1

of_form : (s : Sort) (d : Data) → Holds (form_demand s d) → is_of (form_of s) d ≡ true
of_form sort.Definition d h = h
of_form s d h = h

-- it is of its type
pub form_fits : {s : Sort} {d : Data} → IsClean s d → is_of (form_of s) d ≡ true
form_fits {s} {d} c = of_form s d (middle (spot_demands c.is.spot s) (form_demand s d) (value_demands c.is.spot s d) (own_hold c.is.spot s d c.is.hold).1)

pub unfit : (s : Sort) (d : Data) → IsClean s d → is_of (form_of s) d ≡ false → ⊥
unfit s d c e = absurd (let h = form_fits c in let x : true ≡ false = sym h ∙ e in cc)

pub option_form : (s : Sort) (o : Option Data) → Fits s o → IfSome o (λ d. is_of (form_of s) d ≡ true)
option_form s None f = tt
option_form s (Some d) f = form_fits f

-- ---- by sort

pub path_text : (t : List ℕ) → IsClean sort.Path (text t) → IsPath t
path_text t c = c.is.hold.1.1.0

pub path_or_null : (t : List ℕ) → IsClean sort.PathOrNull (text t) → IsPath t
path_or_null t c = c.is.hold.1.1.0

pub place_or_null : (t : List ℕ) → IsClean sort.PlaceOrNull (text t) → StartsFrom Input t
place_or_null t c = c.is.hold.1.1.0

pub chosen_path : (t : List ℕ) → is_path t ≡ true → IsClean sort.PathOrCall (text t) → IsPath t
chosen_path t e c = let h = c.is.hold.1.1.0 in rw e at h

pub chosen_call : (t : List ℕ) → is_path t ≡ false → IsClean sort.PathOrCall (text t) → IsCall t
chosen_call t e c = let h = c.is.hold.1.1.0 in rw e at h

pub has_moment : (t : List ℕ) → IsClean sort.Timestamp (text t) → HasMoment t
has_moment t c = c.is.hold.1.1.0

pub from_zero : (n : List ℕ) → IsClean sort.FromZero (number n) → is_between_whole (pos 0) (pos 99999999) (whole_of n) ≡ true
from_zero n c = c.is.hold.1.1.0

pub from_one : (n : List ℕ) → IsClean sort.FromOne (number n) → is_between_whole (pos 1) (pos 99999999) (whole_of n) ≡ true
from_one n c = c.is.hold.1.1.0

pub rate : (n : List ℕ) → IsClean sort.Rate (number n) → is_between (pos 1000000000) (pos 1000000000000) (units_of n) ≡ true
rate n c = c.is.hold.1.1.0

pub delay_limit : (n : List ℕ) → IsClean sort.DelayLimit (number n) → is_between_whole (pos 1) (pos 31622399) (whole_of n) ≡ true
delay_limit n c = c.is.hold.1.1.0

pub jitter : (t : List ℕ) → IsClean sort.Jitter (text t) → is_jitter t ≡ true
jitter t c = c.is.hold.1.1.0

pub mode : (t : List ℕ) → IsClean sort.Mode (text t) → bytes_eq t (codes "INLINE") ≡ true
mode t c = c.is.hold.1.1.0

pub target : (names : List ℕ → Bool) (t : List ℕ) → IsCleanAmong names sort.Target (text t) → names t ≡ true
target names t c = let h = c.hold.1.1.0 in rw c.named at h

pub machines : (ds : Chain) → IsClean sort.Machines (list ds) → (is_nonempty ds && nat_le (item_count ds) 999999999) ≡ true
machines ds c = (own_hold c.is.spot sort.Machines (list ds) c.is.hold).1.1.0

pub rules : (ds : Chain) → IsClean sort.Rules (list ds) → is_nonempty ds ≡ true
rules ds c = (own_hold c.is.spot sort.Rules (list ds) c.is.hold).1.1.0

pub inner_rules : (ds : Chain) → IsClean sort.InnerRules (list ds) → is_nonempty ds ≡ true
inner_rules ds c = (own_hold c.is.spot sort.InnerRules (list ds) c.is.hold).1.1.0

pub error_names : (ds : Chain) → IsClean sort.ErrorNames (list ds) → is_nonempty ds ≡ true
error_names ds c = (own_hold c.is.spot sort.ErrorNames (list ds) c.is.hold).1.1.0
