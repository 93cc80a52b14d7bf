-- A retrier without faults, member by member.
use Rattle.std.proofs.Common.{◌≡◌, ℕ, List, [], ◌++◌, Bool, refl, sym, ◌∙◌, ap, subst}
use Rattle.std.specs.Prelude.{Option, Some, None, codes, option_map}
use Rattle.asl_json_data.specs.Data.{Data, Pairs, null, boolean, number, text, list, dict, pairs}
use Rattle.asl_json.specs.Meaning.{value_at, value_in}
use Rattle.asl_def_schema.specs.declared.sort.Sort.{Sort}
use Rattle.asl_def_schema.specs.declared.sort.Sort.TheVariants as sort
use Rattle.asl_def_schema.specs.Members.{shape_of, shape_in, retrier_rows, sort_at, kind_named}
use Rattle.asl_def_schema.specs.Canon.{Named, opt, canon, picked_at}
use Rattle.asl_def_schema.specs.Clean.{IsClean, Fits, IsThere, IsThereAmong}
use Rattle.asl_def_schema.proofs.Canons.{picked-canon, plain_kept}
use Rattle.asl_def_schema.proofs.Inside.{clean, fits_at, object_inside}
use Rattle.asl_def_schema.proofs.Required.{retrier_errors}
use Rattle.asl_def_schema.proofs.Kept.{unfit}
use Rattle.asl_def_fields.specs.declared.retry.Retrier.{Retrier}
use Rattle.asl_def_fields.specs.Shown.{retrier_object, names_shown, jitter_shown}

fits_in : (d : Data) (k : List ℕ) → IsClean sort.Retrier d → Fits (sort_at (shape_of sort.Retrier None) k) (value_in k d)
fits_in null k c = tt
fits_in (boolean b) k c = tt
fits_in (number n) k c = tt
fits_in (text t) k c = tt
fits_in (list ds) k c = tt
fits_in (dict ms) k c = fits_at c.names (shape_in sort.Retrier ms) ms k (object_inside c.names sort.Retrier ms refl c.is)

pub comment_fits : (d : Data) → IsClean sort.Retrier d → Fits sort.Text (value_in (codes "Comment") d)
unfolding retrier_rows
comment_fits d c = fits_in d (codes "Comment") c

pub interval_fits : (d : Data) → IsClean sort.Retrier d → Fits sort.FromOne (value_in (codes "IntervalSeconds") d)
unfolding retrier_rows
interval_fits d c = fits_in d (codes "IntervalSeconds") c

pub attempts_fit : (d : Data) → IsClean sort.Retrier d → Fits sort.FromZero (value_in (codes "MaxAttempts") d)
unfolding retrier_rows
attempts_fit d c = fits_in d (codes "MaxAttempts") c

pub backoff_fits : (d : Data) → IsClean sort.Retrier d → Fits sort.Rate (value_in (codes "BackoffRate") d)
unfolding retrier_rows
backoff_fits d c = fits_in d (codes "BackoffRate") c

pub limit_fits : (d : Data) → IsClean sort.Retrier d → Fits sort.DelayLimit (value_in (codes "MaxDelaySeconds") d)
unfolding retrier_rows
limit_fits d c = fits_in d (codes "MaxDelaySeconds") c

pub jitter_fits : (d : Data) → IsClean sort.Retrier d → Fits sort.Jitter (value_in (codes "JitterStrategy") d)
unfolding retrier_rows
jitter_fits d c = fits_in d (codes "JitterStrategy") c

is_there : (names : List ℕ → Bool) (s : Sort) (o : Option Data) → IsThereAmong names s o → IsThere s o
is_there names s None h = h
is_there names s (Some d) h = clean h

pub errors_there : (d : Data) → IsClean sort.Retrier d → IsThere sort.ErrorNames (value_in (codes "ErrorEquals") d)
errors_there null c = unfit sort.Retrier null c refl
errors_there (boolean b) c = unfit sort.Retrier (boolean b) c refl
errors_there (number n) c = unfit sort.Retrier (number n) c refl
errors_there (text t) c = unfit sort.Retrier (text t) c refl
errors_there (list ds) c = unfit sort.Retrier (list ds) c refl
errors_there (dict ms) c = is_there c.names sort.ErrorNames (value_at (codes "ErrorEquals") ms) (retrier_errors c.names (kind_named (value_at (codes "Type") ms)) ms (object_inside c.names sort.Retrier ms refl c.is))

pub not_none : (s : Sort) (o : Option Data) → None ≡ o → IsThere s o → ⊥
not_none s o e h = subst (IsThere s) (sym e) h

pub value_there : (s : Sort) (o : Option Data) (d : Data) → Some d ≡ o → IsThere s o → IsClean s d
value_there s o d e h = subst (IsThere s) (sym e) h

canon_members_are : (ms : Pairs) → canon sort.Retrier (dict ms) ≡ dict (pairs (picked_at (shape_in sort.Retrier ms) retrier_rows ms))
canon_members_are ms = ap (λ (xs : List Named). dict (pairs xs)) (picked-canon (shape_in sort.Retrier ms) retrier_rows ms)

object_shows : (ms : Pairs) (r : Retrier) → option_map text r.comment ≡ value_at (codes "Comment") ms → Some (names_shown r.errors) ≡ value_at (codes "ErrorEquals") ms → option_map number r.interval ≡ value_at (codes "IntervalSeconds") ms → option_map number r.attempts ≡ value_at (codes "MaxAttempts") ms → option_map number r.rate ≡ value_at (codes "BackoffRate") ms → option_map number r.delay_limit ≡ value_at (codes "MaxDelaySeconds") ms → option_map jitter_shown r.jitter ≡ value_at (codes "JitterStrategy") ms → retrier_object r ≡ dict (pairs (picked_at (shape_of sort.Retrier None) retrier_rows ms))
unfolding retrier_rows
object_shows ms r e1 e2 e3 e4 e5 e6 e7 =
    let p1 = e1 ∙ sym (plain_kept (codes "Comment") sort.Text ms refl refl) in
    let p2 = e2 ∙ sym (plain_kept (codes "ErrorEquals") sort.ErrorNames ms refl refl) in
    let p3 = e3 ∙ sym (plain_kept (codes "IntervalSeconds") sort.FromOne ms refl refl) in
    let p4 = e4 ∙ sym (plain_kept (codes "MaxAttempts") sort.FromZero ms refl refl) in
    let p5 = e5 ∙ sym (plain_kept (codes "BackoffRate") sort.Rate ms refl refl) in
    let p6 = e6 ∙ sym (plain_kept (codes "MaxDelaySeconds") sort.DelayLimit ms refl refl) in
    let p7 = e7 ∙ sym (plain_kept (codes "JitterStrategy") sort.Jitter ms refl refl) in
    λ i. dict (pairs (opt (codes "Comment") (p1 i) ++ (opt (codes "ErrorEquals") (p2 i) ++ (opt (codes "IntervalSeconds") (p3 i) ++ (opt (codes "MaxAttempts") (p4 i) ++ (opt (codes "BackoffRate") (p5 i) ++ (opt (codes "MaxDelaySeconds") (p6 i) ++ (opt (codes "JitterStrategy") (p7 i) ++ []))))))))

pub retrier_shows : (d : Data) (r : Retrier) → IsClean sort.Retrier d → option_map text r.comment ≡ value_in (codes "Comment") d → Some (names_shown r.errors) ≡ value_in (codes "ErrorEquals") d → option_map number r.interval ≡ value_in (codes "IntervalSeconds") d → option_map number r.attempts ≡ value_in (codes "MaxAttempts") d → option_map number r.rate ≡ value_in (codes "BackoffRate") d → option_map number r.delay_limit ≡ value_in (codes "MaxDelaySeconds") d → option_map jitter_shown r.jitter ≡ value_in (codes "JitterStrategy") d → retrier_object r ≡ canon sort.Retrier d
retrier_shows (dict ms) r c e1 e2 e3 e4 e5 e6 e7 = object_shows ms r e1 e2 e3 e4 e5 e6 e7 ∙ sym (canon_members_are ms)
retrier_shows null r c e1 e2 e3 e4 e5 e6 e7 = absurd (unfit sort.Retrier null c refl)
retrier_shows (boolean b) r c e1 e2 e3 e4 e5 e6 e7 = absurd (unfit sort.Retrier (boolean b) c refl)
retrier_shows (number n) r c e1 e2 e3 e4 e5 e6 e7 = absurd (unfit sort.Retrier (number n) c refl)
retrier_shows (text t) r c e1 e2 e3 e4 e5 e6 e7 = absurd (unfit sort.Retrier (text t) c refl)
retrier_shows (list ds) r c e1 e2 e3 e4 e5 e6 e7 = absurd (unfit sort.Retrier (list ds) c refl)
