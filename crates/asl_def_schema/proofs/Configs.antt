-- A ProcessorConfig without faults has at most a Mode.
use Rattle.std.proofs.Common.{◌≡◌, ℕ, suc, List, [], ◌∷◌, ◌++◌, Bool, true, false, refl, sym, ap, ◌∙◌, subst}
use Rattle.std.specs.Prelude.{None, map, codes, if◌then◌else◌}
use Rattle.std.specs.Cmp.Lexicographic.{same_text}
use Rattle.asl_json_data.specs.Data.{Data, dict, Pairs, no_members, member, pairs}
use Rattle.asl_json.specs.Same.{bytes_eq}
use Rattle.asl_json.specs.Meaning.{value_at}
use Rattle.asl_json_data.specs.Distinct.{Members, has_key, AreDistinct}
use Rattle.asl_def_schema.specs.declared.sort.Sort.{Sort}
use Rattle.asl_def_schema.specs.declared.sort.Sort.TheVariants as sort
use Rattle.asl_def_schema.specs.Members.{Shape, shape_of, sort_at, is_among, unsupported_names, processor_config_rows}
use Rattle.asl_def_schema.specs.Claims.{Spot, step, under, claims, at_member, member_claims}
use Rattle.asl_def_schema.specs.First.{Each, Hold}
use Rattle.asl_def_schema.specs.Canon.{opt}
use Rattle.asl_def_schema.specs.Clean.{IsClean, Fits}
use Rattle.asl_def_schema.proofs.Inside.{each_left, each_right, each_under, own_hold, object_inside, fits_at}

abbrev config_shape : Shape
config_shape = shape_of sort.ProcessorConfig None

abbrev AreModes : Members → Type 0
AreModes [] = Unit {0}
AreModes (m ∷ ms) = (m.0 ≡ codes "Mode") × AreModes ms

refused : (p : Spot) (b : Bool) (d : Data) → Each Hold (claims p (if b then sort.Unsupported else sort.Unknown) d) → ⊥
refused p true d h = absurd (let x = (own_hold p sort.Unsupported d h).1.0 in cc)
refused p false d h = (own_hold p sort.Unknown d h).1.0

is_mode : (p : Spot) (k : List ℕ) (d : Data) → Each Hold (claims p (sort_at config_shape k) d) → k ≡ codes "Mode"
unfolding processor_config_rows
is_mode p k d h = by (bytes_eq k (codes "Mode")) refl
  where
    by : (b : Bool) → bytes_eq k (codes "Mode") ≡ b → k ≡ codes "Mode"
    by true e = same_text k (codes "Mode") (sym e)
    by false e = absurd (refused p (is_among k unsupported_names) d (rw e at h))

are_modes : (p : Spot) (seen : Members) (i : ℕ) (ms : Members) → Each Hold (member_claims p config_shape seen i (pairs ms)) → AreModes ms
are_modes p seen i [] h = tt
are_modes p seen i (m ∷ ms) h =
    let spot = at_member p config_shape seen m.0 m.1 in
    let part = map (under (step i m.0)) (claims spot (sort_at config_shape m.0) m.1) in
    let rest = member_claims p config_shape (seen ++ m ∷ []) (suc i) (pairs ms) in
    (is_mode spot m.0 m.1 (each_under (step i m.0) (claims spot (sort_at config_shape m.0) m.1) (each_left Hold part rest h)), are_modes p (seen ++ m ∷ []) (suc i) ms (each_right Hold part rest h))

one_mode : (ms : Members) → AreDistinct [] ms → AreModes ms → opt (codes "Mode") (value_at (codes "Mode") (pairs ms)) ++ [] ≡ ms
one_mode [] distinct all = refl
one_mode (m ∷ []) distinct all = subst (λ (k : List ℕ). opt (codes "Mode") (value_at (codes "Mode") (member k m.1 no_members)) ++ [] ≡ (k, m.1) ∷ []) (sym all.0) refl
one_mode (m ∷ (n ∷ ms)) distinct all = absurd (let same : n.0 ≡ m.0 = all.1.0 ∙ sym all.0 in let e : has_key (codes "Mode") ((codes "Mode", m.1) ∷ []) ≡ false = subst (λ (k : List ℕ). has_key k ((codes "Mode", m.1) ∷ []) ≡ false) all.1.0 (subst (λ (k : List ℕ). has_key n.0 ((k, m.1) ∷ []) ≡ false) all.0 distinct.1.0) in cc)

-- so it is shown by its Mode
pub config_is : (ms : Members) → AreDistinct [] ms → IsClean sort.ProcessorConfig (dict (pairs ms)) → dict (pairs (opt (codes "Mode") (value_at (codes "Mode") (pairs ms)) ++ [])) ≡ dict (pairs ms)
config_is ms distinct c =
    let inside = object_inside c.names sort.ProcessorConfig (pairs ms) refl c.is in
    ap (λ (xs : Members). dict (pairs xs)) (one_mode ms distinct (are_modes inside.spot [] 0 ms inside.members))

pub config_mode : (ms : Pairs) → IsClean sort.ProcessorConfig (dict ms) → Fits sort.Mode (value_at (codes "Mode") ms)
unfolding processor_config_rows
config_mode ms c = fits_at c.names config_shape ms (codes "Mode") (object_inside c.names sort.ProcessorConfig ms refl c.is)
