-- The type of a state without faults.
use Rattle.std.proofs.Common.{◌≡◌, ℕ, List, Bool, true, false, refl, sym, ap, ◌∙◌, subst}
use Rattle.std.specs.Prelude.{Option, Some, None, codes, if◌then◌else◌}
use Rattle.std.specs.Cmp.Lexicographic.{same_text}
use Rattle.asl_json_data.specs.Data.{Data, null, boolean, number, text, list, dict, Pairs}
use Rattle.asl_json.specs.Same.{bytes_eq}
use Rattle.asl_json.specs.Meaning.{value_at}
use Rattle.asl_def_schema.specs.declared.sort.Sort.TheVariants as sort
use Rattle.asl_def_schema.specs.declared.sort.Kind.{Kind}
use Rattle.asl_def_schema.specs.declared.sort.Kind.TheVariants as kind
use Rattle.asl_def_schema.specs.Members.{kind_of, kind_named, state_shape, untyped_rows}
use Rattle.asl_def_schema.specs.Canon.{kind_text}
use Rattle.asl_def_schema.specs.Clean.{IsCleanAmong, IsCleanInside, IsThereAmong}
use Rattle.asl_def_schema.proofs.Inside.{object_inside, there_at}

pub state_inside : (names : List ℕ → Bool) (ms : Pairs) → IsCleanAmong names sort.State (dict ms) → IsCleanInside names (state_shape (kind_named (value_at (codes "Type") ms))) ms
state_inside names ms c =
    let inside = object_inside names sort.State ms refl c in
    record { spot = inside.spot; named = inside.named; groups = inside.groups; members = inside.members; rows = inside.rows }

known : (names : List ℕ → Bool) (o : Option Data) → IsThereAmong names sort.KindName o → kind_named o ≡ None → ⊥
known names None h e = h
known names (Some null) h e = absurd (let x = h.hold.1.0 in cc)
known names (Some (boolean b)) h e = absurd (let x = h.hold.1.0 in cc)
known names (Some (number n)) h e = absurd (let x = h.hold.1.0 in cc)
known names (Some (list ds)) h e = absurd (let x = h.hold.1.0 in cc)
known names (Some (dict ms)) h e = absurd (let x = h.hold.1.0 in cc)
known names (Some (text t)) h e = absurd (let x = h.hold.1.1.0 in let y = rw e at x in cc)

unknown_inside : (names : List ℕ → Bool) (ms : Pairs) → IsCleanInside names (state_shape None) ms → IsThereAmong names sort.KindName (value_at (codes "Type") ms)
unfolding untyped_rows
unknown_inside names ms c = there_at names (state_shape None) ms (codes "Type") refl c

-- it is known
pub type_known : (names : List ℕ → Bool) (ms : Pairs) → IsCleanAmong names sort.State (dict ms) → kind_named (value_at (codes "Type") ms) ≡ None → ⊥
type_known names ms c e = known names (value_at (codes "Type") ms) (unknown_inside names ms (subst (λ (o : Option Kind). IsCleanInside names (state_shape o) ms) e (state_inside names ms c))) e

pub kind_inside : (names : List ℕ → Bool) (ms : Pairs) (k : Kind) → IsCleanAmong names sort.State (dict ms) → kind_named (value_at (codes "Type") ms) ≡ Some k → IsCleanInside names (state_shape (Some k)) ms
kind_inside names ms k c e = subst (λ (o : Option Kind). IsCleanInside names (state_shape o) ms) e (state_inside names ms c)

-- the text of the type

named_so : (b : Bool) (j k : Kind) (rest : Option Kind) (t : List ℕ) → bytes_eq t (kind_text j) ≡ b → (if b then Some j else rest) ≡ Some k → (rest ≡ Some k → t ≡ kind_text k) → t ≡ kind_text k
named_so true j k rest t e h more =
    let same : j ≡ k = cc in
    same_text t (kind_text j) (sym e) ∙ ap kind_text same
named_so false j k rest t e h more = more h

of_kind : (t : List ℕ) (k : Kind) → kind_of t ≡ Some k → t ≡ kind_text k
of_kind t k e =
    named_so (bytes_eq t (codes "Task")) kind.Task k _ t refl e (λ e.
    named_so (bytes_eq t (codes "Pass")) kind.Pass k _ t refl e (λ e.
    named_so (bytes_eq t (codes "Choice")) kind.Choice k _ t refl e (λ e.
    named_so (bytes_eq t (codes "Wait")) kind.Wait k _ t refl e (λ e.
    named_so (bytes_eq t (codes "Parallel")) kind.Parallel k _ t refl e (λ e.
    named_so (bytes_eq t (codes "Map")) kind.Map k _ t refl e (λ e.
    named_so (bytes_eq t (codes "Succeed")) kind.Succeed k _ t refl e (λ e.
    named_so (bytes_eq t (codes "Fail")) kind.Fail k None t refl e (λ e. absurd cc))))))))

pub type_is : (o : Option Data) (k : Kind) → kind_named o ≡ Some k → o ≡ Some (text (kind_text k))
type_is (Some (text t)) k e = ap (λ (x : List ℕ). Some (text x)) (of_kind t k e)
type_is x k e = absurd cc
