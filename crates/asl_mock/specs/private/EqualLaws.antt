-- Equality says whether two cases are one.
use Rattle.std.specs.Prelude.{◌≡◌, ℕ, List, Bool, true, false, ◌&&◌, Option, Some, None, nat_eq, refl}
use Rattle.std.proofs.Common.{ap, subst}
use Rattle.std.specs.Bool.{Decides}
use Rattle.std.specs.Option.{option_eq}
use Rattle.std.specs.Cmp.{IsPartialEquivalence, IsEquivalence, decided, partial_equiv_from_equiv, unsigned_Decides}
use Rattle.std.specs.Cmp.Lexicographic.{pointwise_decides, bytes_decides}
use Rattle.asl_json.specs.View.{data_of, same_json}
use Rattle.asl_json.specs.Same.{bytes_eq, json_equal}
use Rattle.asl_json.specs.private.SameLaws.{equal_true, equal_refl}
use Rattle.asl_json.specs.declared.value.Json.{Json}
use Rattle.asl_mock.specs.Tables.{Named}
use Rattle.asl_mock.specs.Answers.{Response, Case}
use Rattle.asl_mock.specs.Equal.{answer_equal, ranged_equal, response_equal, state_equal, case_equal}
use Rattle.asl_mock.specs.declared.response.Answer.{Answer}
use Rattle.asl_mock.specs.declared.response.Answer.TheVariants.{Returns, Throws}
use Rattle.asl_mock.specs.declared.response.Ranged.{Ranged}

both_decide : {P Q : Type 0} (s t : Bool) → Decides s P → Decides t Q → Decides (s && t) (P × Q)
both_decide true t p q = (λ e. (p.0 refl, q.0 e), λ h. q.1 h.1)
both_decide false t p q = (λ e. absurd (cc e), λ h. absurd (cc (p.1 h.0)))

json_decides : (v w : Json) → Decides (json_equal v w) (v ≡ w)
json_decides v w = (
  λ e. same_json v w (equal_true (data_of v) (data_of w) e),
  λ e. subst
      (λ (x : Json). json_equal v x ≡ true) e (equal_refl (data_of v)),
)

cause_decides : (a b : Option (List ℕ)) → Decides (option_eq bytes_eq a b) (a ≡ b)
cause_decides None None = (λ e. refl, λ e. refl)
cause_decides None (Some b) = (λ e. absurd (cc e), λ e. absurd (cc e))
cause_decides (Some a) None = (λ e. absurd (cc e), λ e. absurd (cc e))
cause_decides (Some a) (Some b) =
    (λ e. ap Some ((bytes_decides a b).0 e), λ e. (bytes_decides a b).1 (cc e))

pub answer_decides : (a b : Answer) → Decides (answer_equal a b) (a ≡ b)
answer_decides (Returns v) (Returns w) =
    (λ e. ap Returns ((json_decides v w).0 e), λ e. (json_decides v w).1 (cc e))
answer_decides (Returns v) (Throws f d) = (λ e. absurd (cc e), λ e. absurd (cc e))
answer_decides (Throws e c) (Returns w) = (λ h. absurd (cc h), λ h. absurd (cc h))
answer_decides (Throws e c) (Throws f d) =
    let parts : Decides (answer_equal (Throws e c) (Throws f d)) ((e ≡ f) × (c ≡ d)) =
    both_decide (bytes_eq e f) (option_eq bytes_eq c d) (bytes_decides e f) (cause_decides c d)
    in
    (λ h. λ i. Throws ((parts.0 h).0 i) ((parts.0 h).1 i), λ h. parts.1 (cc h, cc h))

pub ranged_decides : (a b : Ranged) → Decides (ranged_equal a b) (a ≡ b)
ranged_decides a b =
    let span : Decides (nat_eq a.span.low b.span.low && nat_eq a.span.high b.span.high)
    ((a.span.low ≡ b.span.low) × (a.span.high ≡ b.span.high)) = both_decide
    (nat_eq a.span.low b.span.low) (nat_eq a.span.high b.span.high)
    (unsigned_Decides a.span.low b.span.low) (unsigned_Decides a.span.high b.span.high) in
    let all : Decides (ranged_equal a b)
    (((a.span.low ≡ b.span.low) × (a.span.high ≡ b.span.high)) × (a.answer ≡ b.answer))
    = both_decide (nat_eq a.span.low b.span.low && nat_eq a.span.high b.span.high)
    (answer_equal a.answer b.answer) span (answer_decides a.answer b.answer) in (
      λ h. λ i. record {
        span = record { low = (all.0 h).0.0 i; high = (all.0 h).0.1 i };
        answer = (all.0 h).1
            i;
      },
      λ h. all.1 (
        (ap (λ (r : Ranged). r.span.low) h, ap (λ (r : Ranged). r.span.high) h),
        ap
            (λ (r : Ranged). r.answer) h,
      ),
    )

pub response_decides : (a b : Response) → Decides (response_equal a b) (a ≡ b)
response_decides = pointwise_decides ranged_decides

state_decides : (a b : Named Response) → Decides (state_equal a b) (a ≡ b)
state_decides a b =
    let parts : Decides (state_equal a b) ((a.0 ≡ b.0) × (a.1 ≡ b.1)) =
    both_decide (bytes_eq a.0 b.0) (response_equal a.1 b.1) (bytes_decides a.0 b.0)
    (response_decides a.1 b.1) in (
      λ h. λ i. ((parts.0 h).0 i, (parts.0 h).1 i),
      λ h. parts.1 (ap (λ (s : Named Response). s.0) h, ap (λ (s : Named Response). s.1) h),
    )

-- cases are equal exactly where they are one
pub case_decides : (a b : Case) → Decides (case_equal a b) (a ≡ b)
case_decides = pointwise_decides state_decides

pub answer_equivalence : IsEquivalence answer_equal
answer_equivalence = decided answer_equal answer_decides

pub ranged_equivalence : IsEquivalence ranged_equal
ranged_equivalence = decided ranged_equal ranged_decides

pub response_equivalence : IsEquivalence response_equal
response_equivalence = decided response_equal response_decides

pub case_equivalence : IsEquivalence case_equal
case_equivalence = decided case_equal case_decides

pub answer_laws : IsPartialEquivalence answer_equal
answer_laws = partial_equiv_from_equiv answer_equivalence

pub ranged_laws : IsPartialEquivalence ranged_equal
ranged_laws = partial_equiv_from_equiv ranged_equivalence

pub response_laws : IsPartialEquivalence response_equal
response_laws = partial_equiv_from_equiv response_equivalence

pub case_laws : IsPartialEquivalence case_equal
case_laws = partial_equiv_from_equiv case_equivalence
