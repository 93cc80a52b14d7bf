-- Calls that are told have no value.
use Rattle.std.proofs.Common.{◌≡◌, ℕ, List, Bool, true, false, cond, refl}
use Rattle.std.specs.Prelude.{Option, Some, None, is_some}
use Rattle.asl_def_schema.specs.declared.sort.Sort.{Sort}
use Rattle.asl_def_schema.specs.declared.sort.Sort.TheVariants as sort
use Rattle.asl_lint_calls.specs.declared.failure.Failure.{Failure}
use Rattle.asl_lint_calls.specs.Failing.{failing, AlwaysFails}
use Rattle.asl_lint_calls.proofs.Sounding.{always}
use Rattle.asl_lint_warnings.specs.declared.warning.WarningKind.{WarningKind}
use Rattle.asl_lint_warnings.specs.declared.warning.WarningKind.TheVariants as kind
use Rattle.asl_lint_warnings.specs.Kinds.{kind_if}
use Rattle.asl_lint_warnings.specs.Texts.{is_root, seems_computed, is_unknown_part, call_kind, computed_kind, text_kind}

other : (b : Bool) (k : WarningKind) → (k ≡ kind.FailingCall → ⊥) → kind_if b k ≡ Some kind.FailingCall → ⊥
other true k n h = n (cc)
other false k n h = cc

told : (o : Option Failure) (t : List ℕ) → failing t ≡ o → kind_if (is_some o) kind.FailingCall ≡ Some kind.FailingCall → AlwaysFails t
told (Some w) t e h = always t w e
told None t e h = absurd (cc)

computed : (b : Bool) (t : List ℕ) → cond b (Some kind.UnknownContextMember) (call_kind t) ≡ Some kind.FailingCall → AlwaysFails t
computed true t h = absurd (cc)
computed false t h = told (failing t) t refl h

pub fails : (s : Sort) (t : List ℕ) → text_kind s t ≡ Some kind.FailingCall → AlwaysFails t
fails sort.Template t h = absurd (other _ kind.ForgottenDollar (λ e. cc) h)
fails sort.Path t h = absurd (other _ kind.UnknownContextMember (λ e. cc) h)
fails sort.PathOrNull t h = absurd (other _ kind.UnknownContextMember (λ e. cc) h)
fails sort.PathOrCall t h = computed (is_unknown_part t) t h
fails sort.Computed t h = computed (is_unknown_part t) t h
fails s t h = absurd (cc)
