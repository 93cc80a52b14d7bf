-- Laws of the definitions.
use Rattle.std.specs.Prelude.{◌≡◌, ◌↔◌, ℕ, List, true, length, Some}
use Rattle.std.specs.List.{list_any}
use Rattle.asl_json_data.specs.Data.{Data}
use Rattle.asl_def_schema.specs.declared.sort.Sort.{Sort}
use Rattle.asl_handle.specs.Names.{is_for}
use Rattle.asl_lint_calls.specs.Failing.{AlwaysFails}
use Rattle.asl_lint_warnings.specs.declared.warning.WarningKind.TheVariants as kind
use Rattle.asl_lint_warnings.specs.Texts.{text_kind}
use Rattle.asl_lint_warnings.specs.Handlers.{names_in, has_text, is_unasked}
use Rattle.asl_lint_warnings.specs.Graphs.{joins}
use Rattle.asl_lint_warnings.specs.Ways.{Reaches}

-- a way through the nodes leads from a start to a node just where some edges do
abbrev pub WaysAreWalked : Type 0
WaysAreWalked =
    (es : List (List ℕ)) (starts : List ℕ) (j : ℕ)
    → (list_any (λ s. joins es (length es) s j) starts ≡ true ↔ Reaches es starts j)

-- behind handlers that list such names, a handler is for no error that none of them is for
abbrev pub UnaskedHandlersAreIdle : Type 0
UnaskedHandlersAreIdle =
    (before : List Data) (handler : Data) (error : List ℕ)
    → is_unasked (λ n. list_any (λ b. has_text n (names_in b)) before) handler ≡ true
    → is_for handler error ≡ true → list_any (λ b. is_for b error) before ≡ true

-- where `failing-call` is told of a text, its value is a fault on each input and each Context Object
abbrev pub ToldCallsFail : Type 0
ToldCallsFail = (s : Sort) (t : List ℕ) → text_kind s t ≡ Some kind.FailingCall → AlwaysFails t
