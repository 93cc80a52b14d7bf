-- Names that fit, as the code has them.
use Rattle.std.specs.Prelude.{ℕ, List, Bool}
use Rattle.std.specs.HashSet.{contains_text}
use Rattle.asl_lint_mocks.specs.declared.beside.NameFault.{NameFault}
use Rattle.asl_lint_mocks.specs.declared.beside.Known.{Known}
use Rattle.asl_lint_mocks.specs.Beside.{fits}

abbrev pub fitting : NameFault → Known → List ℕ → Bool
fitting s n k = fits s (contains_text n.states.now) (contains_text n.tasks.now) k
