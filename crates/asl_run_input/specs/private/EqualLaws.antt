-- Equality of setups says whether they are one.
use Rattle.std.specs.Prelude.{◌≡◌}
use Rattle.std.proofs.Common.{ap}
use Rattle.std.proofs.lemmas.Bool.Decides.{Decides-and}
use Rattle.std.specs.Bool.{Decides}
use Rattle.std.specs.Cmp.{IsPartialEquivalence, IsEquivalence, decided, partial_equiv_from_equiv, unsigned_Decides}
use Rattle.std.specs.Cmp.Lexicographic.{bytes_decides}
use Rattle.asl_json.specs.View.{data_of, same_json}
use Rattle.asl_json.specs.Same.{bytes_eq, equal, json_equal}
use Rattle.asl_json.specs.declared.value.Json.{Json}
use Rattle.asl_mock.specs.Equal.{case_equal}
use Rattle.asl_mock.specs.private.EqualLaws.{case_decides}
use Rattle.asl_def.specs.private.EqualLaws.{equal_decides}
use Rattle.asl_run_input.specs.declared.setup.Setup.{Setup}
use Rattle.asl_run_input.specs.Equal.{setup_equal}

json_decides : (v w : Json) → Decides (json_equal v w) (v ≡ w)
json_decides v w =
    let d = equal_decides (data_of v) (data_of w) in
    (λ e. same_json v w (d.0 e), λ e. d.1 (ap data_of e))

pub setup_decides : (a b : Setup) → Decides (setup_equal a b) (a ≡ b)
setup_decides a b =
    let d = Decides-and (equal a.machine b.machine) _ (equal_decides a.machine b.machine)
    (Decides-and (bytes_eq a.name_of_machine b.name_of_machine) _
    (bytes_decides a.name_of_machine b.name_of_machine)
    (Decides-and (case_equal a.case b.case) _ (case_decides a.case b.case)
    (Decides-and (json_equal a.input b.input) _ (json_decides a.input b.input)
    (Decides-and (bytes_eq a.name b.name) _ (bytes_decides a.name b.name)
    (unsigned_Decides a.start b.start))))) in (
      λ e. let p = d.0 e in λ i. record {
        machine = p.0 i;
        name_of_machine = p.1.0 i;
        case = p.1.1.0 i;
        input = p.1.1.1.0 i;
        name = p.1.1.1.1.0 i;
        start = p.1.1.1.1.1 i;
      },
      λ e. d.1 (
        ap (λ (s : Setup). s.machine) e,
        (
          ap (λ (s : Setup). s.name_of_machine) e,
          (
            ap (λ (s : Setup). s.case) e,
            (
              ap (λ (s : Setup). s.input) e,
              (ap (λ (s : Setup). s.name) e, ap (λ (s : Setup). s.start) e),
            ),
          ),
        ),
      ),
    )

pub setup_equivalence : IsEquivalence setup_equal
setup_equivalence = decided setup_equal setup_decides

pub setup_laws : IsPartialEquivalence setup_equal
setup_laws = partial_equiv_from_equiv setup_equivalence
