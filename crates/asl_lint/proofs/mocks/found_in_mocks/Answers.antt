use Rattle.std.proofs.Common.{List, [], ◌++◌, subst, ap, sym, ◌∙◌, Option, Bor, Vec, Global}
use Rattle.std.specs.Prelude.{map, option_map}
use Rattle.asl_json.specs.View.{data_of}
use Rattle.asl_json.specs.Access.{member_list}
use Rattle.asl_lint_messages.specs.States.{Stated}
use Rattle.asl_lint_messages.specs.declared.states.States.{States}
use Rattle.asl_lint.specs.declared.finding.Found.{Found}
use Rattle.asl_lint.specs.Mocks.{Keyed, keyed, mocks_told, own_told, beside_told}
use Rattle.asl_lint.specs.private.Founds.{Grows, noted}
use Rattle.asl_lint.proofs.Mocking.{grows_on}
use Rattle.asl_lint.proofs.mocks.found_in_mocks.Goals.{in-Some+in_ok-add_beside, in_default}
use Rattle.asl_lint.proofs.mocks.found_in_mocks.Goals as goal

pub returns : goal.returns
returns c =
    let d = data_of c.args.file.now in
    let ms = member_list d in
    let w = option_map (λ k. k.now) c.args.beside.machine in
    let front = map noted c.add_own.new.found.items in
    let own : Grows ms [] front (own_told d) = subst (λ (fs : List Found). Grows ms (map noted fs) front (own_told d)) c.new-found.ensures.items c.in_ok-add_own.ensures in
    let told : Vec Found Global → List Keyed = λ v. map (keyed ms) (map noted v.items) in
    let wanted : Option (Bor States) → List Keyed = λ o. mocks_told w (option_map (λ s. s.now.list.items) o) d in
    elim c.match-beside.branch [
      | in-Some+in_ok-add_beside b ↦
          ap told b.found-is
          ∙ grows_on ms [] front (map noted b.add_beside.new.found.items) (own_told d) (beside_told w b.deref.result.now d) own b.in_ok-add_beside.ensures
          ∙ ap (λ (ss : List Stated). own_told d ++ beside_told w ss d) b.deref.ensures.value
          ∙ sym (ap wanted b.in-Some.is)
      | in_default b ↦ ap told b.found-is ∙ own ∙ sym (ap wanted b.in_default.is)
    ]
