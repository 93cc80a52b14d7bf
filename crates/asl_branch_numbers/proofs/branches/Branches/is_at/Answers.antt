use Rattle.std.proofs.Common.{◌≡◌, ◌∙◌, sym, length}
use Rattle.std.proofs.lemmas.Bool.{ltb-true}
use Rattle.asl_run_branches.proofs.Linking.{same-eq}
use Rattle.asl_branch_numbers.proofs.AsNumbers.{at-number}
use Rattle.asl_branch_numbers.proofs.branches.Branches.is_at.Goals as goal

pub returns-in-Some : goal.returns-in-Some
returns-in-Some c t =
    let list = c.args.self.now.list.items in
    let look = rw c.deref.ensures.value at c.in-Some.ensures.lookup in
    at-number list c.args.number c.in-Some.one.now c.args.place.now (ltb-true c.args.number (length list) (sym look.0)) look.1
    (same-eq c.in-Some.one.now.place c.args.place.now (sym c.eq.ensures ∙ t))
