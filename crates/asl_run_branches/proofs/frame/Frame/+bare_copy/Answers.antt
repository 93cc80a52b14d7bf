use Rattle.std.proofs.Common.{◌≡◌, ◌∙◌, ap, map, arith}
use Rattle.std.proofs.lemmas.List.{take_all}
use Rattle.asl_run_branches.specs.Trees.{Held}
use Rattle.asl_run_branches.specs.Bare.{bare_family}
use Rattle.asl_run_branches.proofs.Copying.{copied}
use Rattle.asl_run_branches.proofs.frame.Frame.+bare_copy.Goals as goal

pub returns : goal.returns
returns t c =
    let h : Held = record { place = c.self.inside.place; current = c.self.inside.held; at = c.self.inside.at; under = c.self.inside.under } in
    let items = c.deref-child-items.result.now in
    let kids : c.loop-child.children.items ≡ map bare_family c.self.inside.children.items =
    c.loop-child.invariant ∙ ap (map bare_family) (take_all c.loop-child.child-index items (omega (arith, c.loop-child-test.false)) ∙ c.deref-child-items.ensures.value) in
    rw (c.in_ok-place.ensures, c.in_ok-held.ensures, kids) (copied c.args.self.now h c.self.inside.children.items c.self.view_is)
