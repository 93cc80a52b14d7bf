use Rattle.std.proofs.Common.{true, false, ◌≡◌, sym, ap, ◌∙◌, refl, None, Some, take}
use Rattle.std.specs.Option.{option_copied}
use Rattle.std.specs.Prelude.{nat_le}
use Rattle.asl_run_branches.specs.Branches.{undone_in}
use Rattle.asl_run_branches.specs.Trees.{Held, count_undone}
use Rattle.asl_run_branches.proofs.Reading.{get-is}
use Rattle.asl_run_branches.proofs.Iterating.{no-more, elders-root, elders-here, elders-by, none-left}
use Rattle.asl_run_branches.proofs.frame.Frame.+crowds.Goals as goal

pub returns-in_default : goal.returns-in_default
returns-in_default t c = none-left c.args.slots _ (elders-root c.args.self.now c.args.place.now (c.in_default.ensures.none refl))

pub returns-then-is_empty : goal.returns-then-is_empty
returns-then-is_empty t c =
    let h : Held = record { place = c.self.inside.place; current = c.self.inside.held; at = c.self.inside.at; under = c.self.inside.under } in
    let e = elders-here c.args.self.now h c.self.inside.children.items c.args.place.now c.in-Some.number c.in-Some.deeper.now c.self.view_is c.in-Some.ensures.some (no-more c.in-Some.deeper.now (sym c.is_empty.ensures ∙ c.if-is_empty.true)) in
    ap (nat_le c.args.slots) (c.undone_before.ensures ∙ ap (λ ks. count_undone (take c.in-Some.number ks)) c.deref.ensures.value ∙ sym e)

pub returns-in_default-child_of : goal.returns-in_default-child_of
returns-in_default-child_of t c =
    let h : Held = record { place = c.self.inside.place; current = c.self.inside.held; at = c.self.inside.at; under = c.self.inside.under } in
    let g = get-is c.deref-2.result.now c.self.inside.children.items c.in-Some.number (option_copied c.child_of.result) None c.deref-2.ensures.value c.child_of.ensures (ap option_copied c.in_default-child_of.is) in
    none-left c.args.slots _ (ap undone_in (elders-by c.args.self.now h c.self.inside.children.items c.args.place.now c.in-Some.number c.in-Some.deeper.now None c.self.view_is c.in-Some.ensures.some (λ e. let x = rw e at c.is_empty.ensures in let y : true ≡ false = sym x ∙ c.if-is_empty.false in (cc)) g))

pub returns : goal.returns
returns t c =
    let h : Held = record { place = c.self.inside.place; current = c.self.inside.held; at = c.self.inside.at; under = c.self.inside.under } in
    let k = c.in-Some-child_of.child.now in
    let g = get-is c.deref-2.result.now c.self.inside.children.items c.in-Some.number (option_copied c.child_of.result) (Some k) c.deref-2.ensures.value c.child_of.ensures (ap option_copied c.in-Some-child_of.is) in
    c.crowds.ensures ∙ ap (λ rs. nat_le c.args.slots (undone_in rs)) (sym (elders-by c.args.self.now h c.self.inside.children.items c.args.place.now c.in-Some.number c.in-Some.deeper.now (Some k) c.self.view_is c.in-Some.ensures.some (λ e. let x = rw e at c.is_empty.ensures in let y : true ≡ false = sym x ∙ c.if-is_empty.false in (cc)) g))
