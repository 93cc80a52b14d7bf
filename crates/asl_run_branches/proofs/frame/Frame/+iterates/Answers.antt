use Rattle.std.proofs.Common.{arith, length, sym, ap, ◌∙◌, refl, None, Some}
use Rattle.std.specs.Option.{option_copied}
use Rattle.asl_run_branches.specs.Trees.{Held}
use Rattle.asl_run_branches.proofs.Reading.{get-is}
use Rattle.asl_run_branches.proofs.Iterating.{iteration-root, iteration-by, or-maps, both}
use Rattle.asl_run_branches.proofs.frame.Frame.+iterates.Goals as goal

pub returns-in_default : goal.returns-in_default
returns-in_default t c = sym (iteration-root c.args.self.now c.args.place.now (c.in_default.ensures.none refl))

pub iterates-requires : goal.iterates-requires
iterates-requires t c = let e = ap length c.in-Some.ensures.some in (omega arith, tt)

pub returns-in_default-child_of : goal.returns-in_default-child_of
returns-in_default-child_of t c =
    let h : Held = record { place = c.self.inside.place; current = c.self.inside.held; at = c.self.inside.at; under = c.self.inside.under } in
    let g = get-is c.deref.result.now c.self.inside.children.items c.in-Some.number (option_copied c.child_of.result) None c.deref.ensures.value c.child_of.ensures (ap option_copied c.in_default-child_of.is) in
    c.item_of-own.ensures c.in-Some.deeper.now ∙ sym (iteration-by c.args.self.now h c.self.inside.children.items c.args.place.now c.in-Some.number c.in-Some.deeper.now None c.self.view_is c.in-Some.ensures.some g)

pub returns : goal.returns
returns t c =
    let h : Held = record { place = c.self.inside.place; current = c.self.inside.held; at = c.self.inside.at; under = c.self.inside.under } in
    let k = c.in-Some-child_of.child.now in
    let g = get-is c.deref.result.now c.self.inside.children.items c.in-Some.number (option_copied c.child_of.result) (Some k) c.deref.ensures.value c.child_of.ensures (ap option_copied c.in-Some-child_of.is) in
    let own = c.item_of-own.ensures c.in-Some.deeper.now in
    let e = iteration-by c.args.self.now h c.self.inside.children.items c.args.place.now c.in-Some.number c.in-Some.deeper.now (Some k) c.self.view_is c.in-Some.ensures.some g in
    rw c.or.ensures (or-maps _ c.iterates.result c.item_of-own.result ∙ both c.iterates.ensures own ∙ sym e)
