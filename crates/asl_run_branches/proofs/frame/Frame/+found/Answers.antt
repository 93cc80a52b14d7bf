use Rattle.std.proofs.Common.{arith, length, sym, ap, ◌∙◌, None, Some}
use Rattle.std.specs.Option.{option_copied}
use Rattle.asl_run_branches.specs.Trees.{Held}
use Rattle.asl_run_branches.proofs.Reading.{get-is, record-by, children-by, some-weaker}
use Rattle.asl_run_branches.proofs.frame.Frame.+found.Goals as goal

pub returns-in_default-clause-record : goal.returns-in_default-clause-record
returns-in_default-clause-record t c =
    let h : Held = record { place = c.self.inside.place; current = c.self.inside.held; at = c.self.inside.at; under = c.self.inside.under } in
    let g = get-is c.deref.result.now c.self.inside.children.items c.in-Some.number (option_copied c.child_of.result) None c.deref.ensures.value c.child_of.ensures (ap option_copied c.in_default.is) in
    sym (record-by c.args.self.now h c.self.inside.children.items c.args.place.now c.in-Some.number c.in-Some.deeper.now None c.self.view_is c.in-Some.ensures.some g)

pub found-requires : goal.found-requires
found-requires t c = let e = ap length c.in-Some.ensures.some in (omega arith, tt)

pub returns-in-Some-child_of-clause-record : goal.returns-in-Some-child_of-clause-record
returns-in-Some-child_of-clause-record t c =
    let h : Held = record { place = c.self.inside.place; current = c.self.inside.held; at = c.self.inside.at; under = c.self.inside.under } in
    let k = c.in-Some-child_of.child.now in
    let g = get-is c.deref.result.now c.self.inside.children.items c.in-Some.number (option_copied c.child_of.result) (Some k) c.deref.ensures.value c.child_of.ensures (ap option_copied c.in-Some-child_of.is) in
    c.found.ensures.record ∙ sym (record-by c.args.self.now h c.self.inside.children.items c.args.place.now c.in-Some.number c.in-Some.deeper.now (Some k) c.self.view_is c.in-Some.ensures.some g)

pub returns-in-Some-child_of-clause-children : goal.returns-in-Some-child_of-clause-children
returns-in-Some-child_of-clause-children t c =
    let h : Held = record { place = c.self.inside.place; current = c.self.inside.held; at = c.self.inside.at; under = c.self.inside.under } in
    let k = c.in-Some-child_of.child.now in
    let g = get-is c.deref.result.now c.self.inside.children.items c.in-Some.number (option_copied c.child_of.result) (Some k) c.deref.ensures.value c.child_of.ensures (ap option_copied c.in-Some-child_of.is) in
    let e = sym (children-by c.args.self.now h c.self.inside.children.items c.args.place.now c.in-Some.number c.in-Some.deeper.now (Some k) c.self.view_is c.in-Some.ensures.some g) in
    some-weaker c.found.result _ _ (λ f i. i ∙ e) c.found.ensures.children
