use Rattle.std.proofs.Common.{arith, length, sym, ap, ◌∙◌, refl, None, Some, max}
use Rattle.std.specs.Option.{option_copied}
use Rattle.std.specs.Prelude.{is_some}
use Rattle.asl_run_branches.specs.Trees.{Held, Family}
use Rattle.asl_run_branches.proofs.Reading.{get-is, record-by, latest-by, stopped-by, stopped-root, latest-root}
use Rattle.asl_run_branches.proofs.frame.Frame.+stands.Goals as goal

pub stands-requires : goal.stands-requires
stands-requires t c = let e = ap length c.in-Some.ensures.some in (omega arith, tt)

pub returns-in_default-clause-there : goal.returns-in_default-clause-there
returns-in_default-clause-there t c =
    let h : Held = record { place = c.self.inside.place; current = c.self.inside.held; at = c.self.inside.at; under = c.self.inside.under } in
    let g = get-is c.deref.result.now c.self.inside.children.items c.in-Some.number (option_copied c.child_of.result) None c.deref.ensures.value c.child_of.ensures (ap option_copied c.in_default.is) in
    ap is_some (sym (record-by c.args.self.now h c.self.inside.children.items c.args.place.now c.in-Some.number c.in-Some.deeper.now None c.self.view_is c.in-Some.ensures.some g))

pub returns-in_default-stands-clause-there : goal.returns-in_default-stands-clause-there
returns-in_default-stands-clause-there t c =
    let h : Held = record { place = c.self.inside.place; current = c.self.inside.held; at = c.self.inside.at; under = c.self.inside.under } in
    let k = c.in-Some-child_of.child.now in
    let g = get-is c.deref.result.now c.self.inside.children.items c.in-Some.number (option_copied c.child_of.result) (Some k) c.deref.ensures.value c.child_of.ensures (ap option_copied c.in-Some-child_of.is) in
    c.in_default-stands.ensures.there ∙ sym (ap is_some (record-by c.args.self.now h c.self.inside.children.items c.args.place.now c.in-Some.number c.in-Some.deeper.now (Some k) c.self.view_is c.in-Some.ensures.some g))

pub returns-in-None-clause-stopped : goal.returns-in-None-clause-stopped
returns-in-None-clause-stopped t c = sym (stopped-root c.args.self.now c.args.place.now (c.in-None.ensures.none refl))

pub returns-in-None-clause-previous : goal.returns-in-None-clause-previous
returns-in-None-clause-previous t c = ap (λ (z : Family). z.head.under) c.self.view_is ∙ sym (latest-root c.args.self.now c.args.place.now (c.in-None.ensures.none refl))

pub returns-in-Some-stands-clause-there : goal.returns-in-Some-stands-clause-there
returns-in-Some-stands-clause-there t c =
    let h : Held = record { place = c.self.inside.place; current = c.self.inside.held; at = c.self.inside.at; under = c.self.inside.under } in
    let k = c.in-Some-child_of.child.now in
    let g = get-is c.deref.result.now c.self.inside.children.items c.in-Some.number (option_copied c.child_of.result) (Some k) c.deref.ensures.value c.child_of.ensures (ap option_copied c.in-Some-child_of.is) in
    c.in-Some-stands.ensures.there ∙ sym (ap is_some (record-by c.args.self.now h c.self.inside.children.items c.args.place.now c.in-Some.number c.in-Some.deeper.now (Some k) c.self.view_is c.in-Some.ensures.some g))

pub returns-in-Some-stands-clause-stopped : goal.returns-in-Some-stands-clause-stopped
returns-in-Some-stands-clause-stopped t c =
    let h : Held = record { place = c.self.inside.place; current = c.self.inside.held; at = c.self.inside.at; under = c.self.inside.under } in
    let k = c.in-Some-child_of.child.now in
    let g = get-is c.deref.result.now c.self.inside.children.items c.in-Some.number (option_copied c.child_of.result) (Some k) c.deref.ensures.value c.child_of.ensures (ap option_copied c.in-Some-child_of.is) in
    let s = stopped-by c.args.self.now h c.self.inside.children.items c.args.place.now c.in-Some.number c.in-Some.deeper.now k c.self.view_is c.in-Some.ensures.some g in
    c.above.ensures.stopped ∙ rw (c.is_failed.ensures, c.held.ensures, c.self.invariant.counts.failed_is, c.in-Some-stands.ensures.stopped) refl ∙ sym s

pub returns-in-Some-stands-clause-previous : goal.returns-in-Some-stands-clause-previous
returns-in-Some-stands-clause-previous t c =
    let h : Held = record { place = c.self.inside.place; current = c.self.inside.held; at = c.self.inside.at; under = c.self.inside.under } in
    let k = c.in-Some-child_of.child.now in
    let g = get-is c.deref.result.now c.self.inside.children.items c.in-Some.number (option_copied c.child_of.result) (Some k) c.deref.ensures.value c.child_of.ensures (ap option_copied c.in-Some-child_of.is) in
    c.above.ensures.previous ∙ ap (max c.self.inside.at) c.in-Some-stands.ensures.previous ∙ sym (latest-by c.args.self.now h c.self.inside.children.items c.args.place.now c.in-Some.number c.in-Some.deeper.now (Some k) c.self.view_is c.in-Some.ensures.some g)
