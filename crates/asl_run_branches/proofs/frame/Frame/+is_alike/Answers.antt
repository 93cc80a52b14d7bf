use Rattle.std.proofs.Common.{◌≡◌, ◌<◌, ◌∙◌, ap, sym, arith, length}
use Rattle.asl_run_branches.specs.Trees.{Held, branches_of}
use Rattle.asl_run_branches.proofs.Likening.{alike-more, alike-all}
use Rattle.asl_run_branches.proofs.Sameness.{record_eq, unless, record-one}
use Rattle.asl_run_branches.proofs.frame.Frame.+is_alike.Goals as goal

pub loop-number-preserved : goal.loop-number-preserved
loop-number-preserved t c =
    let ks = c.self.inside.children.items in
    let ms = c.other.inside.children.items in
    let i = c.loop-number.number in
    let lk : i < length ks = omega (arith, c.self.inside.children.ok.0, c.loop-number-test.true, c.len-number-end.ensures) in
    let lm : i < length ms = omega (arith, c.other.inside.children.ok.0, c.loop-number-test.true, c.len-number-end.ensures, c.len.ensures, c.len-2.ensures, c.if-len.false) in
    alike-more ks ms i c.index.result.now c.index-in-loop-number.result.now c.index.ensures c.index-in-loop-number.ensures lk lm (ap branches_of (sym c.get-child.ensures) ∙ c.is_alike.ensures c.if-not-is_alike.false ∙ ap branches_of c.get.ensures) c.loop-number.invariant

pub returns : goal.returns
returns t c e =
    let h : Held = record { place = c.self.inside.place; current = c.self.inside.held; at = c.self.inside.at; under = c.self.inside.under } in
    let k : Held = record { place = c.other.inside.place; current = c.other.inside.held; at = c.other.inside.at; under = c.other.inside.under } in
    let ks = c.self.inside.children.items in
    let ms = c.other.inside.children.items in
    let n = c.loop-number.number in
    let lk : length ks ≡ n = omega (arith, c.self.inside.children.ok.0, c.loop-number-test.false, c.loop-number.auto.number-end, c.len-number-end.ensures) in
    let lm : length ms ≡ n = omega (arith, c.other.inside.children.ok.0, c.loop-number-test.false, c.loop-number.auto.number-end, c.len-number-end.ensures, c.len.ensures, c.len-2.ensures, c.if-len.false) in
    let same = record-one h.current k.current (unless (record_eq h.current k.current) (sym c.if-ne.false ∙ c.ne.ensures)) in
    alike-all c.args.self.now c.args.other.now h k ks ms n c.self.view_is c.other.view_is same lk lm c.loop-number.invariant
