use Rattle.std.proofs.Common.{◌≡◌, ◌<◌, ◌≤◌, ◌-◌, length, refl, arith}
use Rattle.asl_json_spans.proofs.Making.{node_closed, closed_past}
use Rattle.asl_json_spans.proofs.marking.close.Goals as goal

pub returns-then-number-count : goal.returns-then-number-count
returns-then-number-count c =
    let ns = c.args.nodes.now in
    let len = ns.ok in
    let lt : c.args.number < length ns.items = omega arith in
    let size : c.len-count.result - c.args.number ≡ length ns.items - c.args.number = omega arith in
    node_closed ns.items c.args.number c.index.result.now _ c.args.end _ lt c.index.ensures size refl

pub returns-else-number-count : goal.returns-else-number-count
returns-else-number-count c =
    let ns = c.args.nodes.now in
    let len = ns.ok in
    let le : length ns.items ≤ c.args.number = omega arith in
    closed_past ns.items c.args.number c.args.end le
