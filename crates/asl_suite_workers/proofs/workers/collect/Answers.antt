use Rattle.std.proofs.Common.{◌<◌, length, arith, rules}
use Rattle.asl_suite_workers.specs.Cases.{IsRun}
use Rattle.asl_suite_workers.proofs.Found.{earlier_reports, taken, left_behind, one_more}
use Rattle.asl_suite_workers.proofs.workers.collect.Goals as goal

pub returns-in-Err : goal.returns-in-Err
returns-in-Err g c = record {
  case = omega (arith, c.len-case-end.ensures);
  failed = (c.in-Err.field-0, c.in-Err.ensures);
  earlier = earlier_reports (IsRun g.G.Gate.began g.G.Gate.ended (g.S.Cases.gives c.args.suite.now)) c.cases.reports.items c.cases.case
      c.cases.invariant.len c.cases.invariant.each;
}

pub outcome_of-requires-clause-found : goal.outcome_of-requires-clause-found
outcome_of-requires-clause-found g c =
    let fs = c.cases.found.items in
    let lt : c.cases.case < length fs = search rules in
    taken (IsRun g.G.Gate.began g.G.Gate.ended (g.S.Cases.gives c.args.suite.now)) fs c.cases.case c.take_at.result c.cases.invariant.found lt c.take_at.ensures.value

pub cases-preserved : goal.cases-preserved
cases-preserved g c =
    let fs = c.cases.found.items in
    let lt : c.cases.case < length fs = search rules in
    record {
      len = search rules;
      room = search rules;
      each = one_more (IsRun g.G.Gate.began g.G.Gate.ended (g.S.Cases.gives c.args.suite.now)) c.cases.reports.items c.push_reserved.new.self.items c.cases.case c.in-Ok.report c.push_reserved.ensures.items c.cases.invariant.len c.in-Ok.ensures c.cases.invariant.each;
      count = search rules;
      found = left_behind (IsRun g.G.Gate.began g.G.Gate.ended (g.S.Cases.gives c.args.suite.now)) fs c.take_at.new.list.items c.cases.case c.take_at.ensures.items lt c.cases.invariant.found;
    }
