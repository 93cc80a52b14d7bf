use Rattle.std.proofs.Common.{◌≡◌, ◌∙◌, ap, sym}
use Rattle.asl_mock.specs.Tables.{named}
use Rattle.asl_mock.specs.Equal.{case_equal}
use Rattle.asl_mock.specs.private.Shared.{shared_states}
use Rattle.asl_mock.proofs.Equals.{entries_equal, says_same}
use Rattle.asl_mock.proofs.case.CasePartialEq.eq.Goals as goal

pub returns-in-Some-states-clause-equal : goal.returns-in-Some-states-clause-equal
returns-in-Some-states-clause-equal c =
    let left : named c.as_slice.result ≡ c.args.self.now = ap named c.as_slice.ensures.entries ∙ ap (λ m. named m.entries) c.deref.ensures ∙ ap shared_states (sym c.in-Some.is) ∙ c.self.view_is in
    let right : named c.as_slice-in-Some-states.result ≡ c.args.other.now = ap named c.as_slice-in-Some-states.ensures.entries ∙ ap (λ m. named m.entries) c.deref-in-Some-states.ensures ∙ ap shared_states (sym c.in-Some-states.is) ∙ c.other.view_is in
    c.eq.ensures ∙ entries_equal c.as_slice.result c.as_slice-in-Some-states.result ∙ (λ i. case_equal (left i) (right i))

pub returns-in-Some-states-clause-same : goal.returns-in-Some-states-clause-same
returns-in-Some-states-clause-same c = says_same c.eq.result c.args.self.now c.args.other.now (returns-in-Some-states-clause-equal c)
