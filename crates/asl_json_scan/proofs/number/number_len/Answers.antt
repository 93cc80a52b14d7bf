use Rattle.std.proofs.Common.{sym, ◌∙◌}
use Rattle.std.proofs.lemmas.List.{take_rest}
use Rattle.asl_json_scan.proofs.Numbers.{front_found, front_breaks}
use Rattle.asl_json_scan.proofs.number.number_len.Goals as goal

pub returns-then-not-may_end-clause-broken : goal.returns-then-not-may_end-clause-broken
returns-then-not-may_end-clause-broken c = λ st.
    let front = c.longest_number-end.ensures in
    rw (c.syntax.ensures, take_rest) (front_breaks c.args.bytes.now c.longest_number-end.result.0 c.longest_number-end.result.1 st c.requires front.part front.stops (sym c.may_end.ensures ∙ c.if-not-may_end.true))

pub returns-clause-found : goal.returns-clause-found
returns-clause-found c =
    let front = c.longest_number-end.ensures in
    front_found c.args.bytes.now c.longest_number-end.result.0 c.longest_number-end.result.1 front.within front.part front.stops (sym c.may_end.ensures ∙ c.if-not-may_end.false)
