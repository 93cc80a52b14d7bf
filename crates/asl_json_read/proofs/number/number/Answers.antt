use Rattle.std.proofs.Common.{take, sym, ◌∙◌}
use Rattle.std.proofs.lemmas.List.{take_rest}
use Rattle.asl_json_data.proofs.Figures.{number_utf8}
use Rattle.asl_json_scan.proofs.Fronts.{utf8_past}
use Rattle.asl_json_scan.proofs.Numbers.{front_over, front_fits}
use Rattle.asl_json_read.proofs.number.number.Goals as goal

pub returns-then-is_past-clause-run : goal.returns-then-is_past-clause-run
returns-then-is_past-clause-run c = λ st. front_over c.args.bytes.now c.in_ok-end.end st c.in_ok-end.ensures.found (sym c.is_past.ensures ∙ c.if-is_past.true)

pub as_text-text-requires : goal.as_text-text-requires
as_text-text-requires c = number_utf8 (take c.in_ok-end.end c.args.bytes.now) c.in_ok-end.ensures.found.number_is

pub returns-clause-run : goal.returns-clause-run
returns-clause-run c = λ st. rw (take_rest, c.of_number.ensures, c.as_text-text.ensures) (front_fits c.args.bytes.now c.in_ok-end.end st c.in_ok-end.ensures.found (sym c.is_past.ensures ∙ c.if-is_past.false))

pub returns-clause-utf8 : goal.returns-clause-utf8
returns-clause-utf8 c =
    let front = c.in_ok-end.ensures.found in
    let s = take c.in_ok-end.end c.args.bytes.now in
    rw take_rest (utf8_past c.args.bytes.now s c.in_ok-end.end c.requires.utf8 (number_utf8 s front.number_is) front.within (λ i. s))
