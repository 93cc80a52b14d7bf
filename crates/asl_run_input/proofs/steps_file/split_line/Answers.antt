use Rattle.std.proofs.Common.{rules, tests, ◌≡◌, arith}
use Rattle.std.proofs.lemmas.Iterator.{IsFirst-from_position, YieldsList-from_slice}
use Rattle.std.proofs.option.Match.{if_some, if_none}
use Rattle.asl_run_input.proofs.FileLines.{cut_line, whole_line}
use Rattle.asl_run_input.proofs.steps_file.split_line.Goals as goal

pub returns-in-Some-clause-lines : goal.returns-in-Some-clause-lines
returns-in-Some-clause-lines c =
    let first = if_some _ _ _ c.in-Some.is (IsFirst-from_position _ _ c.position.result (λ x. x ≡ 10) (λ x. x ≡ 10 → ⊥) c.position.ensures.ran (YieldsList-from_slice c.args.bytes.now cc) (λ x q k. search (rules, tests)) (λ x q k. search (rules, tests))) in
    cut_line c.args.bytes.now c.in-Some.end first.0 (first.1 0) (λ i l. first.2 i 0 (omega arith) l)

pub returns-in-None-clause-lines : goal.returns-in-None-clause-lines
returns-in-None-clause-lines c =
    let none = if_none _ _ c.in-None.is (IsFirst-from_position _ _ c.position.result (λ x. x ≡ 10) (λ x. x ≡ 10 → ⊥) c.position.ensures.ran (YieldsList-from_slice c.args.bytes.now cc) (λ x q k. search (rules, tests)) (λ x q k. search (rules, tests))) in
    whole_line c.args.bytes.now c.requires (λ i l. none i 0 (omega arith) l)
