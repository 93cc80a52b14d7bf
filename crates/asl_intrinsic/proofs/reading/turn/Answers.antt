use Rattle.std.proofs.Common.{true, ◌<◌, ℕ, List, suc, length, reverse, subst, ◌∙◌, ap}
use Rattle.asl_intrinsic.specs.private.Steps.{opening, run}
use Rattle.asl_intrinsic.specs.Tree.{Frame}
use Rattle.asl_intrinsic.specs.private.Keeps.{KeepsOne, KeepsAll}
use Rattle.asl_intrinsic.proofs.Turns.{split, levels, opening_goes, opening_wants, wanting_goes, ended_goes, bracket_closes}
use Rattle.asl_intrinsic.proofs.reading.turn.Goals as goal

pub returns-in-Some-clause-hears : goal.returns-in-Some-clause-hears
returns-in-Some-clause-hears c = λ o h.
    let calls = c.args.reader.calls.items in
    let rest = c.skip_spaces-rest.result.now in
    let s = rw c.in-Opening.is at h.stands in
    let x = split h.st s.1 in
    let goes = opening_goes o h.mode c.args.reader.rest.now rest h.st s.0 c.skip_spaces-rest.ensures.skips h.leads in
    c.close.ensures.hears o x.0 x.1 (subst (KeepsAll (reverse calls)) x.2 h.keeps) (goes ∙ ap (λ (z : List Frame). run opening z rest) x.2 ∙ bracket_closes true rest c.in-Some.outside.now x.0 x.1 c.in-Some.ensures.found)

pub returns-in_default-clause-hears : goal.returns-in_default-clause-hears
returns-in_default-clause-hears c = λ o h.
    let rest = c.skip_spaces-rest.result.now in
    let s = rw c.in-Opening.is at h.stands in
    let goes = opening_goes o h.mode c.args.reader.rest.now rest h.st s.0 c.skip_spaces-rest.ensures.skips h.leads in
    c.argument.ensures.hears o h.st h.keeps (goes ∙ opening_wants rest h.st c.skip_spaces-rest.ensures.skips.stops c.in_default.ensures.none)

pub returns-in-Wanting-clause-hears : goal.returns-in-Wanting-clause-hears
returns-in-Wanting-clause-hears c = λ o h.
    let s = rw c.in-Wanting.is at h.stands in
    c.argument-in-Wanting.ensures.hears o h.st h.keeps (wanting_goes o h.mode c.args.reader.rest.now c.skip_spaces-rest.result.now h.st s.0 c.skip_spaces-rest.ensures.skips h.leads)

pub returns-in-Ended-clause-hears : goal.returns-in-Ended-clause-hears
returns-in-Ended-clause-hears c = λ o h.
    let calls = c.args.reader.calls.items in
    let s = rw c.in-Ended.is at h.stands in
    let x = split h.st (subst (λ (n : ℕ). 0 < n) (levels calls h.st h.keeps) c.requires) in
    c.behind.ensures.hears o x.0 x.1 s.0 (subst (KeepsAll (reverse calls)) x.2 h.keeps) (subst (λ (z : List Frame). KeepsOne (suc (length z)) c.in-Ended.kept s.0) x.2 s.1.1) c.skip_spaces-rest.ensures.skips.stops
    (ended_goes o h.mode c.args.reader.rest.now c.skip_spaces-rest.result.now h.st x.1 x.0 s.0 s.1.0 x.2 c.skip_spaces-rest.ensures.skips h.leads)
