use Rattle.std.proofs.Common.{rules, ◌≡◌, [], List, reverse, sym, subst, ◌∙◌}
use Rattle.asl_intrinsic.specs.private.Steps.{heard}
use Rattle.asl_intrinsic.specs.private.Keeps.{KeepsAll}
use Rattle.asl_intrinsic.specs.declared.frame.Open.{Open}
use Rattle.asl_intrinsic.proofs.Turns.{no_calls, nothing_follows, alone_goes}
use Rattle.asl_intrinsic.proofs.reading.spelled.Goals as goal

pub loop-alloc-init : goal.loop-alloc-init
loop-alloc-init c = c.in_ok-reader.ensures.hears (heard c.args.text.now) [] (subst (λ (z : List Open). KeepsAll (reverse z) []) (sym c.new.ensures.items) tt) (c.in_ok-name.ensures.run [])

pub returns-then-rest-gt0 : goal.returns-then-rest-gt0
returns-then-rest-gt0 c =
    let h = c.loop-alloc.invariant in
    let s = rw c.in-Ended.is at h.stands in
    let none : h.st ≡ [] = no_calls c.loop-alloc.reader.calls.items h.st h.keeps (search rules) in
    rw c.stuck.ensures (alone_goes (heard c.args.text.now) h.mode c.loop-alloc.reader.rest.now h.st s.0 s.1.0 none h.leads ∙ nothing_follows c.loop-alloc.reader.rest.now s.0 c.if-rest-gt0.true)
