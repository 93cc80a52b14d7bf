use Rattle.std.proofs.Common.{List, ℕ, Bor, ap, ◌∙◌}
use Rattle.std.specs.Prelude.{not}
use Rattle.asl_step_reads.proofs.Leading.{none_leads, other_leads}
use Rattle.asl_step_reads.proofs.mentions.may_lead.Goals as goal

pub returns-in_default : goal.returns-in_default
returns-in_default c = none_leads (λ (k : Bor (List ℕ)). k.now) c.args.keys.now c.args.bytes.now c.loop-key.key-index c.loop-key-test.true c.loop-key.rest.now c.in_default.ensures.cases c.loop-key.invariant

pub returns-then-first-ne46 : goal.returns-then-first-ne46
returns-then-first-ne46 c = ap not c.is_name_byte.ensures ∙ other_leads (λ (k : Bor (List ℕ)). k.now) c.args.keys.now c.args.bytes.now c.loop-key.key-index c.loop-key-test.true c.loop-key.rest.now c.in-Some.others.now c.in-Some.first.now c.in-Some.ensures.cases.0 c.if-first-ne46.true c.loop-key.invariant
