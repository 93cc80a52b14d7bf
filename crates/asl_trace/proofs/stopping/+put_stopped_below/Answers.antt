use Rattle.std.proofs.Common.{arith, length, sym, ap, ◌∙◌, string_bytes}
use Rattle.std.proofs.lemmas.Result.{on_ok_weaker}
use Rattle.std.specs.Option.{option_copied}
use Rattle.asl_trace.proofs.Walking.{here-lines, child-lines, no-child-lines}
use Rattle.asl_trace.proofs.stopping.+put_stopped_below.Goals as goal

pub returns-in_default : goal.returns-in_default
returns-in_default t c = on_ok_weaker c.put_all_stopped.result (here-lines c.args.start c.args.now c.args.place.now c.args.frame.now c.children.result.now (string_bytes c.args.out.now) (string_bytes c.put_all_stopped.new.out) (c.split.ensures.none c.in_default.is) c.children.ensures) c.put_all_stopped.ensures

pub put_stopped_below-requires : goal.put_stopped_below-requires
put_stopped_below-requires t c = let e = ap length c.in-Some.ensures.some in (omega arith, tt)

pub returns-in-Some-child_of : goal.returns-in-Some-child_of
returns-in-Some-child_of t c = on_ok_weaker c.put_stopped_below.result (child-lines c.args.start c.args.now c.in-Some.number c.args.place.now c.in-Some.deeper.now c.args.frame.now c.in-Some-child_of.child.now c.children-2.result.now (string_bytes c.args.out.now) (string_bytes c.put_stopped_below.new.out) c.in-Some.ensures.some c.children-2.ensures (sym (ap option_copied c.in-Some-child_of.is) ∙ c.child_of.ensures)) c.put_stopped_below.ensures

pub returns-in-None : goal.returns-in-None
returns-in-None t c = no-child-lines c.args.start c.args.now c.in-Some.number c.args.place.now c.in-Some.deeper.now c.args.frame.now c.children-2.result.now (string_bytes c.args.out.now) c.in-Some.ensures.some c.children-2.ensures (sym (ap option_copied c.in-None.is) ∙ c.child_of.ensures)
