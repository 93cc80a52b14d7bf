use Rattle.std.proofs.Common.{rules}
use Rattle.std.specs.Prelude.{string_bytes}
use Rattle.asl_text.proofs.Adding.{none_shown, line_shown, last_shown}
use Rattle.asl_text.proofs.colouring.put_coloured.Goals as goal

pub loop-init : goal.loop-init
loop-init c = (c.utf8.text, none_shown c.args.text.now (string_bytes c.args.out.now))

pub returns-in_default : goal.returns-in_default
returns-in_default c = last_shown c.put_line.result c.args.text.now c.loop.rest.now (string_bytes c.args.out.now) (string_bytes c.loop.out) (string_bytes c.put_line.new.out) c.loop.invariant.1 c.put_line.ensures

pub loop-preserved : goal.loop-preserved
loop-preserved c = (search rules, line_shown c.args.text.now c.loop.rest.now c.in-Some.line.now c.in-Some.more.now (string_bytes c.args.out.now) (string_bytes c.loop.out) (string_bytes c.put_whole_line.new.out) c.loop.invariant.1 (rw c.in-Some.is at c.first_line.ensures) c.in_ok-put_whole_line.ensures)

pub returns : goal.returns
returns c = last_shown c.put_line-2.result c.args.text.now c.loop.rest.now (string_bytes c.args.out.now) (string_bytes c.loop.out) (string_bytes c.put_line-2.new.out) c.loop.invariant.1 c.put_line-2.ensures
