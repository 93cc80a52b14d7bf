use Rattle.std.proofs.Common.{◌∙◌, sym}
use Rattle.asl_explore.proofs.endless.Reaching.go_back.Goals as goal

pub returns-then-is_known : goal.returns-then-is_known
returns-then-is_known c o s ws h leads = c.mark.ensures o s ws h (leads (h.known_so c.args.link.to (sym c.is_known.ensures ∙ c.if-is_known.true)))
