use Rattle.std.proofs.Common.{sym, refl, ◌∙◌}
use Rattle.asl_intrinsic.proofs.Keeping.{closed_deep, closed_unknown, closed_arity, closed_inner, closed_fine}
use Rattle.asl_intrinsic.proofs.frame.Open.closed.Goals as goal

pub returns-then-level-gt-MAX_CALLS : goal.returns-then-level-gt-MAX_CALLS
returns-then-level-gt-MAX_CALLS c = λ f h. closed_deep c.args.level c.args.self f h c.if-level-gt-MAX_CALLS.true

pub returns-in_default : goal.returns-in_default
returns-in_default c = λ f h. closed_unknown c.args.level c.args.self f c.args.self.name.now h c.if-level-gt-MAX_CALLS.false refl (sym c.named.ensures ∙ c.in_default.is)

pub returns-then-not-takes : goal.returns-then-not-takes
returns-then-not-takes c = λ f h. closed_arity c.args.level c.args.self f c.args.self.name.now c.in-Some.function h c.if-level-gt-MAX_CALLS.false refl (sym c.named.ensures ∙ c.in-Some.is) (sym c.takes.ensures ∙ c.if-not-takes.true)

pub returns-in-Some-wrong : goal.returns-in-Some-wrong
returns-in-Some-wrong c = λ f h. closed_inner c.args.level c.args.self f c.args.self.name.now c.in-Some.function c.in-Some-wrong.wrong h c.if-level-gt-MAX_CALLS.false refl (sym c.named.ensures ∙ c.in-Some.is) (sym c.takes.ensures ∙ c.if-not-takes.false) c.in-Some-wrong.is

pub returns : goal.returns
returns c = λ f h. closed_fine c.args.level c.args.self f c.args.self.name.now c.in-Some.function h c.if-level-gt-MAX_CALLS.false refl (sym c.named.ensures ∙ c.in-Some.is) (sym c.takes.ensures ∙ c.if-not-takes.false) c.in_default-wrong.is
