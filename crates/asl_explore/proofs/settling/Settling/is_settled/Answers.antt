use Rattle.std.proofs.Common.{ℕ, ◌≡◌, ◌∙◌, sym, ap, List, Option, Some, None, get_or, length}
use Rattle.std.proofs.lemmas.Bool.{leb-true, ltb-true}
use Rattle.std.proofs.lemmas.List.{get_or_read}
use Rattle.asl_explore.proofs.SettledTasks.{settled-later}
use Rattle.asl_explore.proofs.settling.Settling.is_settled.Goals as goal

pub returns-then-from-count : goal.returns-then-from-count
returns-then-from-count c t s name all is =
    let arm = c.in-Some-Some in
    let known = c.deref.result.now in
    let read = get_or_read known c.args.number arm.field-0.now (ltb-true c.args.number (length known) (sym arm.ensures.lookup.0)) arm.ensures.lookup.1 None in
    let there : get_or c.args.self.now.from.items c.args.number None ≡ Some arm.from =
    sym (ap (λ (os : List (Option ℕ)). get_or os c.args.number None) c.deref.ensures.value) ∙ sym read ∙ arm.field-0-is in
    settled-later s name arm.from c.args.count c.if-from-count.true (leb-true c.args.count 1665 t) (all name c.args.number arm.from is there)
