use Rattle.std.proofs.Common.{◌++◌, ◌∷◌, [], List, ◌∙◌, ap}
use Rattle.asl_threads.specs.declared.row.Row.{Row}
use Rattle.asl_threads.proofs.Replays.{replay-grows}
use Rattle.asl_threads.proofs.shared.Shared.apply.Goals as goal

pub invariant_of-self-2 : goal.invariant_of-self-2
invariant_of-self-2 c =
    let row : Row = record { seat = c.seat.inside.number; command = c.args.command; reply = c.in_ok-first.first } in
    replay-grows c.self.inside.rows.items c.push_reserved.new.self.items c.self.inside.session c.apply.new.self row c.self.invariant
    (c.in_ok-first.ensures.same ∙ c.in_ok-reply.ensures.reply)
    c.in_ok-reply.ensures.next
    (c.push_reserved.ensures.items ∙ ap (λ (xs : List Row). xs ++ row ∷ []) c.in_ok-reserve.ensures.items)
