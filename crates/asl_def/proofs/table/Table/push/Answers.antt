use Rattle.std.proofs.Common.{◌∙◌}
use Rattle.std.specs.Prelude.{string_bytes}
use Rattle.indexmap.proofs.CallerLemmas.{insert_entry-new}
use Rattle.asl_def.proofs.Tables.{absent, shown_push, order_push}
use Rattle.asl_def.proofs.table.Table.push.Goals as goal

pub invariant_of-self-2 : goal.invariant_of-self-2
invariant_of-self-2 c =
    let es = c.self.inside.states.entries in
    let new = rw (← c.self.view_is) at c.requires.new in
    let within = rw (← c.self.view_is) at c.requires.within in
    let is = c.in_ok-insert.ensures.entries ∙ insert_entry-new _ c.self.inside.states c.args.name c.args.state (absent (string_bytes c.args.name) es new) in
    order_push es _ (c.args.name, c.args.state) is c.self.invariant within

pub returns-clause-ok : goal.returns-clause-ok
returns-clause-ok c =
    let es = c.self.inside.states.entries in
    let new = rw (← c.self.view_is) at c.requires.new in
    let is = c.in_ok-insert.ensures.entries ∙ insert_entry-new _ c.self.inside.states c.args.name c.args.state (absent (string_bytes c.args.name) es new) in
    rw (← c.self.view_is) (shown_push es _ (c.args.name, c.args.state) is)
