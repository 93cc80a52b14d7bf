use Rattle.std.proofs.Common.{◌∙◌, refl}
use Rattle.std.specs.Prelude.{string_bytes}
use Rattle.indexmap.proofs.CallerLemmas.{insert_entry-new}
use Rattle.asl_mock.proofs.Names.{absent, added_last}
use Rattle.asl_mock.proofs.table.push.Goals as goal

pub returns-clause-ok : goal.returns-clause-ok
returns-clause-ok g c =
    let k = string_bytes c.args.name in
    let is = c.in_ok-insert.ensures.entries ∙ insert_entry-new _ c.args.values.now c.args.name c.args.value (absent k c.args.name c.args.values.now.entries refl c.requires) in
    added_last k c.args.name c.args.value c.args.values.now.entries _ is refl
