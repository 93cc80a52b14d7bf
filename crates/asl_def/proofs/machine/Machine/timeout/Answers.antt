use Rattle.std.proofs.Common.{◌∙◌, ◌≡◌, ap, sym}
use Rattle.std.specs.Prelude.{Some, codes, option_map}
use Rattle.asl_json_data.specs.Data.{Data, number}
use Rattle.asl_json.specs.Meaning.{value_in}
use Rattle.asl_def_fields.specs.Retries.{whole_in, whole}
use Rattle.asl_def_shared.proofs.Names.{timeout_named}
use Rattle.asl_def.proofs.machine.Machine.timeout.Goals as goal

pub returns-in-Some : goal.returns-in-Some
returns-in-Some c =
    let p = c.parts.result.now in
    let named : Some (number c.in-Some.seconds) ≡ value_in (codes "TimeoutSeconds") c.args.self.now = sym (ap (option_map number) c.in-Some.is) ∙ timeout_named p.table p.heading p.root ∙ ap (λ (d : Data). value_in (codes "TimeoutSeconds") d) c.parts.ensures.shown in
    sym (ap (λ o. Some (whole o)) c.value.ensures.value) ∙ ap whole_in named

pub returns-in-None : goal.returns-in-None
returns-in-None c =
    let p = c.parts.result.now in
    sym (ap (λ o. whole_in (option_map number o)) c.in-None.is) ∙ ap whole_in (timeout_named p.table p.heading p.root ∙ ap (λ (d : Data). value_in (codes "TimeoutSeconds") d) c.parts.ensures.shown)
