use Rattle.std.proofs.Common.{◌∙◌, ◌++◌, ◌∷◌, [], ap, sym}
use Rattle.asl_json_data.specs.Data.{Data}
use Rattle.asl_def.specs.Upgraded.{upgraded}
use Rattle.asl_def.proofs.Upgrading.{canonical_upgraded}
use Rattle.asl_cli.specs.Layouts.{laid_out}
use Rattle.asl_cli.proofs.upgrading.newer_form_in.Goals as goal

pub returns-in-Ok-clause-form : goal.returns-in-Ok-clause-form
returns-in-Ok-clause-form g c =
    let found = c.in_ok-machine.ensures.accepted in
    let of = found.is_machine in
    record {
      text = found.text;
      given = found.given;
      definition = of.definition;
      reads = of.reads;
      accepted = of.accepted;
      printed = c.in-Ok.ensures ∙ ap (λ (d : Data). laid_out c.args.words.now.pretty d ++ 10 ∷ []) (ap upgraded of.compiled ∙ sym (canonical_upgraded of.definition of.accepted));
    }
