use Rattle.std.proofs.Common.{subst, sym, ap, ◌∙◌}
use mir.Syntax.{w128}
use Rattle.std.proofs.lemmas.Int.{to_z-of_z}
use Rattle.std.specs.Fmt.{signed_decimal}
use Rattle.asl_json_data.specs.Number.{IsNumber}
use Rattle.asl_json.proofs.Wholes.{decimal_number, amount_fits}
use Rattle.asl_json.proofs.value.Dec.of_whole.Goals as goal

pub of_number-requires : goal.of_number-requires
of_number-requires c =
    let amount = to_z-of_z w128 c.args.amount (amount_fits c.args.amount c.requires) in
    subst IsNumber (sym (c.format.ensures.text ∙ ap signed_decimal amount)) (decimal_number c.args.amount c.requires)
