use Rattle.std.proofs.Common.{rules, subst, sym, pos, ◌<◌, unsigned_abs}
use Rattle.std.specs.Prelude.{int_div, ℤ}
use mir.Syntax.{w128}
use Rattle.std.proofs.lemmas.Int.{to_z-of_z}
use Rattle.asl_json_data.specs.Number.{amount_limit}
use Rattle.asl_json.proofs.Wholes.{units_below, quotient_below, amount_fits}
use Rattle.asl_json.proofs.value.Dec.whole.Goals as goal

pub returns-then-units-eq0-clause-below : goal.returns-then-units-eq0-clause-below
returns-then-units-eq0-clause-below c =
    let units = c.units-units.result in
    let below = subst (λ (u : ℤ). unsigned_abs u < amount_limit) (sym c.units-units.ensures) (units_below c.args.self.now c.is_number.ensures.1) in
    let small = quotient_below units below in
    rw (to_z-of_z w128 units (search rules)) (rw (to_z-of_z w128 (int_div units (pos 1000000000)) (amount_fits (int_div units (pos 1000000000)) small)) small)
