use Rattle.std.proofs.Common.{◌∙◌, [], subst, sym, arith}
use Rattle.std.proofs.lemmas.Slice.Eq.{bytes_eq-Decides}
use Rattle.asl_json_data.specs.Distinct.{AreDistinct}
use Rattle.asl_json_same.proofs.Nearby.{value_here}
use Rattle.asl_json_same.proofs.sameness.find_near.Goals as goal

pub returns-then-eq : goal.returns-then-eq
returns-then-eq c =
    let ms = c.members-all.result.now in
    let same = sym ((bytes_eq-Decides c.as_str.result.now c.args.key.now).0 (sym c.eq.ensures ∙ c.if-eq.true)) ∙ c.as_str.ensures in
    rw (← c.members-all.ensures.members) (value_here ms c.args.i c.index-all-i.result c.args.key.now (subst (AreDistinct []) (sym c.members-all.ensures.members) c.members-all.ensures.distinct) (omega (arith, c.if-i-all.true)) c.index-all-i.is same)
