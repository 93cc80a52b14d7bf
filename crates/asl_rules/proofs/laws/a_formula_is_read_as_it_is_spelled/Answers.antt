use Rattle.std.proofs.Common.{ap, length}
use Rattle.asl_rules.specs.Reading.{judged}
use Rattle.asl_rules.proofs.Spelled.{formula_read}
use Rattle.asl_rules.proofs.laws.a_formula_is_read_as_it_is_spelled.Goals as goal

pub returns : goal.returns
returns c = λ ts f t h. ap (judged (length t)) (formula_read ts f t h.spelled h.within)
