use Rattle.std.proofs.Common.{ap, length}
use Rattle.asl_rules.specs.Reading.{judged}
use Rattle.asl_rules.proofs.Spelled.{pair_read}
use Rattle.asl_rules.proofs.laws.a_pair_is_read_as_it_is_spelled.Goals as goal

pub returns : goal.returns
returns c = λ ts a b t h. ap (judged (length t)) (pair_read ts a b t h.spelled h.first h.second)
