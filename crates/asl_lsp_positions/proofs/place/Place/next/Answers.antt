use Rattle.std.proofs.Common.{arith, refl}
use Rattle.asl_lsp_positions.proofs.Counting.{next_place, line_within, width_fits}
use Rattle.asl_lsp_positions.proofs.place.Place.next.Goals as goal

pub behind-requires-clause-line : goal.behind-requires-clause-line
behind-requires-clause-line c = omega (arith, line_within c.args.encoding c.args.text.now c.args.self c.requires.is)

pub behind-requires-clause-character : goal.behind-requires-clause-character
behind-requires-clause-character c = omega (arith, width_fits c.args.encoding c.args.text.now c.args.self c.requires.is)

pub returns-clause-is : goal.returns-clause-is
returns-clause-is c = rw c.behind.ensures (next_place c.args.encoding c.args.text.now c.args.self _ _ c.requires.is c.requires.inside refl)
