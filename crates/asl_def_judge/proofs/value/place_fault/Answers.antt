use Rattle.std.proofs.Common.{refl}
use Rattle.asl_def_schema.specs.Demands.{place}
use Rattle.asl_def_schema.specs.declared.fault.FaultKind.TheVariants as kind
use Rattle.asl_def_judge.proofs.Answering.{judged}
use Rattle.asl_def_judge.proofs.value.place_fault.Goals as goal

pub returns : goal.returns
returns c = judged (place c.args.text.now) c.in_ok-fits.fits c.unless.result kind.Path c.in_ok-fits.ensures.0 c.in_ok-fits.ensures.1 refl c.unless.ensures
