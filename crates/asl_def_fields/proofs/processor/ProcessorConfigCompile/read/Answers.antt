use Rattle.std.proofs.Common.{[], ◌++◌, sym, subst, ap, ◌∙◌}
use Rattle.std.specs.Prelude.{Option, IfSome, codes}
use Rattle.asl_json_data.specs.Data.{Data, dict, pairs}
use Rattle.asl_json.specs.View.{data_of}
use Rattle.asl_def_schema.specs.declared.sort.Sort.TheVariants as sort
use Rattle.asl_def_schema.specs.Canon.{opt}
use Rattle.asl_def_schema.specs.Clean.{IsClean}
use Rattle.asl_def_schema.proofs.Configs.{config_mode, config_is}
use Rattle.asl_def_fields.specs.Readable.{IsMode}
use Rattle.asl_def_fields.proofs.Fitting.{fit, mode_fits}
use Rattle.asl_def_fields.proofs.processor.ProcessorConfigCompile.read.Goals as goal

pub read_optional-requires : goal.read_optional-requires
read_optional-requires c = subst (λ (o : Option Data). IfSome o IsMode) (sym c.find.ensures) (fit sort.Mode IsMode mode_fits _ (config_mode (pairs c.in-Dict.members) (subst (IsClean sort.ProcessorConfig) (ap data_of c.in-Dict.is) c.requires)))

pub returns : goal.returns
returns c = ap (λ (o : Option Data). dict (pairs (opt (codes "Mode") o ++ []))) (c.in_ok-read_optional.ensures ∙ c.find.ensures) ∙ config_is c.in-Dict.members c.members-members.ensures.distinct (subst (IsClean sort.ProcessorConfig) (ap data_of c.in-Dict.is) c.requires) ∙ sym (ap data_of c.in-Dict.is)
