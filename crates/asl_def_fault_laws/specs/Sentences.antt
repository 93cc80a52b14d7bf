-- What each kind of fault says of a place of a definition, in terms of the language.
use Rattle.std.specs.Prelude.{List}
use Rattle.asl_json_data.specs.Data.{Data}
use Rattle.asl_def_schema.specs.declared.fault.FaultKind.{FaultKind}
use Rattle.asl_def_schema.specs.declared.fault.FaultKind.TheVariants as kind
use Rattle.asl_def_schema.specs.declared.fault.Step.{Step}
use Rattle.asl_def_fault_laws.specs.Kinds.{IsRivalled, IsLostTarget, IsNamesake, IsNotLast, IsTooDeep}
use Rattle.asl_def_fault_laws.specs.Values.{Stands, IsNoObject, IsOfWrongType, IsOutOfRange, IsNoPath, IsNoCall}
use Rattle.asl_def_fault_laws.specs.Listed.{IsMissing, IsUnlisted, IsUnsupported, IsUndecided}

abbrev pub Sentence : FaultKind → Data → List Step → Type 0
Sentence kind.NotObject d place = IsNoObject d place
Sentence kind.Missing d place = IsMissing d place
Sentence kind.UnknownField d place = IsUnlisted d place
Sentence kind.Unsupported d place = IsUnsupported d place
Sentence kind.WrongType d place = IsOfWrongType d place
Sentence kind.Range d place = IsOutOfRange d place
Sentence kind.Both d place = IsRivalled d place
Sentence kind.Neither d place = IsUndecided d place
Sentence kind.NoTarget d place = IsLostTarget d place
Sentence kind.DuplicateState d place = IsNamesake d place
Sentence kind.AllNotLast d place = IsNotLast d place
Sentence kind.Path d place = Stands IsNoPath d place
Sentence kind.Expression d place = Stands IsNoCall d place
Sentence kind.Nesting d place = IsTooDeep d place
