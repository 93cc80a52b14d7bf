-- What `==` of each type answers, as a function of the two values that contracts see.
use Rattle.std.specs.Prelude.{ℕ, List, Bool}
use Rattle.asl_json_data.specs.Data.{Data}
use Rattle.asl_def_fields.specs.declared.path.PathField.{PathField}
use Rattle.asl_def_fields.specs.declared.path.PathOrCall.{PathOrCall}
use Rattle.asl_def_fields.specs.declared.jitter.JitterStrategy.{JitterStrategy}
use Rattle.asl_def_fields.specs.declared.processor.Mode.{Mode}
use Rattle.asl_def_fields.specs.declared.processor.ProcessorConfig.{ProcessorConfig}
use Rattle.asl_def_fields.specs.declared.retry.Retrier.{Retrier}
use Rattle.asl_def_fields.specs.contracts.path.PathFieldPartialEq.TheImpl as paths
use Rattle.asl_def_fields.specs.contracts.path.PathOrCallPartialEq.TheImpl as paths_or_calls
use Rattle.asl_def_fields.specs.contracts.number.CountPartialEq.TheImpl as counts
use Rattle.asl_def_fields.specs.contracts.number.BackoffRatePartialEq.TheImpl as rates
use Rattle.asl_def_fields.specs.contracts.number.DelayLimitPartialEq.TheImpl as delay_limits
use Rattle.asl_def_fields.specs.contracts.stamp.StampPartialEq.TheImpl as stamps
use Rattle.asl_def_fields.specs.contracts.jitter.JitterStrategyPartialEq.TheImpl as jitters
use Rattle.asl_def_fields.specs.contracts.processor.ModePartialEq.TheImpl as modes
use Rattle.asl_def_fields.specs.contracts.processor.ProcessorConfigPartialEq.TheImpl as configs
use Rattle.asl_def_fields.specs.contracts.retry.ErrorNamesPartialEq.TheImpl as names
use Rattle.asl_def_fields.specs.contracts.retry.RetrierPartialEq.TheImpl as retrier
use Rattle.asl_def_fields.specs.contracts.retry.RetriersPartialEq.TheImpl as retriers

abbrev pub path_eq : PathField → PathField → Bool
path_eq = (paths.ghosts).eq

abbrev pub path_or_call_eq : PathOrCall → PathOrCall → Bool
path_or_call_eq = (paths_or_calls.ghosts).eq

-- numbers and timestamps, by their spelling

abbrev pub count_eq : List ℕ → List ℕ → Bool
count_eq = (counts.ghosts).eq

abbrev pub rate_eq : List ℕ → List ℕ → Bool
rate_eq = (rates.ghosts).eq

abbrev pub delay_limit_eq : List ℕ → List ℕ → Bool
delay_limit_eq = (delay_limits.ghosts).eq

abbrev pub stamp_eq : List ℕ → List ℕ → Bool
stamp_eq = (stamps.ghosts).eq

-- what a Map's machine is run as

abbrev pub mode_eq : Mode → Mode → Bool
mode_eq = (modes.ghosts).eq

abbrev pub config_eq : ProcessorConfig → ProcessorConfig → Bool
config_eq = (configs.ghosts).eq

-- retriers

abbrev pub jitter_eq : JitterStrategy → JitterStrategy → Bool
jitter_eq = (jitters.ghosts).eq

abbrev pub names_eq : List (List ℕ) → List (List ℕ) → Bool
names_eq = (names.ghosts).eq

abbrev pub retrier_eq : Retrier → Retrier → Bool
retrier_eq = (retrier.ghosts).eq

abbrev pub retriers_eq : List Data → List Data → Bool
retriers_eq = (retriers.ghosts).eq
