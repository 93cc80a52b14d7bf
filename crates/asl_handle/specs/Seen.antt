-- What a clause sees of a decision and of a policy.
use Rattle.std.specs.Prelude.{Option, option_map}
use Rattle.asl_json_data.specs.Data.{Data, list, chain}
use Rattle.asl_def_shared.specs.Parts.{catcher_object}
use Rattle.asl_handle.specs.declared.policy.Decision.{Decision}
use Rattle.asl_handle.specs.declared.policy.Decision.TheVariants.{Again, Caught, Unhandled}
use Rattle.asl_handle.specs.declared.policy.Policy.{Policy}
use Rattle.asl_handle.specs.Decisions.{Handling, again, caught, unhandled}

abbrev pub seen : Decision → Handling
seen (Again retrier until) = again retrier until
seen (Caught catcher) = caught (catcher_object catcher.now)
seen Unhandled = unhandled

-- the value of Retry
abbrev pub retry_of : Policy → Option Data
retry_of p = option_map (λ rs. list (chain rs.now)) p.retriers

-- the value of Catch
abbrev pub catch_of : Policy → Option Data
catch_of p = option_map (λ cs. list (chain cs.now)) p.catchers
