-- What went out where a history isn't written whole.
use Rattle.std.specs.Prelude.{ℕ}
use Rattle.asl_history.specs.declared.fault.WriteFault.{WriteFault}
use Rattle.asl_history.specs.declared.fault.WriteFault.TheVariants.{Write, OutOfMemory}
use Rattle.asl_history.specs.Sinks.{counted}

-- how many bytes went out before the fault
abbrev pub sent_of : WriteFault → ℕ
sent_of (Write sent) = sent
sent_of (OutOfMemory sent) = sent

-- how often the sink has failed then
abbrev pub failures_after : WriteFault → ℕ → ℕ
failures_after (Write sent) n = counted n
failures_after (OutOfMemory sent) n = n
