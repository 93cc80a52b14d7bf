use Rattle.std.proofs.Common.{◌≡◌, ◌++◌, ◌-◌, string_bytes}
use Rattle.asl_trace_lines.specs.Columns.{spaces}
use Rattle.asl_trace_lines.proofs.columns.put_spaces.Given as goal

-- the spaces so far and those that are left are all
abbrev pub invariant-loop : goal.invariant-loop
invariant-loop l = string_bytes l.out ++ spaces (l.n - l.counter) ≡ string_bytes l.fn.out ++ spaces l.n
