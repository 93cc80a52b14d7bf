-- What a clause sees of a step that is told, as the program has it.
use Rattle.std.specs.Prelude.{option_map}
use Rattle.std.specs.Option.{option_copied}
use Rattle.asl_handle.specs.Seen.{retry_of, catch_of}
use Rattle.asl_trace_lines.specs.declared.happening.Happening.{Happening}
use Rattle.asl_trace_lines.specs.Seen.{Seen}

abbrev pub seen_in : Happening → Seen
seen_in h = record {
  start = h.start;
  now = h.moment;
  place = h.place.now;
  kind = h.kind.now;
  retry = retry_of h.policy;
  catch = catch_of h.policy;
  count = h.count;
  before = h.before.now;
  after = h.after.now;
  branches = h.branches;
  raised = option_copied h.raised;
  rule = h.rule;
}
