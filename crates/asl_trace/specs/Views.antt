-- What callers see of the lines so far.
use Rattle.std.specs.Prelude.{ℕ, List, string_bytes}
use Rattle.asl_step.specs.declared.facts.Facts.{Facts}
use Rattle.asl_trace.specs.declared.tree.Shows.{Shows}
use Rattle.asl_trace.specs.declared.tree.Tree.{Tree}

-- the lines
abbrev pub text_of : Tree → List ℕ
text_of t = string_bytes t.out

-- what is told of a state's data
abbrev pub shows_of : Tree → Shows
shows_of t = t.shows

-- the facts of the execution
abbrev pub facts_in : Tree → Facts
facts_in t = t.context.facts
