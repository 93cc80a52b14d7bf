use Rattle.std.proofs.Common.{◌≡◌, ◌++◌, drop}
use Rattle.std.specs.Prelude.{string_bytes}
use Rattle.asl_explore.specs.Telling.{unanswered_text}
use Rattle.asl_explore.proofs.telling.put_unanswered.Given as goal

-- the lines so far and those of what is left are those of all
abbrev pub invariant-loop-answers : goal.invariant-loop-answers
invariant-loop-answers l = string_bytes l.out ++ unanswered_text (drop l.answers-index l.unanswered) ≡ string_bytes l.fn.out ++ unanswered_text l.unanswered
