use Rattle.std.proofs.Common.{◌≡◌, ◌≤◌, ◌<◌, ℕ, true, false, take}
use Rattle.asl_project.specs.Document.{IsNoDocument}
use Rattle.asl_project.specs.Form.{shows}
use Rattle.asl_project.specs.Places.{IsTableThat, ends_line}
use Rattle.asl_project.proofs.fronts.entry_in.Given as goal

-- the text before the entry is whole and hasn't it, and no line behind that which ended yet ends a whole text
abbrev pub invariant-loop-i : goal.invariant-loop-i
invariant-loop-i l = record {
  reached : l.begin ≤ l.i;
  before : IsTableThat (shows l.spot) false (take l.begin l.text);
  cut : (end : ℕ) → l.begin < end → end ≤ l.i → ends_line l.text end ≡ true → IsNoDocument (take end l.text);
}
