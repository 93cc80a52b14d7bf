-- A line spells at most one command, and so a file at most one list of commands.
use Rattle.std.proofs.Common.{ℕ, ◌≡◌, ◌∙◌, List, Some, sym, ap, arith}
use Rattle.std.specs.Prelude.{codes}
use Rattle.asl_json_data.specs.Data.{text}
use Rattle.asl_run_input.specs.FileLines.{lines_in}
use Rattle.asl_run_input.proofs.OneReading.{one_place, one_step}
use Rattle.asl_run_input.proofs.OneRun.{one_value}
use Rattle.asl_run_input.proofs.LinesRead.{one_list}
use Rattle.asl_session.specs.Scripts.{IsNamed, IsPlaceText, count_in, IsBehind, IsCommandLine, IsScript}
use Rattle.asl_session.proofs.Commanding.{same-rest, letters}
use Rattle.asl_session.specs.declared.command.Command.{Command}
use Rattle.asl_session.specs.declared.command.Command.TheVariants.{Step, Break, Clear, Resume, Show, Back}

same-text : (word : List ℕ) (P Q : List ℕ → Type 0) (line : List ℕ) → (h : IsBehind word P line) → (k : IsBehind word Q line) → k.rest ≡ h.rest
same-text word P Q line h k = same-rest word k.rest h.rest (sym k.line_is ∙ h.line_is)

one-name : (t n m : List ℕ) → IsNamed t n → IsNamed t m → n ≡ m
one-name t n m h k = let same : text n ≡ text m = one_value t (text n) (text m) h.reads k.reads in cc

one-place : (t p q : List ℕ) → IsPlaceText t p → IsPlaceText t q → p ≡ q
one-place t p q h k = one_place p q h.place_in k.place_in (sym h.text_is ∙ k.text_is)

one-count : (t : List ℕ) (n m : ℕ) → count_in t ≡ Some n → count_in t ≡ Some m → n ≡ m
one-count t n m h k = cc

one-command : (line : List ℕ) (c d : Command) → IsCommandLine line c → IsCommandLine line d → c ≡ d
one-command line (Step a) (Step b) h k = ap Step (one_step h.rest a b h.rest_is (rw (same-text (codes "step ") _ _ line h k) at k.rest_is))
one-command line (Break n) (Break m) h k = ap Break (one-name h.rest n m h.rest_is (rw (same-text (codes "break ") _ _ line h k) at k.rest_is))
one-command line (Clear n) (Clear m) h k = ap Clear (one-name h.rest n m h.rest_is (rw (same-text (codes "clear ") _ _ line h k) at k.rest_is))
one-command line (Resume p) (Resume q) h k = ap Resume (one-place h.rest p q h.rest_is (rw (same-text (codes "resume ") _ _ line h k) at k.rest_is))
one-command line (Show p) (Show q) h k = ap Show (one-place h.rest p q h.rest_is (rw (same-text (codes "show ") _ _ line h k) at k.rest_is))
one-command line (Back n) (Back m) h k = ap Back (one-count h.rest n m h.rest_is (rw (same-text (codes "back ") _ _ line h k) at k.rest_is))
one-command line c d h k = absurd (let l = letters line c h in let m = letters line d k in omega (arith, l.first, l.second, m.first, m.second))

pub one-script : (bytes : List ℕ) (cs ds : List Command) → IsScript bytes cs → IsScript bytes ds → cs ≡ ds
one-script bytes cs ds h k = one_list IsCommandLine one-command (lines_in bytes) cs ds h k
