-- The words that begin with a letter of their own: which they are by it, and their other letters.
use Rattle.std.specs.Prelude.{ℕ, ◌==◌, cond, List, Option, Some, None, codes}
use Rattle.asl_rules.specs.declared.atom.Status.{Status}
use Rattle.asl_rules.specs.declared.atom.Status.TheVariants as statuses
use Rattle.asl_rules.specs.declared.words.Head.{Head}
use Rattle.asl_rules.specs.declared.words.Head.TheVariants as heads

abbrev pub head_at : ℕ → Option Head
head_at c =
    cond (c == 100) (Some heads.Done)
    (cond (c == 114) (Some heads.Returned)
    (cond (c == 102) (Some heads.Failed)
    (cond (c == 105) (Some heads.Invoked)
    (cond (c == 115) (Some heads.Status)
    (cond (c == 101) (Some heads.Error) None)))))

abbrev pub head_letters : Head → List ℕ
head_letters heads.Done = codes "one"
head_letters heads.Returned = codes "eturned"
head_letters heads.Failed = codes "ailed"
head_letters heads.Invoked = codes "nvoked"
head_letters heads.Status = codes "tatus"
head_letters heads.Error = codes "rror"

abbrev pub status_at : ℕ → Option Status
status_at c =
    cond (c == 83) (Some statuses.Succeeded)
    (cond (c == 70) (Some statuses.Failed) (cond (c == 84) (Some statuses.TimedOut) None))

abbrev pub status_letters : Status → List ℕ
status_letters statuses.Succeeded = codes "UCCEEDED"
status_letters statuses.Failed = codes "AILED"
status_letters statuses.TimedOut = codes "IMED_OUT"
