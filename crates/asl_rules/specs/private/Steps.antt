-- Reading a rule from left to right, byte by byte.
use Rattle.std.specs.Prelude.{ℕ, suc, ◌+◌, ◌-◌, ◌*◌, ◌==◌, nat_le, Bool, true, false, cond, List, [], ◌∷◌, length, Option, Some, None, unwrap_or, Result, Ok, Err, codes}
use Rattle.asl_json_data.specs.Grammar.{is_space}
use Rattle.asl_json_data.specs.Number.{is_digit}
use Rattle.asl_json_data.specs.Text.{quote}
use Rattle.asl_json_scan.specs.private.Chars.{Within, bare, Inside, goes, ends, breaks, lone, in_text}
use Rattle.asl_rules.specs.Tree.{Operand, atom, denied, group}
use Rattle.asl_rules.specs.Tasks.{number_of}
use Rattle.asl_rules.specs.declared.atom.Task.{Task}
use Rattle.asl_rules.specs.declared.atom.Atom.{Atom}
use Rattle.asl_rules.specs.declared.atom.Atom.TheVariants as atoms
use Rattle.asl_rules.specs.declared.atom.Status.{Status}
use Rattle.asl_rules.specs.declared.open.Open.{Open}
use Rattle.asl_rules.specs.declared.open.Open.TheVariants as opens
use Rattle.asl_rules.specs.declared.rule.Rule.{Rule}
use Rattle.asl_rules.specs.declared.rule.Rule.TheVariants.{Always, Undo}
use Rattle.asl_rules.specs.declared.words.Head.{Head}
use Rattle.asl_rules.specs.declared.words.Head.TheVariants as heads
use Rattle.asl_rules.specs.private.Parts.{Parts, no_parts, with_and, with_or, with_implies, whole}
use Rattle.asl_rules.specs.private.Words.{head_at, head_letters, status_at, status_letters}

-- how many parentheses and `not`s may be open at once
abbrev pub max_open : ℕ
max_open = 64

-- the greatest number of invocations
abbrev pub max_count : ℕ
max_count = 4294967295

-- who wants a name
pub data Asks : Type 0 where
  argument_of : Head → Asks
  undone : Asks
  undoing : Task → Asks

-- what is wanted, with spaces in front or none
pub data Wants : Type 0 where
  operand : Wants
  operator : Operand → Wants
  bracket : Head → Wants
  argument : Asks → Wants
  comma : Task → Wants
  count : Task → Wants
  closing : Atom → Wants
  equals : Task → Wants
  over : Task → Task → Wants

pub data Mode : Type 0 where
  between : Wants → Mode
  -- the next letter of a word, the others, and what is wanted then
  word : ℕ → List ℕ → Wants → Mode
  -- between the quotes of a name, with how many bytes there were from its first quote on, and what it means so far
  chars : Asks → ℕ → Within → List ℕ → Mode
  -- within a number
  figure : Task → ℕ → Mode

-- what stands open, what the innermost formula has so far, and how many bytes there were from the first name on that no Task has
pub record Context : Type 0 where
  pub opens : List Open
  pub parts : Parts
  pub missing : Option ℕ

abbrev pub context : List Open → Parts → Option ℕ → Context
context os p m = record { opens = os; parts = p; missing = m }

pub data Next : Type 0 where
  go : Mode → Context → Next
  -- nothing goes on over this byte
  stop : Next
  -- a surrogate half has no partner; its escape begins so many bytes before this one
  back : ℕ → Next

abbrev pub spelled : List ℕ → Wants → Mode
spelled [] w = between w
spelled (c ∷ cs) w = word c cs w

-- ---- operands

-- one more stands open, unless too many do
unfoldable pub deepens : List Open → Next → Next
deepens os n = cond (nat_le max_open (length os)) stop n

abbrev pub headed : Option Head → Context → Next
headed (Some h) k = go (spelled (head_letters h) (bracket h)) k
headed None k = stop

unfoldable pub in_operand : Context → ℕ → Next
in_operand k c =
    cond (c == 40) (deepens k.opens (go (between operand) (context (opens.Group k.parts ∷ k.opens) no_parts k.missing)))
    (cond (c == 110) (deepens k.opens (go (spelled (codes "ot") operand) (context (opens.Not ∷ k.opens) k.parts k.missing)))
    (headed (head_at c) k))

-- what stands open behind an operand: the `not`s in front of it end with it
abbrev pub behind_nots : List Open → List Open
behind_nots [] = []
behind_nots (opens.Not ∷ os) = behind_nots os
behind_nots (opens.Group q ∷ os) = opens.Group q ∷ os

abbrev pub denied_by : List Open → Operand → Operand
denied_by [] o = o
denied_by (opens.Not ∷ os) o = denied_by os (denied o)
denied_by (opens.Group q ∷ os) o = o

abbrev pub ended : List Open → Parts → Option ℕ → Operand → Next
ended os p m o = go (between (operator (denied_by os o))) (context (behind_nots os) p m)

abbrev pub closed : Operand → Parts → Option ℕ → List Open → Next
closed o p m [] = stop
closed o p m (opens.Not ∷ os) = stop
closed o p m (opens.Group q ∷ os) = ended os q m (group (whole p o))

unfoldable pub in_operator : Operand → Context → ℕ → Next
in_operator o k c =
    cond (c == 97) (go (spelled (codes "nd") operand) (context k.opens (with_and k.parts o) k.missing))
    (cond (c == 111) (go (spelled (codes "r") operand) (context k.opens (with_or k.parts o) k.missing))
    (cond (c == 61) (go (spelled (codes ">") operand) (context k.opens (with_implies k.parts o) k.missing))
    (cond (c == 41) (closed o k.parts k.missing k.opens) stop)))

-- ---- names and atoms

-- a sign, and what is wanted then
abbrev pub sign : ℕ → Wants → Context → ℕ → Next
sign s w k c = cond (c == s) (go (between w) k) stop

abbrev pub stated : Option Status → Context → Next
stated (Some s) k = go (spelled (status_letters s) (closing (atoms.Status s))) k
stated None k = stop

abbrev pub opens_name : Asks → ℕ → Context → ℕ → Next
opens_name a left k c = cond (c == quote) (go (chars a left bare []) k) stop

abbrev pub in_argument : Asks → ℕ → Context → ℕ → Next
in_argument (argument_of heads.Status) left k c = stated (status_at c) k
in_argument a left k c = opens_name a left k c

-- the Task of a name; of a name that none has, a Task that is told in no rule
abbrev pub task : List Task → List ℕ → Task
task ts s = record { name = s; number = unwrap_or (number_of ts s) 0 }

-- the first name that no Task has
abbrev pub first_missing : Option ℕ → Option ℕ → ℕ → Option ℕ
first_missing (Some at) n left = Some at
first_missing None (Some n) left = None
first_missing None None left = Some left

abbrev pub noted : List Task → List ℕ → ℕ → Context → Context
noted ts s left k = context k.opens k.parts (first_missing k.missing (number_of ts s) left)

-- what is wanted behind a name
abbrev pub behind_name : List Task → List ℕ → Asks → Wants
behind_name ts s (argument_of heads.Done) = closing (atoms.Done (task ts s))
behind_name ts s (argument_of heads.Returned) = comma (task ts s)
behind_name ts s (argument_of heads.Failed) = closing (atoms.Failed (task ts s))
behind_name ts s (argument_of heads.Invoked) = closing (atoms.Invoked (task ts s))
behind_name ts s (argument_of heads.Status) = closing (atoms.Error s)
behind_name ts s (argument_of heads.Error) = closing (atoms.Error s)
behind_name ts s undone = equals (task ts s)
behind_name ts s (undoing t) = over t (task ts s)

-- each name but that of an error is a Task's
abbrev pub of_task : Asks → Bool
of_task (argument_of heads.Status) = false
of_task (argument_of heads.Error) = false
of_task a = true

abbrev pub named : List Task → Asks → ℕ → List ℕ → Context → Next
named ts a left s k = go (between (behind_name ts s a)) (cond (of_task a) (noted ts s left k) k)

abbrev pub chars_next : List Task → Asks → ℕ → List ℕ → Context → Inside → Next
chars_next ts a left s k (goes q t) = go (chars a left q t) k
chars_next ts a left s k ends = named ts a left s k
chars_next ts a left s k breaks = stop
chars_next ts a left s k (lone n) = back n

-- ---- numbers

abbrev pub digit : ℕ → ℕ
digit c = c - 48

abbrev pub begins_count : Task → Context → ℕ → Next
begins_count t k c = cond (is_digit c) (go (figure t (digit c)) k) stop

-- a number with one more digit, where it may have one
unfoldable pub grown : ℕ → ℕ → Option ℕ
grown n d = cond (n == 0) None (cond (nat_le (n * 10 + d) max_count) (Some (n * 10 + d)) None)

abbrev pub counts : Task → Context → Option ℕ → Next
counts t k (Some n) = go (figure t n) k
counts t k None = stop

-- ---- one byte, of so many that are left with it

unfoldable pub in_wants : ℕ → Wants → Context → ℕ → Next
in_wants left operand k c = in_operand k c
in_wants left (operator o) k c = in_operator o k c
in_wants left (bracket h) k c = sign 40 (argument (argument_of h)) k c
in_wants left (argument a) k c = in_argument a left k c
in_wants left (comma t) k c = sign 44 (count t) k c
in_wants left (count t) k c = begins_count t k c
in_wants left (closing a) k c = cond (c == 41) (ended k.opens k.parts k.missing (atom a)) stop
in_wants left (equals t) k c = sign 61 (argument (undoing t)) k c
in_wants left (over s t) k c = stop

unfoldable pub in_between : ℕ → Wants → Context → ℕ → Next
in_between left w k c = cond (is_space c) (go (between w) k) (in_wants left w k c)

unfoldable pub in_figure : ℕ → Task → ℕ → Context → ℕ → Next
in_figure left t n k c =
    cond (is_digit c) (counts t k (grown n (digit c)))
    (in_between left (closing (atoms.Returned t n)) k c)

abbrev pub step : List Task → ℕ → Mode → Context → ℕ → Next
step ts left (between w) k c = in_between left w k c
step ts left (word x xs w) k c = cond (c == x) (go (spelled xs w) k) stop
step ts left (chars a from q s) k c = chars_next ts a from s k (in_text q s c)
step ts left (figure t n) k c = in_figure left t n k c

-- ---- the whole

-- a rule, and the first name that no Task has; or at how many bytes before the end nothing goes on
abbrev pub Read : Type 0
Read = Result (Rule × Option ℕ) ℕ

abbrev pub closes_all : Operand → Context → List Open → Read
closes_all o k [] = Ok (Always (whole k.parts o), k.missing)
closes_all o k (x ∷ os) = Err 0

abbrev pub at_end : Mode → Context → Read
at_end (between (operator o)) k = closes_all o k k.opens
at_end (between (over s t)) k = Ok (Undo s t, k.missing)
at_end m k = Err 0

abbrev pub onward : (Mode → Context → Read) → ℕ → Next → Read
onward f left (go m k) = f m k
onward f left stop = Err left
onward f left (back n) = Err (n + left)

unfoldable pub run : List Task → Mode → Context → List ℕ → Read
run ts m k [] = at_end m k
run ts m k (c ∷ cs) = onward (λ m' k'. run ts m' k' cs) (suc (length cs)) (step ts (suc (length cs)) m k c)
