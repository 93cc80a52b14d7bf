-- The rule that a text is read as, as a function of the text. (The laws: exactly where the text spells the rule.)
use Rattle.std.specs.Prelude.{◌≡◌, ℕ, ◌-◌, List, [], length, Some, None, Result, Ok, Err}
use Rattle.asl_rules.specs.declared.atom.Task.{Task}
use Rattle.asl_rules.specs.declared.rule.Rule.{Rule}
use Rattle.asl_rules.specs.declared.fault.RuleFault.{RuleFault}
use Rattle.asl_rules.specs.declared.fault.RuleFault.TheVariants.{Syntax, NoSuchState, OutOfMemory}
use Rattle.asl_rules.specs.private.Parts.{no_parts}
use Rattle.asl_rules.specs.private.Steps.{Read, Wants, between, operand, argument, undone, context, run}

-- from the bytes left to the place from the start
abbrev pub judged : ℕ → Read → Result Rule RuleFault
judged len (Ok (r, None)) = Ok r
judged len (Ok (r, Some left)) = Err (NoSuchState (len - left))
judged len (Err left) = Err (Syntax (len - left))

abbrev pub read_as : Wants → List Task → List ℕ → Result Rule RuleFault
read_as w ts t = judged (length t) (run ts (between w) (context [] no_parts None) t)

-- a formula
abbrev pub always_in : List Task → List ℕ → Result Rule RuleFault
always_in ts t = read_as operand ts t

-- two names with `=` between them
abbrev pub undo_in : List Task → List ℕ → Result Rule RuleFault
undo_in ts t = read_as (argument undone) ts t

-- this, unless memory ran out
abbrev pub Gives : Result Rule RuleFault → Result Rule RuleFault → Type 0
Gives r (Ok x) = r ≡ Ok x
Gives r (Err (Syntax at)) = r ≡ Err (Syntax at)
Gives r (Err (NoSuchState at)) = r ≡ Err (NoSuchState at)
Gives r (Err OutOfMemory) = Unit {0}
