-- Where a reader stands, by the machine.
use Rattle.std.specs.Prelude.{◌<◌, List, length, Option, Some, None, ℕ, Ok}
use Rattle.std.specs.Str.{IsUtf8}
use Rattle.asl_rules.specs.declared.atom.Task.{Task}
use Rattle.asl_rules.specs.declared.rule.Rule.TheVariants.{Always}
use Rattle.asl_rules.specs.declared.reading.Place.{Place}
use Rattle.asl_rules.specs.declared.reading.Place.TheVariants as places
use Rattle.asl_rules.specs.declared.reading.Reader.{Reader}
use Rattle.asl_rules.specs.declared.reading.Turned.{Turned}
use Rattle.asl_rules.specs.declared.reading.Turned.TheVariants.{On, Over}
use Rattle.asl_rules.specs.private.Steps.{Wants, operand, operator, between, Context, context, Next, go, stop, Read, run}

abbrev pub wants : Place → Wants
wants places.Operand = operand
wants (places.Operator o) = operator o

abbrev pub context_of : Reader → Context
context_of r = context r.opens r.parts r.missing

-- what the run from there answers
abbrev pub heard : List Task → Reader → Read
heard ts r = run ts (between (wants r.place)) (context_of r) r.rest.now

abbrev pub told : List Task → Turned → Read
told ts (On r) = heard ts r
told ts (Over f m) = Ok (Always f, m)

-- what a closing parenthesis leads to
abbrev pub next_of : Option Reader → Next
next_of None = stop
next_of (Some r) = go (between (wants r.place)) (context_of r)

-- less is left than this
abbrev pub IsShorter : List ℕ → Reader → Type 0
IsShorter bytes r = (length r.rest.now < length bytes) × IsUtf8 r.rest.now

abbrev pub GoesOn : List ℕ → Turned → Type 0
GoesOn bytes (On r) = IsShorter bytes r
GoesOn bytes (Over f m) = Unit {0}
