-- Reading from left to right, byte by byte, with the first fault that is met.
use Rattle.std.specs.Prelude.{ℕ, suc, ◌+◌, Bool, true, false, cond, ◌&&◌, ◌==◌, nat_le, List, [], ◌∷◌, ◌++◌, length, Option, Some, None, Result, Ok, Err}
use Rattle.asl_json_data.specs.Distinct.{Members, has_key}
use Rattle.asl_json_data.specs.Limits.{max_depth}
use Rattle.asl_json_scan.specs.Open.{Frame, in_list, in_dict}
use Rattle.asl_json_data.specs.Data.{Data, null, boolean, number, text, list, dict, chain, pairs}
use Rattle.asl_json_data.specs.Number.{is_over}
use Rattle.asl_json_data.specs.Grammar.{colon, open_bracket, close_bracket, open_brace, close_brace, is_space}
use Rattle.asl_json_data.specs.Parts.{comma}
use Rattle.asl_json_data.specs.Text.{quote}
use Rattle.asl_json_scan.specs.private.Chars.{Within, bare, Inside, goes, ends, breaks, lone, in_text}
use Rattle.asl_json_scan.specs.declared.fault.Fault.{Fault}
use Rattle.asl_json_scan.specs.declared.fault.Kind.{Kind}
use Rattle.asl_json_scan.specs.declared.fault.Kind.TheVariants.{Syntax, Lone, Duplicate, Depth, Number}
use Rattle.asl_json_data.specs.declared.part.Part.{Part}
use Rattle.asl_json_data.specs.declared.part.Part.TheVariants.{Start}
use Rattle.asl_json_data.specs.private.NumberParts.{next_part, may_end}

pub data Mode : Type 0 where
  -- a value is wanted, or the end of a list without items
  value : Mode
  -- what is left of a word, and what it stands for
  word : List ℕ → Data → Mode
  -- within a text, whose bytes so far mean this
  chars : Within → List ℕ → Mode
  -- within a number
  figure : Part → List ℕ → Mode
  -- a value has ended
  after : Data → Mode
  -- behind an opening brace
  first : Mode
  -- behind a comma
  key : Members → Mode
  -- within a key, whose quote stands so many bytes back
  key_chars : Members → ℕ → Within → List ℕ → Mode
  behind_key : Members → List ℕ → Mode

pub data Next : Type 0 where
  go : Mode → List Frame → Next
  -- a fault, whose place is so many bytes before this one
  stop : Kind → ℕ → Next

abbrev pub fault : Kind → ℕ → Fault
fault kind left = record { kind = kind; left = left }

-- One byte, with limits or without.

-- what goes on with the number, where one does, and else n
abbrev pub grown : Option Part → Next → List ℕ → List Frame → ℕ → Next
grown None n s st c = n
grown (Some p) n s st c = go (figure p (s ++ c ∷ [])) st

-- a list or an object is opened, unless too many are open
unfoldable pub deepens : Bool → List Frame → Next → Next
deepens lim st n = cond (lim && nat_le max_depth (length st)) (stop Depth 0) n

-- the end of a list without items
unfoldable pub closes : List Frame → Next
closes (in_list [] ∷ st) = go (after (list (chain []))) st
closes _ = stop Syntax 0

unfoldable pub in_value : Bool → List Frame → ℕ → Next
in_value lim st c =
    cond (is_space c) (go value st)
    (cond (c == quote) (go (chars bare []) st)
    (cond (c == open_bracket) (deepens lim st (go value (in_list [] ∷ st)))
    (cond (c == open_brace) (deepens lim st (go first st))
    (cond (c == 110) (go (word (117 ∷ 108 ∷ 108 ∷ []) null) st)
    (cond (c == 116) (go (word (114 ∷ 117 ∷ 101 ∷ []) (boolean true)) st)
    (cond (c == 102) (go (word (97 ∷ 108 ∷ 115 ∷ 101 ∷ []) (boolean false)) st)
    (cond (c == close_bracket) (closes st)
    (grown (next_part Start c) (stop Syntax 0) [] st c))))))))

unfoldable pub in_word : List ℕ → Data → List Frame → ℕ → Next
in_word [] d st c = stop Syntax 0
in_word (w ∷ []) d st c = cond (c == w) (go (after d) st) (stop Syntax 0)
in_word (w ∷ x ∷ ws) d st c = cond (c == w) (go (word (x ∷ ws) d) st) (stop Syntax 0)

abbrev pub chars_next : List ℕ → List Frame → Inside → Next
chars_next s st (goes q t) = go (chars q t) st
chars_next s st ends = go (after (text s)) st
chars_next s st breaks = stop Syntax 0
chars_next s st (lone back) = stop Lone back

unfoldable pub in_chars : Within → List ℕ → List Frame → ℕ → Next
in_chars q s st c = chars_next s st (in_text q s c)

unfoldable pub in_after : Data → List Frame → ℕ → Next
in_after d [] c = cond (is_space c) (go (after d) []) (stop Syntax 0)
in_after d (in_list ds ∷ st) c =
    cond (is_space c) (go (after d) (in_list ds ∷ st))
    (cond (c == comma) (go value (in_list (ds ++ d ∷ []) ∷ st))
    (cond (c == close_bracket) (go (after (list (chain (ds ++ d ∷ [])))) st)
    (stop Syntax 0)))
in_after d (in_dict ms k ∷ st) c =
    cond (is_space c) (go (after d) (in_dict ms k ∷ st))
    (cond (c == comma) (go (key (ms ++ (k, d) ∷ [])) st)
    (cond (c == close_brace) (go (after (dict (pairs (ms ++ (k, d) ∷ [])))) st)
    (stop Syntax 0)))

-- a number has ended before this byte
unfoldable pub in_judged : Bool → List ℕ → List Frame → ℕ → Next
in_judged lim s st c = cond (lim && is_over s) (stop Number (length s)) (in_after (number s) st c)

unfoldable pub in_figure : Bool → Part → List ℕ → List Frame → ℕ → Next
in_figure lim p s st c =
    grown (next_part p c) (cond (may_end p) (in_judged lim s st c) (stop Syntax 0)) s st c

unfoldable pub in_first : List Frame → ℕ → Next
in_first st c =
    cond (is_space c) (go first st)
    (cond (c == quote) (go (key_chars [] 1 bare []) st)
    (cond (c == close_brace) (go (after (dict (pairs []))) st)
    (stop Syntax 0)))

unfoldable pub in_key : Members → List Frame → ℕ → Next
in_key ms st c =
    cond (is_space c) (go (key ms) st)
    (cond (c == quote) (go (key_chars ms 1 bare []) st)
    (stop Syntax 0))

abbrev pub key_chars_next : Bool → Members → ℕ → List ℕ → List Frame → Inside → Next
key_chars_next lim ms opened s st (goes q t) = go (key_chars ms (suc opened) q t) st
key_chars_next lim ms opened s st ends =
    cond (lim && has_key s ms) (stop Duplicate opened) (go (behind_key ms s) st)
key_chars_next lim ms opened s st breaks = stop Syntax 0
key_chars_next lim ms opened s st (lone back) = stop Lone back

unfoldable pub in_key_chars : Bool → Members → ℕ → Within → List ℕ → List Frame → ℕ → Next
in_key_chars lim ms opened q s st c = key_chars_next lim ms opened s st (in_text q s c)

unfoldable pub in_behind_key : Members → List ℕ → List Frame → ℕ → Next
in_behind_key ms k st c =
    cond (is_space c) (go (behind_key ms k) st)
    (cond (c == colon) (go value (in_dict ms k ∷ st))
    (stop Syntax 0))

abbrev pub step : Bool → Mode → List Frame → ℕ → Next
step lim value st c = in_value lim st c
step lim (word ws d) st c = in_word ws d st c
step lim (chars q s) st c = in_chars q s st c
step lim (figure p s) st c = in_figure lim p s st c
step lim (after d) st c = in_after d st c
step lim first st c = in_first st c
step lim (key ms) st c = in_key ms st c
step lim (key_chars ms opened q s) st c = in_key_chars lim ms opened q s st c
step lim (behind_key ms k) st c = in_behind_key ms k st c

-- What the end of the bytes does.
abbrev pub failed : Kind → ℕ → Result Data Fault
failed kind left = Err (fault kind left)

abbrev pub ended : Data → List Frame → Result Data Fault
ended d [] = Ok d
ended d (f ∷ st) = failed Syntax 0

abbrev pub finish : Bool → Mode → List Frame → Result Data Fault
finish lim (figure p s) st =
    cond (may_end p) (cond (lim && is_over s) (failed Number (length s)) (ended (number s) st))
    (failed Syntax 0)
finish lim (after d) st = ended d st
finish lim _ st = failed Syntax 0

-- What is made of the state behind the last byte, and of a fault with so many bytes left.
pub record Outcome (X : Type 0) : Type 0 where
  pub at_end : Mode → List Frame → X
  pub at_stop : Kind → ℕ → X

abbrev pub onward : {X : Type 0} → Outcome X → (Mode → List Frame → X) → ℕ → Next → X
onward w further left (go m st) = further m st
onward w further left (stop kind back) = w.at_stop kind (back + left)

-- The machine over these bytes.
unfoldable pub walk : {X : Type 0} → Outcome X → Bool → Mode → List Frame → List ℕ → X
walk w lim m st [] = w.at_end m st
walk w lim m st (c ∷ cs) =
    onward w (λ m' st'. walk w lim m' st' cs) (suc (length cs)) (step lim m st c)

abbrev pub judgement : Bool → Outcome (Result Data Fault)
judgement lim = record { at_end = finish lim; at_stop = failed }

-- the value that bytes spell, or the first fault that is met
abbrev pub run : Bool → Mode → List Frame → List ℕ → Result Data Fault
run lim m st b = walk (judgement lim) lim m st b

-- the machine's state behind these bytes, or its stop with so many of them left
abbrev pub reach : Bool → Mode → List Frame → List ℕ → Next
reach lim m st b = walk (record { at_end = go; at_stop = stop }) lim m st b
