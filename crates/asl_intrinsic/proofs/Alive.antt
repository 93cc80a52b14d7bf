-- Where the machine stands, the text goes on to a call.
use Rattle.std.proofs.Common.{◌≡◌, ◌<◌, ◌==◌, ℕ, suc, true, false, List, [], ◌∷◌, ◌++◌, length, refl, sym, ◌∙◌, subst, arith}
use Rattle.std.specs.Prelude.{Result, Ok, Err}
use Rattle.std.proofs.lemmas.List.{append-nil}
use Rattle.std.proofs.lemmas.Bool.{eq-eqb}
use Rattle.asl_json_data.specs.Data.{Data, null, number}
use Rattle.asl_json_data.specs.Grammar.{null_word}
use Rattle.asl_json_data.specs.private.NumberParts.{is_number_front}
use Rattle.asl_json_data.proofs.Numerals.{numeral_front, front_decides}
use Rattle.asl_path.specs.declared.step.Root.{Root}
use Rattle.asl_path.specs.declared.step.Step.{Step}
use Rattle.asl_path.specs.Grammar.{IsPrefix as IsPathPrefix}
use Rattle.asl_path.specs.private.Steps.{steps}
use Rattle.asl_path.proofs.Judging.{Judged as PathJudged, path_judged}
use Rattle.asl_intrinsic.specs.Tree.{Argument, Frame, constant, quoted, path, call, arguments}
use Rattle.asl_intrinsic.specs.Grammar.{is_name_byte, is_escaped, IsPrefix}
use Rattle.asl_intrinsic.specs.Fronts.{AwaitsArgument}
use Rattle.asl_intrinsic.specs.private.Steps.{Mode, prefix, naming, named, opening, wanting, word, chars, escape, figure, along, ended, is_begun, is_path_front, run_by}
use Rattle.asl_intrinsic.proofs.Stretches.{goes, alike, prefix_on, name_begins, name_off, named_opens, word_on, word_ends}
use Rattle.asl_intrinsic.proofs.Leaves.{quote_ends, escape_on, figure_run, fits_on, along_run, along_whole, path_prefix}
use Rattle.asl_intrinsic.proofs.Turns.{bracket_closes, bracket_ends}
use Rattle.asl_intrinsic.proofs.Reaching.{Reached, empty, run_spells}
use Rattle.asl_intrinsic.proofs.Ending.{number_stops, path_stops}
use Rattle.asl_intrinsic.proofs.Passing.{null_passes, wanted, at_comma}

-- some bytes with which the machine, without limits, ends well
pub record GoesOn (m : Mode) (st : List Frame) : Type 0 where
  pub more : List ℕ
  pub tree : Argument
  pub leads : run_by false m st more ≡ Ok tree

-- a bracket for each open call
abbrev closing : List Frame → List ℕ
closing [] = []
closing (f ∷ st) = 41 ∷ closing st

closes_all : (st : List Frame) (a : Argument) → (b : Argument) × (run_by false (ended a) st (closing st) ≡ Ok b)
closes_all [] a = (a, refl)
closes_all (f ∷ st) a =
    let again = closes_all st (call f.0 (arguments (f.1 ++ a ∷ []))) in
    (again.0, bracket_ends false (41 ∷ closing st) (closing st) a f st refl ∙ again.1)

-- it gets to the end of an argument
ends_well : (m : Mode) (st : List Frame) (more : List ℕ) (a : Argument) → run_by false m st (more ++ closing st) ≡ run_by false (ended a) st (closing st) → GoesOn m st
ends_well m st more a e = let all = closes_all st a in record { more = more ++ closing st; tree = all.0; leads = e ∙ all.1 }

opening_goes_on : (f : Frame) (st : List Frame) → GoesOn opening (f ∷ st)
opening_goes_on f st =
    let a = call f.0 (arguments f.1) in
    let all = closes_all st a in
    record { more = 41 ∷ closing st; tree = all.0; leads = bracket_closes false (41 ∷ closing st) (closing st) f st refl ∙ all.1 }

named_goes_on : (n : List ℕ) (st : List Frame) → GoesOn (named n) st
named_goes_on n st = let g = opening_goes_on (n, []) st in record { more = 40 ∷ g.more; tree = g.tree; leads = goes false (named n) opening st ((n, []) ∷ st) 40 g.more (named_opens n st) ∙ g.leads }

no_name_40 : is_name_byte 40 ≡ false
unfolding is_name_byte
no_name_40 = refl

a_name : is_name_byte 97 ≡ true
unfolding is_name_byte
a_name = refl

naming_goes_on : (n : List ℕ) (st : List Frame) → GoesOn (naming n) st
naming_goes_on n st =
    let g = opening_goes_on (n, []) st in
    record { more = 40 ∷ g.more; tree = g.tree; leads = alike false (naming n) (named n) st st 40 g.more (name_off n st 40 no_name_40) ∙ goes false (named n) opening st ((n, []) ∷ st) 40 g.more (named_opens n st) ∙ g.leads }

itself : (c : ℕ) → (c == c) ≡ true
itself c = eq-eqb c c refl

prefix_goes_on : (ws : List ℕ) (st : List Frame) → GoesOn (prefix ws) st
prefix_goes_on [] st =
    let g = naming_goes_on (97 ∷ []) st in
    record { more = 97 ∷ g.more; tree = g.tree; leads = goes false (prefix []) (naming (97 ∷ [])) st st 97 g.more (name_begins st 97 a_name) ∙ g.leads }
prefix_goes_on (w ∷ ws) st =
    let g = prefix_goes_on ws st in
    record { more = w ∷ g.more; tree = g.tree; leads = goes false (prefix (w ∷ ws)) (prefix ws) st st w g.more (prefix_on w ws st w (itself w)) ∙ g.leads }

wanting_goes_on : (f : Frame) (st : List Frame) → GoesOn wanting (f ∷ st)
wanting_goes_on f st =
    ends_well wanting (f ∷ st) null_word (constant null)
    (wanted false wanting (f ∷ st) null_word (closing (f ∷ st)) (at_comma false (f ∷ st)) (record { first = 110; others = 117 ∷ 108 ∷ 108 ∷ []; parts = refl; no_space = refl; no_bracket = refl })
    ∙ null_passes false (f ∷ st) (closing (f ∷ st)))

word_run : (ws : List ℕ) (d : Data) (st : List Frame) (rest : List ℕ) → 0 < length ws → run_by false (word ws d) st (ws ++ rest) ≡ run_by false (ended (constant d)) st rest
word_run [] d st rest l = absurd (omega arith)
word_run (w ∷ []) d st rest l = goes false (word (w ∷ []) d) (ended (constant d)) st st w rest (word_ends w d st w (itself w))
word_run (w ∷ x ∷ ws) d st rest l =
    goes false (word (w ∷ x ∷ ws) d) (word (x ∷ ws) d) st st w (x ∷ (ws ++ rest)) (word_on w x ws d st w (itself w)) ∙ word_run (x ∷ ws) d st rest (omega arith)

escapes_quote : is_escaped 39 ≡ true
unfolding is_escaped
escapes_quote = refl

chars_go_on : (s : List ℕ) (st : List Frame) → GoesOn (chars s) st
chars_go_on s st = ends_well (chars s) st (39 ∷ []) (quoted s) (goes false (chars s) (ended (quoted s)) st st 39 (closing st) (quote_ends s st))

escape_goes_on : (s : List ℕ) (st : List Frame) → GoesOn (escape s) st
escape_goes_on s st =
    let g = chars_go_on (s ++ 92 ∷ 39 ∷ []) st in
    record { more = 39 ∷ g.more; tree = g.tree; leads = goes false (escape s) (chars (s ++ 92 ∷ 39 ∷ [])) st st 39 g.more (escape_on s st 39 escapes_quote) ∙ g.leads }

figure_goes_on : (s : List ℕ) (f : Frame) (st : List Frame) → is_number_front s ≡ true → GoesOn (figure s) (f ∷ st)
figure_goes_on s f st e =
    let x = (front_decides s).0 e in
    ends_well (figure s) (f ∷ st) x.more (constant (number (s ++ x.more)))
    (figure_run false s x.more (closing (f ∷ st)) (f ∷ st) (numeral_front (s ++ x.more) x.is_numeral) ∙ fits_on false (s ++ x.more) (closing (f ∷ st)) (f ∷ st) x.is_numeral refl (number_stops (s ++ x.more) (closing (f ∷ st)) refl))

pub path_front : (s : List ℕ) → is_path_front s ≡ true → IsPathPrefix s
unfolding is_path_front
path_front s e = at (steps s) (path_judged s) e
  where
    at : (o : Result (Root × List Step) ℕ) → PathJudged s o → is_begun o ≡ true → IsPathPrefix s
    at (Ok x) j h = path_prefix s (record { root = x.0; steps = x.1; spelled = j })
    at (Err left) j h = end j.rest j.parts j.left_is
      where
        end : (rest : List ℕ) → s ≡ j.front ++ rest → length rest ≡ left → IsPathPrefix s
        end [] p l = subst IsPathPrefix (sym (p ∙ append-nil j.front)) j.alive
        end (c ∷ rest) p l = absurd (no_zero left h l)
          where
            no_zero : (k : ℕ) → (k == 0) ≡ true → suc (length rest) ≡ k → ⊥
            no_zero k x y = grind (arith, x, y)

along_goes_on : (s : List ℕ) (f : Frame) (st : List Frame) → is_path_front s ≡ true → GoesOn (along s) (f ∷ st)
along_goes_on s f st e =
    let x = path_front s e in
    ends_well (along s) (f ∷ st) x.more (path (s ++ x.more))
    (along_run false s x.more (closing (f ∷ st)) (f ∷ st) (path_prefix (s ++ x.more) x.is_path) ∙ along_whole false (s ++ x.more) (closing (f ∷ st)) (f ∷ st) x.is_path (path_stops (s ++ x.more) (closing (f ∷ st)) x.is_path refl))

ended_goes_on : (a : Argument) (st : List Frame) → GoesOn (ended a) st
ended_goes_on a st = ends_well (ended a) st [] a refl

pub reached_goes_on : (m : Mode) (st : List Frame) (t : List ℕ) → Reached m st t → GoesOn m st
reached_goes_on (prefix ws) st t h = prefix_goes_on ws st
reached_goes_on (naming n) st t h = naming_goes_on n st
reached_goes_on (named n) st t h = named_goes_on n st
reached_goes_on opening (f ∷ st) t h = opening_goes_on f st
reached_goes_on wanting (f ∷ st) t h = wanting_goes_on f st
reached_goes_on (word ws d) (f ∷ st) t h = ends_well (word ws d) (f ∷ st) ws (constant d) (word_run ws d (f ∷ st) (closing (f ∷ st)) h.back_is.0)
reached_goes_on (chars s) st t h = chars_go_on s st
reached_goes_on (escape s) st t h = escape_goes_on s st
reached_goes_on (figure s) (f ∷ st) t h = figure_goes_on s f st h.back_is.1
reached_goes_on (along s) (f ∷ st) t h = along_goes_on s f st h.back_is.1
reached_goes_on (ended a) st t h = ended_goes_on a st
reached_goes_on x y t h = absurd h.back_is

pub alive : (m : Mode) (st : List Frame) (t : List ℕ) → Reached m st t → IsPrefix t
alive m st t h = let g = reached_goes_on m st t h in record { more = g.more; is_call = record { tree = g.tree; spelled = run_spells false m st t g.more g.tree h g.leads } }

pub awaits_alive : (t : List ℕ) → AwaitsArgument t → IsPrefix t
awaits_alive t h = alive wanting (h.innermost ∷ h.others) t (empty wanting (h.innermost ∷ h.others) t h.opens refl)
