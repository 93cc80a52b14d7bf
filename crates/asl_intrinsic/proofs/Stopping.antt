-- Without limits of numbers the machine stops where it stands.
use Rattle.std.proofs.Common.{◌≡◌, ◌==◌, ℕ, Bool, true, false, List, [], ◌∷◌, ◌++◌, refl, subst, cond}
use Rattle.asl_json_data.specs.Data.{Data, null, boolean, number}
use Rattle.asl_json_data.specs.Grammar.{null_word, true_word, false_word}
use Rattle.asl_json_data.specs.private.NumberParts.{is_number_front, is_number}
use Rattle.asl_intrinsic.specs.Tree.{Argument, Frame, constant, path}
use Rattle.asl_intrinsic.specs.Grammar.{is_name_byte, is_escaped, states_word}
use Rattle.asl_intrinsic.specs.private.Steps.{Mode, prefix, naming, named, opening, wanting, word, chars, escape, figure, along, ended, Next, go, stop, is_path, is_path_front, in_prefix, in_naming, in_named, in_opening, in_wanting, in_word, in_chars, in_escape, in_ended, in_figure, in_along, begins, closes, step_by}

-- a stop is at its byte
abbrev Here : Next → Type 0
Here (go m st) = Unit {0}
Here (stop back) = back ≡ 0

here_cond : (b : Bool) (x y : Next) → Here x → Here y → Here (cond b x y)
here_cond true x y f g = f
here_cond false x y f g = g

here_named : (n : List ℕ) (st : List Frame) (c : ℕ) → Here (in_named n st c)
unfolding in_named
here_named n st c = here_cond (c == 32) _ _ tt (here_cond (c == 40) _ _ tt refl)

here_prefix : (ws : List ℕ) (st : List Frame) (c : ℕ) → Here (in_prefix ws st c)
unfolding in_prefix
here_prefix [] st c = here_cond (is_name_byte c) _ _ tt refl
here_prefix (w ∷ ws) st c = here_cond (c == w) _ _ tt refl

here_naming : (n : List ℕ) (st : List Frame) (c : ℕ) → Here (in_naming n st c)
unfolding in_naming
here_naming n st c = here_cond (is_name_byte c) _ _ tt (here_named n st c)

here_word : (ws : List ℕ) (d : Data) (st : List Frame) (c : ℕ) → Here (in_word ws d st c)
unfolding in_word
here_word [] d st c = refl
here_word (w ∷ []) d st c = here_cond (c == w) _ _ tt refl
here_word (w ∷ x ∷ ws) d st c = here_cond (c == w) _ _ tt refl

here_closes : (st : List Frame) → Here (closes st)
unfolding closes
here_closes [] = refl
here_closes (f ∷ st) = tt

here_ended : (a : Argument) (st : List Frame) (c : ℕ) → Here (in_ended a st c)
unfolding in_ended
here_ended a [] c = refl
here_ended a (f ∷ st) c = here_cond (c == 32) _ _ tt (here_cond (c == 44) _ _ tt (here_cond (c == 41) _ _ (here_closes ((f.0, f.1 ++ a ∷ []) ∷ st)) refl))

here_figure : (s : List ℕ) (st : List Frame) (c : ℕ) → Here (in_figure false s st c)
unfolding in_figure
here_figure s st c = here_cond (is_number_front (s ++ c ∷ [])) _ _ tt (here_cond (is_number s) _ _ (here_ended (constant (number s)) st c) refl)

here_along : (s : List ℕ) (st : List Frame) (c : ℕ) → Here (in_along s st c)
unfolding in_along
here_along s st c = here_cond (is_path_front (s ++ c ∷ [])) _ _ tt (here_cond (is_path s) _ _ (here_ended (path s) st c) refl)

here_begins : (st : List Frame) (c : ℕ) → Here (begins st c)
unfolding begins
here_begins st c =
    here_cond (c == 39) _ _ tt
    (here_cond (c == 36) _ _ (here_along [] st c)
    (here_cond (c == 83) _ _ (here_prefix states_word st c)
    (here_cond (c == 110) _ _ (here_word null_word null st c)
    (here_cond (c == 116) _ _ (here_word true_word (boolean true) st c)
    (here_cond (c == 102) _ _ (here_word false_word (boolean false) st c)
    (here_cond (is_number_front (c ∷ [])) _ _ tt refl))))))

here_opening : (st : List Frame) (c : ℕ) → Here (in_opening st c)
unfolding in_opening
here_opening st c = here_cond (c == 32) _ _ tt (here_cond (c == 41) _ _ (here_closes st) (here_begins st c))

here_wanting : (st : List Frame) (c : ℕ) → Here (in_wanting st c)
unfolding in_wanting
here_wanting st c = here_cond (c == 32) _ _ tt (here_begins st c)

here_chars : (s : List ℕ) (st : List Frame) (c : ℕ) → Here (in_chars s st c)
unfolding in_chars
here_chars s st c = here_cond (c == 39) _ _ tt (here_cond (c == 92) _ _ tt tt)

here_escape : (s : List ℕ) (st : List Frame) (c : ℕ) → Here (in_escape s st c)
unfolding in_escape
here_escape s st c = here_cond (is_escaped c) _ _ tt refl

here_step : (m : Mode) (st : List Frame) (c : ℕ) → Here (step_by false m st c)
here_step (prefix ws) st c = here_prefix ws st c
here_step (naming n) st c = here_naming n st c
here_step (named n) st c = here_named n st c
here_step opening st c = here_opening st c
here_step wanting st c = here_wanting st c
here_step (word ws d) st c = here_word ws d st c
here_step (chars s) st c = here_chars s st c
here_step (escape s) st c = here_escape s st c
here_step (figure s) st c = here_figure s st c
here_step (along s) st c = here_along s st c
here_step (ended a) st c = here_ended a st c

pub stops_there : (m : Mode) (st : List Frame) (c back : ℕ) → step_by false m st c ≡ stop back → back ≡ 0
stops_there m st c back e = subst Here e (here_step m st c)
