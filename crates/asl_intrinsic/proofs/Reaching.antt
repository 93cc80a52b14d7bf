-- What the machine has read so far: some open calls, and the front of an argument or of a name.
use Rattle.std.proofs.Common.{◌≡◌, ◌<◌, ◌==◌, ℕ, suc, Bool, true, false, List, [], ◌∷◌, ◌++◌, length, refl, sym, ◌∙◌, ap, subst, arith, cond, append_assoc}
use Rattle.std.specs.Prelude.{Result, Ok, Err, not, ◌&&◌}
use Rattle.std.proofs.lemmas.List.{append-nil, length-append}
use Rattle.std.proofs.lemmas.Bool.{eqb-true}
use Rattle.asl_json_data.specs.Data.{Data, null, boolean, number}
use Rattle.asl_json_data.specs.Number.{is_over}
use Rattle.asl_json_data.specs.Grammar.{null_word, true_word, false_word}
use Rattle.asl_json_data.specs.private.NumberParts.{is_number_front, is_number}
use Rattle.asl_json_data.proofs.Numerals.{numeral_decides}
use Rattle.asl_path.specs.declared.step.Root.{Root}
use Rattle.asl_path.specs.declared.step.Step.{Step}
use Rattle.asl_json_data.specs.Parts.{Joined}
use Rattle.asl_path.specs.Grammar.{Each, IsPath}
use Rattle.asl_path.specs.private.Steps.{steps}
use Rattle.asl_path.proofs.Fronts.{each_push}
use Rattle.asl_path.proofs.Judging.{read_spells}
use Rattle.asl_intrinsic.specs.Tree.{Argument, Frame, constant, quoted, path, call, Arguments, arguments}
use Rattle.asl_intrinsic.specs.Grammar.{states_word, is_name_byte, is_space, AreSpaces, is_escaped, is_inside, is_escape, SpellsConstant, SpellsHead, SpellsArgument, SpellsCall}
use Rattle.asl_intrinsic.specs.private.Lists.{SpellsArguments, SpellsMore}
use Rattle.asl_json_data.specs.Parts.{Spaced}
use Rattle.asl_intrinsic.specs.Fronts.{SpellsBefore, OpensCall, Opens}
use Rattle.asl_intrinsic.specs.private.Steps.{Mode, prefix, naming, named, opening, wanting, word, chars, escape, figure, along, ended, Next, go, stop, is_read, is_path_front, is_path, closes, in_prefix, in_named, in_naming, in_word, in_chars, in_escape, in_ended, in_figure, in_along, begins, in_opening, in_wanting, step_by, finish_by, onward, run_by}

-- ---- what stands behind the open calls

-- `States.`, a name and spaces
pub record IsNamed (n u : List ℕ) : Type 0 where
  pub spaces : List ℕ
  pub parts : u ≡ states_word ++ (n ++ spaces)
  pub some : 0 < length n
  pub each : Each is_name_byte n
  pub spaces_are : AreSpaces spaces

abbrev pub Piece : Mode → List Frame → List ℕ → Type 0
Piece (prefix ws) st u = u ++ ws ≡ states_word
Piece (naming n) st u = (u ≡ states_word ++ n) × (0 < length n) × Each is_name_byte n
Piece (named n) st u = IsNamed n u
Piece opening [] u = ⊥
Piece opening (f ∷ st) u = (u ≡ []) × (f.1 ≡ [])
Piece wanting [] u = ⊥
Piece wanting (f ∷ st) u = u ≡ []
Piece (word ws d) [] u = ⊥
Piece (word ws d) (f ∷ st) u = (0 < length ws) × SpellsConstant d (u ++ ws)
Piece (chars s) [] u = ⊥
Piece (chars s) (f ∷ st) u = (u ≡ 39 ∷ s) × (is_inside s ≡ true)
Piece (escape s) [] u = ⊥
Piece (escape s) (f ∷ st) u = (u ≡ 39 ∷ (s ++ 92 ∷ [])) × (is_inside s ≡ true)
Piece (figure s) [] u = ⊥
Piece (figure s) (f ∷ st) u = (u ≡ s) × (is_number_front s ≡ true)
Piece (along s) [] u = ⊥
Piece (along s) (f ∷ st) u = (u ≡ s) × (is_path_front s ≡ true)
Piece (ended a) [] u = SpellsCall a u
Piece (ended a) (f ∷ st) u = Joined (SpellsArgument a) AreSpaces u

abbrev pub Reached : Mode → List Frame → List ℕ → Type 0
Reached m st t = Joined (Opens st) (Piece m st) t

abbrev pub Holds : List ℕ → Next → Type 0
Holds t (go m st) = Reached m st t
Holds t (stop back) = Unit {0}

holds_cond : (t : List ℕ) (b : Bool) (x y : Next) → (b ≡ true → Holds t x) → (b ≡ false → Holds t y) → Holds t (cond b x y)
holds_cond t true x y f g = f refl
holds_cond t false x y f g = g refl

-- ---- one byte more

-- of the piece under way
grown : (m n : Mode) (st : List Frame) (t : List ℕ) (c : ℕ) → Reached m st t → ((u : List ℕ) → Piece m st u → Piece n st (u ++ c ∷ [])) → Reached n st (t ++ c ∷ [])
grown m n st t c h f = record {
  front = h.front;
  back = h.back ++ c ∷ [];
  parts = ap (λ (z : List ℕ). z ++ c ∷ []) h.parts ∙ append_assoc h.front h.back (c ∷ []);
  front_is = h.front_is;
  back_is = f h.back h.back_is;
}

-- the piece under way is another one too
turned : (m n : Mode) (st : List Frame) (t : List ℕ) → Reached m st t → ((u : List ℕ) → Piece m st u → Piece n st u) → Reached n st t
turned m n st t h f = record { front = h.front; back = h.back; parts = h.parts; front_is = h.front_is; back_is = f h.back h.back_is }

-- a piece of one byte
fresh : (m : Mode) (st : List Frame) (t : List ℕ) (c : ℕ) → Opens st t → Piece m st (c ∷ []) → Reached m st (t ++ c ∷ [])
fresh m st t c h p = record { front = t; back = c ∷ []; parts = refl; front_is = h; back_is = p }

-- where an argument may begin
pub empty : (m : Mode) (st : List Frame) (t : List ℕ) → Opens st t → Piece m st [] → Reached m st t
empty m st t h p = record { front = t; back = []; parts = sym (append-nil t); front_is = h; back_is = p }

-- the open calls alone
pub opens_alone : (st : List Frame) (t o u : List ℕ) → t ≡ o ++ u → u ≡ [] → Opens st o → Opens st t
opens_alone st t o u e n h = subst (Opens st) (sym (e ∙ ap (λ (z : List ℕ). o ++ z) n ∙ append-nil o)) h

bare : (a : Argument) (f : Frame) (st : List Frame) (u : List ℕ) → SpellsArgument a u → Piece (ended a) (f ∷ st) u
bare a f st u h = record { front = u; back = []; parts = sym (append-nil u); front_is = h; back_is = tt }

-- a call has ended
closed : (n : List ℕ) (ts : Arguments) (st : List Frame) (u : List ℕ) → SpellsArgument (call n ts) u → Piece (ended (call n ts)) st u
closed n ts [] u h = h
closed n ts (f ∷ st) u h = bare (call n ts) f st u h

spaces_push : (s : List ℕ) (c : ℕ) → AreSpaces s → (c == 32) ≡ true → AreSpaces (s ++ c ∷ [])
spaces_push s c h e = each_push is_space s c h e

-- ---- open calls

opens_space : (f : Frame) (st : List Frame) (t : List ℕ) (c : ℕ) → Opens (f ∷ st) t → (c == 32) ≡ true → Opens (f ∷ st) (t ++ c ∷ [])
opens_space f st t c h e =
    let b = h.back_is in
    let i = b.back_is in
    record {
      front = h.front;
      back = h.back ++ c ∷ [];
      parts = ap (λ (z : List ℕ). z ++ c ∷ []) h.parts ∙ append_assoc h.front h.back (c ∷ []);
      front_is = h.front_is;
      back_is = record {
        front = b.front;
        back = b.back ++ c ∷ [];
        parts = ap (λ (z : List ℕ). z ++ c ∷ []) b.parts ∙ append_assoc b.front b.back (c ∷ []);
        front_is = b.front_is;
        back_is = record {
          front = i.front;
          back = i.back ++ c ∷ [];
          parts = ap (λ (z : List ℕ). z ++ c ∷ []) i.parts ∙ append_assoc i.front i.back (c ∷ []);
          front_is = i.front_is;
          back_is = spaces_push i.back c i.back_is e;
        };
      };
    }

-- a name and its bracket
named_opens : (n u : List ℕ) → IsNamed n u → SpellsHead n (u ++ 40 ∷ [])
named_opens n u h = record {
  spaces = h.spaces;
  parts = ap (λ (z : List ℕ). z ++ 40 ∷ []) h.parts ∙ ap (λ (z : List ℕ). states_word ++ z) (append_assoc n h.spaces (40 ∷ []));
  some = h.some;
  each = h.each;
  spaces_are = h.spaces_are;
}

head_opens : (n u : List ℕ) → SpellsHead n u → OpensCall (n, []) u
head_opens n u h = record { front = u; back = []; parts = sym (append-nil u); front_is = h; back_is = record { front = []; back = []; parts = refl; front_is = refl; back_is = tt } }

call_opens : (n : List ℕ) (st : List Frame) (t : List ℕ) → Reached (named n) st t → Opens ((n, []) ∷ st) (t ++ 40 ∷ [])
call_opens n st t h = record {
  front = h.front;
  back = h.back ++ 40 ∷ [];
  parts = ap (λ (z : List ℕ). z ++ 40 ∷ []) h.parts ∙ append_assoc h.front h.back (40 ∷ []);
  front_is = h.front_is;
  back_is = head_opens n (h.back ++ 40 ∷ []) (named_opens n h.back h.back_is);
}

-- arguments before a comma, and one more
before_push : (ts : List Argument) (a : Argument) (u v : List ℕ) → SpellsBefore ts u → Spaced AreSpaces (SpellsArgument a) v → SpellsBefore (ts ++ a ∷ []) (u ++ (v ++ 44 ∷ []))
before_push [] a u v h g = record { front = v; back = 44 ∷ []; parts = ap (λ (z : List ℕ). z ++ (v ++ 44 ∷ [])) h; front_is = g; back_is = record { tail = []; parts = refl; tail_is = refl } }
before_push (b ∷ ts) a u v h g = record {
  front = h.front;
  back = 44 ∷ (h.back_is.tail ++ (v ++ 44 ∷ []));
  parts = ap (λ (z : List ℕ). z ++ (v ++ 44 ∷ [])) h.parts ∙ append_assoc h.front h.back (v ++ 44 ∷ []) ∙ ap (λ (z : List ℕ). h.front ++ (z ++ (v ++ 44 ∷ []))) h.back_is.parts;
  front_is = h.front_is;
  back_is = record { tail = h.back_is.tail ++ (v ++ 44 ∷ []); parts = refl; tail_is = before_push ts a h.back_is.tail v h.back_is.tail_is g };
}

behind_comma : (ts : List Argument) (a : Argument) (u : List ℕ) → SpellsArguments (arguments (ts ++ a ∷ [])) u → SpellsMore (arguments (ts ++ a ∷ [])) (44 ∷ u)
behind_comma [] a u h = record { tail = u; parts = refl; tail_is = h }
behind_comma (b ∷ ts) a u h = record { tail = u; parts = refl; tail_is = h }

-- the last argument, and the bracket
before_last : (ts : List Argument) (a : Argument) (u v : List ℕ) → SpellsBefore ts u → Spaced AreSpaces (SpellsArgument a) v → SpellsArguments (arguments (ts ++ a ∷ [])) (u ++ (v ++ 41 ∷ []))
before_last [] a u v h g = record { front = v; back = 41 ∷ []; parts = ap (λ (z : List ℕ). z ++ (v ++ 41 ∷ [])) h; front_is = g; back_is = refl }
before_last (b ∷ ts) a u v h g = record {
  front = h.front;
  back = 44 ∷ (h.back_is.tail ++ (v ++ 41 ∷ []));
  parts = ap (λ (z : List ℕ). z ++ (v ++ 41 ∷ [])) h.parts ∙ append_assoc h.front h.back (v ++ 41 ∷ []) ∙ ap (λ (z : List ℕ). h.front ++ (z ++ (v ++ 41 ∷ []))) h.back_is.parts;
  front_is = h.front_is;
  back_is = behind_comma ts a (h.back_is.tail ++ (v ++ 41 ∷ [])) (before_last ts a h.back_is.tail v h.back_is.tail_is g);
}

-- a call without arguments
call_empty : (n : List ℕ) (ts : List Argument) (u : List ℕ) → OpensCall (n, ts) u → ts ≡ [] → SpellsArgument (call n (arguments ts)) (u ++ 41 ∷ [])
call_empty n ts u h e =
    let i = h.back_is in
    let before : i.front ≡ [] = subst (λ (z : List Argument). SpellsBefore z i.front) e i.front_is in
    subst (λ (z : List Argument). SpellsArgument (call n (arguments z)) (u ++ 41 ∷ [])) (sym e)
    record {
      front = h.front;
      back = i.back ++ 41 ∷ [];
      parts = ap (λ (z : List ℕ). z ++ 41 ∷ []) (h.parts ∙ ap (λ (z : List ℕ). h.front ++ z) (i.parts ∙ ap (λ (z : List ℕ). z ++ i.back) before)) ∙ append_assoc h.front i.back (41 ∷ []);
      front_is = h.front_is;
      back_is = record { front = i.back; back = 41 ∷ []; parts = refl; front_is = i.back_is; back_is = refl };
    }

-- an argument and the spaces round it
round : (a : Argument) (spaces u : List ℕ) → AreSpaces spaces → Joined (SpellsArgument a) AreSpaces u → Spaced AreSpaces (SpellsArgument a) (spaces ++ u)
round a spaces u s h = record { before = spaces; inner = h.front; behind = h.back; parts = ap (λ (z : List ℕ). spaces ++ z) h.parts; before_is = s; inner_is = h.front_is; behind_is = h.back_is }

regrouped : (a b c d e : List ℕ) (x : ℕ) → a ≡ b ++ (c ++ d) → (a ++ e) ++ x ∷ [] ≡ b ++ (c ++ ((d ++ e) ++ x ∷ []))
regrouped a b c d e x h =
    ap (λ (z : List ℕ). (z ++ e) ++ x ∷ []) h
    ∙ ap (λ (z : List ℕ). z ++ x ∷ []) (append_assoc b (c ++ d) e ∙ ap (λ (z : List ℕ). b ++ z) (append_assoc c d e))
    ∙ append_assoc b (c ++ (d ++ e)) (x ∷ [])
    ∙ ap (λ (z : List ℕ). b ++ z) (append_assoc c (d ++ e) (x ∷ []))

call_whole : (n : List ℕ) (ts : List Argument) (a : Argument) (u v : List ℕ) → OpensCall (n, ts) u → Joined (SpellsArgument a) AreSpaces v → SpellsArgument (call n (arguments (ts ++ a ∷ []))) ((u ++ v) ++ 41 ∷ [])
call_whole n ts a u v h g =
    let i = h.back_is in
    record {
      front = h.front;
      back = i.front ++ ((i.back ++ v) ++ 41 ∷ []);
      parts = regrouped u h.front i.front i.back v 41 (h.parts ∙ ap (λ (z : List ℕ). h.front ++ z) i.parts);
      front_is = h.front_is;
      back_is = before_last ts a i.front (i.back ++ v) i.front_is (round a i.back v i.back_is g);
    }

call_more : (n : List ℕ) (ts : List Argument) (a : Argument) (u v : List ℕ) → OpensCall (n, ts) u → Joined (SpellsArgument a) AreSpaces v → OpensCall (n, ts ++ a ∷ []) ((u ++ v) ++ 44 ∷ [])
call_more n ts a u v h g =
    let i = h.back_is in
    let text = i.front ++ ((i.back ++ v) ++ 44 ∷ []) in
    record {
      front = h.front;
      back = text;
      parts = regrouped u h.front i.front i.back v 44 (h.parts ∙ ap (λ (z : List ℕ). h.front ++ z) i.parts);
      front_is = h.front_is;
      back_is = record { front = text; back = []; parts = sym (append-nil text); front_is = before_push ts a i.front (i.back ++ v) i.front_is (round a i.back v i.back_is g); back_is = tt };
    }

-- what stands behind the outer calls
outer : (o b t u : List ℕ) (x : ℕ) → t ≡ (o ++ b) ++ u → t ++ x ∷ [] ≡ o ++ ((b ++ u) ++ x ∷ [])
outer o b t u x e = ap (λ (z : List ℕ). z ++ x ∷ []) (e ∙ append_assoc o b u) ∙ append_assoc o (b ++ u) (x ∷ [])

comma_opens : (a : Argument) (f : Frame) (st : List Frame) (t : List ℕ) → Reached (ended a) (f ∷ st) t → Opens ((f.0, f.1 ++ a ∷ []) ∷ st) (t ++ 44 ∷ [])
comma_opens a f st t h =
    let o = h.front_is in
    record {
      front = o.front;
      back = (o.back ++ h.back) ++ 44 ∷ [];
      parts = outer o.front o.back t h.back 44 (h.parts ∙ ap (λ (z : List ℕ). z ++ h.back) o.parts);
      front_is = o.front_is;
      back_is = call_more f.0 f.1 a o.back h.back o.back_is h.back_is;
    }

bracket_ends : (a : Argument) (f : Frame) (st : List Frame) (t : List ℕ) → Reached (ended a) (f ∷ st) t → Reached (ended (call f.0 (arguments (f.1 ++ a ∷ [])))) st (t ++ 41 ∷ [])
bracket_ends a f st t h =
    let o = h.front_is in
    let text = (o.back ++ h.back) ++ 41 ∷ [] in
    record {
      front = o.front;
      back = text;
      parts = outer o.front o.back t h.back 41 (h.parts ∙ ap (λ (z : List ℕ). z ++ h.back) o.parts);
      front_is = o.front_is;
      back_is = closed f.0 (arguments (f.1 ++ a ∷ [])) st text (call_whole f.0 f.1 a o.back h.back o.back_is h.back_is);
    }

bracket_closes : (f : Frame) (st : List Frame) (t : List ℕ) → Reached opening (f ∷ st) t → Reached (ended (call f.0 (arguments f.1))) st (t ++ 41 ∷ [])
bracket_closes f st t h =
    let o = opens_alone (f ∷ st) t h.front h.back h.parts h.back_is.0 h.front_is in
    let text = o.back ++ 41 ∷ [] in
    record {
      front = o.front;
      back = text;
      parts = ap (λ (z : List ℕ). z ++ 41 ∷ []) o.parts ∙ append_assoc o.front o.back (41 ∷ []);
      front_is = o.front_is;
      back_is = closed f.0 (arguments f.1) st text (call_empty f.0 f.1 o.back o.back_is h.back_is.1);
    }

-- ---- names

name_begins : (st : List Frame) (t : List ℕ) (c : ℕ) → Reached (prefix []) st t → is_name_byte c ≡ true → Reached (naming (c ∷ [])) st (t ++ c ∷ [])
name_begins st t c h e = grown (prefix []) (naming (c ∷ [])) st t c h (λ u g. (ap (λ (z : List ℕ). z ++ c ∷ []) (sym (append-nil u) ∙ g), omega arith, (e, tt)))

prefix_reaches : (ws : List ℕ) (st : List Frame) (t : List ℕ) (c : ℕ) → Reached (prefix ws) st t → Holds (t ++ c ∷ []) (in_prefix ws st c)
unfolding in_prefix
prefix_reaches [] st t c h = holds_cond (t ++ c ∷ []) (is_name_byte c) _ _ (λ e. name_begins st t c h e) (λ _. tt)
prefix_reaches (w ∷ ws) st t c h =
    holds_cond (t ++ c ∷ []) (c == w) _ _ (λ e. grown (prefix (w ∷ ws)) (prefix ws) st t c h (λ u g. append_assoc u (c ∷ []) ws ∙ ap (λ (z : ℕ). u ++ z ∷ ws) (eqb-true c w e) ∙ g)) (λ _. tt)

named_reaches : (n : List ℕ) (st : List Frame) (t : List ℕ) (c : ℕ) → Reached (named n) st t → Holds (t ++ c ∷ []) (in_named n st c)
unfolding in_named
named_reaches n st t c h =
    holds_cond (t ++ c ∷ []) (c == 32) _ _ (λ e. grown (named n) (named n) st t c h (λ u g. space u g e)) (λ _.
    holds_cond (t ++ c ∷ []) (c == 40) _ _ (λ e. subst (λ (z : ℕ). Reached opening ((n, []) ∷ st) (t ++ z ∷ [])) (sym (eqb-true c 40 e)) (empty opening ((n, []) ∷ st) (t ++ 40 ∷ []) (call_opens n st t h) (refl, refl))) (λ _. tt))
  where
    space : (u : List ℕ) → IsNamed n u → (c == 32) ≡ true → IsNamed n (u ++ c ∷ [])
    space u g e = record {
      spaces = g.spaces ++ c ∷ [];
      parts = ap (λ (z : List ℕ). z ++ c ∷ []) g.parts ∙ ap (λ (z : List ℕ). states_word ++ z) (append_assoc n g.spaces (c ∷ []));
      some = g.some;
      each = g.each;
      spaces_are = spaces_push g.spaces c g.spaces_are e;
    }

naming_reaches : (n : List ℕ) (st : List Frame) (t : List ℕ) (c : ℕ) → Reached (naming n) st t → Holds (t ++ c ∷ []) (in_naming n st c)
unfolding in_naming
naming_reaches n st t c h =
    holds_cond (t ++ c ∷ []) (is_name_byte c) _ _ (λ e. grown (naming n) (naming (n ++ c ∷ [])) st t c h (λ u g. (ap (λ (z : List ℕ). z ++ c ∷ []) g.0, omega (arith, length-append n (c ∷ [])), each_push is_name_byte n c g.2 e)))
    (λ _. named_reaches n st t c (turned (naming n) (named n) st t h (λ u g. record { spaces = []; parts = g.0 ∙ ap (λ (z : List ℕ). states_word ++ z) (sym (append-nil n)); some = g.1; each = g.2; spaces_are = tt })))

-- ---- words, texts, numbers and paths

word_reaches : (ws : List ℕ) (d : Data) (f : Frame) (st : List Frame) (t : List ℕ) (c : ℕ) → Reached (word ws d) (f ∷ st) t → Holds (t ++ c ∷ []) (in_word ws d (f ∷ st) c)
unfolding in_word
word_reaches [] d f st t c h = tt
word_reaches (w ∷ []) d f st t c h =
    holds_cond (t ++ c ∷ []) (c == w) _ _ (λ e. grown (word (w ∷ []) d) (ended (constant d)) (f ∷ st) t c h (λ u g. bare (constant d) f st (u ++ c ∷ []) (subst (λ (z : ℕ). SpellsConstant d (u ++ z ∷ [])) (sym (eqb-true c w e)) g.1))) (λ _. tt)
word_reaches (w ∷ x ∷ ws) d f st t c h =
    holds_cond (t ++ c ∷ []) (c == w) _ _ (λ e. grown (word (w ∷ x ∷ ws) d) (word (x ∷ ws) d) (f ∷ st) t c h (λ u g. (omega arith, subst (SpellsConstant d) (ap (λ (z : ℕ). u ++ z ∷ x ∷ ws) (sym (eqb-true c w e)) ∙ sym (append_assoc u (c ∷ []) (x ∷ ws))) g.1))) (λ _. tt)

mutual
  pub inside_append : (s v : List ℕ) → is_inside s ≡ true → is_inside v ≡ true → is_inside (s ++ v) ≡ true
  inside_append [] v h g = g
  inside_append (c ∷ s) v h g = at (c == 92) (c == 39) h (λ e. escape_append s v e g) (λ e. inside_append s v e g)
    where
      at : (b q : Bool) → cond b (is_escape s) (not q && is_inside s) ≡ true → (is_escape s ≡ true → is_escape (s ++ v) ≡ true) → (is_inside s ≡ true → is_inside (s ++ v) ≡ true) → cond b (is_escape (s ++ v)) (not q && is_inside (s ++ v)) ≡ true
      at true q e f k = f e
      at false true e f k = absurd cc
      at false false e f k = k e

  escape_append : (s v : List ℕ) → is_escape s ≡ true → is_inside v ≡ true → is_escape (s ++ v) ≡ true
  escape_append [] v h g = absurd cc
  escape_append (c ∷ s) v h g = at (is_escaped c) h (λ e. inside_append s v e g)
    where
      at : (b : Bool) → (b && is_inside s) ≡ true → (is_inside s ≡ true → is_inside (s ++ v) ≡ true) → (b && is_inside (s ++ v)) ≡ true
      at true e k = k e
      at false e k = absurd cc

one_inside : (c : ℕ) → (c == 39) ≡ false → (c == 92) ≡ false → is_inside (c ∷ []) ≡ true
one_inside c e f = rw (f, e) refl

two_inside : (c : ℕ) → is_escaped c ≡ true → is_inside (92 ∷ c ∷ []) ≡ true
two_inside c e = rw e refl

chars_reaches : (s : List ℕ) (f : Frame) (st : List Frame) (t : List ℕ) (c : ℕ) → Reached (chars s) (f ∷ st) t → Holds (t ++ c ∷ []) (in_chars s (f ∷ st) c)
unfolding in_chars
chars_reaches s f st t c h =
    holds_cond (t ++ c ∷ []) (c == 39) _ _ (λ e. grown (chars s) (ended (quoted s)) (f ∷ st) t c h (λ u g. bare (quoted s) f st (u ++ c ∷ []) (record { parts = ap (λ (z : List ℕ). z ++ c ∷ []) g.0 ∙ ap (λ (z : ℕ). 39 ∷ (s ++ z ∷ [])) (eqb-true c 39 e); inside = g.1 }))) (λ q.
    holds_cond (t ++ c ∷ []) (c == 92) _ _ (λ e. grown (chars s) (escape s) (f ∷ st) t c h (λ u g. (ap (λ (z : List ℕ). z ++ c ∷ []) g.0 ∙ ap (λ (z : ℕ). 39 ∷ (s ++ z ∷ [])) (eqb-true c 92 e), g.1))) (λ b.
    grown (chars s) (chars (s ++ c ∷ [])) (f ∷ st) t c h (λ u g. (ap (λ (z : List ℕ). z ++ c ∷ []) g.0, inside_append s (c ∷ []) g.1 (one_inside c q b)))))

escape_reaches : (s : List ℕ) (f : Frame) (st : List Frame) (t : List ℕ) (c : ℕ) → Reached (escape s) (f ∷ st) t → Holds (t ++ c ∷ []) (in_escape s (f ∷ st) c)
unfolding in_escape
escape_reaches s f st t c h =
    holds_cond (t ++ c ∷ []) (is_escaped c) _ _ (λ e. grown (escape s) (chars (s ++ 92 ∷ c ∷ [])) (f ∷ st) t c h (λ u g. (ap (λ (z : List ℕ). z ++ c ∷ []) g.0 ∙ ap (λ (z : List ℕ). 39 ∷ z) (append_assoc s (92 ∷ []) (c ∷ [])), inside_append s (92 ∷ c ∷ []) g.1 (two_inside c e)))) (λ _. tt)

pub path_spelled : (s : List ℕ) → is_path s ≡ true → IsPath s
unfolding is_path
path_spelled s e = at (steps s) refl e
  where
    at : (o : Result (Root × List Step) ℕ) → steps s ≡ o → is_read o ≡ true → IsPath s
    at (Ok x) p q = record { root = x.0; steps = x.1; spelled = read_spells s x.0 x.1 p }
    at (Err left) p q = absurd cc

ended_reaches : (a : Argument) (st : List Frame) (t : List ℕ) (c : ℕ) → Reached (ended a) st t → Holds (t ++ c ∷ []) (in_ended a st c)
unfolding in_ended closes
ended_reaches a [] t c h = tt
ended_reaches a (f ∷ st) t c h =
    holds_cond (t ++ c ∷ []) (c == 32) _ _ (λ e. grown (ended a) (ended a) (f ∷ st) t c h (λ u g. space u g e)) (λ _.
    holds_cond (t ++ c ∷ []) (c == 44) _ _ (λ e. subst (λ (z : ℕ). Reached wanting ((f.0, f.1 ++ a ∷ []) ∷ st) (t ++ z ∷ [])) (sym (eqb-true c 44 e)) (empty wanting ((f.0, f.1 ++ a ∷ []) ∷ st) (t ++ 44 ∷ []) (comma_opens a f st t h) refl)) (λ _.
    holds_cond (t ++ c ∷ []) (c == 41) _ _ (λ e. subst (λ (z : ℕ). Reached (ended (call f.0 (arguments (f.1 ++ a ∷ [])))) st (t ++ z ∷ [])) (sym (eqb-true c 41 e)) (bracket_ends a f st t h)) (λ _. tt)))
  where
    space : (u : List ℕ) → Joined (SpellsArgument a) AreSpaces u → (c == 32) ≡ true → Joined (SpellsArgument a) AreSpaces (u ++ c ∷ [])
    space u g e = record { front = g.front; back = g.back ++ c ∷ []; parts = ap (λ (z : List ℕ). z ++ c ∷ []) g.parts ∙ append_assoc g.front g.back (c ∷ []); front_is = g.front_is; back_is = spaces_push g.back c g.back_is e }

figure_reaches : (lim : Bool) (s : List ℕ) (f : Frame) (st : List Frame) (t : List ℕ) (c : ℕ) → Reached (figure s) (f ∷ st) t → Holds (t ++ c ∷ []) (in_figure lim s (f ∷ st) c)
unfolding in_figure
figure_reaches lim s f st t c h =
    holds_cond (t ++ c ∷ []) (is_number_front (s ++ c ∷ [])) _ _ (λ e. grown (figure s) (figure (s ++ c ∷ [])) (f ∷ st) t c h (λ u g. (ap (λ (z : List ℕ). z ++ c ∷ []) g.0, e))) (λ _.
    holds_cond (t ++ c ∷ []) (is_number s) _ _ (λ e.
    holds_cond (t ++ c ∷ []) (lim && is_over s) _ _ (λ _. tt) (λ _. ended_reaches (constant (number s)) (f ∷ st) t c (turned (figure s) (ended (constant (number s))) (f ∷ st) t h (λ u g. bare (constant (number s)) f st u (g.0, (numeral_decides s).0 e)))))
    (λ _. tt))

along_reaches : (s : List ℕ) (f : Frame) (st : List Frame) (t : List ℕ) (c : ℕ) → Reached (along s) (f ∷ st) t → Holds (t ++ c ∷ []) (in_along s (f ∷ st) c)
unfolding in_along
along_reaches s f st t c h =
    holds_cond (t ++ c ∷ []) (is_path_front (s ++ c ∷ [])) _ _ (λ e. grown (along s) (along (s ++ c ∷ [])) (f ∷ st) t c h (λ u g. (ap (λ (z : List ℕ). z ++ c ∷ []) g.0, e))) (λ _.
    holds_cond (t ++ c ∷ []) (is_path s) _ _ (λ e. ended_reaches (path s) (f ∷ st) t c (turned (along s) (ended (path s)) (f ∷ st) t h (λ u g. bare (path s) f st u (g.0, path_spelled s e)))) (λ _. tt))

-- ---- where an argument begins

nothing_front : is_path_front [] ≡ true
unfolding is_path_front
nothing_front = refl

begins_reaches : (f : Frame) (st : List Frame) (t : List ℕ) (c : ℕ) → Opens (f ∷ st) t → Holds (t ++ c ∷ []) (begins (f ∷ st) c)
unfolding begins
begins_reaches f st t c h =
    holds_cond (t ++ c ∷ []) (c == 39) _ _ (λ e. fresh (chars []) (f ∷ st) t c h (ap (λ (z : ℕ). z ∷ []) (eqb-true c 39 e), refl)) (λ _.
    holds_cond (t ++ c ∷ []) (c == 36) _ _ (λ _. along_reaches [] f st t c (empty (along []) (f ∷ st) t h (refl, nothing_front))) (λ _.
    holds_cond (t ++ c ∷ []) (c == 83) _ _ (λ _. prefix_reaches states_word (f ∷ st) t c (empty (prefix states_word) (f ∷ st) t h refl)) (λ _.
    holds_cond (t ++ c ∷ []) (c == 110) _ _ (λ _. word_reaches null_word null f st t c (empty (word null_word null) (f ∷ st) t h (omega arith, refl))) (λ _.
    holds_cond (t ++ c ∷ []) (c == 116) _ _ (λ _. word_reaches true_word (boolean true) f st t c (empty (word true_word (boolean true)) (f ∷ st) t h (omega arith, refl))) (λ _.
    holds_cond (t ++ c ∷ []) (c == 102) _ _ (λ _. word_reaches false_word (boolean false) f st t c (empty (word false_word (boolean false)) (f ∷ st) t h (omega arith, refl))) (λ _.
    holds_cond (t ++ c ∷ []) (is_number_front (c ∷ [])) _ _ (λ e. fresh (figure (c ∷ [])) (f ∷ st) t c h (refl, e)) (λ _. tt)))))))

spaced_opens : (f : Frame) (st : List Frame) (t : List ℕ) (c : ℕ) (m : Mode) → Opens (f ∷ st) t → Piece m (f ∷ st) [] → (c == 32) ≡ true → Reached m (f ∷ st) (t ++ c ∷ [])
spaced_opens f st t c m h p e = empty m (f ∷ st) (t ++ c ∷ []) (opens_space f st t c h e) p

opening_reaches : (f : Frame) (st : List Frame) (t : List ℕ) (c : ℕ) → Reached opening (f ∷ st) t → Holds (t ++ c ∷ []) (in_opening (f ∷ st) c)
unfolding in_opening closes
opening_reaches f st t c h =
    let o = opens_alone (f ∷ st) t h.front h.back h.parts h.back_is.0 h.front_is in
    holds_cond (t ++ c ∷ []) (c == 32) _ _ (λ e. spaced_opens f st t c opening o (refl, h.back_is.1) e) (λ _.
    holds_cond (t ++ c ∷ []) (c == 41) _ _ (λ e. subst (λ (z : ℕ). Reached (ended (call f.0 (arguments f.1))) st (t ++ z ∷ [])) (sym (eqb-true c 41 e)) (bracket_closes f st t h)) (λ _. begins_reaches f st t c o))

wanting_reaches : (f : Frame) (st : List Frame) (t : List ℕ) (c : ℕ) → Reached wanting (f ∷ st) t → Holds (t ++ c ∷ []) (in_wanting (f ∷ st) c)
unfolding in_wanting
wanting_reaches f st t c h =
    let o = opens_alone (f ∷ st) t h.front h.back h.parts h.back_is h.front_is in
    holds_cond (t ++ c ∷ []) (c == 32) _ _ (λ e. spaced_opens f st t c wanting o refl e) (λ _. begins_reaches f st t c o)

pub step_reaches : (lim : Bool) (m : Mode) (st : List Frame) (t : List ℕ) (c : ℕ) → Reached m st t → Holds (t ++ c ∷ []) (step_by lim m st c)
step_reaches lim (prefix ws) st t c h = prefix_reaches ws st t c h
step_reaches lim (naming n) st t c h = naming_reaches n st t c h
step_reaches lim (named n) st t c h = named_reaches n st t c h
step_reaches lim opening (f ∷ st) t c h = opening_reaches f st t c h
step_reaches lim wanting (f ∷ st) t c h = wanting_reaches f st t c h
step_reaches lim (word ws d) (f ∷ st) t c h = word_reaches ws d f st t c h
step_reaches lim (chars s) (f ∷ st) t c h = chars_reaches s f st t c h
step_reaches lim (escape s) (f ∷ st) t c h = escape_reaches s f st t c h
step_reaches lim (figure s) (f ∷ st) t c h = figure_reaches lim s f st t c h
step_reaches lim (along s) (f ∷ st) t c h = along_reaches s f st t c h
step_reaches lim (ended a) st t c h = ended_reaches a st t c h
step_reaches lim x y t c h = absurd h.back_is

-- ---- what is heard is spelled

never_whole : (b c : Bool) (k : ℕ) (a : Argument) → ◌≡◌ {A = Result Argument ℕ} (cond b (cond c (Err k) (Err 0)) (Err 0)) (Ok a) → ⊥
never_whole true true k a e = cc
never_whole true false k a e = cc
never_whole false c k a e = cc

pub finish_spells : (lim : Bool) (m : Mode) (st : List Frame) (t : List ℕ) (a : Argument) → Reached m st t → finish_by lim m st ≡ Ok a → SpellsCall a t
finish_spells lim (figure s) [] t a h e = absurd h.back_is
finish_spells lim (figure s) (f ∷ st) t a h e = absurd (never_whole (is_number s) (lim && is_over s) (length s) a e)
finish_spells lim (along s) [] t a h e = absurd h.back_is
finish_spells lim (along s) (f ∷ st) t a h e = absurd (never_whole (is_path s) false 0 a e)
finish_spells lim (ended b) [] t a h e =
    let same : b ≡ a = cc in
    subst (λ (z : Argument). SpellsCall z t) same (subst (SpellsCall b) (sym (h.parts ∙ ap (λ (z : List ℕ). z ++ h.back) h.front_is)) h.back_is)
finish_spells lim x y t a h e = absurd cc

pub run_spells : (lim : Bool) (m : Mode) (st : List Frame) (t xs : List ℕ) (a : Argument) → Reached m st t → run_by lim m st xs ≡ Ok a → SpellsCall a (t ++ xs)
run_spells lim m st t [] a h e = subst (SpellsCall a) (sym (append-nil t)) (finish_spells lim m st t a h e)
run_spells lim m st t (c ∷ cs) a h e = next (step_by lim m st c) (step_reaches lim m st t c h) e (λ n su g f. run_spells lim n su (t ++ c ∷ []) cs a g f)
  where
    next : (n : Next) → Holds (t ++ c ∷ []) n → onward n (suc (length cs)) (λ k su. run_by lim k su cs) ≡ Ok a
        → ((k : Mode) (su : List Frame) → Reached k su (t ++ c ∷ []) → run_by lim k su cs ≡ Ok a → SpellsCall a ((t ++ c ∷ []) ++ cs)) → SpellsCall a (t ++ c ∷ cs)
    next (go k su) g f again = subst (SpellsCall a) (append_assoc t (c ∷ []) cs) (again k su g f)
    next (stop back) g f again = absurd cc

pub at_start : Reached (prefix states_word) [] []
at_start = record { front = []; back = []; parts = refl; front_is = refl; back_is = refl }
