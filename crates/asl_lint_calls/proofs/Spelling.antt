-- What is read of a text is the call that it spells.
use Rattle.std.proofs.Common.{◌≡◌, ◌<◌, ◌==◌, ℕ, zero, suc, Bool, true, false, cond, List, [], ◌∷◌, ◌++◌, length, take, drop, map, refl, sym, ◌∙◌, ap, subst, arith, append_assoc, append-nil, take-append-drop}
use Rattle.std.specs.Prelude.{◌&&◌, ◌||◌, Option, Some, None, Result, Ok, Err, option_map, nat_lt, nat_eq, codes}
use Rattle.std.proofs.lemmas.Bool.{eqb-true}
use Rattle.std.specs.Cmp.Lexicographic.{same_text}
use Rattle.std.specs.List.{starts_with}
use Rattle.std.specs.Result.{result_ok}
use Rattle.asl_json_data.specs.Data.{Data, null, boolean, number, text, list, dict}
use Rattle.asl_json_data.specs.Limits.{max_len}
use Rattle.asl_json_data.specs.Number.{IsNumeral, is_over}
use Rattle.asl_json_data.specs.Parts.{Joined, Spaced, Behind, MoreParts, Parts}
use Rattle.asl_json_data.specs.Reads.{Reads}
use Rattle.asl_json.specs.Same.{bytes_eq}
use Rattle.asl_json_scan.specs.declared.fault.Fault.{Fault}
use Rattle.asl_json_scan.specs.private.Machine.{run, value}
use Rattle.asl_json_scan.proofs.Documents.{reads_of}
use Rattle.asl_json_read.specs.Reading.{value_read}
use Rattle.asl_path.specs.Grammar.{Each}
use Rattle.asl_intrinsic_functions.specs.declared.function.Function.{Function}
use Rattle.asl_intrinsic_functions.specs.declared.function.Function.TheVariants.{Format, StringToJson, JsonToString, Array, ArrayPartition, ArrayContains, ArrayRange, ArrayGetItem, ArrayLength, ArrayUnique, Base64Encode, Base64Decode, Hash, JsonMerge, MathAdd, StringSplit}
use Rattle.asl_intrinsic_functions.specs.Names.{name_of, function_named, takes}
use Rattle.asl_intrinsic.specs.Tree.{Argument, constant, quoted, path, call, Arguments, none, argument, arguments}
use Rattle.asl_intrinsic.specs.Grammar.{states_word, is_name_byte, is_space, is_inside, AreSpaces, SpellsConstant, SpellsHead, SpellsQuoted, SpellsArgument, SpellsCall, argument_parts, close_bracket, Fits, FitAll, FitsConstant}
use Rattle.asl_intrinsic.specs.private.Steps.{is_path}
use Rattle.asl_intrinsic.proofs.Naming.{has_its_name}
use Rattle.asl_intrinsic.proofs.Reaching.{path_spelled}
use Rattle.asl_lint_calls.specs.declared.cutting.Mode.{Mode}
use Rattle.asl_lint_calls.specs.declared.cutting.Mode.TheVariants.{Plain, Quoted, Escaped}
use Rattle.asl_lint_calls.specs.declared.cutting.Move.{Move}
use Rattle.asl_lint_calls.specs.declared.cutting.Move.TheVariants.{On, Cut, Close, Stop}
use Rattle.asl_lint_calls.specs.Cutting.{given, after_first, before_last, is_empty, without_front, without_end, trimmed, at_bracket, behind_word, with_function, named_head, head, next, closed, moved, pieces, is_blank, unless_blank, arguments_in}
use Rattle.asl_lint_calls.proofs.Ends.{last_parts}
use Rattle.asl_lint_calls.proofs.Dividing.{at_comma, at_close}
use Rattle.asl_lint_calls.specs.Reading.{first_is, if_inside, inner_text, read_quoted, read_path, is_spelled, if_spelled, constant_value, read_constant, read_by, added, read_all, if_taken, call_of, read_call}

-- ---- options

pub record Gave {A B : Type 0} (o : Option A) (f : A → Option B) (b : B) : Type 0 where
  pub first : A
  pub is : o ≡ Some first
  pub then_is : f first ≡ Some b

pub gave : {A B : Type 0} (o : Option A) (f : A → Option B) (b : B) → given o f ≡ Some b → Gave o f b
gave (Some a) f b h = record { first = a; is = refl; then_is = h }
gave None f b h = absurd (cc)

pub record Mapped {A B : Type 0} (f : A → B) (o : Option A) (b : B) : Type 0 where
  pub first : A
  pub is : o ≡ Some first
  pub then_is : f first ≡ b

pub was : {A B : Type 0} (f : A → B) (o : Option A) (b : B) → option_map f o ≡ Some b → Mapped f o b
was f (Some a) b h = record { first = a; is = refl; then_is = cc }
was f None b h = absurd (cc)

-- ---- bytes at the ends

first_parts : (b : ℕ) (t r : List ℕ) → after_first b t ≡ Some r → t ≡ b ∷ r
first_parts b [] r h = absurd (cc)
first_parts b (c ∷ cs) r h = by (c == b) refl h
  where
    by : (e : Bool) → (c == b) ≡ e → cond e (Some cs) None ≡ Some r → c ∷ cs ≡ b ∷ r
    by true p g = let same : cs ≡ r = cc in ap (λ (z : ℕ). z ∷ cs) (eqb-true c b p) ∙ ap (λ (z : List ℕ). b ∷ z) same
    by false p g = absurd (cc)

pub record Led (t rest : List ℕ) : Type 0 where
  pub spaces : List ℕ
  pub parts : t ≡ spaces ++ rest
  pub spaces_are : AreSpaces spaces

led : (t : List ℕ) → Led t (without_front t)
led [] = record { spaces = []; parts = refl; spaces_are = tt }
led (c ∷ cs) = by (c == 32) refl (led cs)
  where
    by : (b : Bool) → (c == 32) ≡ b → Led cs (without_front cs) → Led (c ∷ cs) (cond b (without_front cs) (c ∷ cs))
    by true e r = record { spaces = c ∷ r.spaces; parts = ap (λ (z : List ℕ). c ∷ z) r.parts; spaces_are = (e, r.spaces_are) }
    by false e r = record { spaces = []; parts = refl; spaces_are = tt }

pub record Ended (t front : List ℕ) : Type 0 where
  pub spaces : List ℕ
  pub parts : t ≡ front ++ spaces
  pub spaces_are : AreSpaces spaces

empty_is : (t : List ℕ) → is_empty t ≡ true → t ≡ []
empty_is [] h = refl
empty_is (c ∷ cs) h = absurd (cc)

ended : (t : List ℕ) → Ended t (without_end t)
ended [] = record { spaces = []; parts = refl; spaces_are = tt }
ended (c ∷ cs) = by (c == 32) (is_empty (without_end cs)) refl refl (ended cs)
  where
    by : (a b : Bool) → (c == 32) ≡ a → is_empty (without_end cs) ≡ b → Ended cs (without_end cs) → Ended (c ∷ cs) (cond (a && b) [] (c ∷ without_end cs))
    by true true e f r =
        let none : cs ≡ r.spaces = r.parts ∙ ap (λ (z : List ℕ). z ++ r.spaces) (empty_is (without_end cs) f) in
        record { spaces = c ∷ cs; parts = refl; spaces_are = (e, subst AreSpaces (sym none) r.spaces_are) }
    by true false e f r = record { spaces = r.spaces; parts = ap (λ (z : List ℕ). c ∷ z) r.parts; spaces_are = r.spaces_are }
    by false b e f r = record { spaces = r.spaces; parts = ap (λ (z : List ℕ). c ∷ z) r.parts; spaces_are = r.spaces_are }

-- what is spelled stands in it with spaces round it
spaced : (S : List ℕ → Type 0) (t : List ℕ) → S (trimmed t) → Spaced AreSpaces S t
spaced S t s =
    let a = led t in
    let b = ended (without_front t) in
    record {
      before = a.spaces;
      inner = trimmed t;
      behind = b.spaces;
      parts = a.parts ∙ ap (λ (z : List ℕ). a.spaces ++ z) b.parts;
      before_is = a.spaces_are;
      inner_is = s;
      behind_is = b.spaces_are;
    }

-- ---- the head

bracket_parts : (t : List ℕ) (x : List ℕ × List ℕ) → at_bracket t ≡ Some x → t ≡ x.0 ++ 40 ∷ x.1
bracket_parts [] x h = absurd (cc)
bracket_parts (c ∷ cs) x h = by (c == 40) refl h (λ y e. bracket_parts cs y e)
  where
    by : (b : Bool) → (c == 40) ≡ b → cond b (Some ([], cs)) (option_map (λ (y : List ℕ × List ℕ). (c ∷ y.0, y.1)) (at_bracket cs)) ≡ Some x → ((y : List ℕ × List ℕ) → at_bracket cs ≡ Some y → cs ≡ y.0 ++ 40 ∷ y.1) → c ∷ cs ≡ x.0 ++ 40 ∷ x.1
    by true e g r =
        let same : ([], cs) ≡ x = cc in
        ap (λ (z : ℕ). z ∷ cs) (eqb-true c 40 e) ∙ ap (λ (y : List ℕ × List ℕ). y.0 ++ 40 ∷ y.1) same
    by false e g r =
        let m = was (λ (y : List ℕ × List ℕ). (c ∷ y.0, y.1)) (at_bracket cs) x g in
        ap (λ (z : List ℕ). c ∷ z) (r m.first m.is) ∙ ap (λ (y : List ℕ × List ℕ). y.0 ++ 40 ∷ y.1) m.then_is

word_parts : (t r : List ℕ) → behind_word t ≡ Some r → t ≡ states_word ++ r
word_parts t r h = by (starts_with nat_eq t states_word) refl h
  where
    by : (b : Bool) → starts_with nat_eq t states_word ≡ b → cond b (Some (drop (length states_word) t)) None ≡ Some r → t ≡ states_word ++ r
    by true e g =
        let same : drop (length states_word) t ≡ r = cc in
        sym (take-append-drop (length states_word) t)
        ∙ ap (λ (z : List ℕ). z ++ drop (length states_word) t) (sym (same_text states_word (take (length states_word) t) (sym e)))
        ∙ ap (λ (z : List ℕ). states_word ++ z) same
    by false e g = absurd (cc)

abbrev are_name_bytes : List ℕ → Bool
are_name_bytes [] = true
are_name_bytes (c ∷ cs) = is_name_byte c && are_name_bytes cs

each_of : (t : List ℕ) → are_name_bytes t ≡ true → Each is_name_byte t
each_of [] h = tt
each_of (c ∷ cs) h = by (is_name_byte c) refl h (λ g. each_of cs g)
  where
    by : (b : Bool) → is_name_byte c ≡ b → (b && are_name_bytes cs) ≡ true → (are_name_bytes cs ≡ true → Each is_name_byte cs) → (is_name_byte c ≡ true) × Each is_name_byte cs
    by true e g r = (e, r g)
    by false e g r = absurd (cc)

name_bytes : (f : Function) → are_name_bytes (name_of f) ≡ true
unfolding name_of is_name_byte
name_bytes Format = refl
name_bytes StringToJson = refl
name_bytes JsonToString = refl
name_bytes Array = refl
name_bytes ArrayPartition = refl
name_bytes ArrayContains = refl
name_bytes ArrayRange = refl
name_bytes ArrayGetItem = refl
name_bytes ArrayLength = refl
name_bytes ArrayUnique = refl
name_bytes Base64Encode = refl
name_bytes Base64Decode = refl
name_bytes Hash = refl
name_bytes JsonMerge = refl
name_bytes MathAdd = refl
name_bytes StringSplit = refl

name_some : (f : Function) → 0 < length (name_of f)
unfolding name_of
name_some Format = omega arith
name_some StringToJson = omega arith
name_some JsonToString = omega arith
name_some Array = omega arith
name_some ArrayPartition = omega arith
name_some ArrayContains = omega arith
name_some ArrayRange = omega arith
name_some ArrayGetItem = omega arith
name_some ArrayLength = omega arith
name_some ArrayUnique = omega arith
name_some Base64Encode = omega arith
name_some Base64Decode = omega arith
name_some Hash = omega arith
name_some JsonMerge = omega arith
name_some MathAdd = omega arith
name_some StringSplit = omega arith

-- what stands in front of the arguments, and behind it
pub record Headed (f : Function) (t inside : List ℕ) : Type 0 where
  pub front : List ℕ
  pub parts : t ≡ front ++ inside
  pub front_is : SpellsHead (name_of f) front

with_parts : (o : Option Function) (t : List ℕ) (x : Function × List ℕ) → with_function o t ≡ Some x → (o ≡ Some x.0) × (t ≡ x.1)
with_parts (Some f) t x h = let same : (f, t) ≡ x = cc in (ap (λ (y : Function × List ℕ). Some y.0) same, ap (λ (y : Function × List ℕ). y.1) same)
with_parts None t x h = absurd (cc)

headed : (t : List ℕ) (x : Function × List ℕ) → head t ≡ Some x → Headed x.0 t x.1
headed t x h =
    let a = gave (given (behind_word t) at_bracket) named_head x h in
    let b = gave (behind_word t) at_bracket a.first a.is in
    let w = word_parts t b.first b.is in
    let k = bracket_parts b.first a.first b.then_is in
    let n = with_parts (function_named (without_end a.first.0)) a.first.1 x a.then_is in
    let e = ended a.first.0 in
    let named : name_of x.0 ≡ without_end a.first.0 = has_its_name (without_end a.first.0) x.0 n.0 in
    let name : a.first.0 ≡ name_of x.0 ++ e.spaces = e.parts ∙ ap (λ (z : List ℕ). z ++ e.spaces) (sym named) in
    record {
      front = states_word ++ (name_of x.0 ++ (e.spaces ++ 40 ∷ []));
      parts =
          w
          ∙ ap (λ (z : List ℕ). states_word ++ z) (k ∙ ap (λ (z : List ℕ). z ++ 40 ∷ a.first.1) name ∙ append_assoc (name_of x.0) e.spaces (40 ∷ a.first.1) ∙ ap (λ (z : List ℕ). name_of x.0 ++ (e.spaces ++ 40 ∷ z)) n.1)
          ∙ regroup (name_of x.0) e.spaces x.1;
      front_is = record {
        spaces = e.spaces;
        parts = refl;
        some = name_some x.0;
        each = each_of (name_of x.0) (name_bytes x.0);
        spaces_are = e.spaces_are;
      };
    }
  where
    regroup : (n s r : List ℕ) → states_word ++ (n ++ (s ++ 40 ∷ r)) ≡ (states_word ++ (n ++ (s ++ 40 ∷ []))) ++ r
    regroup n s r = sym (simp append_assoc)

-- ---- pieces

-- what stands behind the first piece
abbrev pub tail_of : List (List ℕ) → List ℕ
tail_of [] = 41 ∷ []
tail_of (p ∷ ps) = 44 ∷ (p ++ tail_of ps)

pub record IsCut (t : List ℕ) (ps : List (List ℕ)) : Type 0 where
  pub first : List ℕ
  pub rest : List (List ℕ)
  pub is : ps ≡ first ∷ rest
  pub parts : t ≡ first ++ tail_of rest

cut : (m : Mode) (front cs : List ℕ) (ps : List (List ℕ)) → pieces m front cs ≡ Some ps → IsCut (front ++ cs) ps
cut m front [] ps h = absurd (cc)
cut m front (c ∷ cs) ps h = by (next m c) refl h (λ n f qs g. cut n f cs qs g)
  where
    closes : (rest : List ℕ) → closed front rest ≡ Some ps → c ≡ 41 → IsCut (front ++ c ∷ rest) ps
    closes [] g e = record { first = front; rest = []; is = cc; parts = ap (λ (z : ℕ). front ++ z ∷ []) e }
    closes (d ∷ rest) g e = absurd (cc)

    by : (v : Move) → next m c ≡ v → moved v front c cs (λ n s. pieces n s cs) ≡ Some ps
        → ((n : Mode) (f : List ℕ) (qs : List (List ℕ)) → pieces n f cs ≡ Some qs → IsCut (f ++ cs) qs) → IsCut (front ++ c ∷ cs) ps
    by (On n) e g k = subst (λ (z : List ℕ). IsCut z ps) (append_assoc front (c ∷ []) cs) (k n (front ++ c ∷ []) ps g)
    by Cut e g k =
        let w = was (λ (qs : List (List ℕ)). front ∷ qs) (pieces (Plain 0) [] cs) ps g in
        let r = k (Plain 0) [] w.first w.is in
        record {
          first = front;
          rest = r.first ∷ r.rest;
          is = sym w.then_is ∙ ap (λ (qs : List (List ℕ)). front ∷ qs) r.is;
          parts = ap (λ (z : ℕ). front ++ z ∷ cs) (at_comma m c e) ∙ ap (λ (z : List ℕ). front ++ 44 ∷ z) r.parts;
        }
    by Close e g k = closes cs g (at_close m c e)
    by Stop e g k = absurd (cc)

-- ---- arguments

pub record IsRead (a : Argument) (t : List ℕ) : Type 0 where
  pub spelled : SpellsArgument a t
  pub fits : Fits a

abbrev pub AreRead : List (List ℕ) → List Argument → Type 0
AreRead [] [] = Unit {0}
AreRead [] (a ∷ ts) = ⊥
AreRead (p ∷ ps) [] = ⊥
AreRead (p ∷ ps) (a ∷ ts) = IsRead a (trimmed p) × AreRead ps ts

more_parts : (ps : List (List ℕ)) (ts : List Argument) → AreRead ps ts → MoreParts close_bracket (argument_parts (arguments ts)) (tail_of ps)
more_parts [] [] h = refl
more_parts [] (a ∷ ts) h = absurd h
more_parts (p ∷ ps) [] h = absurd h
more_parts (p ∷ ps) (a ∷ ts) h = record {
  tail = p ++ tail_of ps;
  parts = refl;
  tail_is = record { front = p; back = tail_of ps; parts = refl; front_is = spaced (SpellsArgument a) p h.0.spelled; back_is = more_parts ps ts h.1 };
}

all_fit : (ps : List (List ℕ)) (ts : List Argument) → AreRead ps ts → FitAll (arguments ts)
all_fit [] [] h = tt
all_fit [] (a ∷ ts) h = absurd h
all_fit (p ∷ ps) [] h = absurd h
all_fit (p ∷ ps) (a ∷ ts) h = (h.0.fits, all_fit ps ts h.1)

-- of pieces that are cut from a text
cut_parts : (t : List ℕ) (ps : List (List ℕ)) (ts : List Argument) → IsCut t ps → AreRead ps ts → Parts AreSpaces close_bracket (argument_parts (arguments ts)) t
cut_parts t [] ts c h = absurd (let e = c.is in cc)
cut_parts t (p ∷ ps) [] c h = absurd h
cut_parts t (p ∷ ps) (a ∷ ts) c h =
    let first : p ≡ c.first = (let e = c.is in cc) in
    let rest : ps ≡ c.rest = (let e = c.is in cc) in
    record {
      front = p;
      back = tail_of ps;
      parts = c.parts ∙ ap (λ (z : List ℕ). z ++ tail_of c.rest) (sym first) ∙ ap (λ (z : List (List ℕ)). p ++ tail_of z) (sym rest);
      front_is = spaced (SpellsArgument a) p h.0.spelled;
      back_is = more_parts ps ts h.1;
    }

-- of spaces alone
blank_parts : (t : List ℕ) (ps : List (List ℕ)) → IsCut t ps → is_blank ps ≡ true → Parts AreSpaces close_bracket (argument_parts none) t
blank_parts t [] c h = absurd (cc)
blank_parts t (p ∷ []) c h =
    let first : p ≡ c.first = (let e = c.is in cc) in
    let rest : [] ≡ c.rest = (let e = c.is in cc) in
    let s = spaced (λ (u : List ℕ). u ≡ []) p (empty_is (trimmed p) h) in
    record {
      front = s.before ++ s.behind;
      back = 41 ∷ [];
      parts =
          c.parts ∙ ap (λ (z : List (List ℕ)). c.first ++ tail_of z) (sym rest)
          ∙ ap (λ (z : List ℕ). z ++ 41 ∷ []) (sym first ∙ s.parts ∙ ap (λ (z : List ℕ). s.before ++ (z ++ s.behind)) s.inner_is);
      front_is = both s.before s.behind s.before_is s.behind_is;
      back_is = refl;
    }
  where
    both : (a b : List ℕ) → AreSpaces a → AreSpaces b → AreSpaces (a ++ b)
    both [] b x y = y
    both (c ∷ a) b x y = (x.0, both a b x.1 y)
blank_parts t (p ∷ q ∷ ps) c h = absurd (cc)

-- ---- arguments that are no calls

quoted_is : (p : List ℕ) (a : Argument) → read_quoted p ≡ Some a → IsRead a p
quoted_is p a h =
    let m = was quoted (inner_text p) a h in
    let g = gave (given (after_first 39 p) (before_last 39)) if_inside m.first m.is in
    let b = gave (after_first 39 p) (before_last 39) g.first g.is in
    let i = inside g.first (is_inside g.first) refl m.first g.then_is in
    subst (λ (z : Argument). IsRead z p) m.then_is (record {
      spelled = record { parts = first_parts 39 p b.first b.is ∙ ap (λ (z : List ℕ). 39 ∷ z) (last_parts 39 b.first g.first b.then_is ∙ ap (λ (z : List ℕ). z ++ 39 ∷ []) i.0); inside = ap is_inside (sym i.0) ∙ i.1 };
      fits = tt;
    })
  where
    inside : (t : List ℕ) (b : Bool) → is_inside t ≡ b → (u : List ℕ) → cond b (Some t) None ≡ Some u → (t ≡ u) × (is_inside t ≡ true)
    inside t true e u g = (cc, e)
    inside t false e u g = absurd (cc)

path_is : (p : List ℕ) (a : Argument) → read_path p ≡ Some a → IsRead a p
path_is p a h = by (is_path p) refl h
  where
    by : (b : Bool) → is_path p ≡ b → cond b (Some (path p)) None ≡ Some a → IsRead a p
    by true e g = let same : path p ≡ a = cc in subst (λ (z : Argument). IsRead z p) same (record { spelled = (refl, path_spelled p e); fits = tt })
    by false e g = absurd (cc)

read_is : (p : List ℕ) (d : Data) → value_read p ≡ Some d → Reads p d
read_is p d h = by (nat_lt max_len (length p)) (run true value [] p) refl h
  where
    by : (b : Bool) (r : Result Data Fault) → run true value [] p ≡ r → cond b None (result_ok r) ≡ Some d → Reads p d
    by true r e g = absurd (cc)
    by false (Ok v) e g = let same : v ≡ d = cc in reads_of p d (e ∙ ap (λ (x : Data). Ok x) same)
    by false (Err f) e g = absurd (cc)

pub record IsConstant (d : Data) (t : List ℕ) : Type 0 where
  pub spelled : SpellsConstant d t
  pub fits : FitsConstant d

spelled_so : (d : Data) (p : List ℕ) → Reads p d → is_spelled d p ≡ true → IsConstant d p
spelled_so null p r h = record { spelled = same_text p (codes "null") (sym h); fits = tt }
spelled_so (boolean true) p r h = record { spelled = same_text p (codes "true") (sym h); fits = tt }
spelled_so (boolean false) p r h = record { spelled = same_text p (codes "false") (sym h); fits = tt }
spelled_so (number s) p r h = record { spelled = (same_text p s (sym h), r.0.inner_is.1); fits = r.1 }
spelled_so (text s) p r h = absurd (cc)
spelled_so (list ds) p r h = absurd (cc)
spelled_so (dict ms) p r h = absurd (cc)

constant_is : (p : List ℕ) (a : Argument) → read_constant p ≡ Some a → IsRead a p
constant_is p a h =
    let m = was constant (constant_value p) a h in
    let g = gave (value_read p) (if_spelled p) m.first m.is in
    let s = by g.first (is_spelled g.first p) refl m.first g.then_is in
    let c = spelled_so g.first p (read_is p g.first g.is) s.1 in
    subst (λ (z : Argument). IsRead z p) (ap constant s.0 ∙ m.then_is) (record { spelled = c.spelled; fits = c.fits })
  where
    by : (d : Data) (b : Bool) → is_spelled d p ≡ b → (e : Data) → cond b (Some d) None ≡ Some e → (d ≡ e) × (is_spelled d p ≡ true)
    by d true x e g = (cc, x)
    by d false x e g = absurd (cc)

-- ---- calls

abbrev pub Sound : (List ℕ → Option Argument) → Type 0
Sound calls = (t : List ℕ) (a : Argument) → calls t ≡ Some a → IsRead a t

argument_is : (calls : List ℕ → Option Argument) → Sound calls → (p : List ℕ) (a : Argument) → read_by calls p ≡ Some a → IsRead a p
argument_is calls s p a h = by (first_is 39 p) (first_is 36 p) (first_is 83 p) h
  where
    by : (q d c : Bool) → cond q (read_quoted p) (cond d (read_path p) (cond c (calls p) (read_constant p))) ≡ Some a → IsRead a p
    by true d c g = quoted_is p a g
    by false true c g = path_is p a g
    by false false true g = s p a g
    by false false false g = constant_is p a g

arguments_are : (calls : List ℕ → Option Argument) → Sound calls → (ps : List (List ℕ)) (ts : List Argument) → read_all calls ps ≡ Some ts → AreRead ps ts
arguments_are calls s [] [] h = tt
arguments_are calls s [] (a ∷ ts) h = absurd (cc)
arguments_are calls s (p ∷ ps) ts h =
    let g = gave (read_by calls (trimmed p)) (λ a. given (read_all calls ps) (added a)) ts h in
    let r = gave (read_all calls ps) (added g.first) ts g.then_is in
    let same : g.first ∷ r.first ≡ ts = (let e = r.then_is in cc) in
    subst (AreRead (p ∷ ps)) same (argument_is calls s (trimmed p) g.first g.is, arguments_are calls s ps r.first r.is)

inner_parts : (calls : List ℕ → Option Argument) → Sound calls → (t : List ℕ) (ps : List (List ℕ)) (ts : List Argument) → IsCut t ps → read_all calls (unless_blank ps) ≡ Some ts
    → Parts AreSpaces close_bracket (argument_parts (arguments ts)) t × FitAll (arguments ts)
inner_parts calls s t ps ts c h = by (is_blank ps) refl h
  where
    by : (b : Bool) → is_blank ps ≡ b → read_all calls (cond b [] ps) ≡ Some ts → Parts AreSpaces close_bracket (argument_parts (arguments ts)) t × FitAll (arguments ts)
    by true e g =
        let none : [] ≡ ts = cc in
        subst (λ (us : List Argument). Parts AreSpaces close_bracket (argument_parts (arguments us)) t × FitAll (arguments us)) none (blank_parts t ps c e, tt)
    by false e g = let r = arguments_are calls s ps ts g in (cut_parts t ps ts c r, all_fit ps ts r)

call_parts : (calls : List ℕ → Option Argument) → Sound calls → (t : List ℕ) (ts : List Argument) → given (arguments_in t) (read_all calls) ≡ Some ts
    → Parts AreSpaces close_bracket (argument_parts (arguments ts)) t × FitAll (arguments ts)
call_parts calls s t ts h =
    let g = gave (arguments_in t) (read_all calls) ts h in
    let m = was unless_blank (pieces (Plain 0) [] t) g.first g.is in
    inner_parts calls s t m.first ts (cut (Plain 0) [] t m.first m.is) (ap (read_all calls) m.then_is ∙ g.then_is)

pub record IsReadCall (a : Argument) (t : List ℕ) : Type 0 where
  pub spelled : SpellsCall a t
  pub fits : Fits a

taken : (f : Function) (ts : List Argument) (a : Argument) → if_taken f ts ≡ Some a → call (name_of f) (arguments ts) ≡ a
taken f ts a h = by (takes f (length ts)) h
  where
    by : (b : Bool) → cond b (Some (call (name_of f) (arguments ts))) None ≡ Some a → call (name_of f) (arguments ts) ≡ a
    by true g = cc
    by false g = absurd (cc)

spells_argument : (a : Argument) (t : List ℕ) → SpellsCall a t → SpellsArgument a t
spells_argument (call n ts) t h = h
spells_argument (constant d) t h = absurd h
spells_argument (quoted s) t h = absurd h
spells_argument (path p) t h = absurd h

pub call_is : (n : ℕ) (t : List ℕ) (a : Argument) → read_call n t ≡ Some a → IsReadCall a t
unfolding read_call
call_is zero t a h = absurd (cc)
call_is (suc n) t a h =
    let g = gave (head t) (call_of (read_call n)) a h in
    let x = g.first in
    let r = gave (given (arguments_in x.1) (read_all (read_call n))) (if_taken x.0) a g.then_is in
    let d = headed t x g.is in
    let inner = call_parts (read_call n) (λ u b e. let c = call_is n u b e in record { spelled = spells_argument b u c.spelled; fits = c.fits }) x.1 r.first r.is in
    subst (λ (z : Argument). IsReadCall z t) (taken x.0 r.first a r.then_is) (record {
      spelled = record { front = d.front; back = x.1; parts = d.parts; front_is = d.front_is; back_is = inner.0 };
      fits = inner.1;
    })
