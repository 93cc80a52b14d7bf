-- The place that the machine answers is the first one that is wrong.
use Rattle.std.proofs.Common.{◌≡◌, ◌<◌, ◌≤◌, ◌+◌, ◌-◌, ℕ, Bool, true, List, [], ◌∷◌, ◌++◌, length, refl, sym, ◌∙◌, ap, subst, arith, append_assoc, inl, inr, ◌⊎◌}
use Rattle.std.specs.Prelude.{Result, Err}
use Rattle.std.proofs.lemmas.List.{append-nil, length-append}
use Rattle.asl_json_data.specs.Number.{IsNumeral, is_over}
use Rattle.asl_json_data.specs.Number.{EndsNumber}
use Rattle.asl_json_data.proofs.Numerals.{numeral_front}
use Rattle.asl_path.proofs.Judging.{ahead}
use Rattle.asl_intrinsic.specs.Tree.{Argument, Frame}
use Rattle.asl_intrinsic.specs.Grammar.{states_word, IsSpelled, IsPrefix, Fits}
use Rattle.asl_intrinsic.specs.Fronts.{SpellsBefore, OpensCall, Opens}
use Rattle.asl_intrinsic.specs.Faults.{EndsAt, SyntaxAt, NumberAt, IsWrongAt, IsFirstWrong}
use Rattle.asl_intrinsic.specs.private.Steps.{Mode, prefix, opening, wanting, ended, run, heard}
use Rattle.asl_intrinsic.proofs.Stretches.{spaces_pass}
use Rattle.asl_intrinsic.proofs.Leaves.{figure_run, over_on}
use Rattle.asl_intrinsic.proofs.Turns.{comma_wants}
use Rattle.asl_intrinsic.proofs.Passing.{Passed, Wants, at_opening, at_comma, wanted, spaced_passes, argument_passes, head_passes, head_begun, head_first, begun_numeral, numeral_first}
use Rattle.asl_intrinsic.proofs.Ending.{Ends}
use Rattle.asl_intrinsic.proofs.Alive.{awaits_alive}
use Rattle.asl_intrinsic.proofs.Judging.{SyntaxLeft, NumberLeft, Judged, heard_judged}

-- ---- the machine gets over the front of a call, or stops in it

pub record Halted (rest : ℕ) (r : Result Argument ℕ) : Type 0 where
  pub left : ℕ
  pub stops : r ≡ Err left
  pub before : rest < left

abbrev Gets : ℕ → Result Argument ℕ → Result Argument ℕ → Type 0
Gets rest r s = (r ≡ s) ⊎ Halted rest r

forgets : (lim : Bool) (P : Type 0) (k : ℕ) (r s : Result Argument ℕ) → Passed lim P k r s → Gets k r s
forgets lim P k r s (inl e) = inl e.on
forgets lim P k r s (inr g) = inr (record { left = g.left; stops = g.stops; before = g.before })

then_gets : (j k : ℕ) (r s u : Result Argument ℕ) → Gets k r s → Gets j s u → j ≤ k → Gets j r u
then_gets j k r s u (inl e) (inl f) l = inl (e ∙ f)
then_gets j k r s u (inl e) (inr g) l = inr (record { left = g.left; stops = e ∙ g.stops; before = g.before })
then_gets j k r s u (inr g) h l = inr (record { left = g.left; stops = g.stops; before = omega (arith, g.before, l) })

-- to where an argument may begin
pub record Arrives (r : Result Argument ℕ) (st : List Frame) (rest : List ℕ) : Type 0 where
  pub mode : Mode
  pub wants : Wants true mode st
  pub gets : Gets (length rest) r (run mode st rest)

before_arrives : (ts done : List Argument) (n : List ℕ) (st : List Frame) (m : Mode) (u rest : List ℕ) → SpellsBefore ts u → Wants true m ((n, done) ∷ st) → Arrives (run m ((n, done) ∷ st) (u ++ rest)) ((n, done ++ ts) ∷ st) rest
before_arrives [] done n st m u rest h w =
    let same : (n, done) ∷ st ≡ (n, done ++ []) ∷ st = ap (λ (z : List Argument). (n, z) ∷ st) (sym (append-nil done)) in
    record {
      mode = m;
      wants = subst (Wants true m) same w;
      gets = inl (ap (λ (z : List ℕ). run m ((n, done) ∷ st) (z ++ rest)) h ∙ ap (λ (z : List Frame). run m z rest) same);
    }
before_arrives (a ∷ ts) done n st m u rest h w =
    let tail = h.back ++ rest in
    let next = run wanting ((n, done ++ a ∷ []) ∷ st) (h.back_is.tail ++ rest) in
    let regrouped : u ++ rest ≡ h.front ++ tail = ap (λ (z : List ℕ). z ++ rest) h.parts ∙ append_assoc h.front h.back rest in
    let ends = subst (λ (z : List ℕ). Ends (z ++ rest)) (sym h.back_is.parts) refl in
    let one = forgets true (Fits a) (length tail) (run m ((n, done) ∷ st) (h.front ++ tail)) (run (ended a) ((n, done) ∷ st) tail)
    (spaced_passes a true m (n, done) st h.front tail w (λ v r g e. argument_passes a true (n, done) st v r g e) h.front_is ends) in
    let two : run (ended a) ((n, done) ∷ st) tail ≡ next = comma_wants true tail (h.back_is.tail ++ rest) a (n, done) st (ap (λ (z : List ℕ). z ++ rest) h.back_is.parts) in
    let again = before_arrives ts (done ++ a ∷ []) n st wanting h.back_is.tail rest h.back_is.tail_is (at_comma true ((n, done ++ a ∷ []) ∷ st)) in
    let same : (n, (done ++ a ∷ []) ++ ts) ∷ st ≡ (n, done ++ a ∷ ts) ∷ st = ap (λ (z : List Argument). (n, z) ∷ st) (append_assoc done (a ∷ []) ts) in
    record {
      mode = again.mode;
      wants = subst (Wants true again.mode) same again.wants;
      gets =
          subst (λ (z : Result Argument ℕ). Gets (length rest) z (run again.mode ((n, done ++ a ∷ ts) ∷ st) rest)) (sym (ap (run m ((n, done) ∷ st)) regrouped))
          (then_gets (length rest) (length tail) (run m ((n, done) ∷ st) (h.front ++ tail)) (run (ended a) ((n, done) ∷ st) tail) (run again.mode ((n, done ++ a ∷ ts) ∷ st) rest) one
          (subst (λ (z : Result Argument ℕ). Gets (length rest) z (run again.mode ((n, done ++ a ∷ ts) ∷ st) rest)) (sym two)
          (subst (λ (z : List Frame). Gets (length rest) next (run again.mode z rest)) same again.gets))
          (omega (arith, length-append h.back rest)));
    }

-- from the head of a call
call_arrives : (f : Frame) (st : List Frame) (t rest : List ℕ) → OpensCall f t → Arrives (run (prefix states_word) st (t ++ rest)) (f ∷ st) rest
call_arrives f st t rest h =
    let i = h.back_is in
    let b = before_arrives f.1 [] f.0 st opening i.front (i.back ++ rest) i.front_is (at_opening true ((f.0, []) ∷ st)) in
    let regrouped : t ++ rest ≡ h.front ++ (i.front ++ (i.back ++ rest)) =
    ap (λ (z : List ℕ). z ++ rest) (h.parts ∙ ap (λ (z : List ℕ). h.front ++ z) i.parts) ∙ append_assoc h.front (i.front ++ i.back) rest ∙ ap (λ (z : List ℕ). h.front ++ z) (append_assoc i.front i.back rest) in
    let there : run (prefix states_word) st (t ++ rest) ≡ run opening ((f.0, []) ∷ st) (i.front ++ (i.back ++ rest)) =
    ap (run (prefix states_word) st) regrouped ∙ head_passes true f.0 h.front (i.front ++ (i.back ++ rest)) st h.front_is in
    record {
      mode = b.mode;
      wants = b.wants;
      gets =
          subst (λ (z : Result Argument ℕ). Gets (length rest) z (run b.mode (f ∷ st) rest)) (sym there)
          (then_gets (length rest) (length (i.back ++ rest)) (run opening ((f.0, []) ∷ st) (i.front ++ (i.back ++ rest))) (run b.mode (f ∷ st) (i.back ++ rest)) (run b.mode (f ∷ st) rest) b.gets
          (inl (spaces_pass true b.mode (f ∷ st) i.back rest b.wants.space i.back_is))
          (omega (arith, length-append i.back rest)));
    }

opens_arrives : (st : List Frame) (f : Frame) (t rest : List ℕ) → Opens (f ∷ st) t → Arrives (heard (t ++ rest)) (f ∷ st) rest
opens_arrives [] f t rest h =
    let same : t ≡ h.back = h.parts ∙ ap (λ (z : List ℕ). z ++ h.back) h.front_is in
    subst (λ (z : List ℕ). Arrives (heard (z ++ rest)) (f ∷ []) rest) (sym same) (call_arrives f [] h.back rest h.back_is)
opens_arrives (g ∷ st) f t rest h =
    let tail = h.back ++ rest in
    let regrouped : t ++ rest ≡ h.front ++ tail = ap (λ (z : List ℕ). z ++ rest) h.parts ∙ append_assoc h.front h.back rest in
    let outer = opens_arrives st g h.front tail h.front_is in
    let inner = call_arrives f (g ∷ st) h.back rest h.back_is in
    let c = h.back_is in
    let split : tail ≡ c.front ++ (c.back ++ rest) = ap (λ (z : List ℕ). z ++ rest) c.parts ∙ append_assoc c.front c.back rest in
    let begins : run outer.mode (g ∷ st) tail ≡ run (prefix states_word) (g ∷ st) tail =
    ap (run outer.mode (g ∷ st)) split
    ∙ wanted true outer.mode (g ∷ st) c.front (c.back ++ rest) outer.wants (head_first f.0 c.front c.front_is)
    ∙ head_begun true f.0 c.front (c.back ++ rest) (g ∷ st) c.front_is
    ∙ ap (run (prefix states_word) (g ∷ st)) (sym split) in
    record {
      mode = inner.mode;
      wants = inner.wants;
      gets =
          subst (λ (z : List ℕ). Gets (length rest) (heard z) (run inner.mode (f ∷ g ∷ st) rest)) (sym regrouped)
          (then_gets (length rest) (length tail) (heard (h.front ++ tail)) (run outer.mode (g ∷ st) tail) (run inner.mode (f ∷ g ∷ st) rest) outer.gets
          (subst (λ (z : Result Argument ℕ). Gets (length rest) z (run inner.mode (f ∷ g ∷ st) rest)) (sym begins) inner.gets)
          (omega (arith, length-append h.back rest)));
    }

-- ---- where a number is past the limits, the machine has stopped

number_over : (m : Mode) (st : List Frame) (s rest : List ℕ) → Wants true m st → IsNumeral s → EndsNumber s rest → is_over s ≡ true → run m st (s ++ rest) ≡ Err (length s + length rest)
number_over m st s rest w n e o =
    wanted true m st s rest w (numeral_first s n)
    ∙ begun_numeral true st s rest n
    ∙ figure_run true [] s rest st (numeral_front s n)
    ∙ over_on s rest st n o e

-- with as many bytes left at least
pub record StopsBefore (t : List ℕ) (left : ℕ) : Type 0 where
  pub answered : ℕ
  pub stops : heard t ≡ Err answered
  pub at_least : left ≤ answered

pub number_stops_it : (t : List ℕ) (at : ℕ) → NumberAt t at → StopsBefore t (length t - at)
number_stops_it t at h =
    let tail = h.spelled ++ h.rest in
    let a = opens_arrives h.awaits.others h.awaits.innermost h.front tail h.awaits.opens in
    let long : length t - at ≡ length tail = omega (arith, ap length h.parts, length-append h.front tail, h.at_is) in
    subst (StopsBefore t) (sym long) (subst (λ (z : List ℕ). StopsBefore z (length tail)) (sym h.parts) (told a.gets (number_over a.mode (h.awaits.innermost ∷ h.awaits.others) h.spelled h.rest a.wants h.number_is h.longest h.over)))
  where
    told : {s : Result Argument ℕ} → Gets (length (h.spelled ++ h.rest)) (heard (h.front ++ (h.spelled ++ h.rest))) s → s ≡ Err (length h.spelled + length h.rest) → StopsBefore (h.front ++ (h.spelled ++ h.rest)) (length (h.spelled ++ h.rest))
    told (inl e) o = record { answered = length h.spelled + length h.rest; stops = e ∙ o; at_least = omega (arith, length-append h.spelled h.rest) }
    told (inr g) o = record { answered = g.left; stops = g.stops; at_least = omega (arith, g.before) }

-- ---- places from the start

shorter_prefix : (t u : List ℕ) → IsPrefix (t ++ u) → IsPrefix t
shorter_prefix t u h = record { more = u ++ h.more; is_call = subst IsSpelled (append_assoc t u h.more) h.is_call }

-- no front is alive behind the first byte that can't go on
dead_before : (t front rest : List ℕ) (at : ℕ) → t ≡ front ++ rest → IsPrefix front → SyntaxAt t at → at < length front → ⊥
dead_before t front rest at parts alive h l =
    let x = ahead h.front h.rest front rest (sym h.parts ∙ parts) (omega (arith, h.at_is, l)) in
    let dead : EndsAt h.front (x.0 ∷ x.2) = subst (EndsAt h.front) x.3.0 h.dead in
    dead (shorter_prefix (h.front ++ x.0 ∷ []) x.1 (subst IsPrefix (x.3.1 ∙ sym (append_assoc h.front (x.0 ∷ []) x.1)) alive))

pub syntax_unspelled : (t : List ℕ) (at : ℕ) → SyntaxAt t at → IsSpelled t → ⊥
syntax_unspelled t at h p = none h.rest h.parts h.dead
  where
    none : (rest : List ℕ) → t ≡ h.front ++ rest → EndsAt h.front rest → ⊥
    none [] e dead = dead (subst IsSpelled (e ∙ append-nil h.front) p)
    none (c ∷ rest) e dead = dead (record { more = rest; is_call = subst IsSpelled (e ∙ sym (append_assoc h.front (c ∷ []) rest)) p })

same_left : (a b : ℕ) → ◌≡◌ {A = Result Argument ℕ} (Err a) (Err b) → a ≡ b
same_left a b e = cc

at_most : (a b : ℕ) → (b < a → ⊥) → a ≤ b
at_most a b h = grind (arith, h)

first_of : (t front rest : List ℕ) (left : ℕ) → heard t ≡ Err left → t ≡ front ++ rest → length rest ≡ left → IsPrefix front → (other : ℕ) → IsWrongAt t other → length front ≤ other
first_of t front rest left e parts is alive other (inl h) = at_most (length front) other (dead_before t front rest other parts alive h)
first_of t front rest left e parts is alive other (inr h) =
    let s = number_stops_it t other h in
    let same : left ≡ s.answered = same_left left s.answered (sym e ∙ s.stops) in
    omega (arith, s.at_least, same, is, ap length parts, length-append front rest)

pub left_within : (t : List ℕ) (left : ℕ) → heard t ≡ Err left → left ≤ length t
left_within t left e = at (subst (Judged t) e (heard_judged t))
  where
    at : SyntaxLeft t left ⊎ NumberLeft t left → left ≤ length t
    at (inl h) = omega (arith, ap length h.parts, length-append h.front h.rest, h.left_is)
    at (inr h) = omega (arith, ap length h.parts, length-append h.front (h.spelled ++ h.rest), h.left_is)

place_is : (t front rest : List ℕ) (left : ℕ) → t ≡ front ++ rest → length rest ≡ left → length front ≡ length t - left
place_is t front rest left e l = omega (arith, ap length e, length-append front rest, l)

pub first_wrong : (t : List ℕ) (left : ℕ) → heard t ≡ Err left → IsFirstWrong t (length t - left)
first_wrong t left e = at (subst (Judged t) e (heard_judged t))
  where
    at : SyntaxLeft t left ⊎ NumberLeft t left → IsFirstWrong t (length t - left)
    at (inl h) = subst (IsFirstWrong t) (place_is t h.front h.rest left h.parts h.left_is) (record {
      wrong = inl (record { front = h.front; rest = h.rest; parts = h.parts; at_is = refl; alive = h.alive_is; dead = h.dead });
      first = first_of t h.front h.rest left e h.parts h.left_is h.alive_is;
    })
    at (inr h) = subst (IsFirstWrong t) (place_is t h.front (h.spelled ++ h.rest) left h.parts h.left_is) (record {
      wrong = inr (record { front = h.front; spelled = h.spelled; rest = h.rest; parts = h.parts; at_is = refl; awaits = h.awaits; number_is = h.number_is; longest = h.longest; over = h.over });
      first = first_of t h.front (h.spelled ++ h.rest) left e h.parts h.left_is (awaits_alive h.front h.awaits);
    })
