-- What the machine has read so far: some steps, and the front of one more.
use Rattle.std.proofs.Common.{◌≡◌, ◌<◌, ◌≤◌, ◌+◌, ◌-◌, ◌*◌, ◌==◌, ℕ, Bool, true, false, List, [], ◌∷◌, ◌++◌, length, refl, sym, ◌∙◌, ap, subst, arith, cond, append_assoc, inl, inr, ◌⊎◌}
use Rattle.std.specs.Prelude.{Ok, nat_lt, ◌&&◌, ◌||◌}
use Rattle.std.proofs.lemmas.List.{append-nil, length-append}
use Rattle.std.proofs.lemmas.Bool.{eqb-true}
use Rattle.asl_path.specs.declared.step.Step.{Step}
use Rattle.asl_path.specs.declared.step.Step.TheVariants.{Name, Index}
use Rattle.asl_path.specs.Grammar.{single_quote, double_quote, is_digit, is_name_byte, is_between, Each, number_from, SpellsDotted, SpellsIndex, SpellsStep, SpellsSteps}
use Rattle.asl_json_data.specs.Parts.{Joined}
use Rattle.asl_path.specs.private.Steps.{Mode, between, dot, name, bracket, quoted, closing, digits, Next, go, stop, begin_step, advance, finish}

abbrev pub IsQuote : ℕ → Type 0
IsQuote q = (q ≡ single_quote) ⊎ (q ≡ double_quote)

-- [' and a part of the name
pub record OpensQuoted (q : ℕ) (n t : List ℕ) : Type 0 where
  pub quote : IsQuote q
  pub parts : t ≡ 91 ∷ q ∷ n
  pub each : Each (is_between q) n

-- ['name'
pub record OpensClosing (n t : List ℕ) : Type 0 where
  pub q : ℕ
  pub quote : IsQuote q
  pub parts : t ≡ 91 ∷ q ∷ (n ++ q ∷ [])
  pub each : Each (is_between q) n

-- [ and some digits
pub record OpensDigits (k v : ℕ) (t : List ℕ) : Type 0 where
  pub read : List ℕ
  pub parts : t ≡ 91 ∷ read
  pub each : Each is_digit read
  pub count : length read ≡ k
  pub some : 0 < k
  pub few : k ≤ 9
  pub means : number_from 0 read ≡ v

-- the front of a step
abbrev pub Opens : Mode → List ℕ → Type 0
Opens between t = t ≡ []
Opens dot t = t ≡ 46 ∷ []
Opens (name n) t = SpellsDotted n t
Opens bracket t = t ≡ 91 ∷ []
Opens (quoted q n) t = OpensQuoted q n t
Opens (closing n) t = OpensClosing n t
Opens (digits k v) t = OpensDigits k v t

abbrev pub Reached : Mode → List Step → List ℕ → Type 0
Reached m done t = Joined (SpellsSteps done) (Opens m) t

abbrev pub Holds : List ℕ → Next → Type 0
Holds t (go m done) = Reached m done t
Holds t stop = Unit {0}

holds_cond : (t : List ℕ) (b : Bool) (x y : Next) → (b ≡ true → Holds t x) → (b ≡ false → Holds t y) → Holds t (cond b x y)
holds_cond t true x y f g = f refl
holds_cond t false x y f g = g refl

-- one more step
pub steps_push : (done : List Step) (s : Step) (t u : List ℕ) → SpellsSteps done t → SpellsStep s u → SpellsSteps (done ++ s ∷ []) (t ++ u)
steps_push [] s t u h g = record { front = u; back = []; parts = rw h (sym (append-nil u)); front_is = g; back_is = refl }
steps_push (d ∷ done) s t u h g = record {
  front = h.front;
  back = h.back ++ u;
  parts = ap (λ (z : List ℕ). z ++ u) h.parts ∙ append_assoc h.front h.back u;
  front_is = h.front_is;
  back_is = steps_push done s h.back u h.back_is g;
}

-- a byte more of the step under way
grown : (m : Mode) (done : List Step) (t : List ℕ) (c : ℕ) (n : Mode) → Reached m done t → ((u : List ℕ) → Opens m u → Opens n (u ++ c ∷ [])) → Reached n done (t ++ c ∷ [])
grown m done t c n h f = record {
  front = h.front;
  back = h.back ++ c ∷ [];
  parts = ap (λ (z : List ℕ). z ++ c ∷ []) h.parts ∙ append_assoc h.front h.back (c ∷ []);
  front_is = h.front_is;
  back_is = f h.back h.back_is;
}

-- the step under way has ended
pub ended : (m : Mode) (done : List Step) (t : List ℕ) (s : Step) → Reached m done t → ((u : List ℕ) → Opens m u → SpellsStep s u) → Reached between (done ++ s ∷ []) t
ended m done t s h f = record {
  front = t;
  back = [];
  parts = sym (append-nil t);
  front_is = subst (SpellsSteps (done ++ s ∷ [])) (sym h.parts) (steps_push done s h.front h.back h.front_is (f h.back h.back_is));
  back_is = refl;
}

-- the byte ends the step under way
closed : (m : Mode) (done : List Step) (t : List ℕ) (c : ℕ) (s : Step) → Reached m done t → ((u : List ℕ) → Opens m u → SpellsStep s (u ++ c ∷ [])) → Reached between (done ++ s ∷ []) (t ++ c ∷ [])
closed m done t c s h f =
    let same : t ++ c ∷ [] ≡ h.front ++ (h.back ++ c ∷ []) = ap (λ (z : List ℕ). z ++ c ∷ []) h.parts ∙ append_assoc h.front h.back (c ∷ []) in
    record {
      front = t ++ c ∷ [];
      back = [];
      parts = sym (append-nil (t ++ c ∷ []));
      front_is = subst (SpellsSteps (done ++ s ∷ [])) (sym same) (steps_push done s h.front (h.back ++ c ∷ []) h.front_is (f h.back h.back_is));
      back_is = refl;
    }

pub each_push : (p : ℕ → Bool) (n : List ℕ) (c : ℕ) → Each p n → p c ≡ true → Each p (n ++ c ∷ [])
each_push p [] c h e = (e, tt)
each_push p (d ∷ n) c h e = (h.0, each_push p n c h.1 e)

number_push : (v : ℕ) (ds : List ℕ) (c : ℕ) → number_from v (ds ++ c ∷ []) ≡ number_from v ds * 10 + (c - 48)
number_push v [] c = refl
number_push v (d ∷ ds) c = number_push (v * 10 + (d - 48)) ds c

begin_reaches : (done : List Step) (t : List ℕ) (c : ℕ) → Reached between done t → Holds (t ++ c ∷ []) (begin_step done c)
begin_reaches done t c h =
    holds_cond (t ++ c ∷ []) (c == 46) _ _ (λ e. grown between done t c dot h (λ u g. rw (g, eqb-true c 46 e) refl)) (λ _.
    holds_cond (t ++ c ∷ []) (c == 91) _ _ (λ e. grown between done t c bracket h (λ u g. rw (g, eqb-true c 91 e) refl)) (λ _. tt))

dot_reaches : (done : List Step) (t : List ℕ) (c : ℕ) → Reached dot done t → Holds (t ++ c ∷ []) (advance dot done c)
dot_reaches done t c h =
    holds_cond (t ++ c ∷ []) (is_name_byte c) _ _ (λ e. grown dot done t c (name (c ∷ [])) h (λ u g. record { parts = ap (λ (z : List ℕ). z ++ c ∷ []) g; some = omega arith; each = (e, tt) })) (λ _. tt)

name_reaches : (n : List ℕ) (done : List Step) (t : List ℕ) (c : ℕ) → Reached (name n) done t → Holds (t ++ c ∷ []) (advance (name n) done c)
name_reaches n done t c h =
    holds_cond (t ++ c ∷ []) (is_name_byte c) _ _ (λ e. grown (name n) done t c (name (n ++ c ∷ [])) h (λ u g. record { parts = ap (λ (z : List ℕ). z ++ c ∷ []) g.parts; some = omega (arith, length-append n (c ∷ [])); each = each_push is_name_byte n c g.each e }))
    (λ _. begin_reaches (done ++ Name n ∷ []) t c (ended (name n) done t (Name n) h (λ u g. inl g)))

quote_opens : (u : List ℕ) (c : ℕ) → u ≡ 91 ∷ [] → ((c == 39) || (c == 34)) ≡ true → OpensQuoted c [] (u ++ c ∷ [])
quote_opens u c g e = record { quote = which (c == 39) (c == 34) refl refl e; parts = ap (λ (z : List ℕ). z ++ c ∷ []) g; each = tt }
  where
    which : (a b : Bool) → (c == 39) ≡ a → (c == 34) ≡ b → (a || b) ≡ true → IsQuote c
    which true b x y h = inl (eqb-true c 39 x)
    which false true x y h = inr (eqb-true c 34 y)
    which false false x y h = absurd cc

digit_opens : (u : List ℕ) (c : ℕ) → u ≡ 91 ∷ [] → is_digit c ≡ true → OpensDigits 1 (c - 48) (u ++ c ∷ [])
digit_opens u c g e = record { read = c ∷ []; parts = ap (λ (z : List ℕ). z ++ c ∷ []) g; each = (e, tt); count = refl; some = omega arith; few = omega arith; means = omega arith }

bracket_reaches : (done : List Step) (t : List ℕ) (c : ℕ) → Reached bracket done t → Holds (t ++ c ∷ []) (advance bracket done c)
bracket_reaches done t c h =
    holds_cond (t ++ c ∷ []) ((c == 39) || (c == 34)) _ _ (λ e. grown bracket done t c (quoted c []) h (λ u g. quote_opens u c g e)) (λ _.
    holds_cond (t ++ c ∷ []) (is_digit c) _ _ (λ e. grown bracket done t c (digits 1 (c - 48)) h (λ u g. digit_opens u c g e)) (λ _. tt))

quoted_reaches : (q : ℕ) (n : List ℕ) (done : List Step) (t : List ℕ) (c : ℕ) → Reached (quoted q n) done t → Holds (t ++ c ∷ []) (advance (quoted q n) done c)
quoted_reaches q n done t c h =
    holds_cond (t ++ c ∷ []) (is_between q c) _ _ (λ e. grown (quoted q n) done t c (quoted q (n ++ c ∷ [])) h (λ u g. record { quote = g.quote; parts = ap (λ (z : List ℕ). z ++ c ∷ []) g.parts; each = each_push (is_between q) n c g.each e })) (λ _.
    holds_cond (t ++ c ∷ []) (c == q) _ _ (λ e. grown (quoted q n) done t c (closing n) h (λ u g. record { q = q; quote = g.quote; parts = ap (λ (z : List ℕ). z ++ c ∷ []) g.parts ∙ ap (λ (z : ℕ). 91 ∷ q ∷ (n ++ z ∷ [])) (eqb-true c q e); each = g.each })) (λ _. tt))

pub quote_ends : (n u : List ℕ) → OpensClosing n u → SpellsStep (Name n) (u ++ 93 ∷ [])
quote_ends n u h = ends h.quote
  where
    same : (q : ℕ) → h.q ≡ q → u ++ 93 ∷ [] ≡ 91 ∷ q ∷ (n ++ q ∷ 93 ∷ [])
    same q e = ap (λ (z : List ℕ). z ++ 93 ∷ []) h.parts ∙ ap (λ (z : ℕ). (91 ∷ z ∷ (n ++ z ∷ [])) ++ 93 ∷ []) e ∙ ap (λ (z : List ℕ). 91 ∷ q ∷ z) (append_assoc n (q ∷ []) (93 ∷ []))

    ends : IsQuote h.q → SpellsStep (Name n) (u ++ 93 ∷ [])
    ends (inl e) = inr (inl record { parts = same 39 e; each = subst (λ (z : ℕ). Each (is_between z) n) e h.each })
    ends (inr e) = inr (inr record { parts = same 34 e; each = subst (λ (z : ℕ). Each (is_between z) n) e h.each })

closing_reaches : (n : List ℕ) (done : List Step) (t : List ℕ) (c : ℕ) → Reached (closing n) done t → Holds (t ++ c ∷ []) (advance (closing n) done c)
closing_reaches n done t c h =
    holds_cond (t ++ c ∷ []) (c == 93) _ _ (λ e. closed (closing n) done t c (Name n) h (λ u g. subst (λ (z : ℕ). SpellsStep (Name n) (u ++ z ∷ [])) (sym (eqb-true c 93 e)) (quote_ends n u g))) (λ _. tt)

less_true : (k : ℕ) → nat_lt k 9 ≡ true → k < 9
less_true k e = grind (arith, e)

and_true : (a b : Bool) → (a && b) ≡ true → (a ≡ true) × (b ≡ true)
and_true true b e = (refl, e)
and_true false b e = absurd cc

digit_more : (k v : ℕ) (u : List ℕ) (c : ℕ) → OpensDigits k v u → (nat_lt k 9 && is_digit c) ≡ true → OpensDigits (k + 1) (v * 10 + (c - 48)) (u ++ c ∷ [])
digit_more k v u c h e =
    let x = and_true (nat_lt k 9) (is_digit c) e in
    let lt = less_true k x.0 in
    record {
      read = h.read ++ c ∷ [];
      parts = ap (λ (z : List ℕ). z ++ c ∷ []) h.parts;
      each = each_push is_digit h.read c h.each x.1;
      count = omega (arith, length-append h.read (c ∷ []), h.count);
      some = omega arith;
      few = omega (arith, lt);
      means = number_push 0 h.read c ∙ ap (λ (z : ℕ). z * 10 + (c - 48)) h.means;
    }

pub digits_close : (k v : ℕ) (u : List ℕ) → OpensDigits k v u → SpellsIndex v (u ++ 93 ∷ [])
digits_close k v u h = record {
  digits = h.read;
  parts = ap (λ (z : List ℕ). z ++ 93 ∷ []) h.parts;
  each = h.each;
  some = omega (arith, h.count, h.some);
  few = omega (arith, h.count, h.few);
  means = h.means;
}

digits_reaches : (k v : ℕ) (done : List Step) (t : List ℕ) (c : ℕ) → Reached (digits k v) done t → Holds (t ++ c ∷ []) (advance (digits k v) done c)
digits_reaches k v done t c h =
    holds_cond (t ++ c ∷ []) (nat_lt k 9 && is_digit c) _ _ (λ e. grown (digits k v) done t c (digits (k + 1) (v * 10 + (c - 48))) h (λ u g. digit_more k v u c g e)) (λ _.
    holds_cond (t ++ c ∷ []) (c == 93) _ _ (λ e. closed (digits k v) done t c (Index v) h (λ u g. subst (λ (z : ℕ). SpellsIndex v (u ++ z ∷ [])) (sym (eqb-true c 93 e)) (digits_close k v u g))) (λ _. tt))

pub advance_reaches : (m : Mode) (done : List Step) (t : List ℕ) (c : ℕ) → Reached m done t → Holds (t ++ c ∷ []) (advance m done c)
advance_reaches between done t c h = begin_reaches done t c h
advance_reaches dot done t c h = dot_reaches done t c h
advance_reaches (name n) done t c h = name_reaches n done t c h
advance_reaches bracket done t c h = bracket_reaches done t c h
advance_reaches (quoted q n) done t c h = quoted_reaches q n done t c h
advance_reaches (closing n) done t c h = closing_reaches n done t c h
advance_reaches (digits k v) done t c h = digits_reaches k v done t c h

-- ---- each front goes on to steps

pub record GoesOn (t : List ℕ) : Type 0 where
  pub more : List ℕ
  pub steps : List Step
  pub spelled : SpellsSteps steps (t ++ more)

finished : (m : Mode) (done : List Step) (t more : List ℕ) (s : Step) → Reached m done t → ((u : List ℕ) → Opens m u → SpellsStep s (u ++ more)) → GoesOn t
finished m done t more s h f =
    let same : t ++ more ≡ h.front ++ (h.back ++ more) = ap (λ (z : List ℕ). z ++ more) h.parts ∙ append_assoc h.front h.back more in
    record { more = more; steps = done ++ s ∷ []; spelled = subst (SpellsSteps (done ++ s ∷ [])) (sym same) (steps_push done s h.front (h.back ++ more) h.front_is (f h.back h.back_is)) }

a_name : is_name_byte 97 ≡ true
unfolding is_name_byte
a_name = refl

a_digit : is_digit 48 ≡ true
unfolding is_digit
a_digit = refl

pub reached_goes_on : (m : Mode) (done : List Step) (t : List ℕ) → Reached m done t → GoesOn t
reached_goes_on between done t h = finished between done t (46 ∷ 97 ∷ []) (Name (97 ∷ [])) h (λ u g. inl record { parts = ap (λ (z : List ℕ). z ++ (46 ∷ 97 ∷ [])) g; some = omega arith; each = (a_name, tt) })
reached_goes_on dot done t h = finished dot done t (97 ∷ []) (Name (97 ∷ [])) h (λ u g. inl record { parts = ap (λ (z : List ℕ). z ++ (97 ∷ [])) g; some = omega arith; each = (a_name, tt) })
reached_goes_on (name n) done t h = finished (name n) done t [] (Name n) h (λ u g. inl record { parts = append-nil u ∙ g.parts; some = g.some; each = g.each })
reached_goes_on bracket done t h = finished bracket done t (48 ∷ 93 ∷ []) (Index 0) h (λ u g. record { digits = 48 ∷ []; parts = ap (λ (z : List ℕ). z ++ (48 ∷ 93 ∷ [])) g; each = (a_digit, tt); some = omega arith; few = omega arith; means = refl })
reached_goes_on (quoted q n) done t h = finished (quoted q n) done t (q ∷ 93 ∷ []) (Name n) h (λ u g. subst (SpellsStep (Name n)) (append_assoc u (q ∷ []) (93 ∷ [])) (quote_ends n (u ++ q ∷ []) (record { q = q; quote = g.quote; parts = ap (λ (z : List ℕ). z ++ q ∷ []) g.parts; each = g.each })))
reached_goes_on (closing n) done t h = finished (closing n) done t (93 ∷ []) (Name n) h (λ u g. quote_ends n u g)
reached_goes_on (digits k v) done t h = finished (digits k v) done t (93 ∷ []) (Index v) h (λ u g. digits_close k v u g)

-- where the machine ends well, the steps are spelled
pub finish_spells : (m : Mode) (done ss : List Step) (t : List ℕ) → Reached m done t → finish m done ≡ Ok ss → SpellsSteps ss t
finish_spells between done ss t h e =
    let same : t ≡ h.front = h.parts ∙ ap (λ (z : List ℕ). h.front ++ z) h.back_is ∙ append-nil h.front in
    let steps_are : done ≡ ss = cc in
    subst (λ (z : List Step). SpellsSteps z t) steps_are (subst (SpellsSteps done) (sym same) h.front_is)
finish_spells (name n) done ss t h e =
    let steps_are : done ++ Name n ∷ [] ≡ ss = cc in
    subst (λ (z : List Step). SpellsSteps z t) steps_are (subst (SpellsSteps (done ++ Name n ∷ [])) (sym h.parts) (steps_push done (Name n) h.front h.back h.front_is (inl h.back_is)))
finish_spells x done ss t h e = absurd cc
