-- The text of a step with its moment has one space, so the texts of two steps are cut at the second one.
use Rattle.std.proofs.Common.{ℕ, zero, suc, ◌≡◌, ◌<◌, ◌+◌, List, [], ◌∷◌, ◌++◌, length, take, get_or, Option, Some, None, Bor, unsigned_abs, ℤ, refl, sym, ◌∙◌, ap, arith, append_assoc, length-append, take_at}
use Rattle.std.specs.Prelude.{MatchOption}
use Rattle.std.specs.Str.{IsUtf8}
use Rattle.std.specs.Str.Parse.{AllDigits}
use Rattle.std.proofs.lemmas.Str.{IsAscii-append, IsUtf8-append, IsUtf8-from_ascii}
use Rattle.std.proofs.lemmas.Str.Ascii.{IsAscii-nil, IsAscii-cons}
use Rattle.std.proofs.lemmas.Str.Parse.{digit_from_value}
use Rattle.std.proofs.lemmas.Str.Pattern.{IsSplitOnceResult, split_after}
use Rattle.asl_time.specs.Stamp.{digits, full_date, whole_time, to_the_second}
use Rattle.asl_time.specs.Timestamp.{secfrac, IsNumericOffset, IsOffset, utc, plus, minus, IsTimestamp}
use Rattle.asl_time.proofs.Back.{digits_digits}
use Rattle.asl_history.specs.Places.{place_text}
use Rattle.asl_run_input.proofs.StepLines.{AreAbove, AreAbove-place, place_ascii}
use Rattle.asl_session.specs.Scripts.{IsPlaceText}
use Rattle.asl_session_repl.specs.declared.timed.When.{When}
use Rattle.asl_session_repl.specs.declared.timed.When.TheVariants.{At, After, Since}
use Rattle.asl_session_repl.specs.declared.timed.Timed.{Timed}
use Rattle.asl_session_repl.specs.Moments.{IsWhen, IsTimed, IsStepText, AreSteps}
use Rattle.asl_session_repl.proofs.Spans.{above_span, above_clock, when_ascii}

-- ---- a moment has no space

above_both : (xs ys : List ℕ) → AreAbove xs → AreAbove ys → AreAbove (xs ++ ys)
unfolding AreAbove
above_both [] ys h k = k
above_both (x ∷ xs) ys h k = (h.0, above_both xs ys h.1 k)

above_joined : (xs ys : List ℕ) (c : ℕ) → 32 < c → AreAbove xs → AreAbove ys → AreAbove ((xs ++ c ∷ []) ++ ys)
unfolding AreAbove
above_joined xs ys c l h k = above_both (xs ++ c ∷ []) ys (above_both xs (c ∷ []) h (l, tt)) k

above_all : (ds : List ℕ) → AllDigits 10 ds → AreAbove ds
unfolding AreAbove
above_all [] h = tt
above_all (c ∷ cs) h = (omega (arith, digit_from_value c h.0), above_all cs h.1)

above_digits : (k n : ℕ) → AreAbove (digits k n)
above_digits k n = above_all (digits k n) (digits_digits k n)

above_second : (t : List ℕ) (m : ℕ) (h : IsTimestamp t m) → AreAbove (to_the_second h.shown)
above_second t m h =
    let y = digits 4 (unsigned_abs h.shown.date.year) in
    let day : AreAbove (full_date h.shown.date) = above_joined ((y ++ 45 ∷ []) ++ digits 2 h.shown.date.month) (digits 2 h.shown.date.day) 45 (omega arith)
    (above_joined y (digits 2 h.shown.date.month) 45 (omega arith) (above_digits 4 (unsigned_abs h.shown.date.year)) (above_digits 2 h.shown.date.month)) (above_digits 2 h.shown.date.day) in
    let time : AreAbove (whole_time h.shown.time) = above_joined ((digits 2 h.shown.time.hour ++ 58 ∷ []) ++ digits 2 h.shown.time.minute) (digits 2 h.shown.time.second) 58 (omega arith)
    (above_joined (digits 2 h.shown.time.hour) (digits 2 h.shown.time.minute) 58 (omega arith) (above_digits 2 h.shown.time.hour) (above_digits 2 h.shown.time.minute)) (above_digits 2 h.shown.time.second) in
    above_joined (full_date h.shown.date) (whole_time h.shown.time) 84 (omega arith) day time

above_fraction : (ds : List ℕ) → AllDigits 10 ds → AreAbove (secfrac ds)
unfolding AreAbove
above_fraction [] h = tt
above_fraction (c ∷ cs) h = (omega arith, above_all (c ∷ cs) h)

above_numeric : (sign minutes : ℕ) (t : List ℕ) → 32 < sign → IsNumericOffset (sign ∷ []) minutes t → AreAbove t
unfolding AreAbove
above_numeric sign minutes t l h = rw h.text (above_joined (sign ∷ digits 2 h.hour) (digits 2 h.minute) 58 (omega arith) (l, above_digits 2 h.hour) (above_digits 2 h.minute))

above_offset : (ahead : ℤ) (t : List ℕ) → IsOffset ahead t → AreAbove t
unfolding AreAbove
above_offset ahead t (utc e z) = rw e (omega arith, tt)
above_offset ahead t (plus minutes h z) = above_numeric 43 minutes t (omega arith) h
above_offset ahead t (minus minutes h z) = above_numeric 45 minutes t (omega arith) h

above_stamp : (t : List ℕ) (m : ℕ) → IsTimestamp t m → AreAbove t
above_stamp t m h =
    rw h.text (above_both (to_the_second h.shown ++ secfrac h.fraction) h.zone (above_both (to_the_second h.shown) (secfrac h.fraction) (above_second t m h) (above_fraction h.fraction h.fraction_digits)) (above_offset h.ahead h.zone h.zone_offset))

above_when : (t : List ℕ) (w : When) → IsWhen t w → AreAbove t
above_when t (At m) h = above_stamp t m h
above_when t (After n) h = above_span t n h
above_when t (Since n) h = above_clock t n h

no_space : (cs : List ℕ) → AreAbove cs → (i : ℕ) → i < length cs → get_or cs i 0 ≡ 32 → ⊥
unfolding AreAbove
no_space [] h i l e = absurd (omega arith)
no_space (c ∷ cs) h zero l e = let above = h.0 in absurd (omega arith)
no_space (c ∷ cs) h (suc i) l e = no_space cs h.1 i (omega arith) e

inside : (xs ys : List ℕ) → AreAbove (xs ++ 32 ∷ ys) → ⊥
unfolding AreAbove
inside [] ys h = let above = h.0 in absurd (omega (arith, above))
inside (x ∷ xs) ys h = inside xs ys h.1

-- ---- a step is cut at its space

-- a place has none
pub no_moment : (t moment p : List ℕ) (q : List ℕ) → IsPlaceText t p → t ≡ q ++ 32 ∷ moment → ⊥
no_moment t moment p q h e = inside q moment (rw (sym h.text_is ∙ e) at (AreAbove-place p h.place_in))

pub timed_cut : (line text : List ℕ) (a : Timed) (r : Option (Bor (List ℕ) × Bor (List ℕ))) → text ≡ line → IsSplitOnceResult 32 text r → (h : IsTimed line a)
    → MatchOption r ⊥ (λ x. (x.0.now ≡ place_text a.place) × (x.1.now ≡ h.moment))
timed_cut line text a r e split h =
    split_after 32 text (place_text a.place) h.moment r split (omega arith) (e ∙ h.text_is) (no_space (place_text a.place) (AreAbove-place a.place h.place_in))

pub timed_utf8 : (line : List ℕ) (a : Timed) → IsTimed line a → IsUtf8 line
timed_utf8 line a h =
    rw h.text_is (IsUtf8-from_ascii _ (IsAscii-append (place_text a.place) (32 ∷ h.moment) (place_ascii a.place h.place_in) (IsAscii-cons 32 h.moment (omega arith) (when_ascii h.moment a.when h.moment_is))))

pub same_timed : (a : Timed) (place : List ℕ) (when : When) (o : Option (List ℕ)) (w : Option When) → o ≡ Some place → o ≡ Some a.place → w ≡ Some when → w ≡ Some a.when
    → Some (let made : Timed = record { place = place; when = when } in made) ≡ Some a
same_timed a place when o w e f g k =
    let place_is : place ≡ a.place = cc in
    let when_is : when ≡ a.when = cc in
    rw (place_is, when_is) refl

-- ---- where two steps are cut

whole_is : (t : List ℕ) (a b : Timed) (h : AreSteps t a b) → t ≡ place_text a.place ++ 32 ∷ (h.one_is.moment ++ 32 ∷ h.other)
whole_is t a b h = h.text_is ∙ ap (λ l. l ++ 32 ∷ h.other) h.one_is.text_is ∙ append_assoc (place_text a.place) (32 ∷ h.one_is.moment) (32 ∷ h.other)

pub first_cut : (t : List ℕ) (a b : Timed) (r : Option (Bor (List ℕ) × Bor (List ℕ))) → IsSplitOnceResult 32 t r → (h : AreSteps t a b)
    → MatchOption r ⊥ (λ x. (x.0.now ≡ place_text a.place) × (x.1.now ≡ h.one_is.moment ++ 32 ∷ h.other))
first_cut t a b r split h =
    split_after 32 t (place_text a.place) (h.one_is.moment ++ 32 ∷ h.other) r split (omega arith) (whole_is t a b h) (no_space (place_text a.place) (AreAbove-place a.place h.one_is.place_in))

pub second_cut : (t rest : List ℕ) (a b : Timed) (r : Option (Bor (List ℕ) × Bor (List ℕ))) → IsSplitOnceResult 32 rest r → (h : AreSteps t a b) → rest ≡ h.one_is.moment ++ 32 ∷ h.other
    → MatchOption r ⊥ (λ x. (x.0.now ≡ h.one_is.moment) × (x.1.now ≡ h.other))
second_cut t rest a b r split h e =
    split_after 32 rest h.one_is.moment h.other r split (omega arith) e (no_space h.one_is.moment (above_when h.one_is.moment a.when h.one_is.moment_is))

-- the first one is as long as its place, a space and its moment
pub front_is : (t : List ℕ) (a b : Timed) (h : AreSteps t a b) (place moment : List ℕ) → place ≡ place_text a.place → moment ≡ h.one_is.moment → take (length place + 1 + length moment) t ≡ h.one
front_is t a b h place moment e f =
    let long : length h.one ≡ length place + 1 + length moment = rw (h.one_is.text_is, e, f) (omega (arith, length-append (place_text a.place) (32 ∷ h.one_is.moment))) in
    rw h.text_is (take_at h.one (32 ∷ h.other) (length place + 1 + length moment) long)

pub same_steps : (o p : Option Timed) (one other a b : Timed) → o ≡ Some one → p ≡ Some other → o ≡ Some a → p ≡ Some b → ◌≡◌ {A = Option (Timed × Timed)} (Some (one, other)) (Some (a, b))
same_steps o p one other a b e f g k =
    let first : one ≡ a = cc in
    let second : other ≡ b = cc in
    rw (first, second) refl

-- ---- their text is UTF-8

pub steps_utf8 : (t : List ℕ) (a b : Timed) → AreSteps t a b → IsUtf8 t
steps_utf8 t a b h =
    let space : IsUtf8 (32 ∷ []) = IsUtf8-from_ascii (32 ∷ []) (IsAscii-cons 32 [] (omega arith) IsAscii-nil) in
    rw h.text_is (IsUtf8-append h.one (32 ∷ h.other) (timed_utf8 h.one a h.one_is) (IsUtf8-append (32 ∷ []) h.other space (timed_utf8 h.other b h.other_is)))

-- ---- a step with its moment or without

pub only_timed : (t : List ℕ) (b : Timed) (place : List ℕ) (o : Option Timed) → place ≡ b.place → o ≡ Some b → IsTimed t b → ((a : Timed) → IsTimed t a → o ≡ Some a) → (p : List ℕ) (w : Option When) → IsStepText t p w → ◌≡◌ {A = Option (List ℕ × Option When)} (Some (place, Some b.when)) (Some (p, w))
only_timed t b place o e f h only p None g = absurd (no_moment t h.moment p (place_text b.place) g h.text_is)
only_timed t b place o e f h only p (Some w) g =
    let same : b ≡ record { place = p; when = w } = (let other = only (record { place = p; when = w }) g in cc) in
    λ i. Some ((e ∙ ap (λ (a : Timed). a.place) same) i, Some ((same i).when))
