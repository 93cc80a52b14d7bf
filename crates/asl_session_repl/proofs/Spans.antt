-- Spans of time: their texts are ASCII and have no space, and none is a timestamp.
use Rattle.std.proofs.Common.{ℕ, ◌≡◌, ◌<◌, ◌+◌, ◌/◌, ◌%◌, Bool, true, false, List, [], ◌∷◌, ◌++◌, length, get_or, Option, Some, None, unsigned_abs, refl, sym, ◌∙◌, ap, arith}
use Rattle.std.specs.Prelude.{◌==◌, ◌&&◌, ◌||◌, nat_le, if◌then◌else◌, option_map}
use Rattle.std.specs.List.{list_all}
use Rattle.std.specs.Str.{IsAscii}
use Rattle.std.proofs.lemmas.Bool.{and_parts, both_ways, leb-true, eqb-true}
use Rattle.std.proofs.lemmas.List.Folds.{list_all_at}
use Rattle.std.proofs.lemmas.Str.{IsAscii-append}
use Rattle.std.proofs.lemmas.Str.Ascii.{IsAscii-nil, IsAscii-cons}
use Rattle.asl_json_data.specs.Number.{digits_value}
use Rattle.asl_time.specs.Stamp.{digits}
use Rattle.asl_time.specs.Timestamp.{IsTimestamp}
use Rattle.asl_run_input.proofs.StepLines.{AreAbove, stamp_ascii}
use Rattle.asl_session.specs.Scripts.{is_digit, count_in}
use Rattle.asl_session_repl.specs.declared.timed.When.{When}
use Rattle.asl_session_repl.specs.declared.timed.When.TheVariants.{At, After, Since}
use Rattle.asl_session_repl.specs.Moments.{unit_millis, IsSpan, is_clock_byte, clock_in, IsWhen}

-- ---- the number and the unit

counted : (b : Bool) (x n : ℕ) → (if b then Some x else None) ≡ Some n → b ≡ true
counted true x n e = refl
counted false x n e = absurd (cc)

counted_digits : (t : List ℕ) (n : ℕ) → count_in t ≡ Some n → list_all is_digit t ≡ true
counted_digits t n e =
    let all = counted (nat_le 1 (length t) && nat_le (length t) 9 && list_all is_digit t) (digits_value 0 t) n e in
    (and_parts (nat_le 1 (length t) && nat_le (length t) 9) (list_all is_digit t) all).1

abbrev IsLetter : ℕ → Type 0
IsLetter c = (32 < c) × (c < 128)

is_digit_letter : (c : ℕ) → is_digit c ≡ true → IsLetter c
is_digit_letter c h =
    let range = and_parts (nat_le 48 c) (nat_le c 57) h in
    let low = leb-true 48 c range.0 in
    let high = leb-true c 57 range.1 in
    (omega (arith, low), omega (arith, high))

unit_at : (b : Bool) (c k x s : ℕ) (o : Option ℕ) → (b ≡ true → c ≡ k) → IsLetter k → (o ≡ Some s → IsLetter c) → (if b then Some x else o) ≡ Some s → IsLetter c
unit_at true c k x s o same l rest e = rw (same refl) l
unit_at false c k x s o same l rest e = rest e

unit_letter : (c s : ℕ) → unit_millis c ≡ Some s → IsLetter c
unit_letter c s =
    unit_at (c == 115) c 115 1000 s _ (eqb-true c 115) (omega arith, omega arith)
    (unit_at (c == 109) c 109 60000 s _ (eqb-true c 109) (omega arith, omega arith)
    (unit_at (c == 104) c 104 3600000 s _ (eqb-true c 104) (omega arith, omega arith)
    (unit_at (c == 100) c 100 86400000 s None (eqb-true c 100) (omega arith, omega arith) (λ e. absurd (cc)))))

-- ---- their texts

above_both : (xs ys : List ℕ) → AreAbove xs → AreAbove ys → AreAbove (xs ++ ys)
unfolding AreAbove
above_both [] ys h k = k
above_both (x ∷ xs) ys h k = (h.0, above_both xs ys h.1 k)

above_digits : (ds : List ℕ) → list_all is_digit ds ≡ true → AreAbove ds
unfolding AreAbove
above_digits [] h = tt
above_digits (c ∷ cs) h =
    let both = and_parts (is_digit c) (list_all is_digit cs) h in
    ((is_digit_letter c both.0).0, above_digits cs both.1)

ascii_digits : (ds : List ℕ) → list_all is_digit ds ≡ true → IsAscii ds
ascii_digits [] h = IsAscii-nil
ascii_digits (c ∷ cs) h =
    let both = and_parts (is_digit c) (list_all is_digit cs) h in
    IsAscii-cons c cs (is_digit_letter c both.0).1 (ascii_digits cs both.1)

pub above_span : (t : List ℕ) (n : ℕ) → IsSpan t n → AreAbove t
unfolding AreAbove
above_span t n h =
    let unit : AreAbove (h.unit ∷ []) = ((unit_letter h.unit h.size h.size_is).0, tt) in
    rw h.text_is (omega arith, above_both h.digits (h.unit ∷ []) (above_digits h.digits (counted_digits h.digits h.count h.count_is)) unit)

pub span_ascii : (t : List ℕ) (n : ℕ) → IsSpan t n → IsAscii t
span_ascii t n h =
    let unit : IsAscii (h.unit ∷ []) = IsAscii-cons h.unit [] (unit_letter h.unit h.size h.size_is).1 IsAscii-nil in
    rw h.text_is (IsAscii-cons 43 _ (omega arith) (IsAscii-append h.digits (h.unit ∷ []) (ascii_digits h.digits (counted_digits h.digits h.count h.count_is)) unit))

-- ---- times since the start

ticked : (b : Bool) (o : Option ℕ) (n : ℕ) → (if b then o else None) ≡ Some n → b ≡ true
ticked true o n e = refl
ticked false o n e = absurd (cc)

clock_bytes : (t : List ℕ) (n : ℕ) → clock_in t ≡ Some n → list_all is_clock_byte t ≡ true
clock_bytes t n e = ticked (list_all is_clock_byte t) _ n e

byte_letter_by : (c : ℕ) (b d : Bool) → (b ≡ true → c ≡ 58) → (d ≡ true → c ≡ 46) → (b || (d || is_digit c)) ≡ true → IsLetter c
byte_letter_by c true d colon point h = let same = colon refl in (omega (arith, same), omega (arith, same))
byte_letter_by c false true colon point h = let same = point refl in (omega (arith, same), omega (arith, same))
byte_letter_by c false false colon point h = is_digit_letter c h

byte_letter : (c : ℕ) → is_clock_byte c ≡ true → IsLetter c
byte_letter c h = byte_letter_by c (c == 58) (c == 46) (eqb-true c 58) (eqb-true c 46) h

above_bytes : (t : List ℕ) → list_all is_clock_byte t ≡ true → AreAbove t
unfolding AreAbove
above_bytes [] h = tt
above_bytes (c ∷ cs) h =
    let both = and_parts (is_clock_byte c) (list_all is_clock_byte cs) h in
    ((byte_letter c both.0).0, above_bytes cs both.1)

ascii_bytes : (t : List ℕ) → list_all is_clock_byte t ≡ true → IsAscii t
ascii_bytes [] h = IsAscii-nil
ascii_bytes (c ∷ cs) h =
    let both = and_parts (is_clock_byte c) (list_all is_clock_byte cs) h in
    IsAscii-cons c cs (byte_letter c both.0).1 (ascii_bytes cs both.1)

pub above_clock : (t : List ℕ) (n : ℕ) → clock_in t ≡ Some n → AreAbove t
above_clock t n e = above_bytes t (clock_bytes t n e)

-- it has no sign, and no dash behind four digits
no_span : (t : List ℕ) (n k : ℕ) → clock_in t ≡ Some n → IsSpan t k → ⊥
no_span t n k e h = let all : list_all is_clock_byte (43 ∷ (h.digits ++ h.unit ∷ [])) ≡ true = rw h.text_is at (clock_bytes t n e) in absurd (cc)

no_dash : (t : List ℕ) (n m : ℕ) → clock_in t ≡ Some n → IsTimestamp t m → ⊥
unfolding digits
no_dash t n m e h =
    let dash : get_or t 4 0 ≡ 45 = ap (λ (l : List ℕ). get_or l 4 0) h.text in
    let long : 4 < length t = rw h.text (omega arith) in
    let bad : list_all is_clock_byte t ≡ false = list_all_at is_clock_byte t 4 0 long (rw dash refl) in
    absurd (both_ways (list_all is_clock_byte t) bad (clock_bytes t n e))

-- ---- a timestamp begins with a digit

no_sign : (t rest : List ℕ) (m : ℕ) → IsTimestamp t m → t ≡ 43 ∷ rest → ⊥
unfolding digits
no_sign t rest m h e =
    let first : 43 ≡ 48 + unsigned_abs h.shown.date.year / 10 / 10 / 10 % 10 = ap (λ (l : List ℕ). get_or l 0 0) (sym e ∙ h.text) in
    absurd (omega (arith, first))

-- ---- a text names at most one moment

pub when_span : (t : List ℕ) (n : ℕ) (o : Option ℕ) → IsSpan t n → o ≡ Some n → ((k : ℕ) → IsSpan t k → o ≡ Some k) → (w : When) → IsWhen t w → Some (After n) ≡ Some w
when_span t n o h e only (At m) k = absurd (no_sign t (h.digits ++ h.unit ∷ []) m k h.text_is)
when_span t n o h e only (Since k) g = absurd (no_span t k n g h)
when_span t n o h e only (After k) g = let same : n ≡ k = (let other = only k g in cc) in rw same refl

pub when_clock : (t : List ℕ) (n : ℕ) (s o : Option ℕ) → s ≡ None → ((k : ℕ) → IsSpan t k → s ≡ Some k) → o ≡ clock_in t → o ≡ Some n → (w : When) → IsWhen t w → Some (Since n) ≡ Some w
when_clock t n s o e span is found (At m) k = absurd (no_dash t n m (sym is ∙ found) k)
when_clock t n s o e span is found (After k) g = absurd (let other = span k g in cc)
when_clock t n s o e span is found (Since k) g = let same : n ≡ k = (let other : Some n ≡ Some k = sym found ∙ is ∙ g in cc) in rw same refl

pub when_stamp : (t : List ℕ) (s c o : Option ℕ) → s ≡ None → ((k : ℕ) → IsSpan t k → s ≡ Some k) → c ≡ clock_in t → c ≡ None → ((m : ℕ) → IsTimestamp t m → o ≡ Some m) → (w : When) → IsWhen t w → option_map At o ≡ Some w
when_stamp t s c o e span is none stamp (At m) k = ap (option_map At) (stamp m k)
when_stamp t s c o e span is none stamp (After n) g = absurd (let other = span n g in cc)
when_stamp t s c o e span is none stamp (Since n) g = absurd (let other : None ≡ Some n = sym none ∙ is ∙ g in cc)

pub when_ascii : (t : List ℕ) (w : When) → IsWhen t w → IsAscii t
when_ascii t (At m) h = stamp_ascii t m h
when_ascii t (After n) h = span_ascii t n h
when_ascii t (Since n) h = ascii_bytes t (clock_bytes t n h)
