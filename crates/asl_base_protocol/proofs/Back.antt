-- A message is read back.
use Rattle.std.proofs.Common.{◌≡◌, ℕ, ◌+◌, ◌-◌, ◌*◌, ◌≤◌, ◌<◌, ◌==◌, ◌||◌, ◌&&◌, nat_lt, nat_le, Bool, true, false, List, [], ◌∷◌, ◌++◌, length, refl, sym, ap, ◌∙◌, append_assoc, length-append, arith, rules}
use Rattle.std.specs.Prelude.{codes, Some}
use Rattle.std.proofs.lemmas.List.{append-nil}
use Rattle.std.specs.Char.{is_ascii_digit}
use Rattle.std.specs.Fmt.{decimal}
use Rattle.std.specs.List.{position}
use Rattle.std.specs.Str.{all_ascii_digits}
use Rattle.std.proofs.lemmas.Fmt.{digits_decimal, digits_value-decimal, length-decimal-le, decimal_nonempty}
use Rattle.std.proofs.lemmas.Str.Parse.{IsNumeralModel, numerals_by_fold}
use Rattle.asl_base_protocol.specs.declared.item.Item.TheVariants.{Content}
use Rattle.asl_base_protocol.specs.declared.said.Said.TheVariants.{Nothing, Length}
use Rattle.asl_base_protocol.specs.Fields.{is_blank, behind_blanks, number_on, length_in, is_colon, said_with, said_at, said}
use Rattle.asl_base_protocol.specs.Grammar.{longest_header, longest_content, crlf, has_crlf, IsLine, header_text, IsText, Reads}
use Rattle.asl_base_protocol.specs.Message.{length_field, message}
use Rattle.asl_base_protocol.proofs.Reading.{nothing_unfinished}

abbrev read_on : ℕ → List ℕ → ℕ
read_on n [] = n
read_on n (c ∷ cs) = read_on (10 * n + (c - 48)) cs

own : IsNumeralModel (λ ds. all_ascii_digits ds ≡ true) (read_on 0)
own = numerals_by_fold _ (search rules) read_on (search rules)

first_true : (a b : Bool) → (a && b) ≡ true → a ≡ true
first_true true b e = refl
first_true false b e = absurd (cc)

second_true : (a b : Bool) → (a && b) ≡ true → b ≡ true
second_true true b e = e
second_true false b e = absurd (cc)

digits_number : (ds : List ℕ) (n : ℕ) → all_ascii_digits ds ≡ true → number_on n ds ≡ Some (read_on n ds)
digits_number [] n h = refl
digits_number (c ∷ cs) n h =
    let e : is_ascii_digit c ≡ true = first_true (is_ascii_digit c) (all_ascii_digits cs) h in
    rw e (digits_number cs (10 * n + (c - 48)) (second_true (is_ascii_digit c) (all_ascii_digits cs) h))

no_feed : (c : ℕ) → is_ascii_digit c ≡ true → (c == 10) ≡ false
no_feed c e = grind (arith, e)

no_blank : (c : ℕ) → is_ascii_digit c ≡ true → is_blank c ≡ false
no_blank c e = grind (arith, e)

and_false : (b : Bool) → (b && false) ≡ false
and_false true = refl
and_false false = refl

digits_plain : (b : Bool) (ds : List ℕ) → all_ascii_digits ds ≡ true → has_crlf b ds ≡ false
digits_plain b [] h = refl
digits_plain b (c ∷ cs) h =
    let e : (c == 10) ≡ false = no_feed c (first_true (is_ascii_digit c) (all_ascii_digits cs) h) in
    rw (e, and_false b) (digits_plain (c == 13) cs (second_true (is_ascii_digit c) (all_ascii_digits cs) h))

digits_begin : (ds : List ℕ) → all_ascii_digits ds ≡ true → behind_blanks ds ≡ ds
digits_begin [] h = refl
digits_begin (c ∷ cs) h =
    let e : is_blank c ≡ false = no_blank c (first_true (is_ascii_digit c) (all_ascii_digits cs) h) in
    rw e refl

few_digits : (ds : List ℕ) → 0 < length ds → length ds ≤ 9 → ((length ds == 0) || nat_le 10 (length ds)) ≡ false
few_digits ds some few = grind (arith, some, few)

number_back : (n : ℕ) → n ≤ longest_content → length_in (decimal n) ≡ Some n
number_back n small =
    let ds = decimal n in
    let all : all_ascii_digits ds ≡ true = digits_decimal own n (omega (arith, small)) in
    let some : 0 < length ds = decimal_nonempty n (omega (arith, small)) in
    let few : length ds ≤ 9 = length-decimal-le 9 n (omega arith) (omega (arith, small)) (omega (arith, small)) in
    let few_is = few_digits ds some few in
    rw few_is (digits_number ds 0 all ∙ ap (λ (m : ℕ). Some m) (digits_value-decimal own n (omega (arith, small))))

colon_at : (ds : List ℕ) → position is_colon (codes "Content-Length: " ++ ds) ≡ Some 14
colon_at ds =
    let l = codes "Content-Length: " ++ ds in
    let within : nat_lt 14 (length l) ≡ true = grind (arith, length-append (codes "Content-Length: ") ds) in
    rw within refl

field_said : (n : ℕ) → n ≤ longest_content → said (length_field n ∷ []) ≡ Length n
unfolding length_field
field_said n small =
    let ds = decimal n in
    let all : all_ascii_digits ds ≡ true = digits_decimal own n (omega (arith, small)) in
    ap (said_at Nothing (codes "Content-Length: " ++ ds)) (colon_at ds)
    ∙ ap (λ (v : List ℕ). said_with Nothing (length_in v)) (digits_begin ds all)
    ∙ ap (said_with Nothing) (number_back n small)

field_line : (n : ℕ) → n ≤ longest_content → IsLine (length_field n)
unfolding length_field
field_line n small = digits_plain false (decimal n) (digits_decimal own n (omega (arith, small)))

field_short : (n : ℕ) → n ≤ longest_content → length (header_text (length_field n ∷ [])) ≤ longest_header
unfolding length_field
field_short n small =
    let l = codes "Content-Length: " ++ decimal n in
    let few : length (decimal n) ≤ 9 = length-decimal-le 9 n (omega arith) (omega (arith, small)) (omega (arith, small)) in
    omega (arith, few, length-append (l ++ (crlf ++ [])) crlf, length-append l (crlf ++ []), length-append (codes "Content-Length: ") (decimal n))

pub message_is : (content : List ℕ) → length content ≤ longest_content → IsText (Content content) (message content)
message_is content small =
    let l = length_field (length content) in
    record {
      lines = l ∷ [];
      body = content;
      parts = sym (ap (λ (x : List ℕ). x ++ content) (append_assoc l (crlf ++ []) crlf) ∙ append_assoc l (13 ∷ 10 ∷ 13 ∷ 10 ∷ []) content);
      lines_are = (field_line (length content) small, tt);
      short = field_short (length content) small;
      body_is = (field_said (length content) small, small, refl);
    }

pub read_back : (content : List ℕ) → length content ≤ longest_content → Reads (Content content ∷ []) [] (message content)
read_back content small = (message content, [], sym (append-nil (message content)), message_is content small, (refl, nothing_unfinished))
