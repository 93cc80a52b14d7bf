-- Which command a line spells.
use Rattle.std.proofs.Common.{ℕ, ◌≡◌, ◌≢◌, ◌<◌, ◌≤◌, ◌^◌, Result, Ok, Err, IfOk, ◌+◌, true, false, List, ◌∷◌, ◌++◌, length, get_or, take, drop, drop_at, Option, Some, None, Bor, IsSomeAnd, IfSome, MatchOption, refl, sym, ◌∙◌, ap, arith}
use Rattle.std.specs.Prelude.{codes, nat_eq, option_map}
use Rattle.std.specs.Cmp.Lexicographic.{pointwise}
use Rattle.std.proofs.lemmas.Bool.Decides.{Decides-eqb}
use Rattle.std.proofs.lemmas.Slice.Eq.{strip_prefix_is}
use Rattle.std.specs.Str.{IsUtf8}
use Rattle.std.proofs.lemmas.Str.{IsUtf8-from_ascii}
use Rattle.asl_json_data.specs.Data.{Data}
use Rattle.asl_json.specs.View.{data_of}
use Rattle.asl_json_read.specs.Wrong.{IsRead}
use Rattle.asl_json.specs.declared.value.Json.{Json}
use Rattle.asl_json_read.specs.declared.fault.JsonFault.{JsonFault}
use Rattle.asl_json_read.specs.declared.fault.JsonFault.TheVariants.{OutOfMemory}
use Rattle.asl_history.specs.Places.{place_text}
use Rattle.std.proofs.Math.Nat.{pow-le-pow_right}
use Rattle.asl_run_input.specs.declared.step_at.StepAt.{StepAt}
use Rattle.asl_run_input.specs.StepsFile.{IsStepLine}
use Rattle.asl_run_input.proofs.StepLines.{place_ascii}
use Rattle.asl_session.specs.Scripts.{IsNamed, IsPlaceText, count_in, IsCommandLine}
use Rattle.asl_session.specs.declared.command.Command.{Command}
use Rattle.asl_session.specs.declared.command.Command.TheVariants.{Step, Break, Clear, Resume, Show, Back}

-- ---- what stands behind a word

abbrev Strips : List ℕ → List ℕ → Option (Bor (List ℕ)) → Type 0
Strips s p r = MatchOption r (pointwise nat_eq (take (length p) s) p ≡ false) (λ x. (pointwise nat_eq (take (length p) s) p ≡ true) × (x.now ≡ drop (length p) s) × (length x.now + length p ≡ length s))

cut : (s p : List ℕ) (r : Option (Bor (List ℕ))) → Strips s p r → MatchOption r ((rest : List ℕ) → s ≢ p ++ rest) (λ x. s ≡ p ++ x.now)
cut s p r h = strip_prefix_is Decides-eqb s p r h

found-by : (s p : List ℕ) (r : Option (Bor (List ℕ))) → MatchOption r ((rest : List ℕ) → s ≢ p ++ rest) (λ x. s ≡ p ++ x.now) → IfSome r (λ x. s ≡ p ++ x.now)
found-by s p None h = tt
found-by s p (Some x) h = h

pub same-rest : (p xs ys : List ℕ) → p ++ xs ≡ p ++ ys → xs ≡ ys
same-rest p xs ys e = sym (drop_at p xs (length p) refl) ∙ ap (drop (length p)) e ∙ drop_at p ys (length p) refl

only-by : (s p : List ℕ) (r : Option (Bor (List ℕ))) → MatchOption r ((rest : List ℕ) → s ≢ p ++ rest) (λ x. s ≡ p ++ x.now) → (rest : List ℕ) → s ≡ p ++ rest → IsSomeAnd r (λ x. x.now ≡ rest)
only-by s p None h rest e = absurd (h rest e)
only-by s p (Some x) h rest e = same-rest p x.now rest (sym h ∙ e)

pub behind-found : (s p q : List ℕ) (r : Option (Bor (List ℕ))) → q ≡ p → Strips s q r → IfSome r (λ x. s ≡ p ++ x.now)
behind-found s p q r e h = found-by s p r (cut s p r (rw e at h))

pub behind-only : (s p q : List ℕ) (r : Option (Bor (List ℕ))) → q ≡ p → Strips s q r → (rest : List ℕ) → s ≡ p ++ rest → IsSomeAnd r (λ x. x.now ≡ rest)
behind-only s p q r e h = only-by s p r (cut s p r (rw e at h))

-- ---- the first two letters tell a command's word

abbrev pub first_of : Command → ℕ
first_of (Step a) = 115
first_of (Break n) = 98
first_of (Clear n) = 99
first_of (Resume p) = 114
first_of (Show p) = 115
first_of (Back n) = 98

abbrev pub second_of : Command → ℕ
second_of (Step a) = 116
second_of (Break n) = 114
second_of (Clear n) = 108
second_of (Resume p) = 101
second_of (Show p) = 104
second_of (Back n) = 97

pub record Letters (line : List ℕ) (x y : ℕ) : Type 0 where
  pub first : get_or line 0 0 ≡ x
  pub second : get_or line 1 0 ≡ y

begins : (x y : ℕ) (line rest : List ℕ) → line ≡ x ∷ y ∷ rest → Letters line x y
begins x y line rest e = record { first = rw e refl; second = rw e refl }

pub letters : (line : List ℕ) (c : Command) → IsCommandLine line c → Letters line (first_of c) (second_of c)
letters line (Step a) k = begins 115 116 line _ k.line_is
letters line (Break n) k = begins 98 114 line _ k.line_is
letters line (Clear n) k = begins 99 108 line _ k.line_is
letters line (Resume p) k = begins 114 101 line _ k.line_is
letters line (Show p) k = begins 115 104 line _ k.line_is
letters line (Back n) k = begins 98 97 line _ k.line_is

-- ---- each word has its own command

pub only-step : (line t : List ℕ) (o : Option StepAt) → line ≡ codes "step " ++ t → ((a : StepAt) → IsStepLine t a → o ≡ Some a) → (c : Command) → IsCommandLine line c → option_map Step o ≡ Some c
only-step line t o e h (Step a) k = ap (option_map Step) (h a (rw (same-rest (codes "step ") k.rest t (sym k.line_is ∙ e)) at k.rest_is))
only-step line t o e h c k = absurd (let l = letters line c k in let m = begins 115 116 line _ e in omega (arith, l.first, l.second, m.first, m.second))

pub only-break : (line t : List ℕ) (o : Option (List ℕ)) → line ≡ codes "break " ++ t → ((n : List ℕ) → IsNamed t n → o ≡ Some n) → (c : Command) → IsCommandLine line c → option_map Break o ≡ Some c
only-break line t o e h (Break n) k = ap (option_map Break) (h n (rw (same-rest (codes "break ") k.rest t (sym k.line_is ∙ e)) at k.rest_is))
only-break line t o e h c k = absurd (let l = letters line c k in let m = begins 98 114 line _ e in omega (arith, l.first, l.second, m.first, m.second))

pub only-clear : (line t : List ℕ) (o : Option (List ℕ)) → line ≡ codes "clear " ++ t → ((n : List ℕ) → IsNamed t n → o ≡ Some n) → (c : Command) → IsCommandLine line c → option_map Clear o ≡ Some c
only-clear line t o e h (Clear n) k = ap (option_map Clear) (h n (rw (same-rest (codes "clear ") k.rest t (sym k.line_is ∙ e)) at k.rest_is))
only-clear line t o e h c k = absurd (let l = letters line c k in let m = begins 99 108 line _ e in omega (arith, l.first, l.second, m.first, m.second))

pub only-resume : (line t : List ℕ) (o : Option (List ℕ)) → line ≡ codes "resume " ++ t → ((p : List ℕ) → IsPlaceText t p → o ≡ Some p) → (c : Command) → IsCommandLine line c → option_map Resume o ≡ Some c
only-resume line t o e h (Resume p) k = ap (option_map Resume) (h p (rw (same-rest (codes "resume ") k.rest t (sym k.line_is ∙ e)) at k.rest_is))
only-resume line t o e h c k = absurd (let l = letters line c k in let m = begins 114 101 line _ e in omega (arith, l.first, l.second, m.first, m.second))

pub only-show : (line t : List ℕ) (o : Option (List ℕ)) → line ≡ codes "show " ++ t → ((p : List ℕ) → IsPlaceText t p → o ≡ Some p) → (c : Command) → IsCommandLine line c → option_map Show o ≡ Some c
only-show line t o e h (Show p) k = ap (option_map Show) (h p (rw (same-rest (codes "show ") k.rest t (sym k.line_is ∙ e)) at k.rest_is))
only-show line t o e h c k = absurd (let l = letters line c k in let m = begins 115 104 line _ e in omega (arith, l.first, l.second, m.first, m.second))

pub only-back : (line t : List ℕ) (o : Option ℕ) → line ≡ codes "back " ++ t → ((n : ℕ) → count_in t ≡ Some n → o ≡ Some n) → (c : Command) → IsCommandLine line c → option_map Back o ≡ Some c
only-back line t o e h (Back n) k = ap (option_map Back) (h n (rw (same-rest (codes "back ") k.rest t (sym k.line_is ∙ e)) at k.rest_is))
only-back line t o e h c k = absurd (let l = letters line c k in let m = begins 98 97 line _ e in omega (arith, l.first, l.second, m.first, m.second))

-- ---- names, places and numbers

pub if-ok-map : {A E : Type 0} (r : Result A E) (P Q : A → Type 0) → ((x : A) → P x → Q x) → IfOk r P → IfOk r Q
if-ok-map (Ok x) P Q f h = f x h
if-ok-map (Err e) P Q f h = h

pub not-read : (v : Data) (f : JsonFault) → (f ≡ OutOfMemory → ⊥) → IsRead {X = Json} data_of v (Err f) → ⊥
not-read v OutOfMemory n h = n refl
not-read v f n h = h

pub place-utf8 : (t p : List ℕ) → IsPlaceText t p → IsUtf8 t
place-utf8 t p h = rw h.text_is (IsUtf8-from_ascii (place_text p) (place_ascii p h.place_in))

-- numbers of fewer than nine digits
pub few-digits : (n i len : ℕ) → n < 10 ^ i → i < len → len ≤ 9 → n < 100000000
few-digits n i len h l m = let p : 10 ^ i ≤ 10 ^ 8 = pow-le-pow_right {n = 10} (omega arith) {i = i} {j = 8} (omega arith) in omega (arith, h, p)
