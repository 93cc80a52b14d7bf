-- What a state has as one of its own members, and what it doesn't have.
use Rattle.std.proofs.Common.{◌≡◌, ℕ, Bool, true, false, List, [], ◌∷◌, ◌||◌, ◌&&◌, refl, sym, ap, ◌∙◌}
use Rattle.std.specs.Borrow.{Bor}
use Rattle.std.specs.Option.{option_copied}
use Rattle.std.specs.Cmp.Lexicographic.{same_text}
use Rattle.std.specs.Prelude.{Option, Some, None, if◌then◌else◌, option_map}
use Rattle.asl_json_data.specs.Data.{Data}
use Rattle.asl_json.specs.Same.{bytes_eq}
use Rattle.asl_json.specs.Meaning.{value_in}
use Rattle.asl_def_schema.specs.Members.{is_among}
use Rattle.asl_def_shared.specs.Parts.{Slots, object}
use Rattle.asl_def_shared.proofs.Names.{or_else, chosen, present_at, named}

-- ---- members that are there

-- what is made of the member of this name, where the name comes once
abbrev pub made_of : {A : Type 0} → List (List ℕ) → (Option Data → Option A) → List ℕ → Data → Option A
made_of names f k d = if is_among k names then f (value_in k d) else None

pub own : {A : Type 0} (names : List (List ℕ)) (f : Option Data → Option A) (k l : List ℕ) (o : Option Data) (r : Option A) (ms : Slots) → k ≡ l → r ≡ f o → chosen l ms ≡ or_else o None → is_among l names ≡ true → r ≡ made_of names f k (object ms)
own names f k l o r ms is shows there among =
    shows ∙ ap f (named l o ms there) ∙ sym (ap (λ (b : Bool). if b then f (value_in l (object ms)) else None) among) ∙ ap (λ (n : List ℕ). made_of names f n (object ms)) (sym is)

-- ---- members that aren't

abbrev is_none : Option Data → Bool
is_none None = true
is_none (Some d) = false

-- each of these names is a state's own, or the state has no such member
abbrev pub lacks : (names own : List (List ℕ)) → Slots → Bool
lacks [] own ms = true
lacks (l ∷ ls) own ms = (is_among l own || is_none (chosen l ms)) && lacks ls own ms

-- it is none of these names
abbrev pub AreOthers : List ℕ → List (List ℕ) → Type 0
AreOthers k [] = Unit {0}
AreOthers k (l ∷ ls) = (k ≡ l → ⊥) × AreOthers k ls

none_chosen : (o : Option Data) → is_none o ≡ true → o ≡ None
none_chosen None e = refl
none_chosen (Some d) e = absurd (cc)

right_true : (a b : Bool) → a && b ≡ true → b ≡ true
right_true true b e = e
right_true false b e = absurd (cc)

left_true : (a b : Bool) → a && b ≡ true → a ≡ true
left_true true b e = refl
left_true false b e = absurd (cc)

others : (k : List ℕ) (ls : List (List ℕ)) → AreOthers k ls → is_among k ls ≡ false
others k [] h = refl
others k (l ∷ ls) h = by (bytes_eq k l) refl (others k ls h.1)
  where
    by : (b : Bool) → bytes_eq k l ≡ b → is_among k ls ≡ false → b || is_among k ls ≡ false
    by true e g = absurd (h.0 (same_text k l (sym e)))
    by false e g = g

no_member : (k l : List ℕ) (own : List (List ℕ)) (ms : Slots) (a : Bool) → is_among l own ≡ a → a || is_none (chosen l ms) ≡ true → is_among k own ≡ false → k ≡ l → chosen k ms ≡ None
no_member k l own ms true e h out is = absurd (cc (ap (λ (n : List ℕ). is_among n own) is))
no_member k l own ms false e h out is = ap (λ (n : List ℕ). chosen n ms) is ∙ none_chosen (chosen l ms) h

absent : (k : List ℕ) (names own : List (List ℕ)) (ms : Slots) → lacks names own ms ≡ true → is_among k own ≡ false → is_among k names ≡ true → chosen k ms ≡ None
absent k [] own ms h out among = absurd (cc)
absent k (l ∷ ls) own ms h out among = by (bytes_eq k l) refl among (λ g. absent k ls own ms (right_true (is_among l own || is_none (chosen l ms)) (lacks ls own ms) h) out g)
  where
    by : (b : Bool) → bytes_eq k l ≡ b → b || is_among k ls ≡ true → (is_among k ls ≡ true → chosen k ms ≡ None) → chosen k ms ≡ None
    by true e g f = no_member k l own ms (is_among l own) refl (left_true (is_among l own || is_none (chosen l ms)) (lacks ls own ms) h) out (same_text k l (sym e))
    by false e g f = f g

-- nothing, where the name is none of the state's own
pub not_own : {A : Type 0} (names : List (List ℕ)) (f : Option Data → Option A) (own : List (List ℕ)) (k : List ℕ) (ms : Slots) → f None ≡ None → lacks names own ms ≡ true → AreOthers k own → None ≡ made_of names f k (object ms)
not_own names f own k ms nothing h out = by (is_among k names) refl
  where
    by : (b : Bool) → is_among k names ≡ b → None ≡ (if b then f (value_in k (object ms)) else None)
    by true e = sym (ap f (present_at k ms ∙ absent k names own ms h (others k own out) e) ∙ nothing)
    by false e = refl

-- ---- members that are lent

-- what is lent of an optional member
pub copied : {A : Type 0} (r : Option (Bor A)) (o : Option A) → option_copied r ≡ o → option_map (λ v. v.now) r ≡ o
copied None o e = e
copied (Some v) o e = e

-- ---- members of a part

-- two objects have the same members of these names
abbrev pub AreSame : List (List ℕ) → Slots → Slots → Type 0
AreSame [] ms os = Unit {0}
AreSame (l ∷ ls) ms os = (chosen l ms ≡ chosen l os) × AreSame ls ms os

same_chosen : (names : List (List ℕ)) (ms os : Slots) (k : List ℕ) → is_among k names ≡ true → AreSame names ms os → chosen k ms ≡ chosen k os
same_chosen [] ms os k among h = absurd (cc)
same_chosen (l ∷ ls) ms os k among h = by (bytes_eq k l) refl among (λ g. same_chosen ls ms os k g h.1)
  where
    by : (b : Bool) → bytes_eq k l ≡ b → b || is_among k ls ≡ true → (is_among k ls ≡ true → chosen k ms ≡ chosen k os) → chosen k ms ≡ chosen k os
    by true e g f =
        let is = same_text k l (sym e) in
        ap (λ (n : List ℕ). chosen n ms) is ∙ h.0 ∙ ap (λ (n : List ℕ). chosen n os) (sym is)
    by false e g f = f g

pub tied : (names : List (List ℕ)) (ms os : Slots) (k : List ℕ) → is_among k names ≡ true → AreSame names ms os → value_in k (object ms) ≡ value_in k (object os)
tied names ms os k among h = present_at k ms ∙ same_chosen names ms os k among h ∙ sym (present_at k os)
