-- The names of members of a template.
use Rattle.std.proofs.Common.{◌≡◌, ℕ, List, [], ◌∷◌, ◌++◌, Bool, true, false, ◌||◌, refl, sym, ap, subst, ◌∙◌}
use Rattle.std.specs.Prelude.{map, Option, Some, None}
use Rattle.std.specs.Cmp.Lexicographic.{same_text}
use Rattle.asl_json_data.specs.Data.{pairs}
use Rattle.asl_json.specs.Same.{bytes_eq}
use Rattle.asl_json.specs.private.SameLaws.{bytes_refl}
use Rattle.asl_json_data.specs.Distinct.{Members, has_key, AreDistinct}
use Rattle.asl_template.specs.Names.{mark, name_before, first_of, name_of, named, has_name, is_double}
use Rattle.asl_template.specs.Faults.{Claim, double_claims, member_claims, Each, Holds}
use Rattle.asl_template.proofs.Marks.{name_before-mark, ends_in_mark}
use Rattle.asl_template.proofs.Apart.{named_push}

pub neither : (a b : Bool) → (a || b) ≡ false → (a ≡ false) × (b ≡ false)
neither false b e = (refl, e)
neither true b e = absurd cc

none_of : (a b : Bool) → a ≡ false → b ≡ false → (a || b) ≡ false
none_of false b e f = f
none_of true b e f = absurd cc

pub differ : (a b : List ℕ) → (a ≡ b → ⊥) → bytes_eq a b ≡ false
differ a b apart = decided (bytes_eq a b) refl
  where
    decided : (x : Bool) → bytes_eq a b ≡ x → x ≡ false
    decided true e = absurd (apart (same_text a b (sym e)))
    decided false e = refl

apart : (a b : List ℕ) → bytes_eq a b ≡ false → a ≡ b → ⊥
apart a b e same = let again : bytes_eq a b ≡ true = subst (λ (x : List ℕ). bytes_eq a x ≡ true) same (bytes_refl a) in cc

-- two keys of one name are equal, or one is the other with the mark
one_apart : (k l : List ℕ) → bytes_eq k l ≡ false → bytes_eq (k ++ mark) l ≡ false → ((m : List ℕ) → name_before k ≡ Some m → bytes_eq m l ≡ false) → bytes_eq (name_of k) (name_of l) ≡ false
one_apart k l other marked before = differ (name_of k) (name_of l) (cases (name_before k) (name_before l) refl refl)
  where
    cases : (o p : Option (List ℕ)) → name_before k ≡ o → name_before l ≡ p → first_of o k ≡ first_of p l → ⊥
    cases None None e f same = apart k l other same
    cases None (Some n) e f same = apart (k ++ mark) l marked (ap (λ (x : List ℕ). x ++ mark) same ∙ sym (ends_in_mark l n f))
    cases (Some m) None e f same = apart m l (before m e) same
    cases (Some m) (Some n) e f same = apart k l other (ends_in_mark k m e ∙ ap (λ (x : List ℕ). x ++ mark) same ∙ sym (ends_in_mark l n f))

has_name-some : (k m : List ℕ) (ms : Members) → name_before k ≡ Some m → has_name (name_before k) ms ≡ false → has_key m ms ≡ false
has_name-some k m ms e f = ap (λ (o : Option (List ℕ)). has_name o ms) (sym e) ∙ f

name_apart : (k : List ℕ) (ms : Members) → has_key k ms ≡ false → has_key (k ++ mark) ms ≡ false → ((m : List ℕ) → name_before k ≡ Some m → has_key m ms ≡ false) → has_key (name_of k) (named ms) ≡ false
name_apart k [] other marked before = refl
name_apart k (x ∷ ms) other marked before =
    let o = neither (bytes_eq k x.0) (has_key k ms) other in
    let p = neither (bytes_eq (k ++ mark) x.0) (has_key (k ++ mark) ms) marked in
    none_of (bytes_eq (name_of k) (name_of x.0)) (has_key (name_of k) (named ms))
    (one_apart k x.0 o.0 p.0 (λ m e. (neither (bytes_eq m x.0) (has_key m ms) (before m e)).0))
    (name_apart k ms o.1 p.1 (λ m e. (neither (bytes_eq m x.0) (has_key m ms) (before m e)).1))

alone : (double : Bool) (s : Claim → Claim) (cs ds : List Claim) → ((c : Claim) → Holds (s c) → Holds c) → Each Holds (map s (double_claims double ++ cs) ++ ds) → double ≡ false
alone false s cs ds f h = refl
alone true s cs ds f h = absurd (f _ h.0 tt)

behind : (cs ds : List Claim) → Each Holds (cs ++ ds) → Each Holds ds
behind [] ds h = h
behind (c ∷ cs) ds h = behind cs ds h.1

-- where no name comes twice, keys that differ have names that differ
pub names_differ : (seen ms : Members) → AreDistinct seen ms → Each Holds (member_claims seen (pairs ms)) → AreDistinct (named seen) (named ms)
names_differ seen [] distinct hold = tt
names_differ seen (m ∷ ms) distinct hold =
    let single = alone (is_double seen m.0) _ _ (member_claims (seen ++ m ∷ []) (pairs ms)) (λ c h. h) hold in
    let parts = neither (has_key (m.0 ++ mark) seen) (has_name (name_before m.0) seen) single in (
      name_apart m.0 seen distinct.0 parts.0 (λ n e. has_name-some m.0 n seen e parts.1),
      subst (λ (xs : Members). AreDistinct xs (named ms)) (named_push seen m) (names_differ (seen ++ m ∷ []) ms distinct.1 (behind _ (member_claims (seen ++ m ∷ []) (pairs ms)) hold)),
    )

some : (k n : List ℕ) → Some k ≡ Some n → k ≡ n
some k n e = ap (λ (o : Option (List ℕ)). first_of o k) e

pub same_mark : (k n : List ℕ) → bytes_eq n k ≡ bytes_eq (k ++ mark) (n ++ mark)
same_mark k n = decided (bytes_eq n k) refl
  where
    decided : (b : Bool) → bytes_eq n k ≡ b → b ≡ bytes_eq (k ++ mark) (n ++ mark)
    decided true e = sym (subst (λ (x : List ℕ). bytes_eq (k ++ mark) (x ++ mark) ≡ true) (sym (same_text n k (sym e))) (bytes_refl (k ++ mark)))
    decided false e = sym (differ (k ++ mark) (n ++ mark) (λ same. apart n k e (sym (some k n (sym (name_before-mark k) ∙ ap name_before same ∙ name_before-mark n)))))

pub unmarked : (key k : List ℕ) → name_before key ≡ None → k ++ mark ≡ key → ⊥
unmarked key k none same = let both : Some k ≡ None = sym (name_before-mark k) ∙ ap name_before same ∙ none in cc
