-- What a Map has under its newer names.
use Rattle.std.proofs.Common.{◌≡◌, ℕ, List, Bool, true, false, ◌||◌, refl, sym, ap, ◌∙◌}
use Rattle.std.specs.Prelude.{Option, Some, None, is_some, option_map, codes, if◌then◌else◌}
use Rattle.std.specs.Cmp.Lexicographic.{same_text}
use Rattle.asl_json_data.specs.Data.{Data, Pairs, no_members, member}
use Rattle.asl_json.specs.Same.{bytes_eq}
use Rattle.asl_json.specs.Meaning.{value_at}
use Rattle.asl_json.proofs.Knowing.{bytes_eq-flip}
use Rattle.asl_def_schema.specs.Members.{Shape, sort_at}
use Rattle.asl_def.specs.Upgraded.{newer, newer_value, newer_members}
use Rattle.asl_def.proofs.Newer.{by_name}

-- ---- names that none is changed to

abbrev IsGone : List ℕ → Type 0
IsGone k = (l : List ℕ) → bytes_eq k (newer l) ≡ false

iterator_gone : IsGone (codes "Iterator")
iterator_gone l = by_name (λ (m n : List ℕ). bytes_eq (codes "Iterator") n ≡ false) refl refl (λ m p q. bytes_eq-flip (codes "Iterator") m ∙ p) l

parameters_gone : IsGone (codes "Parameters")
parameters_gone l = by_name (λ (m n : List ℕ). bytes_eq (codes "Parameters") n ≡ false) refl refl (λ m p q. bytes_eq-flip (codes "Parameters") m ∙ q) l

gone : (k : List ℕ) (sh : Shape) (ms : Pairs) → IsGone k → value_at k (newer_members true sh ms) ≡ None
gone k sh no_members h = refl
gone k sh (member l d ms) h = ap (λ (b : Bool). if b then Some (newer_value (sort_at sh l) d) else value_at k (newer_members true sh ms)) (h l) ∙ gone k sh ms h

pub no_iterator : (sh : Shape) (ms : Pairs) → value_at (codes "Iterator") (newer_members true sh ms) ≡ None
no_iterator sh ms = gone (codes "Iterator") sh ms iterator_gone

pub no_parameters : (sh : Shape) (ms : Pairs) → value_at (codes "Parameters") (newer_members true sh ms) ≡ None
no_parameters sh ms = gone (codes "Parameters") sh ms parameters_gone

-- ---- names that others are changed to

abbrev IsNewer : List ℕ → List ℕ → Type 0
IsNewer old new = (l : List ℕ) → bytes_eq new (newer l) ≡ (bytes_eq old l || bytes_eq new l)

processor_newer : IsNewer (codes "Iterator") (codes "ItemProcessor")
processor_newer l = by_name (λ (m n : List ℕ). bytes_eq (codes "ItemProcessor") n ≡ (bytes_eq (codes "Iterator") m || bytes_eq (codes "ItemProcessor") m)) refl refl (λ m p q. ap (λ (b : Bool). b || bytes_eq (codes "ItemProcessor") m) (sym (bytes_eq-flip (codes "Iterator") m ∙ p))) l

selector_newer : IsNewer (codes "Parameters") (codes "ItemSelector")
selector_newer l = by_name (λ (m n : List ℕ). bytes_eq (codes "ItemSelector") n ≡ (bytes_eq (codes "Parameters") m || bytes_eq (codes "ItemSelector") m)) refl refl (λ m p q. ap (λ (b : Bool). b || bytes_eq (codes "ItemSelector") m) (sym (bytes_eq-flip (codes "Parameters") m ∙ q))) l

-- where only the older name is there
older_there : (old new : List ℕ) (sh : Shape) (ms : Pairs) → IsNewer old new → value_at new ms ≡ None → value_at new (newer_members true sh ms) ≡ option_map (newer_value (sort_at sh old)) (value_at old ms)
older_there old new sh no_members is h = refl
older_there old new sh (member l d ms) is h =
    ap (λ (b : Bool). if b then Some (newer_value (sort_at sh l) d) else value_at new (newer_members true sh ms)) (is l)
    ∙ by (bytes_eq old l) (bytes_eq new l) refl refl (older_there old new sh ms is)
  where
    by : (a c : Bool) → bytes_eq old l ≡ a → bytes_eq new l ≡ c → (value_at new ms ≡ None → value_at new (newer_members true sh ms) ≡ option_map (newer_value (sort_at sh old)) (value_at old ms)) → (if a || c then Some (newer_value (sort_at sh l) d) else value_at new (newer_members true sh ms)) ≡ option_map (newer_value (sort_at sh old)) (if a then Some d else value_at old ms)
    by true c p q rest = ap (λ (x : List ℕ). Some (newer_value (sort_at sh x) d)) (sym (same_text old l (sym p)))
    by false true p q rest = absurd (let x : Some d ≡ None = rw q at h in cc)
    by false false p q rest = rest (rw q at h)

-- where only the newer name is there
newer_there : (old new : List ℕ) (sh : Shape) (ms : Pairs) → IsNewer old new → value_at old ms ≡ None → value_at new (newer_members true sh ms) ≡ option_map (newer_value (sort_at sh new)) (value_at new ms)
newer_there old new sh no_members is h = refl
newer_there old new sh (member l d ms) is h =
    ap (λ (b : Bool). if b then Some (newer_value (sort_at sh l) d) else value_at new (newer_members true sh ms)) (is l)
    ∙ by (bytes_eq old l) (bytes_eq new l) refl refl (newer_there old new sh ms is)
  where
    by : (a c : Bool) → bytes_eq old l ≡ a → bytes_eq new l ≡ c → (value_at old ms ≡ None → value_at new (newer_members true sh ms) ≡ option_map (newer_value (sort_at sh new)) (value_at new ms)) → (if a || c then Some (newer_value (sort_at sh l) d) else value_at new (newer_members true sh ms)) ≡ option_map (newer_value (sort_at sh new)) (if c then Some d else value_at new ms)
    by true c p q rest = absurd (let x : Some d ≡ None = rw p at h in cc)
    by false true p q rest = ap (λ (x : List ℕ). Some (newer_value (sort_at sh x) d)) (sym (same_text new l (sym q)))
    by false false p q rest = rest (rw p at h)

pub older_processor : (sh : Shape) (ms : Pairs) → value_at (codes "ItemProcessor") ms ≡ None → value_at (codes "ItemProcessor") (newer_members true sh ms) ≡ option_map (newer_value (sort_at sh (codes "Iterator"))) (value_at (codes "Iterator") ms)
older_processor sh ms h = older_there (codes "Iterator") (codes "ItemProcessor") sh ms processor_newer h

pub newer_processor : (sh : Shape) (ms : Pairs) → value_at (codes "Iterator") ms ≡ None → value_at (codes "ItemProcessor") (newer_members true sh ms) ≡ option_map (newer_value (sort_at sh (codes "ItemProcessor"))) (value_at (codes "ItemProcessor") ms)
newer_processor sh ms h = newer_there (codes "Iterator") (codes "ItemProcessor") sh ms processor_newer h

pub older_selector : (sh : Shape) (ms : Pairs) → value_at (codes "ItemSelector") ms ≡ None → value_at (codes "ItemSelector") (newer_members true sh ms) ≡ option_map (newer_value (sort_at sh (codes "Parameters"))) (value_at (codes "Parameters") ms)
older_selector sh ms h = older_there (codes "Parameters") (codes "ItemSelector") sh ms selector_newer h

pub newer_selector : (sh : Shape) (ms : Pairs) → value_at (codes "Parameters") ms ≡ None → value_at (codes "ItemSelector") (newer_members true sh ms) ≡ option_map (newer_value (sort_at sh (codes "ItemSelector"))) (value_at (codes "ItemSelector") ms)
newer_selector sh ms h = newer_there (codes "Parameters") (codes "ItemSelector") sh ms selector_newer h

-- ---- of two members of which one is there at most

pub other_none : (o p : Option Data) → (is_some o ≡ true → is_some p ≡ false) → (d : Data) → o ≡ Some d → p ≡ None
other_none o None h d e = refl
other_none o (Some x) h d e = absurd (let y : is_some o ≡ true = ap is_some e in let z : true ≡ false = h y in cc)
