-- Of rows of which one is there, that one is picked.
use Rattle.std.proofs.Common.{◌≡◌, ℕ, List, [], ◌∷◌, ◌++◌, Bool, true, false, refl, sym, ap, ◌∙◌}
use Rattle.std.specs.Prelude.{None}
use Rattle.std.specs.Cmp.Lexicographic.{same_text}
use Rattle.std.proofs.lemmas.List.{append-nil}
use Rattle.asl_json_data.specs.Data.{Pairs}
use Rattle.asl_json.specs.Same.{bytes_eq}
use Rattle.asl_json.specs.private.SameLaws.{bytes_refl}
use Rattle.asl_json.specs.Meaning.{value_at}
use Rattle.asl_def_schema.specs.declared.sort.Sort.{Sort}
use Rattle.asl_def_schema.specs.Members.{Row, Shape, sort_at, sort_in, is_among, row_names}
use Rattle.asl_def_schema.specs.Canon.{Named, opt, kept_at, picked_at}
use Rattle.asl_def_schema.proofs.Inside.{or_right}
use Rattle.asl_choice.proofs.Names.{is_once, apart}

picked_none : (sh : Shape) (rs : List Row) (ms : Pairs) → ((l : List ℕ) → is_among l (row_names rs) ≡ true → value_at l ms ≡ None) → picked_at sh rs ms ≡ []
picked_none sh [] ms none = refl
picked_none sh (r ∷ rs) ms none =
    let here : value_at r.name ms ≡ None = none r.name (rw (bytes_refl r.name) refl) in
    rw here (picked_none sh rs ms (λ l e. none l (or_right (bytes_eq l r.name) (is_among l (row_names rs)) e)))

pub picked_one : (sh : Shape) (rs : List Row) (ms : Pairs) (k : List ℕ) → is_once k (row_names rs) ≡ true → ((l : List ℕ) → is_among l (row_names rs) ≡ true → bytes_eq k l ≡ false → value_at l ms ≡ None) → picked_at sh rs ms ≡ opt k (kept_at k (sort_at sh k) ms)
picked_one sh [] ms k e none = absurd cc
picked_one sh (r ∷ rs) ms k e none = by (bytes_eq k r.name) (is_among k (row_names rs)) refl refl (λ f. picked_one sh rs ms k f (λ l a n. none l (or_right (bytes_eq l r.name) (is_among l (row_names rs)) a) n))
  where
    by : (b c : Bool) → bytes_eq k r.name ≡ b → is_among k (row_names rs) ≡ c → (is_once k (row_names rs) ≡ true → picked_at sh rs ms ≡ opt k (kept_at k (sort_at sh k) ms)) → picked_at sh (r ∷ rs) ms ≡ opt k (kept_at k (sort_at sh k) ms)
    by true true p q rest = absurd (let x = rw (p, q) at e in cc)
    by true false p q rest =
        let others : picked_at sh rs ms ≡ [] = picked_none sh rs ms (λ l a. none l (or_right (bytes_eq l r.name) (is_among l (row_names rs)) a) (apart k l (row_names rs) q a)) in
        ap (λ (xs : List Named). opt r.name (kept_at r.name (sort_at sh r.name) ms) ++ xs) others
        ∙ append-nil (opt r.name (kept_at r.name (sort_at sh r.name) ms))
        ∙ ap (λ (n : List ℕ). opt n (kept_at n (sort_at sh n) ms)) (sym (same_text k r.name (sym p)))
    by false c p q rest =
        let here : value_at r.name ms ≡ None = none r.name (rw (bytes_refl r.name) refl) p in
        rw here (rest (rw p at e))

pub sort_in-append : (rs qs : List Row) (o : Sort) (k : List ℕ) → is_among k (row_names rs) ≡ true → sort_in (rs ++ qs) o k ≡ sort_in rs o k
sort_in-append [] qs o k e = absurd cc
sort_in-append (r ∷ rs) qs o k e = by (bytes_eq k r.name) refl (λ f. sort_in-append rs qs o k f)
  where
    by : (b : Bool) → bytes_eq k r.name ≡ b → (is_among k (row_names rs) ≡ true → sort_in (rs ++ qs) o k ≡ sort_in rs o k) → sort_in (r ∷ (rs ++ qs)) o k ≡ sort_in (r ∷ rs) o k
    by true p rest = rw p refl
    by false p rest = rw p (rest (rw p at e))
