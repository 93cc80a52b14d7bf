-- Retriers and catchers by their numbers.
use Rattle.std.proofs.Common.{◌≡◌, ℕ, zero, suc, ◌<◌, ◌≤◌, ◌+◌, Bool, true, false, List, [], ◌∷◌, length, get_or, drop, refl, sym, ap, subst, ◌∙◌, arith}
use Rattle.std.proofs.lemmas.List.{drop_more, drop_all}
use Rattle.std.specs.Prelude.{if◌then◌else◌}
use Rattle.asl_json_data.specs.Data.{Data, chain}
use Rattle.asl_json.specs.Same.{equal}
use Rattle.asl_def_fields.specs.declared.retry.Retrier.{Retrier}
use Rattle.asl_def_fields.specs.Shown.{retrier_object, retrier_objects}
use Rattle.asl_def_fields.specs.Retries.{attempts_of}
use Rattle.asl_def_shared.specs.declared.catcher.Catcher.{Catcher}
use Rattle.asl_def_shared.specs.Parts.{catcher_object, catcher_objects}
use Rattle.asl_def_shared.specs.contracts.catcher.CatcherPartialEq.TheImpl as catcher
use Rattle.asl_def_shared.proofs.Alike.{catcher_alike}
use Rattle.asl_trace_lines.specs.Handling.{attempts_at, number_of}

pub attempts_there : (rs : List Retrier) (i : ℕ) (r : Retrier) → i < length rs → r ≡ get_or rs i r → attempts_of (retrier_object r) ≡ attempts_at i (chain (retrier_objects rs))
attempts_there [] i r lt at = absurd (omega (arith, lt))
attempts_there (x ∷ rs) zero r lt at = ap (λ (y : Retrier). attempts_of (retrier_object y)) at
attempts_there (x ∷ rs) (suc i) r lt at = attempts_there rs i r (omega (arith, lt)) at

pub attempts_behind : (rs : List Retrier) (i : ℕ) → length rs ≤ i → 0 ≡ attempts_at i (chain (retrier_objects rs))
attempts_behind [] i le = refl
attempts_behind (x ∷ rs) zero le = absurd (omega (arith, le))
attempts_behind (x ∷ rs) (suc i) le = attempts_behind rs i (omega (arith, le))

front : (cs : List Catcher) (i : ℕ) (x : Catcher) → i < length cs → x ≡ get_or cs i x → drop i cs ≡ x ∷ drop (i + 1) cs
front cs i x lt at = drop_more cs i x lt ∙ ap (λ (y : Catcher). y ∷ drop (i + 1) cs) (sym at)

-- the first of these is it
pub number_here : (c : Data) (cs : List Catcher) (i : ℕ) (x : Catcher) → i < length cs → x ≡ get_or cs i x → equal (catcher_object x) c ≡ true → number_of c (chain (catcher_objects (drop i cs))) ≡ 0
number_here c cs i x lt at is =
    ap (λ (ys : List Catcher). number_of c (chain (catcher_objects ys))) (front cs i x lt at)
    ∙ ap (λ (b : Bool). if b then 0 else suc (number_of c (chain (catcher_objects (drop (i + 1) cs))))) is

-- the first of these isn't it
pub number_next : (c : Data) (cs : List Catcher) (i : ℕ) (x : Catcher) → i < length cs → x ≡ get_or cs i x → equal (catcher_object x) c ≡ false → number_of c (chain (catcher_objects (drop i cs))) ≡ suc (number_of c (chain (catcher_objects (drop (i + 1) cs))))
number_next c cs i x lt at is =
    ap (λ (ys : List Catcher). number_of c (chain (catcher_objects ys))) (front cs i x lt at)
    ∙ ap (λ (b : Bool). if b then 0 else suc (number_of c (chain (catcher_objects (drop (i + 1) cs))))) is

pub number_none : (c : Data) (cs : List Catcher) (i : ℕ) → length cs ≤ i → number_of c (chain (catcher_objects (drop i cs))) ≡ 0
number_none c cs i le = ap (λ (ys : List Catcher). number_of c (chain (catcher_objects ys))) (drop_all i cs le)

-- the same of retriers as contracts see them

pub attempts_found : (rs : List Retrier) (ds : List Data) (i : ℕ) (r : Retrier) (n : ℕ) → retrier_objects rs ≡ ds → i < length rs → r ≡ get_or rs i r → n ≡ attempts_of (retrier_object r) → n ≡ attempts_at i (chain ds)
attempts_found rs ds i r n e lt at is = is ∙ attempts_there rs i r lt at ∙ ap (λ (xs : List Data). attempts_at i (chain xs)) e

pub attempts_missing : (rs : List Retrier) (ds : List Data) (i : ℕ) → retrier_objects rs ≡ ds → length rs ≤ i → 0 ≡ attempts_at i (chain ds)
attempts_missing rs ds i e le = attempts_behind rs i le ∙ ap (λ (xs : List Data). attempts_at i (chain xs)) e

-- a loop over catchers: the one of this number is it, or isn't, or none is

pub it_is : (d : Catcher) (cs : List Catcher) (ds : List Data) (i : ℕ) (x : Catcher) (b : Bool) → catcher_objects cs ≡ ds → i < length cs → x ≡ get_or cs i x → b ≡ (catcher.ghosts).eq x d → b ≡ true
    → number_of (catcher_object d) (chain (catcher_objects cs)) ≡ i + number_of (catcher_object d) (chain (catcher_objects (drop i cs))) → i ≡ number_of (catcher_object d) (chain ds)
it_is d cs ds i x b e lt at eq equals so_far =
    let none = number_here (catcher_object d) cs i x lt at (catcher_alike x d ∙ sym eq ∙ equals) in
    let here : i ≡ number_of (catcher_object d) (chain (catcher_objects cs)) = omega (arith, so_far, none) in
    here ∙ ap (λ (xs : List Data). number_of (catcher_object d) (chain xs)) e

pub it_is_not : (d : Catcher) (cs : List Catcher) (i : ℕ) (x : Catcher) (b : Bool) → i < length cs → x ≡ get_or cs i x → b ≡ (catcher.ghosts).eq x d → b ≡ false
    → number_of (catcher_object d) (chain (catcher_objects cs)) ≡ i + number_of (catcher_object d) (chain (catcher_objects (drop i cs)))
    → number_of (catcher_object d) (chain (catcher_objects cs)) ≡ (i + 1) + number_of (catcher_object d) (chain (catcher_objects (drop (i + 1) cs)))
it_is_not d cs i x b lt at eq differs so_far =
    let next = number_next (catcher_object d) cs i x lt at (catcher_alike x d ∙ sym eq ∙ differs) in
    omega (arith, so_far, next)

pub none_is : (d : Catcher) (cs : List Catcher) (ds : List Data) (i n : ℕ) → catcher_objects cs ≡ ds → length cs ≤ i → i ≤ length cs → n ≡ length cs
    → number_of (catcher_object d) (chain (catcher_objects cs)) ≡ i + number_of (catcher_object d) (chain (catcher_objects (drop i cs))) → n ≡ number_of (catcher_object d) (chain ds)
none_is d cs ds i n e le within is so_far =
    let none = number_none (catcher_object d) cs i le in
    let all : n ≡ number_of (catcher_object d) (chain (catcher_objects cs)) = omega (arith, so_far, none, le, within, is) in
    all ∙ ap (λ (xs : List Data). number_of (catcher_object d) (chain xs)) e
