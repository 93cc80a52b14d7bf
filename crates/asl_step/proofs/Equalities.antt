-- What is equal is one: what a branch is doing, and its parts.
use Rattle.std.proofs.Common.{◌≡◌, ◌∙◌, ℕ, Bool, true, false, List, Option, Some, None, refl, sym, ap, subst}
use Rattle.std.specs.Prelude.{◌&&◌, ◌↔◌, nat_eq}
use Rattle.std.specs.Bool.{Decides}
use Rattle.std.specs.Option.{option_eq}
use Rattle.std.specs.Cmp.{unsigned_Decides}
use Rattle.std.specs.Cmp.Lexicographic.{pointwise, pointwise_decides, bytes_decides}
use Rattle.std.proofs.lemmas.Bool.Decides.{Decides-and}
use Rattle.asl_json_data.specs.Data.{Data}
use Rattle.asl_json.specs.View.{data_of, same_json}
use Rattle.asl_json.specs.Same.{bytes_eq, equal, json_equal, items_equal}
use Rattle.asl_json.specs.private.SameLaws.{equal_true, equal_refl}
use Rattle.asl_json.specs.declared.value.Json.{Json}
use Rattle.asl_step.specs.declared.record.Record.{Record}
use Rattle.asl_step.specs.declared.record.Record.TheVariants.{New, Ready, Pausing, Again, Forked, Done, Failed}
use Rattle.asl_step.specs.declared.record.ErrorOut.{ErrorOut}
use Rattle.asl_step.specs.Equal.{IsExact, place_eq, error_eq, uses_eq, record_eq}

-- ---- the parts

data_decides : (x y : Data) → Decides (equal x y) (x ≡ y)
data_decides x y = (equal_true x y, λ e. subst (λ (z : Data). equal x z ≡ true) e (equal_refl x))

json_decides : (v w : Json) → Decides (json_equal v w) (v ≡ w)
json_decides v w =
    let d = data_decides (data_of v) (data_of w) in
    (λ e. same_json v w (d.0 e), λ e. d.1 (ap data_of e))

items_decides : (xs ys : List Data) → Decides (items_equal xs ys) (xs ≡ ys)
items_decides = pointwise_decides data_decides

text_decides : (a b : Option (List ℕ)) → Decides (option_eq bytes_eq a b) (a ≡ b)
text_decides None None = (λ e. refl, λ e. refl)
text_decides (Some a) (Some b) = (λ e. ap Some ((bytes_decides a b).0 e), λ e. (bytes_decides a b).1 (cc e))
text_decides a b = (λ e. absurd (cc e), λ e. absurd (cc e))

pub place_decides : IsExact place_eq
place_decides = bytes_decides

pub uses_decides : IsExact uses_eq
uses_decides = bytes_decides

pub error_decides : IsExact error_eq
error_decides a b =
    let d = Decides-and (option_eq bytes_eq a.error b.error) _ (text_decides a.error b.error) (text_decides a.cause b.cause) in (
      λ e. λ i. record { error = (d.0 e).0 i; cause = (d.0 e).1 i },
      λ e. d.1 (ap (λ (x : ErrorOut). x.error) e, ap (λ (x : ErrorOut). x.cause) e),
    )

-- a name with a value
start_decides : (n m : List ℕ) (x y : Json) → Decides (bytes_eq n m && json_equal x y) ((n ≡ m) × (x ≡ y))
start_decides n m x y = Decides-and (bytes_eq n m) _ (bytes_decides n m) (json_decides x y)

-- ---- what a branch is doing

pub record_decides : IsExact record_eq
record_decides (New n x) (New m y) =
    let d = start_decides n m x y in
    (λ e. λ i. New ((d.0 e).0 i) ((d.0 e).1 i), λ e. d.1 (cc e, cc e))
record_decides (Ready n x) (Ready m y) =
    let d = start_decides n m x y in
    (λ e. λ i. Ready ((d.0 e).0 i) ((d.0 e).1 i), λ e. d.1 (cc e, cc e))
record_decides (Pausing n x since until) (Pausing m y since' until') =
    let d = Decides-and (bytes_eq n m) _ (bytes_decides n m)
    (Decides-and (json_equal x y) _ (json_decides x y)
    (Decides-and (nat_eq since since') _ (unsigned_Decides since since') (unsigned_Decides until until'))) in (
      λ e. let p = d.0 e in λ i. Pausing (p.0 i) (p.1.0 i) (p.1.1.0 i) (p.1.1.1 i),
      λ e. d.1 (cc e, (cc e, (cc e, cc e))),
    )
record_decides (Again n x since uses until) (Again m y since' uses' until') =
    let d = Decides-and (bytes_eq n m) _ (bytes_decides n m)
    (Decides-and (json_equal x y) _ (json_decides x y)
    (Decides-and (nat_eq since since') _ (unsigned_Decides since since')
    (Decides-and (bytes_eq uses uses') _ (bytes_decides uses uses') (unsigned_Decides until until')))) in (
      λ e. let p = d.0 e in λ i. Again (p.0 i) (p.1.0 i) (p.1.1.0 i) (p.1.1.1.0 i) (p.1.1.1.1 i),
      λ e. d.1 (cc e, (cc e, (cc e, (cc e, cc e)))),
    )
record_decides (Forked n x since uses items) (Forked m y since' uses' items') =
    let d = Decides-and (bytes_eq n m) _ (bytes_decides n m)
    (Decides-and (json_equal x y) _ (json_decides x y)
    (Decides-and (nat_eq since since') _ (unsigned_Decides since since')
    (Decides-and (bytes_eq uses uses') _ (bytes_decides uses uses') (items_decides items items')))) in (
      λ e. let p = d.0 e in λ i. Forked (p.0 i) (p.1.0 i) (p.1.1.0 i) (p.1.1.1.0 i) (p.1.1.1.1 i),
      λ e. d.1 (cc e, (cc e, (cc e, (cc e, cc e)))),
    )
record_decides (Done x) (Done y) = (λ e. ap Done ((json_decides x y).0 e), λ e. (json_decides x y).1 (cc e))
record_decides (Failed e) (Failed f) = (λ h. ap Failed ((error_decides e f).0 h), λ h. (error_decides e f).1 (cc h))
record_decides a b = (λ e. absurd (cc e), λ e. absurd (cc e))
