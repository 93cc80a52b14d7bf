-- Branches that are doing the same: `==` is true only of one record.
use Rattle.std.proofs.Common.{ℕ, ◌≡◌, ◌&&◌, Bool, true, false, not, List, [], ◌∷◌, refl, sym, ap, Option, Some, None, arith}
use Rattle.std.specs.Prelude.{nat_eq}
use Rattle.std.specs.Option.{option_eq}
use Rattle.std.specs.Cmp.Lexicographic.{same_text}
use Rattle.std.proofs.lemmas.Bool.Decides.{nat_tests}
use Rattle.asl_json_data.specs.Data.{Data}
use Rattle.asl_json.specs.Same.{bytes_eq, equal, json_equal, items_equal}
use Rattle.asl_json.specs.View.{data_of, same_json}
use Rattle.asl_json.specs.private.SameLaws.{equal_true}
use Rattle.asl_json.specs.declared.value.Json.{Json}
use Rattle.asl_step.specs.declared.record.ErrorOut.{ErrorOut}
use Rattle.asl_step.specs.declared.record.Record.{Record}
use Rattle.asl_step.specs.declared.record.Record.TheVariants.{New, Ready, Pausing, Again, Forked, Done, Failed}
use Rattle.asl_step.specs.contracts.record.ErrorOutPartialEq.TheImpl as error_impl
use Rattle.asl_step.specs.contracts.record.RecordPartialEq.TheImpl as record_impl

abbrev pub error_eq : ErrorOut → ErrorOut → Bool
error_eq = (error_impl.ghosts).eq

abbrev pub record_eq : Record → Record → Bool
record_eq = (record_impl.ghosts).eq

split : (a b : Bool) → (a && b) ≡ true → (a ≡ true) × (b ≡ true)
split true b e = (refl, e)
split false b e = absurd cc

pub unless : (b : Bool) → false ≡ not b → b ≡ true
unless true e = refl
unless false e = absurd cc

bytes : (a b : List ℕ) → bytes_eq a b ≡ true → a ≡ b
bytes a b e = same_text a b (sym e)

pub json : (x y : Json) → json_equal x y ≡ true → x ≡ y
json x y e = same_json x y (equal_true (data_of x) (data_of y) e)

number : (a b : ℕ) → nat_eq a b ≡ true → a ≡ b
number a b e = grind (arith, nat_tests, e)

items : (a b : List Data) → items_equal a b ≡ true → a ≡ b
items [] [] e = refl
items [] (y ∷ ys) e = absurd cc
items (x ∷ xs) [] e = absurd cc
items (x ∷ xs) (y ∷ ys) e =
    let p = split (equal x y) (items_equal xs ys) e in
    let h = equal_true x y p.0 in
    let t = items xs ys p.1 in
    λ i. h i ∷ t i

text : (a b : Option (List ℕ)) → option_eq bytes_eq a b ≡ true → a ≡ b
text None None e = refl
text None (Some b) e = absurd cc
text (Some a) None e = absurd cc
text (Some a) (Some b) e = ap Some (bytes a b e)

pub error : (a b : ErrorOut) → error_eq a b ≡ true → a ≡ b
error a b e =
    let p = split _ _ e in
    let x = text a.error b.error p.0 in
    let y = text a.cause b.cause p.1 in
    λ i. record { error = x i; cause = y i }

pub record-one : (a b : Record) → record_eq a b ≡ true → a ≡ b
record-one (New m x) (New n y) e =
    let p = split _ _ e in
    let a = bytes m n p.0 in
    let b = json x y p.1 in
    λ i. New (a i) (b i)
record-one (Ready m x) (Ready n y) e =
    let p = split _ _ e in
    let a = bytes m n p.0 in
    let b = json x y p.1 in
    λ i. Ready (a i) (b i)
record-one (Pausing m x s u) (Pausing n y t v) e =
    let p = split _ _ e in
    let q = split _ _ p.1 in
    let r = split _ _ q.1 in
    let a = bytes m n p.0 in
    let b = json x y q.0 in
    let c = number s t r.0 in
    let d = number u v r.1 in
    λ i. Pausing (a i) (b i) (c i) (d i)
record-one (Again m x s us u) (Again n y t bs v) e =
    let p = split _ _ e in
    let q = split _ _ p.1 in
    let r = split _ _ q.1 in
    let o = split _ _ r.1 in
    let a = bytes m n p.0 in
    let b = json x y q.0 in
    let c = number s t r.0 in
    let d = bytes us bs o.0 in
    let f = number u v o.1 in
    λ i. Again (a i) (b i) (c i) (d i) (f i)
record-one (Forked m x s us j) (Forked n y t bs k) e =
    let p = split _ _ e in
    let q = split _ _ p.1 in
    let r = split _ _ q.1 in
    let o = split _ _ r.1 in
    let a = bytes m n p.0 in
    let b = json x y q.0 in
    let c = number s t r.0 in
    let d = bytes us bs o.0 in
    let f = items j k o.1 in
    λ i. Forked (a i) (b i) (c i) (d i) (f i)
record-one (Done x) (Done y) e = ap Done (json x y e)
record-one (Failed a) (Failed b) e = ap Failed (error a b e)
record-one a b e = absurd cc
