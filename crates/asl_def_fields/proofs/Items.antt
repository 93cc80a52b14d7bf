-- Items of lists.
use Rattle.std.proofs.Common.{◌≡◌, ℕ, zero, suc, ◌<◌, ◌≤◌, List, [], ◌∷◌, length, get_or, take, refl, sym, ◌∙◌, ap, subst, arith}
use Rattle.std.specs.Prelude.{map, Bool, true}
use Rattle.std.proofs.lemmas.List.{take_all}
use Rattle.asl_json_data.specs.Data.{Data, list, chain, item}
use Rattle.asl_json.specs.View.{data_of, items_of}
use Rattle.asl_json.specs.declared.value.Json.{Json}
use Rattle.asl_json.specs.declared.value.Json.TheVariants.{Null, Bool as Truth, Num, Text, List as JsonList, Dict}
use Rattle.asl_def_schema.specs.declared.sort.Sort.{Sort}
use Rattle.asl_def_schema.specs.declared.sort.Sort.TheVariants as sort
use Rattle.asl_def_schema.specs.Claims.{is_list}
use Rattle.asl_def_schema.specs.Members.{item_sort}
use Rattle.asl_def_schema.specs.Canon.{canon, canon_items}
use Rattle.asl_def_schema.specs.Clean.{IsClean, AreItemsClean}
use Rattle.asl_def_schema.proofs.Inside.{clean}
use Rattle.asl_def_schema.proofs.Parts.{items_clean, item_clean}
use Rattle.asl_def_schema.proofs.Kept.{unfit}
use Rattle.asl_def_fields.specs.declared.retry.Retrier.{Retrier}
use Rattle.asl_def_fields.specs.Shown.{retrier_objects}
use Rattle.asl_def_fields.specs.Readable.{Each, IsText, AreNames}
use Rattle.asl_def_fields.proofs.Fitting.{text_fits}

pub each_item : (P : Data → Type 0) (vs : List Json) (i : ℕ) (v : Json) → Each P (chain (items_of vs)) → i < length vs → v ≡ get_or vs i v → P (data_of v)
each_item P [] i v h lt e = absurd (omega arith)
each_item P (x ∷ vs) zero v h lt e = subst (λ (y : Json). P (data_of y)) (sym e) h.0
each_item P (x ∷ vs) (suc i) v h lt e = each_item P vs i v h.1 (omega arith) e

each_text : (names : List ℕ → Bool) (ds : List Data) → AreItemsClean names sort.Text ds → Each IsText (chain ds)
each_text names [] h = tt
each_text names (d ∷ ds) h = (text_fits sort.Text d refl (clean h.0), each_text names ds h.1)

pub names_fit : (v : Json) → IsClean sort.ErrorNames (data_of v) → AreNames (data_of v)
names_fit (JsonList ds) c = each_text c.names ds (items_clean c.names sort.ErrorNames ds refl c.is)
names_fit Null c = unfit sort.ErrorNames _ c refl
names_fit (Truth b) c = unfit sort.ErrorNames _ c refl
names_fit (Num n) c = unfit sort.ErrorNames _ c refl
names_fit (Text t) c = unfit sort.ErrorNames _ c refl
names_fit (Dict ms) c = unfit sort.ErrorNames _ c refl

-- an item of a list without faults
pub clean_item : (s : Sort) (d : Data) (ds : List Data) (vs : List Json) (i : ℕ) (v : Json) → is_list s ≡ true → IsClean s d → d ≡ list (chain ds) → items_of vs ≡ ds → i < length vs → v ≡ get_or vs i v → IsClean (item_sort s) (data_of v)
clean_item s d ds vs i v listed c is same lt e =
    let c = subst (IsClean s) is c in
    let all = items_clean c.names s ds listed c.is in
    clean (item_clean c.names (item_sort s) vs i v (subst (AreItemsClean c.names (item_sort s)) (sym same) all) lt e)

pub canon_each : (s : Sort) (ds : List Data) → chain (map (canon s) ds) ≡ canon_items s (chain ds)
canon_each s [] = refl
canon_each s (d ∷ ds) = ap (item (canon s d)) (canon_each s ds)

pub retriers_show : (d : Data) (ds : List Data) (vs : List Json) (i : ℕ) (rs : List Retrier) → d ≡ list (chain ds) → items_of vs ≡ ds → length vs ≤ i → retrier_objects rs ≡ map (canon sort.Retrier) (items_of (take i vs)) → list (chain (retrier_objects rs)) ≡ canon sort.Retriers d
retriers_show d ds vs i rs is same past so_far =
    ap (λ (xs : List Data). list (chain xs)) (so_far ∙ ap (λ (xs : List Json). map (canon sort.Retrier) (items_of xs)) (take_all i vs past) ∙ ap (map (canon sort.Retrier)) same) ∙ ap list (canon_each sort.Retrier ds) ∙ sym (ap (canon sort.Retriers) is)
