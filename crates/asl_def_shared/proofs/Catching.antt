-- A catcher without faults, member by member.
use Rattle.std.proofs.Common.{◌≡◌, ℕ, ◌≤◌, List, [], ◌++◌, length, take, refl, sym, ◌∙◌, ap}
use Rattle.std.specs.Prelude.{Some, None, codes, map, option_map}
use Rattle.std.proofs.lemmas.List.{take_all}
use Rattle.asl_json_data.specs.Data.{Data, Pairs, Chain, null, boolean, number, text, list, dict, chain, pairs}
use Rattle.asl_json.specs.Meaning.{value_at, value_in}
use Rattle.asl_json.specs.View.{items_of}
use Rattle.asl_json.specs.declared.value.Json.{Json}
use Rattle.asl_def_schema.specs.declared.sort.Sort.{Sort}
use Rattle.asl_def_schema.specs.declared.sort.Sort.TheVariants as sort
use Rattle.asl_def_schema.specs.Members.{shape_of, shape_in, catcher_rows, sort_at, kind_named, item_sort}
use Rattle.asl_def_schema.specs.Canon.{Named, opt, canon, canon_items, listed, picked_at}
use Rattle.asl_def_schema.specs.Clean.{IsClean, Fits, IsThere}
use Rattle.asl_def_schema.proofs.Canons.{picked-canon, plain_kept}
use Rattle.asl_def_schema.proofs.Inside.{fits_at, object_inside}
use Rattle.asl_def_schema.proofs.Required.{catcher_errors, catcher_next}
use Rattle.asl_def_schema.proofs.Kept.{unfit}
use Rattle.asl_def_fields.specs.Shown.{path_shown, names_shown}
use Rattle.asl_def_fields.proofs.Items.{canon_each}
use Rattle.asl_def_shared.specs.declared.catcher.Catcher.{Catcher}
use Rattle.asl_def_shared.specs.Parts.{catcher_object}
use Rattle.asl_def_shared.proofs.Fits.{is_there}

fits_in : (d : Data) (k : List ℕ) → IsClean sort.Catcher d → Fits (sort_at (shape_of sort.Catcher None) k) (value_in k d)
fits_in null k c = tt
fits_in (boolean b) k c = tt
fits_in (number n) k c = tt
fits_in (text t) k c = tt
fits_in (list ds) k c = tt
fits_in (dict ms) k c = fits_at c.names (shape_in sort.Catcher ms) ms k (object_inside c.names sort.Catcher ms refl c.is)

pub comment_fits : (d : Data) → IsClean sort.Catcher d → Fits sort.Text (value_in (codes "Comment") d)
unfolding catcher_rows
comment_fits d c = fits_in d (codes "Comment") c

pub place_fits : (d : Data) → IsClean sort.Catcher d → Fits sort.PlaceOrNull (value_in (codes "ResultPath") d)
unfolding catcher_rows
place_fits d c = fits_in d (codes "ResultPath") c

pub errors_there : (d : Data) → IsClean sort.Catcher d → IsThere sort.ErrorNames (value_in (codes "ErrorEquals") d)
errors_there null c = unfit sort.Catcher null c refl
errors_there (boolean b) c = unfit sort.Catcher (boolean b) c refl
errors_there (number n) c = unfit sort.Catcher (number n) c refl
errors_there (text t) c = unfit sort.Catcher (text t) c refl
errors_there (list ds) c = unfit sort.Catcher (list ds) c refl
errors_there (dict ms) c = is_there c.names sort.ErrorNames (value_at (codes "ErrorEquals") ms) (catcher_errors c.names (kind_named (value_at (codes "Type") ms)) ms (object_inside c.names sort.Catcher ms refl c.is))

pub next_there : (d : Data) → IsClean sort.Catcher d → IsThere sort.Target (value_in (codes "Next") d)
next_there null c = unfit sort.Catcher null c refl
next_there (boolean b) c = unfit sort.Catcher (boolean b) c refl
next_there (number n) c = unfit sort.Catcher (number n) c refl
next_there (text t) c = unfit sort.Catcher (text t) c refl
next_there (list ds) c = unfit sort.Catcher (list ds) c refl
next_there (dict ms) c = is_there c.names sort.Target (value_at (codes "Next") ms) (catcher_next c.names (kind_named (value_at (codes "Type") ms)) ms (object_inside c.names sort.Catcher ms refl c.is))

canon_members_are : (ms : Pairs) → canon sort.Catcher (dict ms) ≡ dict (pairs (picked_at (shape_in sort.Catcher ms) catcher_rows ms))
canon_members_are ms = ap (λ (xs : List Named). dict (pairs xs)) (picked-canon (shape_in sort.Catcher ms) catcher_rows ms)

object_shows : (ms : Pairs) (x : Catcher) → option_map text x.comment ≡ value_at (codes "Comment") ms → Some (names_shown x.errors) ≡ value_at (codes "ErrorEquals") ms → path_shown x.result_path ≡ value_at (codes "ResultPath") ms → Some (text x.next.name) ≡ value_at (codes "Next") ms → catcher_object x ≡ dict (pairs (picked_at (shape_of sort.Catcher None) catcher_rows ms))
unfolding catcher_rows
object_shows ms x e1 e2 e3 e4 =
    let p1 = e1 ∙ sym (plain_kept (codes "Comment") sort.Text ms refl refl) in
    let p2 = e2 ∙ sym (plain_kept (codes "ErrorEquals") sort.ErrorNames ms refl refl) in
    let p3 = e3 ∙ sym (plain_kept (codes "ResultPath") sort.PlaceOrNull ms refl refl) in
    let p4 = e4 ∙ sym (plain_kept (codes "Next") sort.Target ms refl refl) in
    λ i. dict (pairs (opt (codes "Comment") (p1 i) ++ (opt (codes "ErrorEquals") (p2 i) ++ (opt (codes "ResultPath") (p3 i) ++ (opt (codes "Next") (p4 i) ++ [])))))

pub catcher_shows : (d : Data) (x : Catcher) → IsClean sort.Catcher d → option_map text x.comment ≡ value_in (codes "Comment") d → Some (names_shown x.errors) ≡ value_in (codes "ErrorEquals") d → path_shown x.result_path ≡ value_in (codes "ResultPath") d → Some (text x.next.name) ≡ value_in (codes "Next") d → catcher_object x ≡ canon sort.Catcher d
catcher_shows (dict ms) x c e1 e2 e3 e4 = object_shows ms x e1 e2 e3 e4 ∙ sym (canon_members_are ms)
catcher_shows null x c e1 e2 e3 e4 = absurd (unfit sort.Catcher null c refl)
catcher_shows (boolean b) x c e1 e2 e3 e4 = absurd (unfit sort.Catcher (boolean b) c refl)
catcher_shows (number n) x c e1 e2 e3 e4 = absurd (unfit sort.Catcher (number n) c refl)
catcher_shows (text t) x c e1 e2 e3 e4 = absurd (unfit sort.Catcher (text t) c refl)
catcher_shows (list ds) x c e1 e2 e3 e4 = absurd (unfit sort.Catcher (list ds) c refl)

-- a list whose items are canonical
pub list_shows : (s : Sort) (d : Data) (ds : List Data) (vs : List Json) (i : ℕ) (xs : List Data) → ((a b : Chain) → listed s a b ≡ list b) → d ≡ list (chain ds) → items_of vs ≡ ds → length vs ≤ i → xs ≡ map (canon (item_sort s)) (items_of (take i vs)) → list (chain xs) ≡ canon s d
list_shows s d ds vs i xs put is same past so_far =
    ap (λ (ys : List Data). list (chain ys)) (so_far ∙ ap (λ (ys : List Json). map (canon (item_sort s)) (items_of ys)) (take_all i vs past) ∙ ap (map (canon (item_sort s))) same)
    ∙ ap list (canon_each (item_sort s) ds)
    ∙ sym (put (chain ds) (canon_items (item_sort s) (chain ds)))
    ∙ sym (ap (canon s) is)
