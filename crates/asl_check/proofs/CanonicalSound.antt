-- The canonical form of what is sound is sound.
use Rattle.std.proofs.Common.{◌≡◌, ℕ, List, [], ◌∷◌, ◌++◌, Bool, true, false, refl, sym, subst}
use Rattle.std.specs.Prelude.{Option, Some, None}
use Rattle.std.specs.Str.{IsUtf8}
use Rattle.std.specs.Cmp.Lexicographic.{same_text}
use Rattle.asl_json_data.specs.Data.{Data, null, boolean, number, text, list, dict, Chain, no_items, item, Pairs, no_members, member, pairs}
use Rattle.asl_json.specs.Same.{bytes_eq}
use Rattle.asl_json.specs.Meaning.{value_at}
use Rattle.asl_def_schema.specs.declared.sort.Sort.{Sort}
use Rattle.asl_def_schema.specs.declared.sort.Sort.TheVariants as sort
use Rattle.asl_def_schema.specs.Members.{Row, Shape, shape_in, sort_at, item_sort}
use Rattle.asl_def_schema.specs.Canon.{Named, opt, kept, canon, canon_items, canon_members, arranged, listed, picked}
use Rattle.asl_def_canonical_laws.proofs.Amounts.{kept_is}
use Rattle.asl_json.specs.Sound.{IsSound, AreSoundItems, AreSoundMembers}

-- a member that is found, with its key
value_sound : (k : List ℕ) (ms : Pairs) (d : Data) → AreSoundMembers ms → value_at k ms ≡ Some d → IsUtf8 k × IsSound d
value_sound k no_members d h e = absurd cc
value_sound k (member l v ms) d h e = by (bytes_eq k l) refl (λ f. value_sound k ms d h.1.1 f)
  where
    by : (b : Bool) → bytes_eq k l ≡ b → (value_at k ms ≡ Some d → IsUtf8 k × IsSound d) → IsUtf8 k × IsSound d
    by true p rest = let same : v ≡ d = let x = rw p at e in cc in (subst IsUtf8 (sym (same_text k l (sym p))) h.0, subst IsSound same h.1.0)
    by false p rest = rest (rw p at e)

opt_sound : (k : List ℕ) (o : Option Data) (xs : List Named) → ((d : Data) → o ≡ Some d → IsUtf8 k × IsSound d) → AreSoundMembers (pairs xs) → AreSoundMembers (pairs (opt k o ++ xs))
opt_sound k None xs h e = e
opt_sound k (Some d) xs h e = let x = h d refl in (x.0, (x.1, e))

picked_sound : (rs : List Row) (cs : Pairs) → AreSoundMembers cs → AreSoundMembers (pairs (picked rs cs))
picked_sound [] cs h = tt
picked_sound (r ∷ rs) cs h = opt_sound r.name (kept r.name (value_at r.name cs)) (picked rs cs) (λ d e. value_sound r.name cs d h (kept_is r.name (value_at r.name cs) d e)) (picked_sound rs cs h)

arranged_sound : (s : Sort) (rs : List Row) (ms cs : Pairs) → AreSoundMembers ms → AreSoundMembers cs → IsSound (arranged s rs ms cs)
arranged_sound sort.Definition rs ms cs d h = picked_sound rs cs h
arranged_sound sort.Machine rs ms cs d h = picked_sound rs cs h
arranged_sound sort.ItemProcessor rs ms cs d h = picked_sound rs cs h
arranged_sound sort.State rs ms cs d h = picked_sound rs cs h
arranged_sound sort.Rule rs ms cs d h = picked_sound rs cs h
arranged_sound sort.InnerRule rs ms cs d h = picked_sound rs cs h
arranged_sound sort.Retrier rs ms cs d h = picked_sound rs cs h
arranged_sound sort.Catcher rs ms cs d h = picked_sound rs cs h
arranged_sound sort.States rs ms cs d h = h
arranged_sound s rs ms cs d h = d

listed_sound : (s : Sort) (ds cs : Chain) → AreSoundItems ds → AreSoundItems cs → IsSound (listed s ds cs)
listed_sound sort.Machines ds cs d h = h
listed_sound sort.Rules ds cs d h = h
listed_sound sort.InnerRules ds cs d h = h
listed_sound sort.Retriers ds cs d h = h
listed_sound sort.Catchers ds cs d h = h
listed_sound s ds cs d h = d

mutual
  pub sound_canon : (s : Sort) (d : Data) → IsSound d → IsSound (canon s d)
  sound_canon s null h = tt
  sound_canon s (boolean b) h = tt
  sound_canon s (number n) h = h
  sound_canon s (text t) h = h
  sound_canon s (list ds) h = listed_sound s ds (canon_items (item_sort s) ds) h (items_sound (item_sort s) ds h)
  sound_canon s (dict ms) h = arranged_sound s (shape_in s ms).rows ms (canon_members (shape_in s ms) ms) h (members_sound (shape_in s ms) ms h)

  items_sound : (s : Sort) (ds : Chain) → AreSoundItems ds → AreSoundItems (canon_items s ds)
  items_sound s no_items h = tt
  items_sound s (item d ds) h = (sound_canon s d h.0, items_sound s ds h.1)

  members_sound : (sh : Shape) (ms : Pairs) → AreSoundMembers ms → AreSoundMembers (canon_members sh ms)
  members_sound sh no_members h = tt
  members_sound sh (member k d ms) h = (h.0, (sound_canon (sort_at sh k) d h.1.0, members_sound sh ms h.1.1))
