-- The states of a definition none of whose texts reads what stands at a chain of keys.
use Rattle.std.proofs.Common.{◌≡◌, ℕ, List, [], ◌∷◌, ◌++◌, Bool, true, false, refl, subst, cond, Some}
use Rattle.std.proofs.lemmas.Bool.{or_parts}
use Rattle.asl_json_data.specs.Data.{Data, null, boolean, number, text, list, dict, Chain, no_items, item, Pairs, no_members, member, pairs}
use Rattle.asl_json.specs.Same.{bytes_eq}
use Rattle.asl_json.specs.Meaning.{value_at}
use Rattle.asl_json.specs.View.{unpaired}
use Rattle.asl_def_schema.specs.declared.sort.Sort.{Sort}
use Rattle.asl_def_schema.specs.declared.sort.Sort.TheVariants as sort
use Rattle.asl_def_schema.specs.Members.{Shape, shape_in, sort_at, item_sort}
use Rattle.asl_def_schema.specs.Canon.{Named}
use Rattle.asl_def.specs.Machines.{holds_states, own_states, all_states, states_of_items, states_of_members, states_of}
use Rattle.asl_step_reads.specs.Reading.{Keys, text_reads, reads, some_text_in, some_text_among}
use Rattle.asl_step_reads.specs.Laws.{StatesReadNoMore}

module _ (ks : Keys) where
  abbrev AreUnread : List Named → Type 0
  AreUnread [] = Unit {0}
  AreUnread (x ∷ xs) = (reads ks x.1 ≡ false) × AreUnread xs

  append_unread : (xs ys : List Named) → AreUnread xs → AreUnread ys → AreUnread (xs ++ ys)
  append_unread [] ys h g = g
  append_unread (x ∷ xs) ys h g = (h.0, append_unread xs ys h.1 g)

  chosen_unread : (c : Bool) (xs : List Named) → AreUnread xs → AreUnread (cond c xs [])
  chosen_unread true xs h = h
  chosen_unread false xs h = tt

  members_unread : (ms : Pairs) → some_text_among (text_reads ks) ms ≡ false → AreUnread (unpaired ms)
  members_unread no_members h = tt
  members_unread (member k d ms) h =
      let (own, others) = or_parts (reads ks d) (some_text_among (text_reads ks) ms) h in
      (own, members_unread ms others)

  own_unread : (s : Sort) (ms : Pairs) → some_text_among (text_reads ks) ms ≡ false → AreUnread (own_states s ms)
  own_unread sort.States ms h = members_unread ms h
  own_unread s ms h = tt

  mutual
    states_unread : (s : Sort) (d : Data) → reads ks d ≡ false → AreUnread (all_states s d)
    states_unread s null h = tt
    states_unread s (boolean b) h = tt
    states_unread s (number n) h = tt
    states_unread s (text t) h = tt
    states_unread s (list ds) h = chosen_unread (holds_states s) (states_of_items (item_sort s) ds) (in_items (item_sort s) ds h)
    states_unread s (dict ms) h =
        chosen_unread (holds_states s) (states_of_members (shape_in s ms) ms ++ own_states s ms)
        (append_unread (states_of_members (shape_in s ms) ms) (own_states s ms) (in_members (shape_in s ms) ms h) (own_unread s ms h))

    in_items : (s : Sort) (ds : Chain) → some_text_in (text_reads ks) ds ≡ false → AreUnread (states_of_items s ds)
    in_items s no_items h = tt
    in_items s (item d ds) h =
        let (own, others) = or_parts (reads ks d) (some_text_in (text_reads ks) ds) h in
        append_unread (all_states s d) (states_of_items s ds) (states_unread s d own) (in_items s ds others)

    in_members : (sh : Shape) (ms : Pairs) → some_text_among (text_reads ks) ms ≡ false → AreUnread (states_of_members sh ms)
    in_members sh no_members h = tt
    in_members sh (member k d ms) h =
        let (own, others) = or_parts (reads ks d) (some_text_among (text_reads ks) ms) h in
        append_unread (all_states (sort_at sh k) d) (states_of_members sh ms) (states_unread (sort_at sh k) d own) (in_members sh ms others)

  found_unread : (k : List ℕ) (xs : List Named) (o : Data) → AreUnread xs → value_at k (pairs xs) ≡ Some o → reads ks o ≡ false
  found_unread k [] o h e = absurd cc
  found_unread k (x ∷ xs) o h e = by (bytes_eq k x.0) refl (λ f. found_unread k xs o h.1 f)
    where
      by : (b : Bool) → bytes_eq k x.0 ≡ b → (value_at k (pairs xs) ≡ Some o → reads ks o ≡ false) → reads ks o ≡ false
      by true p rest = let same : x.1 ≡ o = let y = rw p at e in cc in subst (λ (d : Data). reads ks d ≡ false) same h.0
      by false p rest = rest (rw p at e)

pub states_read_no_more : StatesReadNoMore
states_read_no_more ks d k o unread found = found_unread ks k (states_of d) o (states_unread ks sort.Definition d unread) found
