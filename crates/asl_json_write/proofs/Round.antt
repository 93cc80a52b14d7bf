-- The compact text of a value reads as that value, and no text of the value is shorter.
use Rattle.std.proofs.Common.{ℕ, ◌≤◌, true, false, List, [], ◌∷◌, ◌++◌, length, refl, sym, ap, arith}
use Rattle.std.proofs.lemmas.List.{append-nil, length-append}
use Rattle.asl_json_data.specs.Data.{Data, null, boolean, number, text, list, dict, Chain, no_items, item, Pairs, no_members, member}
use Rattle.asl_json_data.specs.Grammar.{colon, close_bracket, close_brace, SpellsKey, Padded, IsMember, Spells, IsText}
use Rattle.asl_json_data.specs.private.Lists.{SpellsItems, SpellsMoreItems, SpellsMembers, SpellsMore}
use Rattle.asl_json_write.proofs.Quoting.{quoted_spells, text_length}
use Rattle.asl_json_data.specs.Compact.{quoted, compact, compact_items, compact_more_items, compact_members, compact_more, IsSpellable, AreSpellableItems, AreSpellable}

unpadded : (S : List ℕ → Type 0) (t : List ℕ) → S t → Padded S t
unpadded S t h = record { before = []; inner = t; behind = []; parts = sym (append-nil t); before_is = tt; inner_is = h; behind_is = tt }

bare_member : (k : List ℕ) (V : List ℕ → Type 0) (t : List ℕ) → V t → IsMember k V (quoted k ++ colon ∷ t)
bare_member k V t h = record {
  key = quoted k;
  value = t;
  parts = refl;
  key_is = record { before = []; quoted = quoted k; behind = []; parts = sym (append-nil (quoted k)); before_is = tt; quoted_is = quoted_spells k; behind_is = tt };
  value_is = unpadded V t h;
}

mutual
  pub compact_spells : (v : Data) → IsSpellable v → Spells v (compact v)
  compact_spells null h = refl
  compact_spells (boolean true) h = refl
  compact_spells (boolean false) h = refl
  compact_spells (number s) h = (refl, h)
  compact_spells (text s) h = quoted_spells s
  compact_spells (list ds) h = record { tail = compact_items ds; parts = refl; tail_is = items_spell ds h }
  compact_spells (dict ms) h = record { tail = compact_members ms; parts = refl; tail_is = members_spell ms h }

  items_spell : (ds : Chain) → AreSpellableItems ds → SpellsItems ds (compact_items ds)
  items_spell no_items h = record { front = []; back = close_bracket ∷ []; parts = refl; front_is = tt; back_is = refl }
  items_spell (item d ds) h = record { front = compact d; back = compact_more_items ds; parts = refl; front_is = unpadded (Spells d) (compact d) (compact_spells d h.0); back_is = more_items_spell ds h.1 }

  more_items_spell : (ds : Chain) → AreSpellableItems ds → SpellsMoreItems ds (compact_more_items ds)
  more_items_spell no_items h = refl
  more_items_spell (item d ds) h =
      record { tail = compact d ++ compact_more_items ds; parts = refl; tail_is = record { front = compact d; back = compact_more_items ds; parts = refl; front_is = unpadded (Spells d) (compact d) (compact_spells d h.0); back_is = more_items_spell ds h.1 } }

  members_spell : (ms : Pairs) → AreSpellable ms → SpellsMembers ms (compact_members ms)
  members_spell no_members h = record { front = []; back = close_brace ∷ []; parts = refl; front_is = tt; back_is = refl }
  members_spell (member k d ms) h = record { front = quoted k ++ colon ∷ compact d; back = compact_more ms; parts = refl; front_is = bare_member k (Spells d) (compact d) (compact_spells d h.0); back_is = more_spell ms h.1 }

  more_spell : (ms : Pairs) → AreSpellable ms → SpellsMore ms (compact_more ms)
  more_spell no_members h = refl
  more_spell (member k d ms) h =
      record { tail = (quoted k ++ colon ∷ compact d) ++ compact_more ms; parts = refl; tail_is = record { front = quoted k ++ colon ∷ compact d; back = compact_more ms; parts = refl; front_is = bare_member k (Spells d) (compact d) (compact_spells d h.0); back_is = more_spell ms h.1 } }

pub compact_is_text : (v : Data) → IsSpellable v → IsText (compact v) v
compact_is_text v h = unpadded (Spells v) (compact v) (compact_spells v h)

-- ---- no text of a value is shorter

key_length : (k t : List ℕ) → SpellsKey k t → length (quoted k) ≤ length t
key_length k t h = omega (arith, ap length h.parts, length-append h.before (h.quoted ++ h.behind), length-append h.quoted h.behind, text_length k h.quoted h.quoted_is)

padded_length : (S : List ℕ → Type 0) (n : ℕ) (t : List ℕ) → ((u : List ℕ) → S u → n ≤ length u) → Padded S t → n ≤ length t
padded_length S n t inner h = omega (arith, inner h.inner h.inner_is, ap length h.parts, length-append h.before (h.inner ++ h.behind), length-append h.inner h.behind)

member_length : (k : List ℕ) (d : Data) (t : List ℕ) → ((u : List ℕ) → Spells d u → length (compact d) ≤ length u) → IsMember k (Spells d) t → length (quoted k ++ colon ∷ compact d) ≤ length t
member_length k d t inner h = omega (arith, key_length k h.key h.key_is, padded_length (Spells d) (length (compact d)) h.value inner h.value_is, ap length h.parts, length-append h.key (colon ∷ h.value), length-append (quoted k) (colon ∷ compact d))

mutual
  pub compact_length : (v : Data) (t : List ℕ) → Spells v t → length (compact v) ≤ length t
  compact_length null t h = omega (arith, ap length h)
  compact_length (boolean true) t h = omega (arith, ap length h)
  compact_length (boolean false) t h = omega (arith, ap length h)
  compact_length (number s) t h = omega (arith, ap length h.0)
  compact_length (text s) t h = text_length s t h
  compact_length (list ds) t h = omega (arith, items_length ds h.tail h.tail_is, ap length h.parts)
  compact_length (dict ms) t h = omega (arith, members_length ms h.tail h.tail_is, ap length h.parts)

  items_length : (ds : Chain) (t : List ℕ) → SpellsItems ds t → length (compact_items ds) ≤ length t
  items_length no_items t h = omega (arith, ap length h.parts, length-append h.front h.back, ap length h.back_is)
  items_length (item d ds) t h =
      omega (arith, padded_length (Spells d) (length (compact d)) h.front (λ u s. compact_length d u s) h.front_is, more_items_length ds h.back h.back_is, ap length h.parts, length-append h.front h.back, length-append (compact d) (compact_more_items ds))

  more_items_length : (ds : Chain) (t : List ℕ) → SpellsMoreItems ds t → length (compact_more_items ds) ≤ length t
  more_items_length no_items t h = omega (arith, ap length h)
  more_items_length (item d ds) t h =
      let j = h.tail_is in
      omega (arith, padded_length (Spells d) (length (compact d)) j.front (λ u s. compact_length d u s) j.front_is, more_items_length ds j.back j.back_is, ap length h.parts, ap length j.parts, length-append j.front j.back, length-append (compact d) (compact_more_items ds))

  members_length : (ms : Pairs) (t : List ℕ) → SpellsMembers ms t → length (compact_members ms) ≤ length t
  members_length no_members t h = omega (arith, ap length h.parts, length-append h.front h.back, ap length h.back_is)
  members_length (member k d ms) t h =
      omega (arith, member_length k d h.front (λ u s. compact_length d u s) h.front_is, more_length ms h.back h.back_is, ap length h.parts, length-append h.front h.back, length-append (quoted k ++ colon ∷ compact d) (compact_more ms))

  more_length : (ms : Pairs) (t : List ℕ) → SpellsMore ms t → length (compact_more ms) ≤ length t
  more_length no_members t h = omega (arith, ap length h)
  more_length (member k d ms) t h =
      let j = h.tail_is in
      omega (arith, member_length k d j.front (λ u s. compact_length d u s) j.front_is, more_length ms j.back j.back_is, ap length h.parts, ap length j.parts, length-append j.front j.back, length-append (quoted k ++ colon ∷ compact d) (compact_more ms))

pub no_text_is_shorter : (v : Data) (b : List ℕ) → IsText b v → length (compact v) ≤ length b
no_text_is_shorter v b h = padded_length (Spells v) (length (compact v)) b (λ u s. compact_length v u s) h
