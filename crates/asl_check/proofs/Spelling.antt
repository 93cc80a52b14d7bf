-- What is spelled in UTF-8 and in the limits is sound.
use Rattle.std.proofs.Common.{◌≡◌, ℕ, suc, true, List, [], ◌∷◌, ◌++◌, sym, subst, ap, ◌∙◌, refl}
use Rattle.std.proofs.lemmas.List.{append-nil, append_assoc}
use Rattle.std.specs.Str.{IsUtf8}
use Rattle.asl_json_data.specs.Data.{Data, null, boolean, number, text, list, dict, Chain, no_items, item, Pairs, no_members, member}
use Rattle.asl_json_data.specs.Distinct.{Members}
use Rattle.asl_json_data.specs.Limits.{Allowed, AllowedItems, AllowedMembers}
use Rattle.asl_json_data.specs.Grammar.{colon, open_bracket, open_brace, SpellsKey, Padded, IsMember, Spells, IsText}
use Rattle.asl_json_data.specs.Parts.{comma}
use Rattle.asl_json_data.specs.private.Lists.{SpellsItems, SpellsMoreItems, SpellsMembers, SpellsMore}
use Rattle.asl_json.specs.Sound.{IsSound, AreSoundItems, AreSoundMembers}
use Rattle.asl_check.proofs.Meaning.{text_utf8}

-- the bytes of a part stand within bytes in UTF-8
abbrev IsPart : List ℕ → List ℕ → List ℕ → Type 0
IsPart before t behind = IsUtf8 (before ++ (t ++ behind))

part_of : (before a i c behind t : List ℕ) → t ≡ a ++ (i ++ c) → IsPart before t behind → IsPart (before ++ a) i (c ++ behind)
part_of before a i c behind t e u =
    subst IsUtf8 (ap (λ (x : List ℕ). before ++ x) (append_assoc a (i ++ c) behind ∙ ap (λ (x : List ℕ). a ++ x) (append_assoc i c behind)) ∙ sym (append_assoc before a (i ++ (c ++ behind))))
    (subst (λ (x : List ℕ). IsUtf8 (before ++ (x ++ behind))) e u)

first_part : (before a c behind t : List ℕ) → t ≡ a ++ c → IsPart before t behind → IsPart before a (c ++ behind)
first_part before a c behind t e u = subst IsUtf8 (ap (λ (x : List ℕ). before ++ x) (append_assoc a c behind)) (subst (λ (x : List ℕ). IsUtf8 (before ++ (x ++ behind))) e u)

last_part : (before a c behind t : List ℕ) → t ≡ a ++ c → IsPart before t behind → IsPart (before ++ a) c behind
last_part before a c behind t e u =
    subst IsUtf8 (ap (λ (x : List ℕ). before ++ x) (append_assoc a c behind) ∙ sym (append_assoc before a (c ++ behind)))
    (subst (λ (x : List ℕ). IsUtf8 (before ++ (x ++ behind))) e u)

key_utf8 : (k before t behind : List ℕ) → IsPart before t behind → SpellsKey k t → IsUtf8 k
key_utf8 k before t behind u h = text_utf8 (before ++ h.before) k h.quoted (h.behind ++ behind) (part_of before h.before h.quoted h.behind behind t h.parts u) h.quoted_is

-- wherever it is spelled
abbrev IsSoundWhere : Data → Type 0
IsSoundWhere d = (before t behind : List ℕ) → IsPart before t behind → Spells d t → IsSound d

padded_sound : (d : Data) (before t behind : List ℕ) → IsSoundWhere d → IsPart before t behind → Padded (Spells d) t → IsSound d
padded_sound d before t behind sound u h = sound (before ++ h.before) h.inner (h.behind ++ behind) (part_of before h.before h.inner h.behind behind t h.parts u) h.inner_is

member_sound : (k : List ℕ) (d : Data) (before t behind : List ℕ) → IsSoundWhere d → IsPart before t behind → IsMember k (Spells d) t → IsUtf8 k × IsSound d
member_sound k d before t behind sound u h = (
  key_utf8 k before h.key ((colon ∷ h.value) ++ behind) (first_part before h.key (colon ∷ h.value) behind t h.parts u) h.key_is,
  padded_sound d ((before ++ h.key) ++ colon ∷ []) h.value behind sound
      (last_part (before ++ h.key) (colon ∷ []) h.value behind (colon ∷ h.value) refl (last_part before h.key (colon ∷ h.value) behind t h.parts u)) h.value_is,
)

mutual
  spelled_sound : (n : ℕ) (d : Data) (before t behind : List ℕ) → IsPart before t behind → Spells d t → Allowed true n d → IsSound d
  spelled_sound n null before t behind u h a = tt
  spelled_sound n (boolean b) before t behind u h a = tt
  spelled_sound n (number s) before t behind u h a = (h.1, a)
  spelled_sound n (text s) before t behind u h a = text_utf8 before s t behind u h
  spelled_sound n (list ds) before t behind u h a = items_sound (suc n) ds (before ++ open_bracket ∷ []) h.tail behind (last_part before (open_bracket ∷ []) h.tail behind t h.parts u) h.tail_is a.1
  spelled_sound n (dict ms) before t behind u h a = members_sound (suc n) [] ms (before ++ open_brace ∷ []) h.tail behind (last_part before (open_brace ∷ []) h.tail behind t h.parts u) h.tail_is a.1

  items_sound : (n : ℕ) (ds : Chain) (before t behind : List ℕ) → IsPart before t behind → SpellsItems ds t → AllowedItems true n ds → AreSoundItems ds
  items_sound n no_items before t behind u h a = tt
  items_sound n (item d ds) before t behind u h a = (
    padded_sound d before h.front (h.back ++ behind) (λ x y z v s. spelled_sound n d x y z v s a.0) (first_part before h.front h.back behind t h.parts u) h.front_is,
    more_items_sound n ds (before ++ h.front) h.back behind (last_part before h.front h.back behind t h.parts u) h.back_is a.1,
  )

  more_items_sound : (n : ℕ) (ds : Chain) (before t behind : List ℕ) → IsPart before t behind → SpellsMoreItems ds t → AllowedItems true n ds → AreSoundItems ds
  more_items_sound n no_items before t behind u h a = tt
  more_items_sound n (item d ds) before t behind u h a =
      let j = h.tail_is in
      let onward = before ++ comma ∷ [] in
      let v = last_part before (comma ∷ []) h.tail behind t h.parts u in (
        padded_sound d onward j.front (j.back ++ behind) (λ x y z v s. spelled_sound n d x y z v s a.0) (first_part onward j.front j.back behind h.tail j.parts v) j.front_is,
        more_items_sound n ds (onward ++ j.front) j.back behind (last_part onward j.front j.back behind h.tail j.parts v) j.back_is a.1,
      )

  members_sound : (n : ℕ) (seen : Members) (ms : Pairs) (before t behind : List ℕ) → IsPart before t behind → SpellsMembers ms t → AllowedMembers true n seen ms → AreSoundMembers ms
  members_sound n seen no_members before t behind u h a = tt
  members_sound n seen (member k d ms) before t behind u h a =
      let m = member_sound k d before h.front (h.back ++ behind) (λ x y z v s. spelled_sound n d x y z v s a.1.0) (first_part before h.front h.back behind t h.parts u) h.front_is in
      (m.0, (m.1, more_sound n (seen ++ (k, d) ∷ []) ms (before ++ h.front) h.back behind (last_part before h.front h.back behind t h.parts u) h.back_is a.1.1))

  more_sound : (n : ℕ) (seen : Members) (ms : Pairs) (before t behind : List ℕ) → IsPart before t behind → SpellsMore ms t → AllowedMembers true n seen ms → AreSoundMembers ms
  more_sound n seen no_members before t behind u h a = tt
  more_sound n seen (member k d ms) before t behind u h a =
      let j = h.tail_is in
      let onward = before ++ comma ∷ [] in
      let v = last_part before (comma ∷ []) h.tail behind t h.parts u in
      let m = member_sound k d onward j.front (j.back ++ behind) (λ x y z v s. spelled_sound n d x y z v s a.1.0) (first_part onward j.front j.back behind h.tail j.parts v) j.front_is in
      (m.0, (m.1, more_sound n (seen ++ (k, d) ∷ []) ms (onward ++ j.front) j.back behind (last_part onward j.front j.back behind h.tail j.parts v) j.back_is a.1.1))

pub text_sound : (b : List ℕ) (d : Data) → IsUtf8 b → IsText b d → Allowed true 0 d → IsSound d
text_sound b d u h a = padded_sound d [] b [] (λ x y z v s. spelled_sound 0 d x y z v s a) (subst IsUtf8 (sym (append-nil b)) u) h
