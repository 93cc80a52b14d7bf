-- What follows a value.
use Rattle.std.proofs.Common.{◌≡◌, ℕ, true, false, List, [], ◌∷◌, ◌++◌, length, drop, refl, sym, ap, subst, ◌∙◌, append_assoc}
use Rattle.std.proofs.Math.Seq.{drop-append_seam}
use Rattle.asl_json_data.specs.Data.{Data, null, boolean, number, text, list, dict, Chain, no_items, item, Pairs, no_members, member}
use Rattle.asl_json_data.specs.Grammar.{colon, close_bracket, close_brace, AreSpaces, Padded, IsMember, Spells, is_space, item_parts, member_parts}
use Rattle.asl_json_data.specs.Parts.{Joined, MoreParts, Parts}
use Rattle.asl_json_spans.specs.private.Marks.{behind_spaces, behind_text, behind_mark, at_value, behind, behind_list, behind_items, behind_dict, behind_members}
use Rattle.asl_json_spans.proofs.Skipping.{spaces_skipped, value_stays, text_passes, Left, marked, bracket_no_space, brace_no_space, byte_behind, mark_behind}

colon_no_space : is_space colon ≡ false
unfolding is_space
colon_no_space = refl

-- the first of some items
pub item_begins : (d : Data) (Ps : List (List ℕ → Type 0)) (left rest : List ℕ) → (j : Joined (Padded (Spells d)) (MoreParts close_bracket Ps) left) → behind_spaces (left ++ rest) ≡ j.front_is.inner ++ (j.front_is.behind ++ (j.back ++ rest))
item_begins d Ps left rest j =
    let p = j.front_is in
    let regrouped : left ++ rest ≡ p.before ++ (p.inner ++ (p.behind ++ (j.back ++ rest))) = rw (j.parts, p.parts) (simp append_assoc) in
    ap behind_spaces regrouped ∙ spaces_skipped p.before (p.inner ++ (p.behind ++ (j.back ++ rest))) p.before_is ∙ value_stays d p.inner (p.behind ++ (j.back ++ rest)) p.inner_is

pub item_ends : (d : Data) (Ps : List (List ℕ → Type 0)) (left rest : List ℕ) → (j : Joined (Padded (Spells d)) (MoreParts close_bracket Ps) left)
    → ((t more : List ℕ) → Spells d t → behind d (t ++ more) ≡ more)
    → behind_mark (behind d (behind_spaces (left ++ rest))) ≡ (marked close_bracket Ps j.back bracket_no_space j.back_is).tail ++ rest
item_ends d Ps left rest j value =
    let p = j.front_is in
    ap (λ (x : List ℕ). behind_mark (behind d x)) (item_begins d Ps left rest j)
    ∙ ap behind_mark (value p.inner (p.behind ++ (j.back ++ rest)) p.inner_is)
    ∙ mark_behind close_bracket Ps p.behind j.back rest p.behind_is (marked close_bracket Ps j.back bracket_no_space j.back_is)

-- the first of some members: its key, the end of the key, its value
pub key_begins : (k : List ℕ) (d : Data) (Ps : List (List ℕ → Type 0)) (left rest : List ℕ) → (j : Joined (IsMember k (Spells d)) (MoreParts close_brace Ps) left)
    → behind_spaces (left ++ rest) ≡ j.front_is.key_is.quoted ++ (j.front_is.key_is.behind ++ colon ∷ (j.front_is.value ++ (j.back ++ rest)))
key_begins k d Ps left rest j =
    let m = j.front_is in
    let q = m.key_is in
    let more = q.behind ++ colon ∷ (m.value ++ (j.back ++ rest)) in
    let regrouped : left ++ rest ≡ q.before ++ (q.quoted ++ more) = rw (j.parts, m.parts, q.parts) (simp append_assoc) in
    ap behind_spaces regrouped ∙ spaces_skipped q.before (q.quoted ++ more) q.before_is ∙ value_stays (text k) q.quoted more q.quoted_is

pub key_ends : (k : List ℕ) (d : Data) (Ps : List (List ℕ → Type 0)) (left rest : List ℕ) → (j : Joined (IsMember k (Spells d)) (MoreParts close_brace Ps) left)
    → behind_text (behind_spaces (left ++ rest)) ≡ j.front_is.key_is.behind ++ colon ∷ (j.front_is.value ++ (j.back ++ rest))
key_ends k d Ps left rest j =
    let m = j.front_is in
    ap behind_text (key_begins k d Ps left rest j) ∙ text_passes k m.key_is.quoted (m.key_is.behind ++ colon ∷ (m.value ++ (j.back ++ rest))) m.key_is.quoted_is

pub member_begins : (k : List ℕ) (d : Data) (Ps : List (List ℕ → Type 0)) (left rest : List ℕ) → (j : Joined (IsMember k (Spells d)) (MoreParts close_brace Ps) left)
    → at_value (left ++ rest) ≡ j.front_is.value_is.inner ++ (j.front_is.value_is.behind ++ (j.back ++ rest))
member_begins k d Ps left rest j =
    let m = j.front_is in
    let p = m.value_is in
    let more = p.behind ++ (j.back ++ rest) in
    let regrouped : m.value ++ (j.back ++ rest) ≡ p.before ++ (p.inner ++ more) = rw p.parts (simp append_assoc) in
    ap (λ (x : List ℕ). behind_spaces (behind_mark x)) (key_ends k d Ps left rest j)
    ∙ ap behind_spaces (byte_behind m.key_is.behind colon (m.value ++ (j.back ++ rest)) m.key_is.behind_is colon_no_space)
    ∙ ap behind_spaces regrouped
    ∙ spaces_skipped p.before (p.inner ++ more) p.before_is ∙ value_stays d p.inner more p.inner_is

pub member_ends : (k : List ℕ) (d : Data) (Ps : List (List ℕ → Type 0)) (left rest : List ℕ) → (j : Joined (IsMember k (Spells d)) (MoreParts close_brace Ps) left)
    → ((t more : List ℕ) → Spells d t → behind d (t ++ more) ≡ more)
    → behind_mark (behind d (at_value (left ++ rest))) ≡ (marked close_brace Ps j.back brace_no_space j.back_is).tail ++ rest
member_ends k d Ps left rest j value =
    let p = j.front_is.value_is in
    ap (λ (x : List ℕ). behind_mark (behind d x)) (member_begins k d Ps left rest j)
    ∙ ap behind_mark (value p.inner (p.behind ++ (j.back ++ rest)) p.inner_is)
    ∙ mark_behind close_brace Ps p.behind j.back rest p.behind_is (marked close_brace Ps j.back brace_no_space j.back_is)

empty_ends : (close : ℕ) (t rest : List ℕ) → is_space close ≡ false → Joined AreSpaces (λ e. e ≡ close ∷ []) t → behind_mark (t ++ rest) ≡ rest
empty_ends close t rest s h =
    let regrouped : t ++ rest ≡ h.front ++ close ∷ rest = rw (h.parts, h.back_is) (simp append_assoc) in
    ap behind_mark regrouped ∙ byte_behind h.front close rest h.front_is s

mutual
  pub value_ends : (d : Data) (t rest : List ℕ) → Spells d t → behind d (t ++ rest) ≡ rest
  value_ends null t rest h = subst (λ (x : List ℕ). drop 4 (x ++ rest) ≡ rest) (sym h) refl
  value_ends (boolean true) t rest h = subst (λ (x : List ℕ). drop 4 (x ++ rest) ≡ rest) (sym h) refl
  value_ends (boolean false) t rest h = subst (λ (x : List ℕ). drop 5 (x ++ rest) ≡ rest) (sym h) refl
  value_ends (number s) t rest h = subst (λ (x : List ℕ). drop (length s) (x ++ rest) ≡ rest) (sym h.0) (drop-append_seam s rest)
  value_ends (text s) t rest h = text_passes s t rest h
  value_ends (list ds) t rest h = ap (λ (x : List ℕ). behind_list ds (drop 1 (x ++ rest))) h.parts ∙ list_ends ds h.tail rest h.tail_is
  value_ends (dict ms) t rest h = ap (λ (x : List ℕ). behind_dict ms (drop 1 (x ++ rest))) h.parts ∙ dict_ends ms h.tail rest h.tail_is

  list_ends : (ds : Chain) (t rest : List ℕ) → Parts AreSpaces close_bracket (item_parts ds) t → behind_list ds (t ++ rest) ≡ rest
  list_ends no_items t rest h = empty_ends close_bracket t rest bracket_no_space h
  list_ends (item d ds) t rest h =
      ap (behind_items ds) (item_ends d (item_parts ds) t rest h (value_ends d)) ∙ items_end ds (marked close_bracket (item_parts ds) h.back bracket_no_space h.back_is).tail rest (marked close_bracket (item_parts ds) h.back bracket_no_space h.back_is).left

  items_end : (ds : Chain) (t rest : List ℕ) → Left close_bracket (item_parts ds) t → behind_items ds (t ++ rest) ≡ rest
  items_end no_items t rest h = ap (λ (x : List ℕ). x ++ rest) h
  items_end (item d ds) t rest h =
      ap (behind_items ds) (item_ends d (item_parts ds) t rest h (value_ends d)) ∙ items_end ds (marked close_bracket (item_parts ds) h.back bracket_no_space h.back_is).tail rest (marked close_bracket (item_parts ds) h.back bracket_no_space h.back_is).left

  dict_ends : (ms : Pairs) (t rest : List ℕ) → Parts AreSpaces close_brace (member_parts ms) t → behind_dict ms (t ++ rest) ≡ rest
  dict_ends no_members t rest h = empty_ends close_brace t rest brace_no_space h
  dict_ends (member k d ms) t rest h =
      ap (behind_members ms) (member_ends k d (member_parts ms) t rest h (value_ends d)) ∙ members_end ms (marked close_brace (member_parts ms) h.back brace_no_space h.back_is).tail rest (marked close_brace (member_parts ms) h.back brace_no_space h.back_is).left

  members_end : (ms : Pairs) (t rest : List ℕ) → Left close_brace (member_parts ms) t → behind_members ms (t ++ rest) ≡ rest
  members_end no_members t rest h = ap (λ (x : List ℕ). x ++ rest) h
  members_end (member k d ms) t rest h =
      ap (behind_members ms) (member_ends k d (member_parts ms) t rest h (value_ends d)) ∙ members_end ms (marked close_brace (member_parts ms) h.back brace_no_space h.back_is).tail rest (marked close_brace (member_parts ms) h.back brace_no_space h.back_is).left
