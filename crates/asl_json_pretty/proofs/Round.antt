-- The text for a person reads as its value.
use Rattle.std.proofs.Common.{◌≡◌, ℕ, true, false, List, [], ◌∷◌, ◌++◌, refl, sym, ap, ◌∙◌, append_assoc}
use Rattle.std.proofs.lemmas.List.{append-nil}
use Rattle.asl_json_data.specs.Data.{Data, null, boolean, number, text, list, dict, Chain, no_items, item, Pairs, no_members, member}
use Rattle.asl_json_data.specs.Grammar.{AreSpaces, is_space, colon, close_bracket, close_brace, Padded, IsMember, Spells, IsText}
use Rattle.asl_json_data.specs.private.Lists.{SpellsItems, SpellsMoreItems, SpellsMembers, SpellsMore}
use Rattle.asl_json_data.specs.Compact.{quoted, IsSpellable, AreSpellableItems, AreSpellable}
use Rattle.asl_json_write.proofs.Quoting.{quoted_spells}
use Rattle.asl_json_pretty.specs.Pretty.{deeper, pretty, pretty_at, pretty_items, pretty_more_items, pretty_members, pretty_more}

-- ---- spaces

spaces_more : (a b : List ℕ) → AreSpaces a → AreSpaces b → AreSpaces (a ++ b)
spaces_more [] b h k = k
spaces_more (c ∷ a) b h k = (h.0, spaces_more a b h.1 k)

two_spaces : AreSpaces (32 ∷ 32 ∷ [])
unfolding is_space
two_spaces = (refl, (refl, tt))

one_space : AreSpaces (32 ∷ [])
unfolding is_space
one_space = (refl, tt)

first_line : AreSpaces (10 ∷ [])
unfolding is_space
first_line = (refl, tt)

deeper_is : (line : List ℕ) → AreSpaces line → AreSpaces (deeper line)
deeper_is line h = spaces_more line (32 ∷ 32 ∷ []) h two_spaces

-- ---- parts with spaces round them

padded : (S : List ℕ → Type 0) (before t behind : List ℕ) → AreSpaces before → S t → AreSpaces behind → Padded S (before ++ (t ++ behind))
padded S before t behind b h e = record { before = before; inner = t; behind = behind; parts = refl; before_is = b; inner_is = h; behind_is = e }

member_is : (before k : List ℕ) (V : List ℕ → Type 0) (t behind : List ℕ) → AreSpaces before → V t → AreSpaces behind → IsMember k V (before ++ ((quoted k ++ colon ∷ 32 ∷ t) ++ behind))
member_is before k V t behind b h e = record {
  key = before ++ quoted k;
  value = 32 ∷ (t ++ behind);
  parts = ap (λ (x : List ℕ). before ++ x) (append_assoc (quoted k) (colon ∷ 32 ∷ t) behind) ∙ sym (append_assoc before (quoted k) (colon ∷ 32 ∷ (t ++ behind)));
  key_is = record { before = before; quoted = quoted k; behind = []; parts = ap (λ (x : List ℕ). before ++ x) (sym (append-nil (quoted k))); before_is = b; quoted_is = quoted_spells k; behind_is = tt };
  value_is = padded V (32 ∷ []) t behind one_space h e;
}

-- the spaces behind a part belong to it
regrouped : (before t behind rest more : List ℕ) → more ≡ behind ++ rest → before ++ (t ++ more) ≡ (before ++ (t ++ behind)) ++ rest
regrouped before t behind rest more e = ap (λ (x : List ℕ). before ++ (t ++ x)) e ∙ ap (λ (x : List ℕ). before ++ x) (sym (append_assoc t behind rest)) ∙ sym (append_assoc before (t ++ behind) rest)

-- ---- what stands behind an item or a member: the spaces before the closing bracket, and the rest

abbrev items_gap : List ℕ → Chain → List ℕ
items_gap line no_items = line
items_gap line (item d ds) = []

abbrev items_rest : List ℕ → Chain → List ℕ
items_rest line no_items = close_bracket ∷ []
items_rest line (item d ds) = pretty_more_items line (item d ds)

items_more_is : (line : List ℕ) (ds : Chain) → pretty_more_items line ds ≡ items_gap line ds ++ items_rest line ds
items_more_is line no_items = refl
items_more_is line (item d ds) = refl

items_gap_is : (line : List ℕ) (ds : Chain) → AreSpaces line → AreSpaces (items_gap line ds)
items_gap_is line no_items s = s
items_gap_is line (item d ds) s = tt

abbrev members_gap : List ℕ → Pairs → List ℕ
members_gap line no_members = line
members_gap line (member k d ms) = []

abbrev members_rest : List ℕ → Pairs → List ℕ
members_rest line no_members = close_brace ∷ []
members_rest line (member k d ms) = pretty_more line (member k d ms)

members_more_is : (line : List ℕ) (ms : Pairs) → pretty_more line ms ≡ members_gap line ms ++ members_rest line ms
members_more_is line no_members = refl
members_more_is line (member k d ms) = refl

members_gap_is : (line : List ℕ) (ms : Pairs) → AreSpaces line → AreSpaces (members_gap line ms)
members_gap_is line no_members s = s
members_gap_is line (member k d ms) s = tt

-- ---- values

mutual
  spells : (line : List ℕ) (v : Data) → AreSpaces line → IsSpellable v → Spells v (pretty_at line v)
  spells line null s h = refl
  spells line (boolean true) s h = refl
  spells line (boolean false) s h = refl
  spells line (number t) s h = (refl, h)
  spells line (text t) s h = quoted_spells t
  spells line (list ds) s h = record { tail = pretty_items line ds; parts = refl; tail_is = items_spell line ds s h }
  spells line (dict ms) s h = record { tail = pretty_members line ms; parts = refl; tail_is = members_spell line ms s h }

  items_spell : (line : List ℕ) (ds : Chain) → AreSpaces line → AreSpellableItems ds → SpellsItems ds (pretty_items line ds)
  items_spell line no_items s h = record { front = []; back = close_bracket ∷ []; parts = refl; front_is = tt; back_is = refl }
  items_spell line (item d ds) s h = record {
    front = deeper line ++ (pretty_at (deeper line) d ++ items_gap line ds);
    back = items_rest line ds;
    parts = regrouped (deeper line) (pretty_at (deeper line) d) (items_gap line ds) (items_rest line ds) (pretty_more_items line ds) (items_more_is line ds);
    front_is = padded (Spells d) (deeper line) (pretty_at (deeper line) d) (items_gap line ds) (deeper_is line s) (spells (deeper line) d (deeper_is line s) h.0) (items_gap_is line ds s);
    back_is = more_items_spell line ds s h.1;
  }

  more_items_spell : (line : List ℕ) (ds : Chain) → AreSpaces line → AreSpellableItems ds → SpellsMoreItems ds (items_rest line ds)
  more_items_spell line no_items s h = refl
  more_items_spell line (item d ds) s h = record {
    tail = deeper line ++ (pretty_at (deeper line) d ++ pretty_more_items line ds);
    parts = refl;
    tail_is = record {
      front = deeper line ++ (pretty_at (deeper line) d ++ items_gap line ds);
      back = items_rest line ds;
      parts = regrouped (deeper line) (pretty_at (deeper line) d) (items_gap line ds) (items_rest line ds) (pretty_more_items line ds) (items_more_is line ds);
      front_is = padded (Spells d) (deeper line) (pretty_at (deeper line) d) (items_gap line ds) (deeper_is line s) (spells (deeper line) d (deeper_is line s) h.0) (items_gap_is line ds s);
      back_is = more_items_spell line ds s h.1;
    };
  }

  members_spell : (line : List ℕ) (ms : Pairs) → AreSpaces line → AreSpellable ms → SpellsMembers ms (pretty_members line ms)
  members_spell line no_members s h = record { front = []; back = close_brace ∷ []; parts = refl; front_is = tt; back_is = refl }
  members_spell line (member k d ms) s h = record {
    front = deeper line ++ ((quoted k ++ colon ∷ 32 ∷ pretty_at (deeper line) d) ++ members_gap line ms);
    back = members_rest line ms;
    parts = regrouped (deeper line) (quoted k ++ colon ∷ 32 ∷ pretty_at (deeper line) d) (members_gap line ms) (members_rest line ms) (pretty_more line ms) (members_more_is line ms);
    front_is = member_is (deeper line) k (Spells d) (pretty_at (deeper line) d) (members_gap line ms) (deeper_is line s) (spells (deeper line) d (deeper_is line s) h.0) (members_gap_is line ms s);
    back_is = more_spell line ms s h.1;
  }

  more_spell : (line : List ℕ) (ms : Pairs) → AreSpaces line → AreSpellable ms → SpellsMore ms (members_rest line ms)
  more_spell line no_members s h = refl
  more_spell line (member k d ms) s h = record {
    tail = deeper line ++ ((quoted k ++ colon ∷ 32 ∷ pretty_at (deeper line) d) ++ pretty_more line ms);
    parts = refl;
    tail_is = record {
      front = deeper line ++ ((quoted k ++ colon ∷ 32 ∷ pretty_at (deeper line) d) ++ members_gap line ms);
      back = members_rest line ms;
      parts = regrouped (deeper line) (quoted k ++ colon ∷ 32 ∷ pretty_at (deeper line) d) (members_gap line ms) (members_rest line ms) (pretty_more line ms) (members_more_is line ms);
      front_is = member_is (deeper line) k (Spells d) (pretty_at (deeper line) d) (members_gap line ms) (deeper_is line s) (spells (deeper line) d (deeper_is line s) h.0) (members_gap_is line ms s);
      back_is = more_spell line ms s h.1;
    };
  }

pub pretty_is_text : (v : Data) → IsSpellable v → IsText (pretty v) v
pretty_is_text v h = record { before = []; inner = pretty v; behind = []; parts = sym (append-nil (pretty v)); before_is = tt; inner_is = spells (10 ∷ []) v first_line h; behind_is = tt }
