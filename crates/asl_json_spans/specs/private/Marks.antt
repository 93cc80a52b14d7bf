-- The outline of a text as the code makes it: driven by the value, from what is left of the bytes.
use Rattle.std.specs.Prelude.{ℕ, zero, suc, ◌-◌, ◌==◌, Bool, true, false, cond, List, [], ◌∷◌, ◌++◌, length, take, drop, Option, Some, None}
use Rattle.asl_json_data.specs.Data.{Data, null, boolean, number, text, list, dict, Chain, no_items, item, Pairs, no_members, member}
use Rattle.asl_json_data.specs.Grammar.{is_space}
use Rattle.asl_json_data.specs.Text.{quote, backslash}
use Rattle.asl_json_spans.specs.declared.span.Span.{Span}
use Rattle.asl_json_spans.specs.declared.span.Node.{Node}

-- what follows the spaces in front
abbrev pub behind_spaces : List ℕ → List ℕ
behind_spaces [] = []
behind_spaces (c ∷ cs) = cond (is_space c) (behind_spaces cs) (c ∷ cs)

-- what follows the closing quote of a text, behind a backslash or not
abbrev pub behind_quote : Bool → List ℕ → List ℕ
behind_quote e [] = []
behind_quote true (c ∷ cs) = behind_quote false cs
behind_quote false (c ∷ cs) = cond (c == quote) cs (behind_quote (c == backslash) cs)

-- a text that stands in front, with its quotes
abbrev pub behind_text : List ℕ → List ℕ
behind_text bs = behind_quote false (drop 1 bs)

-- the value of a member, behind the spaces, the key, the colon and their spaces
abbrev pub at_value : List ℕ → List ℕ
at_value bs = behind_spaces (drop 1 (behind_spaces (behind_text (behind_spaces bs))))

-- what follows the comma or the bracket behind an item
abbrev pub behind_mark : List ℕ → List ℕ
behind_mark bs = drop 1 (behind_spaces bs)

-- what follows the value that stands in front
abbrev mutual
  pub behind : Data → List ℕ → List ℕ
  behind null bs = drop 4 bs
  behind (boolean true) bs = drop 4 bs
  behind (boolean false) bs = drop 5 bs
  behind (number s) bs = drop (length s) bs
  behind (text s) bs = behind_text bs
  behind (list ds) bs = behind_list ds (drop 1 bs)
  behind (dict ms) bs = behind_dict ms (drop 1 bs)

  -- behind its bracket
  pub behind_list : Chain → List ℕ → List ℕ
  behind_list no_items bs = behind_mark bs
  behind_list (item d ds) bs = behind_items ds (behind_mark (behind d (behind_spaces bs)))

  pub behind_items : Chain → List ℕ → List ℕ
  behind_items no_items bs = bs
  behind_items (item d ds) bs = behind_items ds (behind_mark (behind d (behind_spaces bs)))

  pub behind_dict : Pairs → List ℕ → List ℕ
  behind_dict no_members bs = behind_mark bs
  behind_dict (member k d ms) bs = behind_members ms (behind_mark (behind d (at_value bs)))

  pub behind_members : Pairs → List ℕ → List ℕ
  behind_members no_members bs = bs
  behind_members (member k d ms) bs = behind_members ms (behind_mark (behind d (at_value bs)))

-- from where the first of these bytes stand to where the others do, in a text of this length
abbrev pub span_of : ℕ → List ℕ → List ℕ → Span
span_of len from to = record { begin = len - length from; end = len - length to }

abbrev pub key_span : ℕ → List ℕ → Span
key_span len bs = span_of len (behind_spaces bs) (behind_text (behind_spaces bs))

abbrev pub no_key : ℕ → List ℕ → Span
no_key len bs = span_of len bs bs

abbrev pub node : Span → Span → List Node → List Node
node key value inner = record { key = key; value = value; size = suc (length inner) } ∷ inner

abbrev mutual
  pub marks : ℕ → Span → Data → List ℕ → List Node
  marks len key null bs = node key (span_of len bs (behind null bs)) []
  marks len key (boolean b) bs = node key (span_of len bs (behind (boolean b) bs)) []
  marks len key (number s) bs = node key (span_of len bs (behind (number s) bs)) []
  marks len key (text s) bs = node key (span_of len bs (behind (text s) bs)) []
  marks len key (list ds) bs =
      node key (span_of len bs (behind (list ds) bs)) (item_marks len ds (drop 1 bs))
  marks len key (dict ms) bs =
      node key (span_of len bs (behind (dict ms) bs)) (member_marks len ms (drop 1 bs))

  pub item_marks : ℕ → Chain → List ℕ → List Node
  item_marks len no_items bs = []
  item_marks len (item d ds) bs =
      marks len (no_key len (behind_spaces bs)) d (behind_spaces bs)
      ++ item_marks len ds (behind_mark (behind d (behind_spaces bs)))

  pub member_marks : ℕ → Pairs → List ℕ → List Node
  member_marks len no_members bs = []
  member_marks len (member k d ms) bs =
      marks len (key_span len bs) d (at_value bs)
      ++ member_marks len ms (behind_mark (behind d (at_value bs)))

-- of a list's items or an object's members, behind the bracket or brace
abbrev pub inner_marks : ℕ → Data → List ℕ → List Node
inner_marks len (list ds) bs = item_marks len ds (drop 1 bs)
inner_marks len (dict ms) bs = member_marks len ms (drop 1 bs)
inner_marks len _ bs = []

-- the node of this number is given its end and its size
abbrev pub closed : List Node → ℕ → ℕ → List Node
closed [] at end = []
closed (n ∷ ns) zero end =
    record {
      key = n.key;
      value = record { begin = n.value.begin; end = end };
      size = suc (length ns);
    }
    ∷ ns
closed (n ∷ ns) (suc at) end = n ∷ closed ns at end

-- ---- finding

-- the nodes of the parts of the first, and those behind it and its parts
abbrev pub parts_of : List Node → List Node
parts_of [] = []
parts_of (n ∷ ns) = take (n.size - 1) ns

abbrev pub behind_first : List Node → List Node
behind_first [] = []
behind_first (n ∷ ns) = drop (n.size - 1) ns

abbrev pub behind_some : ℕ → List Node → List Node
behind_some zero ns = ns
behind_some (suc k) ns = behind_some k (behind_first ns)

abbrev pub found : List Node → List ℕ → List Node
found ns [] = ns
found ns (i ∷ is) = found (behind_some i (parts_of ns)) is

abbrev pub first_of : List Node → Option Node
first_of [] = None
first_of (n ∷ ns) = Some n
