-- The canonical form is no longer, nor deeper.
use Rattle.std.proofs.Common.{◌≡◌, ℕ, suc, ◌≤◌, List, ◌∷◌, ◌++◌, length, refl, arith, length-append}
use Rattle.std.specs.Prelude.{max, codes}
use Rattle.asl_json_data.specs.Data.{Data, null, boolean, number, text, list, dict, Chain, no_items, item, Pairs, no_members, member, pairs, depth, items_depth, members_depth}
use Rattle.asl_json.specs.Meaning.{value_at}
use Rattle.asl_json_data.specs.Grammar.{colon}
use Rattle.asl_json_data.specs.Compact.{compact, compact_items, compact_more_items, compact_members, compact_more, quoted}
use Rattle.asl_def_schema.specs.declared.sort.Sort.{Sort}
use Rattle.asl_def_schema.specs.declared.sort.Sort.TheVariants as sort
use Rattle.asl_def_schema.specs.Members.{Shape, sort_at, shape_in, item_sort, kind_named}
use Rattle.asl_def_schema.specs.Canon.{canon, canon_items, canon_members, arranged, listed, picked}
use Rattle.asl_def_canonical_laws.proofs.Amounts.{total, shape_differs, picked_total, picked_depth}

-- of a member with the comma before it
abbrev span : List ℕ → Data → ℕ
span k d = suc (length (quoted k ++ colon ∷ compact d))

more_length : (ms : Pairs) → length (compact_more ms) ≡ suc (total span ms)
more_length no_members = refl
more_length (member k d ms) = let e = length-append (quoted k ++ colon ∷ compact d) (compact_more ms) in omega (arith, e, more_length ms)

members_length : (ms : Pairs) → length (compact_members ms) ≡ max 1 (total span ms)
members_length no_members = refl
members_length (member k d ms) = let e = length-append (quoted k ++ colon ∷ compact d) (compact_more ms) in omega (arith, e, more_length ms)

shorter_picked : (s : Sort) (ms : Pairs) → total span (canon_members (shape_in s ms) ms) ≤ total span ms → length (compact (dict (pairs (picked (shape_in s ms).rows (canon_members (shape_in s ms) ms))))) ≤ length (compact (dict ms))
shorter_picked s ms h =
    let cs = canon_members (shape_in s ms) ms in
    let ns = pairs (picked (shape_in s ms).rows cs) in
    let less = picked_total span (shape_in s ms).rows cs (shape_differs s (kind_named (value_at (codes "Type") ms))) in
    omega (arith, members_length ns, members_length ms, less, h)

shorter_arranged : (s : Sort) (ms : Pairs) → total span (canon_members (shape_in s ms) ms) ≤ total span ms → length (compact (arranged s (shape_in s ms).rows ms (canon_members (shape_in s ms) ms))) ≤ length (compact (dict ms))
shorter_arranged sort.Definition ms h = shorter_picked sort.Definition ms h
shorter_arranged sort.Machine ms h = shorter_picked sort.Machine ms h
shorter_arranged sort.ItemProcessor ms h = shorter_picked sort.ItemProcessor ms h
shorter_arranged sort.State ms h = shorter_picked sort.State ms h
shorter_arranged sort.Rule ms h = shorter_picked sort.Rule ms h
shorter_arranged sort.InnerRule ms h = shorter_picked sort.InnerRule ms h
shorter_arranged sort.Retrier ms h = shorter_picked sort.Retrier ms h
shorter_arranged sort.Catcher ms h = shorter_picked sort.Catcher ms h
shorter_arranged sort.States ms h = omega (arith, members_length (canon_members (shape_in sort.States ms) ms), members_length ms, h)
shorter_arranged s ms h = omega arith

shorter_listed : (s : Sort) (ds cs : Chain) → length (compact_items cs) ≤ length (compact_items ds) → length (compact (listed s ds cs)) ≤ length (compact (list ds))
shorter_listed sort.Machines ds cs h = omega (arith, h)
shorter_listed sort.Rules ds cs h = omega (arith, h)
shorter_listed sort.InnerRules ds cs h = omega (arith, h)
shorter_listed sort.Retriers ds cs h = omega (arith, h)
shorter_listed sort.Catchers ds cs h = omega (arith, h)
shorter_listed s ds cs h = omega arith

mutual
  pub no_longer : (s : Sort) (d : Data) → length (compact (canon s d)) ≤ length (compact d)
  no_longer s null = omega arith
  no_longer s (boolean b) = omega arith
  no_longer s (number n) = omega arith
  no_longer s (text t) = omega arith
  no_longer s (list ds) = shorter_listed s ds (canon_items (item_sort s) ds) (items_no_longer (item_sort s) ds)
  no_longer s (dict ms) = shorter_arranged s ms (members_no_longer (shape_in s ms) ms)

  items_no_longer : (s : Sort) (ds : Chain) → length (compact_items (canon_items s ds)) ≤ length (compact_items ds)
  items_no_longer s no_items = omega arith
  items_no_longer s (item d ds) = omega (arith, length-append (compact (canon s d)) (compact_more_items (canon_items s ds)), length-append (compact d) (compact_more_items ds), no_longer s d, more_no_longer s ds)

  more_no_longer : (s : Sort) (ds : Chain) → length (compact_more_items (canon_items s ds)) ≤ length (compact_more_items ds)
  more_no_longer s no_items = omega arith
  more_no_longer s (item d ds) = omega (arith, length-append (compact (canon s d)) (compact_more_items (canon_items s ds)), length-append (compact d) (compact_more_items ds), no_longer s d, more_no_longer s ds)

  members_no_longer : (sh : Shape) (ms : Pairs) → total span (canon_members sh ms) ≤ total span ms
  members_no_longer sh no_members = omega arith
  members_no_longer sh (member k d ms) = omega (arith, length-append (quoted k) (colon ∷ compact (canon (sort_at sh k) d)), length-append (quoted k) (colon ∷ compact d), no_longer (sort_at sh k) d, members_no_longer sh ms)

-- ---- depth

flatter_picked : (sh : Shape) (ms : Pairs) → members_depth (canon_members sh ms) ≤ members_depth ms → depth (dict (pairs (picked sh.rows (canon_members sh ms)))) ≤ depth (dict ms)
flatter_picked sh ms h = omega (arith, picked_depth sh.rows (canon_members sh ms), h)

flatter_arranged : (s : Sort) (ms : Pairs) → members_depth (canon_members (shape_in s ms) ms) ≤ members_depth ms → depth (arranged s (shape_in s ms).rows ms (canon_members (shape_in s ms) ms)) ≤ depth (dict ms)
flatter_arranged sort.Definition ms h = flatter_picked (shape_in sort.Definition ms) ms h
flatter_arranged sort.Machine ms h = flatter_picked (shape_in sort.Machine ms) ms h
flatter_arranged sort.ItemProcessor ms h = flatter_picked (shape_in sort.ItemProcessor ms) ms h
flatter_arranged sort.State ms h = flatter_picked (shape_in sort.State ms) ms h
flatter_arranged sort.Rule ms h = flatter_picked (shape_in sort.Rule ms) ms h
flatter_arranged sort.InnerRule ms h = flatter_picked (shape_in sort.InnerRule ms) ms h
flatter_arranged sort.Retrier ms h = flatter_picked (shape_in sort.Retrier ms) ms h
flatter_arranged sort.Catcher ms h = flatter_picked (shape_in sort.Catcher ms) ms h
flatter_arranged sort.States ms h = omega (arith, h)
flatter_arranged s ms h = omega arith

flatter_listed : (s : Sort) (ds cs : Chain) → items_depth cs ≤ items_depth ds → depth (listed s ds cs) ≤ depth (list ds)
flatter_listed sort.Machines ds cs h = omega (arith, h)
flatter_listed sort.Rules ds cs h = omega (arith, h)
flatter_listed sort.InnerRules ds cs h = omega (arith, h)
flatter_listed sort.Retriers ds cs h = omega (arith, h)
flatter_listed sort.Catchers ds cs h = omega (arith, h)
flatter_listed s ds cs h = omega arith

mutual
  pub no_deeper : (s : Sort) (d : Data) → depth (canon s d) ≤ depth d
  no_deeper s null = omega arith
  no_deeper s (boolean b) = omega arith
  no_deeper s (number n) = omega arith
  no_deeper s (text t) = omega arith
  no_deeper s (list ds) = flatter_listed s ds (canon_items (item_sort s) ds) (items_no_deeper (item_sort s) ds)
  no_deeper s (dict ms) = flatter_arranged s ms (members_no_deeper (shape_in s ms) ms)

  items_no_deeper : (s : Sort) (ds : Chain) → items_depth (canon_items s ds) ≤ items_depth ds
  items_no_deeper s no_items = omega arith
  items_no_deeper s (item d ds) = omega (arith, no_deeper s d, items_no_deeper s ds)

  members_no_deeper : (sh : Shape) (ms : Pairs) → members_depth (canon_members sh ms) ≤ members_depth ms
  members_no_deeper sh no_members = omega arith
  members_no_deeper sh (member k d ms) = omega (arith, no_deeper (sort_at sh k) d, members_no_deeper sh ms)
