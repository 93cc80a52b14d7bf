-- The limits of a value: what is allowed nests no deeper than the limit and has no key twice, and what is sound, nests no deeper
-- and has no key twice is allowed.
use Rattle.std.proofs.Common.{◌≡◌, ℕ, suc, ◌+◌, ◌≤◌, true, false, nat_le, [], ◌∷◌, ◌++◌, arith}
use Rattle.asl_json_data.specs.Data.{Data, null, boolean, number, text, list, dict, Chain, no_items, item, Pairs, no_members, member, depth, items_depth, members_depth}
use Rattle.asl_json_data.specs.Distinct.{Members, AreDistinct}
use Rattle.asl_json.specs.View.{unpaired}
use Rattle.asl_json_data.specs.Limits.{max_depth, Allowed, AllowedItems, AllowedMembers}
use Rattle.asl_json.specs.Sound.{KeysDiffer, KeysDifferInItems, KeysDifferInMembers}
use Rattle.asl_json.specs.Sound.{IsSound, AreSoundItems, AreSoundMembers}

level : (n : ℕ) → nat_le max_depth n ≡ false → suc n ≤ max_depth
level n e = grind (arith, e)

mutual
  pub allowed_depth : (n : ℕ) (d : Data) → n ≤ max_depth → Allowed true n d → n + depth d ≤ max_depth
  allowed_depth n null le a = omega (arith, le)
  allowed_depth n (boolean b) le a = omega (arith, le)
  allowed_depth n (number s) le a = omega (arith, le)
  allowed_depth n (text s) le a = omega (arith, le)
  allowed_depth n (list ds) le a = omega (arith, items_depth_in (suc n) ds (level n a.0) a.1)
  allowed_depth n (dict ms) le a = omega (arith, members_depth_in (suc n) [] ms (level n a.0) a.1)

  items_depth_in : (n : ℕ) (ds : Chain) → n ≤ max_depth → AllowedItems true n ds → n + items_depth ds ≤ max_depth
  items_depth_in n no_items le a = omega (arith, le)
  items_depth_in n (item d ds) le a = omega (arith, allowed_depth n d le a.0, items_depth_in n ds le a.1)

  members_depth_in : (n : ℕ) (seen : Members) (ms : Pairs) → n ≤ max_depth → AllowedMembers true n seen ms → n + members_depth ms ≤ max_depth
  members_depth_in n seen no_members le a = omega (arith, le)
  members_depth_in n seen (member k d ms) le a = omega (arith, allowed_depth n d le a.1.0, members_depth_in n (seen ++ (k, d) ∷ []) ms le a.1.1)

distinct_in : (n : ℕ) (seen : Members) (ms : Pairs) → AllowedMembers true n seen ms → AreDistinct seen (unpaired ms)
distinct_in n seen no_members a = tt
distinct_in n seen (member k d ms) a = (a.0, distinct_in n (seen ++ (k, d) ∷ []) ms a.1.1)

mutual
  pub allowed_keys : (n : ℕ) (d : Data) → Allowed true n d → KeysDiffer d
  allowed_keys n null a = tt
  allowed_keys n (boolean b) a = tt
  allowed_keys n (number s) a = tt
  allowed_keys n (text s) a = tt
  allowed_keys n (list ds) a = items_keys (suc n) ds a.1
  allowed_keys n (dict ms) a = (distinct_in (suc n) [] ms a.1, members_keys (suc n) [] ms a.1)

  items_keys : (n : ℕ) (ds : Chain) → AllowedItems true n ds → KeysDifferInItems ds
  items_keys n no_items a = tt
  items_keys n (item d ds) a = (allowed_keys n d a.0, items_keys n ds a.1)

  members_keys : (n : ℕ) (seen : Members) (ms : Pairs) → AllowedMembers true n seen ms → KeysDifferInMembers ms
  members_keys n seen no_members a = tt
  members_keys n seen (member k d ms) a = (allowed_keys n d a.1.0, members_keys n (seen ++ (k, d) ∷ []) ms a.1.1)

-- ---- and back

open_level : (n m : ℕ) → n + suc m ≤ max_depth → nat_le max_depth n ≡ false
open_level n m le = grind (arith, le)

mutual
  pub allowed : (n : ℕ) (d : Data) → n + depth d ≤ max_depth → KeysDiffer d → IsSound d → Allowed true n d
  allowed n null le k h = tt
  allowed n (boolean b) le k h = tt
  allowed n (number s) le k h = h.1
  allowed n (text s) le k h = tt
  allowed n (list ds) le k h = (open_level n (items_depth ds) le, allowed_items (suc n) ds (omega (arith, le)) k h)
  allowed n (dict ms) le k h = (open_level n (members_depth ms) le, allowed_members (suc n) [] ms (omega (arith, le)) k.0 k.1 h)

  allowed_items : (n : ℕ) (ds : Chain) → n + items_depth ds ≤ max_depth → KeysDifferInItems ds → AreSoundItems ds → AllowedItems true n ds
  allowed_items n no_items le k h = tt
  allowed_items n (item d ds) le k h = (allowed n d (omega (arith, le)) k.0 h.0, allowed_items n ds (omega (arith, le)) k.1 h.1)

  allowed_members : (n : ℕ) (seen : Members) (ms : Pairs) → n + members_depth ms ≤ max_depth → AreDistinct seen (unpaired ms) → KeysDifferInMembers ms → AreSoundMembers ms → AllowedMembers true n seen ms
  allowed_members n seen no_members le a k h = tt
  allowed_members n seen (member l d ms) le a k h = (a.0, (allowed n d (omega (arith, le)) k.0 h.1.0, allowed_members n (seen ++ (l, d) ∷ []) ms (omega (arith, le)) a.1 k.1 h.1.1))
