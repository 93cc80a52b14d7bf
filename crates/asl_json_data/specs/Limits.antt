-- The limits of a value that stands within so many levels: how deep it nests, how large its numbers
-- are, and that no key comes twice in an object.
use Rattle.std.specs.Prelude.{◌≡◌, ℕ, suc, Bool, false, ◌&&◌, nat_le, [], ◌∷◌, ◌++◌}
use Rattle.asl_json_data.specs.Data.{Data, null, boolean, number, text, list, dict, Chain, no_items, item, Pairs, no_members, member}
use Rattle.asl_json_data.specs.Number.{is_over}
use Rattle.asl_json_data.specs.Distinct.{Members, has_key}

-- how many bytes a text may have
abbrev pub max_len : ℕ
max_len = 1048576

-- how many lists and objects may stand open at once
abbrev pub max_depth : ℕ
max_depth = 64

-- where lim is false, each value is allowed
abbrev mutual
  pub Allowed : Bool → ℕ → Data → Type 0
  Allowed lim n null = Unit {0}
  Allowed lim n (boolean b) = Unit {0}
  Allowed lim n (number s) = (lim && is_over s) ≡ false
  Allowed lim n (text s) = Unit {0}
  Allowed lim n (list ds) = ((lim && nat_le max_depth n) ≡ false) × AllowedItems lim (suc n) ds
  Allowed lim n (dict ms) = ((lim && nat_le max_depth n) ≡ false) × AllowedMembers lim (suc n) [] ms

  pub AllowedItems : Bool → ℕ → Chain → Type 0
  AllowedItems lim n no_items = Unit {0}
  AllowedItems lim n (item d ds) = Allowed lim n d × AllowedItems lim n ds

  pub AllowedMembers : Bool → ℕ → Members → Pairs → Type 0
  AllowedMembers lim n seen no_members = Unit {0}
  AllowedMembers lim n seen (member k d ms) =
      ((lim && has_key k seen) ≡ false)
      × (Allowed lim n d × AllowedMembers lim n (seen ++ (k, d) ∷ []) ms)
