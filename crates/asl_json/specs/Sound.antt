-- What every value has at all depths: no key twice in an object, numbers in the limits, texts and
-- keys in UTF-8.
use Rattle.std.specs.Prelude.{[]}
use Rattle.std.specs.Str.{IsUtf8}
use Rattle.asl_json_data.specs.Data.{Data, null, boolean, number, text, list, dict, Chain, no_items, item, Pairs, no_members, member}
use Rattle.asl_json_data.specs.Distinct.{AreDistinct}
use Rattle.asl_json_data.specs.Number.{IsNumber}
use Rattle.asl_json.specs.View.{unpaired}

-- no object inside a value has a key twice
abbrev mutual
  pub KeysDiffer : Data → Type 0
  KeysDiffer null = Unit {0}
  KeysDiffer (boolean b) = Unit {0}
  KeysDiffer (number n) = Unit {0}
  KeysDiffer (text t) = Unit {0}
  KeysDiffer (list ds) = KeysDifferInItems ds
  KeysDiffer (dict ms) = AreDistinct [] (unpaired ms) × KeysDifferInMembers ms

  pub KeysDifferInItems : Chain → Type 0
  KeysDifferInItems no_items = Unit {0}
  KeysDifferInItems (item d ds) = KeysDiffer d × KeysDifferInItems ds

  pub KeysDifferInMembers : Pairs → Type 0
  KeysDifferInMembers no_members = Unit {0}
  KeysDifferInMembers (member k d ms) = KeysDiffer d × KeysDifferInMembers ms

-- its numbers are spelled within the limits, and its texts and keys are UTF-8
abbrev mutual
  pub IsSound : Data → Type 0
  IsSound null = Unit {0}
  IsSound (boolean b) = Unit {0}
  IsSound (number s) = IsNumber s
  IsSound (text s) = IsUtf8 s
  IsSound (list ds) = AreSoundItems ds
  IsSound (dict ms) = AreSoundMembers ms

  pub AreSoundItems : Chain → Type 0
  AreSoundItems no_items = Unit {0}
  AreSoundItems (item d ds) = IsSound d × AreSoundItems ds

  pub AreSoundMembers : Pairs → Type 0
  AreSoundMembers no_members = Unit {0}
  AreSoundMembers (member k d ms) = IsUtf8 k × (IsSound d × AreSoundMembers ms)
