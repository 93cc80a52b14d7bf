-- Laws of the canonical form of a definition.
use Rattle.std.specs.Prelude.{◌≡◌, ◌≤◌, length}
use Rattle.asl_json_data.specs.Data.{Data, depth}
use Rattle.asl_json_data.specs.Compact.{compact}
use Rattle.asl_def_schema.specs.Canon.{canonical}
use Rattle.asl_def_schema.specs.Faults.{Accepted}
use Rattle.asl_json.specs.Sound.{KeysDiffer}

-- that of a definition without faults has none
abbrev pub CanonicalIsAccepted : Type 0
CanonicalIsAccepted = (d : Data) → KeysDiffer d → Accepted d → Accepted (canonical d)

-- and it is its own
abbrev pub CanonicalStays : Type 0
CanonicalStays = (d : Data) → canonical (canonical d) ≡ canonical d

abbrev pub CanonicalIsNoLonger : Type 0
CanonicalIsNoLonger = (d : Data) → length (compact (canonical d)) ≤ length (compact d)

abbrev pub CanonicalIsNoDeeper : Type 0
CanonicalIsNoDeeper = (d : Data) → depth (canonical d) ≤ depth d

-- nor has an object in it a key twice
abbrev pub CanonicalKeysDiffer : Type 0
CanonicalKeysDiffer = (d : Data) → KeysDiffer d → KeysDiffer (canonical d)
