-- The fronts of JSON texts: which lists and objects stand open behind them. And what each fault
-- says of a text.
use Rattle.std.specs.Prelude.{◌≡◌, ◌⊎◌, ℕ, suc, ◌≤◌, ◌==◌, ◌||◌, Bool, true, List, [], ◌∷◌, ◌++◌, length}
use Rattle.asl_json_data.specs.Data.{Data}
use Rattle.asl_json_data.specs.Grammar.{colon, open_bracket, open_brace, AreSpaces, SpellsKey, Padded, IsMember, Spells, IsText, IsPrefix}
use Rattle.asl_json_data.specs.Parts.{Joined, Behind, FrontParts}
use Rattle.asl_json_data.specs.Text.{quote, SpellsChars, Lone, IsLone, lone_spelled}
use Rattle.asl_json_data.specs.Number.{IsNumeral, is_over, EndsNumber}
use Rattle.asl_json_data.specs.Distinct.{Members, has_key}
use Rattle.asl_json_data.specs.Limits.{max_depth}
use Rattle.asl_json_scan.specs.declared.fault.Fault.{Fault}
use Rattle.asl_json_scan.specs.declared.fault.Kind.{Kind}
use Rattle.asl_json_scan.specs.declared.fault.Kind.TheVariants as kinds

-- a list that stands open, with its items so far; or an object, with its members so far and the key
-- whose value is being read
pub data Frame : Type 0 where
  in_list : List Data → Frame
  in_dict : Members → List ℕ → Frame

-- items, each with a comma behind it
abbrev pub SpellsFrontItems : List Data → List ℕ → Type 0
SpellsFrontItems = FrontParts (λ d. Padded (Spells d))

-- a list up to where an item may begin
abbrev pub OpensItem : List Data → List ℕ → Type 0
OpensItem ds t = Behind open_bracket (Joined (SpellsFrontItems ds) AreSpaces) t

-- members, each with a comma behind it
abbrev pub SpellsFront : Members → List ℕ → Type 0
SpellsFront = FrontParts (λ m. IsMember m.0 (Spells m.1))

-- an opening brace, these members, and S
abbrev pub Opened : Members → (List ℕ → Type 0) → List ℕ → Type 0
Opened ms S t = Behind open_brace (Joined (SpellsFront ms) S) t

-- an object up to the colon behind a key
abbrev pub OpensMember : Members → List ℕ → List ℕ → Type 0
OpensMember ms k t = Opened ms (Joined (SpellsKey k) (Behind colon AreSpaces)) t

-- what stands open, up to where a value is wanted
abbrev pub OpensFrame : Frame → List ℕ → Type 0
OpensFrame (in_list ds) t = OpensItem ds t
OpensFrame (in_dict ms k) t = OpensMember ms k t

-- the front of a text behind which a value is wanted, within these open lists and objects
abbrev pub IsOpen : List Frame → List ℕ → Type 0
IsOpen [] t = AreSpaces t
IsOpen (f ∷ st) t = Joined (IsOpen st) (OpensFrame f) t

-- the front of a text behind which the quote of a key may stand
abbrev pub AwaitsKey : List Frame → Members → List ℕ → Type 0
AwaitsKey st ms t = Joined (IsOpen st) (Opened ms AreSpaces) t

-- a bracket or a brace that opens a level
unfoldable pub opens : ℕ → Bool
opens c = (c == open_bracket) || (c == open_brace)

-- no text goes on from the front over the next byte
abbrev pub EndsAt : List ℕ → List ℕ → Type 0
EndsAt pre [] = (v : Data) → IsText pre v → ⊥
EndsAt pre (c ∷ post) = IsPrefix (pre ++ c ∷ []) → ⊥

-- the place with so many bytes to the end is the first one at which the bytes are no longer the
-- front of a text
pub record SyntaxAt (b : List ℕ) (left : ℕ) : Type 0 where
  pub pre : List ℕ
  pub post : List ℕ
  pub parts : b ≡ pre ++ post
  pub left_is : length post ≡ left
  pub alive : IsPrefix pre
  pub dead : EndsAt pre post

-- there stands a bracket or a brace that opens a level too many
pub record DepthAt (b : List ℕ) (left : ℕ) : Type 0 where
  pub pre : List ℕ
  pub opener : ℕ
  pub post : List ℕ
  pub parts : b ≡ pre ++ opener ∷ post
  pub opener_is : opens opener ≡ true
  pub left_is : suc (length post) ≡ left
  pub within : List Frame
  pub open_is : IsOpen within pre
  pub full : max_depth ≤ length within

-- there stands the quote of a key that its object has already
pub record DuplicateAt (b : List ℕ) (left : ℕ) : Type 0 where
  pub pre : List ℕ
  pub key : List ℕ
  pub inner : List ℕ
  pub post : List ℕ
  pub parts : b ≡ pre ++ (quote ∷ (inner ++ quote ∷ post))
  pub left_is : length (quote ∷ (inner ++ quote ∷ post)) ≡ left
  pub within : List Frame
  pub members : Members
  pub awaits : AwaitsKey within members pre
  pub key_is : SpellsChars key inner
  pub known : has_key key members ≡ true

-- the front of a text that ends between the characters of a string
pub record IsInString (t : List ℕ) : Type 0 where
  pub outer : List ℕ
  pub inner : List ℕ
  pub parts : t ≡ outer ++ quote ∷ inner
  pub within : List Frame
  -- a value's, or that of a key behind these members
  pub outer_is : IsOpen within outer ⊎ ((ms : Members) × AwaitsKey within ms outer)
  pub means : List ℕ
  pub inner_is : SpellsChars means inner

-- there stands an escape of a surrogate half that has no partner
pub record LoneAt (b : List ℕ) (left : ℕ) : Type 0 where
  pub pre : List ℕ
  pub half : Lone
  pub post : List ℕ
  pub parts : b ≡ pre ++ (lone_spelled half ++ post)
  pub left_is : length (lone_spelled half ++ post) ≡ left
  pub open_is : IsInString pre
  pub lone : IsLone half

-- there begins a number past the limits, read whole
pub record NumberAt (b : List ℕ) (left : ℕ) : Type 0 where
  pub pre : List ℕ
  pub spelled : List ℕ
  pub post : List ℕ
  pub parts : b ≡ pre ++ (spelled ++ post)
  pub left_is : length (spelled ++ post) ≡ left
  pub within : List Frame
  pub open_is : IsOpen within pre
  pub number_is : IsNumeral spelled
  pub longest : EndsNumber spelled post
  pub over : is_over spelled ≡ true

abbrev pub FaultAt : List ℕ → Kind → ℕ → Type 0
FaultAt b kinds.Syntax left = SyntaxAt b left
FaultAt b kinds.Lone left = LoneAt b left
FaultAt b kinds.Duplicate left = DuplicateAt b left
FaultAt b kinds.Depth left = DepthAt b left
FaultAt b kinds.Number left = NumberAt b left

abbrev pub IsFault : List ℕ → Fault → Type 0
IsFault b f = FaultAt b f.kind f.left
