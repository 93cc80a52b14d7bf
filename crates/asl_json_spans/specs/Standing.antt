-- Where the keys and values of a value stand in a text of it, by the grammar.
use Rattle.std.specs.Prelude.{◌≡◌, ℕ, ◌+◌, List, [], ◌∷◌, ◌++◌, length, Option, Some, None}
use Rattle.asl_json_data.specs.Data.{Data}
use Rattle.asl_json_data.specs.Grammar.{Spells}
use Rattle.asl_json_data.specs.Text.{SpellsText}
use Rattle.asl_json_scan.specs.Open.{Frame, in_list, in_dict, IsOpen, AwaitsKey}
use Rattle.asl_json_spans.specs.Places.{Place, place, places, place_at}
use Rattle.asl_json_spans.specs.declared.span.Span.{Span}
use Rattle.asl_json_spans.specs.declared.span.Node.{Node}

-- of the bytes b, those of the span: what stands before them is A, and they are B
pub record Between (A B : List ℕ → Type 0) (b : List ℕ) (s : Span) : Type 0 where
  pub before : List ℕ
  pub inner : List ℕ
  pub behind : List ℕ
  pub parts : b ≡ before ++ (inner ++ behind)
  pub begin_is : s.begin ≡ length before
  pub end_is : s.end ≡ length before + length inner
  pub before_is : A before
  pub inner_is : B inner

-- there stands this value, within these lists and objects
abbrev pub ValueStands : List ℕ → List Frame → Data → Span → Type 0
ValueStands b st d s = Between (IsOpen st) (Spells d) b s

-- there stands its key with the quotes, where it has one
abbrev pub KeyStands : List ℕ → List Frame → Span → Type 0
KeyStands b [] s = Unit {0}
KeyStands b (in_list ds ∷ st) s = Unit {0}
KeyStands b (in_dict ms k ∷ st) s = Between (AwaitsKey st ms) (SpellsText k) b s

-- a value where the outline says, and how many values it is with those in it
pub record Stands (b : List ℕ) (p : Place) (n : Node) : Type 0 where
  pub key : KeyStands b p.within n.key
  pub value : ValueStands b p.within p.value n.value
  pub size : n.size ≡ length (places p.within p.value)

-- each of these values
abbrev pub AllStand : List ℕ → List Place → List Node → Type 0
AllStand b [] [] = Unit {0}
AllStand b [] (n ∷ ns) = ⊥
AllStand b (p ∷ ps) [] = ⊥
AllStand b (p ∷ ps) (n ∷ ns) = Stands b p n × AllStand b ps ns

-- the outline of a text of this value: it says of each value in it where it stands
abbrev pub IsOutline : List ℕ → Data → List Node → Type 0
IsOutline b d ns = AllStand b (places [] d) ns

-- what is found at a place: nothing where no value is, else where it stands
abbrev pub Finds : List ℕ → Option Place → Option Node → Type 0
Finds b None None = Unit {0}
Finds b None (Some n) = ⊥
Finds b (Some p) None = ⊥
Finds b (Some p) (Some n) = Stands b p n

-- the same of each of these places, by the numbers of items and members from the whole value in
abbrev pub AllFind : List ℕ → Data → List (List ℕ) → List (Option Node) → Type 0
AllFind b d [] [] = Unit {0}
AllFind b d [] (n ∷ ns) = ⊥
AllFind b d (is ∷ ps) [] = ⊥
AllFind b d (is ∷ ps) (n ∷ ns) =
    Finds b (place_at (Some (place [] d)) is) n × AllFind b d ps ns
