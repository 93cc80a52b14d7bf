-- An object is made of named values, one by one.
use Rattle.std.proofs.Common.{◌≡◌, ℕ, List, [], ◌∷◌, ◌++◌, Bool, true, false, refl, sym, ◌∙◌}
use Rattle.std.specs.Prelude.{Option, Some, None, not, ◌&&◌, ◌||◌, nat_eq, option_map}
use Rattle.std.specs.Cmp.Lexicographic.{pointwise}
use Rattle.std.proofs.lemmas.List.{append-nil}
use Rattle.std.proofs.Common.{append_assoc}
use Rattle.asl_json_data.specs.Data.{Data}
use Rattle.asl_json.specs.View.{data_of}
use Rattle.asl_json.specs.declared.value.Json.{Json}
use Rattle.asl_json_data.specs.Distinct.{has_key}
use Rattle.asl_def_schema.specs.Canon.{Named, present}
use Rattle.asl_def_schema.specs.Members.{is_among}
use Rattle.asl_def_fields.specs.Entries.{are_apart}

-- what was made so far goes before what is left, of which no name is there yet
pub record IsOnTheWay (all : List (List ℕ × Option Data)) (made : List Named) (left : List (List ℕ × Option Data)) : Type 0 where
  pub seen : List (List ℕ)
  pub covered : (k : List ℕ) → is_among k seen ≡ false → has_key k made ≡ false
  pub apart : are_apart seen left ≡ true
  pub makes : made ++ present left ≡ present all

and_left : (a b : Bool) → (not a && b) ≡ true → a ≡ false
and_left true b h = absurd cc
and_left false b h = refl

and_right : (a b : Bool) → (not a && b) ≡ true → b ≡ true
and_right true b h = absurd cc
and_right false b h = h

or_left : (a b : Bool) → (a || b) ≡ false → a ≡ false
or_left true b h = absurd cc
or_left false b h = refl

or_right : (a b : Bool) → (a || b) ≡ false → b ≡ false
or_right true b h = absurd cc
or_right false b h = h

has_key-push : (k : List ℕ) (ms : List Named) (m : Named) → has_key k ms ≡ false → pointwise nat_eq k m.0 ≡ false → has_key k (ms ++ m ∷ []) ≡ false
has_key-push k [] m h e = rw e refl
has_key-push k (x ∷ ms) m h e = rw (or_left (pointwise nat_eq k x.0) (has_key k ms) h, has_key-push k ms m (or_right (pointwise nat_eq k x.0) (has_key k ms) h) e) refl

pub begins : (all : List (List ℕ × Option Data)) → are_apart [] all ≡ true → IsOnTheWay all [] all
begins all h = record { seen = []; covered = λ k e. refl; apart = h; makes = refl }

-- the name of the next is new
pub is_new : (all : List (List ℕ × Option Data)) (made : List Named) (e : List ℕ × Option Data) (left : List (List ℕ × Option Data)) → IsOnTheWay all made (e ∷ left) → has_key e.0 made ≡ false
is_new all made e left h = h.covered e.0 (and_left (is_among e.0 h.seen) (are_apart (e.0 ∷ h.seen) left) h.apart)

pub absent : (all : List (List ℕ × Option Data)) (made : List Named) (k : List ℕ) (left : List (List ℕ × Option Data)) → IsOnTheWay all made ((k, None) ∷ left) → IsOnTheWay all made left
absent all made k left h = record {
  seen = k ∷ h.seen;
  covered = λ l e. h.covered l (or_right (pointwise nat_eq l k) (is_among l h.seen) e);
  apart = and_right (is_among k h.seen) (are_apart (k ∷ h.seen) left) h.apart;
  makes = h.makes;
}

pub there : (all : List (List ℕ × Option Data)) (made : List Named) (k : List ℕ) (d : Data) (left : List (List ℕ × Option Data)) → IsOnTheWay all made ((k, Some d) ∷ left) → IsOnTheWay all (made ++ (k, d) ∷ []) left
there all made k d left h = record {
  seen = k ∷ h.seen;
  covered = λ l e. has_key-push l made (k, d) (h.covered l (or_right (pointwise nat_eq l k) (is_among l h.seen) e)) (or_left (pointwise nat_eq l k) (is_among l h.seen) e);
  apart = and_right (is_among k h.seen) (are_apart (k ∷ h.seen) left) h.apart;
  makes = append_assoc made ((k, d) ∷ []) (present left) ∙ h.makes;
}

pub ends : (all : List (List ℕ × Option Data)) (made : List Named) → IsOnTheWay all made [] → made ≡ present all
ends all made h = sym (append-nil made) ∙ h.makes

pub pushed : (all : List (List ℕ × Option Data)) (made new : List Named) (name key : List ℕ) (o : Option Json) (v : Json) (left : List (List ℕ × Option Data)) → IsOnTheWay all made ((name, option_map data_of o) ∷ left) → o ≡ Some v → key ≡ name → new ≡ made ++ (key, data_of v) ∷ [] → IsOnTheWay all new left
pushed all made new name key o v left h found named is = rw (is, named) (there all made name (data_of v) left (rw found at h))
