-- What a part of a file gives, as a loop takes it.
use Rattle.std.proofs.Common.{◌≡◌, List, [], subst}
use Rattle.std.specs.Prelude.{Option, Some, None, true, false, Result, Ok, Err}
use Rattle.asl_mock.specs.Places.{Place, first_of}
use Rattle.asl_mock.specs.Gives.{Gives}
use Rattle.asl_json_data.specs.Data.{Data}
use Rattle.asl_mock.specs.Answers.{with_answer}
use Rattle.asl_mock.specs.private.Apart.{AreApart, any_has, Added}
use Rattle.asl_mock.specs.declared.key.Span.{Span}
use Rattle.asl_mock.specs.declared.response.Ranged.{Ranged}
use Rattle.std.specs.declared.vec.Vec.{Vec}

pub gives_first : {X Y : Type 0} (view : X → Y) (y : Y) (ps : List Place) (r : Result X Place) (p : Place) → Gives view y ps r → r ≡ Err p → first_of ps ≡ Some p
gives_first view y ps r p h e = subst (Gives view y ps) e h

pub gives_value : {X Y : Type 0} (view : X → Y) (y : Y) (ps : List Place) (r : Result X Place) (x : X) → Gives view y ps r → r ≡ Ok x → (ps ≡ []) × (view x ≡ y)
gives_value view y ps r x h e = subst (Gives view y ps) e h

pub added_none : {Y : Type 0} (s : Option Span) (d : Data) (rs : List Ranged) (o : Option (Vec Ranged Y)) → Added s d rs o → o ≡ None → any_has s rs ≡ true
added_none s d rs o h e = subst (Added s d rs) e h

pub added_some : {Y : Type 0} (s : Option Span) (d : Data) (rs : List Ranged) (o : Option (Vec Ranged Y)) (v : Vec Ranged Y) → Added s d rs o → o ≡ Some v → (v.items ≡ with_answer s d rs) × (AreApart v.items × (any_has s rs ≡ false))
added_some s d rs o v h e = subst (Added s d rs) e h
