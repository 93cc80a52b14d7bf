-- Document order.
use Rattle.std.specs.Prelude.{List, [], ◌∷◌, Bool, true, false, ◌||◌, ◌&&◌, ◌==◌, nat_lt}
use Rattle.asl_def_schema.specs.declared.fault.Step.{Step}

-- a place is the other one or stands before it: what holds a value stands before it, and members
-- and items stand by their numbers
abbrev pub is_up_to : List Step → List Step → Bool
is_up_to [] us = true
is_up_to (t ∷ ts) [] = false
is_up_to (t ∷ ts) (u ∷ us) = nat_lt t.at u.at || ((t.at == u.at) && is_up_to ts us)
