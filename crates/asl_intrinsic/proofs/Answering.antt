-- What a text's reader answers, by the grammar.
use Rattle.std.proofs.Common.{◌≡◌, ℕ, ◌-◌, true, List, [], length, refl, sym, ◌∙◌, ap, subst, inl, inr}
use Rattle.std.specs.Prelude.{Result, Ok, Err, Option, Some, None}
use Rattle.asl_intrinsic.specs.Tree.{Argument}
use Rattle.asl_intrinsic.specs.Grammar.{states_word, SpellsCall, Fits}
use Rattle.asl_intrinsic.specs.private.Steps.{prefix, heard}
use Rattle.asl_intrinsic.specs.Faults.{IsWrongAt, IsFirstWrong, IsFaultOf, IsCall, IsMisfit, first_fault}
use Rattle.asl_intrinsic.specs.Laws.{Means}
use Rattle.asl_intrinsic.specs.Values.{value_by}
use Rattle.asl_intrinsic.specs.private.Keeps.{KeepsOne, Tells}
use Rattle.asl_intrinsic.specs.private.Hears.{HearsTree}
use Rattle.asl_intrinsic.specs.declared.call.Argument as code
use Rattle.asl_intrinsic.specs.declared.frame.Wrong.{Wrong}
use Rattle.asl_intrinsic.specs.declared.expr.CallFault.{CallFault}
use Rattle.asl_intrinsic.specs.declared.expr.CallFault.TheVariants.{Syntax, Unknown, Depth, Arity, OutOfMemory}
use Rattle.asl_intrinsic.proofs.Reaching.{run_spells, at_start}
use Rattle.asl_intrinsic.proofs.Passing.{fitting_heard, heard_fits, one_tree}
use Rattle.asl_intrinsic.proofs.Least.{syntax_unspelled, number_stops_it, first_wrong}

pub heard_spelled : (a : Argument) (t : List ℕ) → heard t ≡ Ok a → SpellsCall a t
heard_spelled a t e = run_spells true (prefix states_word) [] [] t a at_start e

pub heard_fit : (a : Argument) (t : List ℕ) → heard t ≡ Ok a → Fits a
heard_fit a t e = heard_fits a t (heard_spelled a t e) e

pub heard_call : (a : Argument) (t : List ℕ) → heard t ≡ Ok a → first_fault 1 a ≡ None → IsCall t
heard_call a t e f = record { tree = a; spelled = heard_spelled a t e; fits = heard_fit a t e; faultless = f }

heard_misfit : (a : Argument) (t : List ℕ) (fault : CallFault) → heard t ≡ Ok a → first_fault 1 a ≡ Some fault → IsMisfit t fault
heard_misfit a t fault e f = record { tree = a; spelled = heard_spelled a t e; fits = heard_fit a t e; first = f }

pub kept_call : (t : List ℕ) (kept : code.Argument) (r : Result code.Argument Wrong) → r ≡ Ok kept → HearsTree (heard t) r → IsCall t
kept_call t kept r e h = let keeps = subst (λ z. KeepsOne 1 z h.tree) e h.keeps in heard_call h.tree t h.outcome keeps.1

pub tells_misfit : (t : List ℕ) (w : Wrong) (r : Result code.Argument Wrong) (fault : CallFault) → r ≡ Err w → HearsTree (heard t) r → Tells w fault → IsFaultOf t fault
tells_misfit t w r (Syntax at) e h g = absurd g
tells_misfit t w r (Unknown name) e h g = heard_misfit h.tree t (Unknown name) h.outcome (subst (λ z. KeepsOne 1 z h.tree) e h.keeps ∙ ap Some g)
tells_misfit t w r Depth e h g = heard_misfit h.tree t Depth h.outcome (subst (λ z. KeepsOne 1 z h.tree) e h.keeps ∙ ap Some g)
tells_misfit t w r Arity e h g = heard_misfit h.tree t Arity h.outcome (subst (λ z. KeepsOne 1 z h.tree) e h.keeps ∙ ap Some g)
tells_misfit t w r OutOfMemory e h g = tt

-- ---- a call has no fault

pub nowhere_wrong : (t : List ℕ) (a : Argument) (at : ℕ) → SpellsCall a t → Fits a → IsWrongAt t at → ⊥
nowhere_wrong t a at h f (inl w) = syntax_unspelled t at w (record { tree = a; spelled = h })
nowhere_wrong t a at h f (inr w) = let s = number_stops_it t at w in let two = sym (fitting_heard a t h f) ∙ s.stops in cc

no_misfit : (t : List ℕ) (fault : CallFault) → IsMisfit t fault → IsCall t → ⊥
no_misfit t fault h c =
    let same = one_tree h.tree c.tree t h.spelled c.spelled in
    let two : ◌≡◌ {A = Option CallFault} (Some fault) None = sym h.first ∙ ap (first_fault 1) same ∙ c.faultless in
    cc

pub only_memory : (t : List ℕ) (fault : CallFault) → IsFaultOf t fault → IsCall t → fault ≡ OutOfMemory
only_memory t (Syntax at) h c = absurd (nowhere_wrong t c.tree at c.spelled c.fits h.wrong)
only_memory t (Unknown name) h c = absurd (no_misfit t (Unknown name) h c)
only_memory t Depth h c = absurd (no_misfit t Depth h c)
only_memory t Arity h c = absurd (no_misfit t Arity h c)
only_memory t OutOfMemory h c = refl

-- ---- what a text means

pub meaning : (a : Argument) (t : List ℕ) → SpellsCall a t → Fits a → Means t a
meaning a t h f = record { nowhere = λ at w. nowhere_wrong t a at h f w; value = λ x c. ap (λ (z : Result Argument ℕ). value_by z x c) (fitting_heard a t h f) }

pub wrong_elsewhere : (t : List ℕ) → ((a : Argument) → SpellsCall a t → Fits a → ⊥) → (at : ℕ) × IsFirstWrong t at
wrong_elsewhere t h = told (heard t) refl
  where
    told : (o : Result Argument ℕ) → heard t ≡ o → (at : ℕ) × IsFirstWrong t at
    told (Ok a) e = absurd (h a (heard_spelled a t e) (heard_fit a t e))
    told (Err left) e = (length t - left, first_wrong t left e)
