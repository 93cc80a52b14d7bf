use Rattle.asl_json.proofs.Pushing.{still_distinct}
use Rattle.std.proofs.Common.{◌≡◌, false, subst, sym, refl}
use Rattle.std.specs.Prelude.{List, ℕ}
use Rattle.asl_json_data.specs.Data.{Data}
use Rattle.asl_json_data.specs.Distinct.{has_key}
use Rattle.asl_json.proofs.value.Members.push.Goals as goal

pub invariant_of-self-2 : goal.invariant_of-self-2
invariant_of-self-2 c =
    let ms = c.self.inside.members.items in
    let fresh = subst (λ (z : List (List ℕ × Data)). has_key c.args.key z ≡ false) (sym c.self.view_is) c.requires in
    still_distinct ms ms c.push.new.self.items _ refl c.in_ok-push.ensures.items c.self.invariant fresh
