-- The parts of a machine in the newer spelling.
use Rattle.std.proofs.Common.{◌≡◌, ℕ, List, sym, ap, ◌∙◌, subst}
use Rattle.asl_def_schema.specs.Canon.{Named, canonical}
use Rattle.asl_def_schema.specs.Faults.{Accepted}
use Rattle.asl_def_shared.specs.declared.body.Body.{Body}
use Rattle.asl_def_shared.specs.declared.heading.Heading.{Heading}
use Rattle.asl_def_shared.specs.Bodies.{machine_of, IsWithin}
use Rattle.asl_def.specs.Machines.{states_of}
use Rattle.asl_def.specs.Whole.{IsWhole}
use Rattle.asl_def.specs.Upgraded.{upgraded, newer_rows}
use Rattle.asl_def.proofs.NewerStates.{states_upgraded, rows_counted}
use Rattle.asl_def.proofs.NewerShown.{machine_shown_newer}
use Rattle.asl_def.proofs.Upgrading.{accepted_upgraded, canonical_upgraded}

pub whole_upgraded : (t : List Named) (h : Heading) (b : Body) → IsWhole t h b → IsWhole (newer_rows t) h b
whole_upgraded t h b w = record {
  all = ap newer_rows w.all ∙ sym (states_upgraded (machine_of t h b)) ∙ ap states_of (machine_shown_newer t h b);
  within = subst (λ (n : ℕ). IsWithin n b) (sym (rows_counted t)) w.within;
  accepted = subst Accepted (machine_shown_newer t h b) (accepted_upgraded (machine_of t h b) w.accepted);
  stays = ap canonical (sym (machine_shown_newer t h b)) ∙ canonical_upgraded (machine_of t h b) w.accepted ∙ ap upgraded w.stays ∙ machine_shown_newer t h b;
}

-- over a table that was renewed
pub shown_renewed : (t u : List Named) (h : Heading) (b : Body) → u ≡ newer_rows t → machine_of u h b ≡ upgraded (machine_of t h b)
shown_renewed t u h b e = ap (λ (v : List Named). machine_of v h b) e ∙ sym (machine_shown_newer t h b)

pub whole_renewed : (t u : List Named) (h : Heading) (b : Body) → u ≡ newer_rows t → IsWhole t h b → IsWhole u h b
whole_renewed t u h b e w = subst (λ (v : List Named). IsWhole v h b) (sym e) (whole_upgraded t h b w)
