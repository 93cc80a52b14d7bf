use Rattle.std.proofs.Common.{inl, inr, refl, codes}
use Rattle.asl_cli.proofs.serving.serve.Goals as goal

pub returns-in-Err-Input-Unreadable : goal.returns-in-Err-Input-Unreadable
returns-in-Err-Input-Unreadable g c = inr (inr (codes "file standard input", rw c.in-Err-Input-Unreadable.field-0-is at c.in-Err-Input-Unreadable.ensures.err, inl refl, c.refuse.ensures.status, c.refuse.ensures.told))

pub returns-in-Err-Input-OutOfMemory : goal.returns-in-Err-Input-OutOfMemory
returns-in-Err-Input-OutOfMemory g c = inr (inr (codes "OutOfMemory", rw c.in-Err-Input-OutOfMemory.field-0-is at c.in-Err-Input-OutOfMemory.ensures.err, inr refl, c.refuse-in-Err-Input-OutOfMemory.ensures.status, c.refuse-in-Err-Input-OutOfMemory.ensures.told))

pub returns-in-Err-OutOfMemory : goal.returns-in-Err-OutOfMemory
returns-in-Err-OutOfMemory g c = inr (inr (codes "OutOfMemory", rw c.in-Err-OutOfMemory.field-0-is at c.in-Err-OutOfMemory.ensures.err, inr refl, c.refuse-in-Err-OutOfMemory.ensures.status, c.refuse-in-Err-OutOfMemory.ensures.told))
