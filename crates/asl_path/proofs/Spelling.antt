-- Laws of path texts, by what the machine answers of them.
use Rattle.std.proofs.Common.{◌≡◌, ℕ, List, refl, sym, ◌∙◌, ap, Some, None}
use Rattle.std.specs.Prelude.{Result, Ok, Err}
use Rattle.asl_json_data.specs.Data.{Data}
use Rattle.asl_path.specs.declared.step.Root.{Root}
use Rattle.asl_path.specs.declared.step.Step.{Step}
use Rattle.asl_path.specs.private.Steps.{steps}
use Rattle.asl_path.specs.Paths.{at_by, put_by}
use Rattle.asl_path.specs.Walk.{at}
use Rattle.asl_path.specs.Grammar.{SpellsPath, IsPath}
use Rattle.asl_path.specs.Faults.{IsFaultOf}
use Rattle.asl_path.specs.Laws.{Means, MeansNothing, AreApart}
use Rattle.asl_path.specs.declared.path.PathFault.{PathFault}
use Rattle.asl_path.specs.declared.path.PathFault.TheVariants.{PathProfile, OutOfMemory}
use Rattle.asl_path.proofs.Passing.{path_passes}
use Rattle.asl_path.proofs.Judging.{read_spells, path_faultless}
use Rattle.asl_path.proofs.Putting.{at_put, put_again, put_same, put_fails}
use Rattle.asl_path.proofs.Apart.{at_apart}

pub there_by : (o : Result (Root × List Step) ℕ) (v r w : Data) → put_by v r o ≡ Some w → at_by w o ≡ Some r
there_by (Ok x) v r w h = at_put x.1 v w r h
there_by (Err left) v r w h = absurd cc

pub last_by : (o : Result (Root × List Step) ℕ) (v q r w : Data) → put_by v q o ≡ Some w → put_by w r o ≡ put_by v r o
last_by (Ok x) v q r w h = put_again x.1 v w q r h
last_by (Err left) v q r w h = refl

pub same_by : (o : Result (Root × List Step) ℕ) (v r : Data) → at_by v o ≡ Some r → put_by v r o ≡ Some v
same_by (Ok x) v r h = put_same x.1 v r h
same_by (Err left) v r h = absurd cc

pub rest_by : (ss us : List Step) (o p : Result (Root × List Step) ℕ) (a b : Root) → o ≡ Ok (a, ss) → p ≡ Ok (b, us) → AreApart ss us → (v r w : Data) → put_by v r o ≡ Some w → at_by w p ≡ at_by v p
rest_by ss us o p a b e f apart v r w h = ap (at_by w) f ∙ at_apart ss us apart v w r (sym (ap (put_by v r) e) ∙ h) ∙ sym (ap (at_by v) f)

pub place_by : (o : Result (Root × List Step) ℕ) (v q r : Data) → put_by v q o ≡ None → put_by v r o ≡ None
place_by (Ok x) v q r h = put_fails x.1 v q r h
place_by (Err left) v q r h = refl

root_is : (r s : Root) (us ss : List Step) (t : List ℕ) → steps t ≡ Ok (r, us) → steps t ≡ Ok (s, ss) → (r ≡ s) × (us ≡ ss)
root_is r s us ss t e f = let pair : ◌≡◌ {A = Root × List Step} (r, us) (s, ss) = cc in (ap (λ (p : Root × List Step). p.0) pair, ap (λ (p : Root × List Step). p.1) pair)

pub meaning : (root : Root) (ss : List Step) (t : List ℕ) → SpellsPath root ss t → Means t root ss
meaning root ss t h =
    let e = path_passes root ss t h in
    record {
      only_root = λ r us g. (root_is r root us ss t (path_passes r us t g) e).0;
      only_steps = λ r us g. (root_is r root us ss t (path_passes r us t g) e).1;
      part = λ v. ap (at_by v) e;
      with = λ v r. ap (put_by v r) e;
    }

pub meaningless : (t : List ℕ) → (IsPath t → ⊥) → (o : Result (Root × List Step) ℕ) → steps t ≡ o → MeansNothing t
meaningless t h (Ok x) e = absurd (h (record { root = x.0; steps = x.1; spelled = read_spells t x.0 x.1 e }))
meaningless t h (Err left) e = record { part = λ v. ap (at_by v) e; with = λ v r. ap (put_by v r) e }

pub only_memory : (t : List ℕ) (fault : PathFault) → IsFaultOf t fault → IsPath t → fault ≡ OutOfMemory
only_memory t (PathProfile at) h p = absurd (path_faultless t at h p)
only_memory t OutOfMemory h p = refl
