-- The code by which a proof tells two calls apart.
use Rattle.std.specs.Prelude.{◌≡◌, ℕ, List, refl}
use Rattle.std.proofs.Common.{ap}
use Rattle.std.specs.Coded.{Coded, coded_ℕ, coded_list}
use base.Stored.{Gv, gnil, gnum, gcons}
use Rattle.asl_json.specs.private.Code.{coded_data}
use Rattle.asl_intrinsic.specs.Tree.{Argument, constant, quoted, path, call, Arguments, none, argument}

abbrev bytes : Coded (List ℕ)
bytes = coded_list coded_ℕ

abbrev tail : Gv → Gv
tail gnil = gnil
tail (gnum n) = gnil
tail (gcons a b) = b

abbrev head : Gv → Gv
head gnil = gnil
head (gnum n) = gnil
head (gcons a b) = a

abbrev mutual
  pub code : Argument → Gv
  code (constant d) = gcons (gnum 0) (coded_data.code d)
  code (quoted t) = gcons (gnum 1) (bytes.code t)
  code (path t) = gcons (gnum 2) (bytes.code t)
  code (call n ts) = gcons (gnum 3) (gcons (bytes.code n) (code_all ts))

  code_all : Arguments → Gv
  code_all none = gnil
  code_all (argument a ts) = gcons (code a) (code_all ts)

mutual
  pub inj : (x y : Argument) → code x ≡ code y → x ≡ y
  inj (constant a) (constant b) p = ap constant (coded_data.inj a b (ap tail p))
  inj (quoted a) (quoted b) p = ap quoted (bytes.inj a b (ap tail p))
  inj (path a) (path b) p = ap path (bytes.inj a b (ap tail p))
  inj (call n ts) (call m bs) p =
      λ i. call (bytes.inj n m (ap head (ap tail p)) i) (inj_all ts bs (ap tail (ap tail p)) i)
  inj x y p = absurd cc

  inj_all : (x y : Arguments) → code_all x ≡ code_all y → x ≡ y
  inj_all none none p = refl
  inj_all none (argument b bs) p = absurd cc
  inj_all (argument a ts) none p = absurd cc
  inj_all (argument a ts) (argument b bs) p =
      λ i. argument (inj a b (ap head p) i) (inj_all ts bs (ap tail p) i)

abbrev pub coded_argument : Coded Argument
coded_argument = record { code = code; inj = inj }

abbrev pub coded_arguments : Coded (List Argument)
coded_arguments = coded_list coded_argument
