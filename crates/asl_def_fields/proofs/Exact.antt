-- `==` of each type is true exactly where two values are one.
use Rattle.std.proofs.Common.{◌≡◌, true, refl, ap}
use Rattle.std.specs.Option.{option_eq}
use Rattle.asl_json.specs.Same.{bytes_eq}
use Rattle.asl_def_fields.specs.Equal.{IsExact}
use Rattle.asl_def_fields.specs.private.EqualLaws.{split, exact, options_exact, texts_exact, names_exact}
use Rattle.asl_def_fields.specs.declared.path.PathField.{PathField}
use Rattle.asl_def_fields.specs.declared.path.PathField.TheVariants.{Whole, Nowhere, At}
use Rattle.asl_def_fields.specs.declared.path.PathOrCall.{PathOrCall}
use Rattle.asl_def_fields.specs.declared.path.PathOrCall.TheVariants.{Path, Call}
use Rattle.asl_def_fields.specs.declared.jitter.JitterStrategy.{JitterStrategy}
use Rattle.asl_def_fields.specs.declared.jitter.JitterStrategy.TheVariants as jitter
use Rattle.asl_def_fields.specs.declared.processor.Mode.{Mode}
use Rattle.asl_def_fields.specs.declared.processor.Mode.TheVariants.{Inline}
use Rattle.asl_def_fields.specs.declared.processor.ProcessorConfig.{ProcessorConfig}
use Rattle.asl_def_fields.specs.declared.retry.Retrier.{Retrier}
use Rattle.asl_def_fields.specs.contracts.path.PathFieldEq.TheImpl.Laws as path_laws
use Rattle.asl_def_fields.specs.contracts.path.PathOrCallEq.TheImpl.Laws as path_or_call_laws
use Rattle.asl_def_fields.specs.contracts.jitter.JitterStrategyEq.TheImpl.Laws as jitter_laws
use Rattle.asl_def_fields.specs.contracts.processor.ModeEq.TheImpl.Laws as mode_laws
use Rattle.asl_def_fields.specs.contracts.processor.ProcessorConfigEq.TheImpl.Laws as config_laws
use Rattle.asl_def_fields.specs.contracts.retry.RetrierEq.TheImpl.Laws as retrier_laws
use Rattle.asl_def_fields.specs.Laws.{path_eq, path_or_call_eq, mode_eq, config_eq, jitter_eq, retrier_eq}

pub path_exact : IsExact path_eq
path_exact = exact path_eq path_laws.laws-law by
  where
    by : (p q : PathField) → path_eq p q ≡ true → p ≡ q
    by Whole Whole e = refl
    by Nowhere Nowhere e = refl
    by (At p) (At q) e = ap At ((texts_exact p q).0 e)
    by p q e = absurd cc

pub path_or_call_exact : IsExact path_or_call_eq
path_or_call_exact = exact path_or_call_eq path_or_call_laws.laws-law by
  where
    by : (p q : PathOrCall) → path_or_call_eq p q ≡ true → p ≡ q
    by (Path p) (Path q) e = ap Path ((texts_exact p q).0 e)
    by (Call p) (Call q) e = ap Call ((texts_exact p q).0 e)
    by p q e = absurd cc

pub mode_exact : IsExact mode_eq
mode_exact = exact mode_eq mode_laws.laws-law by
  where
    by : (a b : Mode) → mode_eq a b ≡ true → a ≡ b
    by Inline Inline e = refl

pub config_exact : IsExact config_eq
config_exact = exact config_eq config_laws.laws-law by
  where
    by : (a b : ProcessorConfig) → config_eq a b ≡ true → a ≡ b
    by a b e = let h : a.mode ≡ b.mode = (options_exact mode_eq mode_exact a.mode b.mode).0 e in λ i. record { mode = h i }

pub jitter_exact : IsExact jitter_eq
jitter_exact = exact jitter_eq jitter_laws.laws-law by
  where
    by : (a b : JitterStrategy) → jitter_eq a b ≡ true → a ≡ b
    by jitter.Full jitter.Full e = refl
    by jitter.None jitter.None e = refl
    by a b e = absurd cc

pub retrier_exact : IsExact retrier_eq
retrier_exact = exact retrier_eq retrier_laws.laws-law by
  where
    by : (x y : Retrier) → retrier_eq x y ≡ true → x ≡ y
    by x y e =
        let a = split _ _ e in
        let b = split _ _ a.1 in
        let c = split _ _ b.1 in
        let d = split _ _ c.1 in
        let f = split _ _ d.1 in
        let g = split _ _ f.1 in
        let texts : IsExact (option_eq bytes_eq) = options_exact bytes_eq texts_exact in
        λ i. record {
          comment = (texts x.comment y.comment).0 a.0 i;
          errors = (names_exact x.errors y.errors).0 b.0 i;
          interval = (texts x.interval y.interval).0 c.0 i;
          attempts = (texts x.attempts y.attempts).0 d.0 i;
          rate = (texts x.rate y.rate).0 f.0 i;
          delay_limit = (texts x.delay_limit y.delay_limit).0 g.0 i;
          jitter = (options_exact jitter_eq jitter_exact x.jitter y.jitter).0 g.1 i;
        }
