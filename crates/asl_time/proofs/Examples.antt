-- What the definition of a text's moment gives for some texts, by computation.
use Rattle.std.proofs.Common.{◌≡◌, [], pos, neg_ℤ, Some, None, refl}
use Rattle.std.specs.Prelude.{codes}
use Rattle.jiff_core.specs.Calendar.{days_from_civil, day_count, days_of_years, days_of_months}
use Rattle.asl_time.specs.Stamp.{digits}
use Rattle.asl_time.specs.Fields.{fields_in, text_of, ahead_of_utc, thousandths_of, millis_of, moment_in}

year_of_rfc : (fields_in (codes "1985-04-12T23:20:50.52Z")).year ≡ 1985
unfolding fields_in
year_of_rfc = refl

fraction_of_rfc : (fields_in (codes "1985-04-12T23:20:50.52Z")).fraction ≡ codes "52"
unfolding fields_in
fraction_of_rfc = refl

offset_of_rfc : (fields_in (codes "1996-12-19T16:39:57-08:00")).offset ≡ codes "-08:00"
unfolding fields_in
offset_of_rfc = refl

no_fraction : (fields_in (codes "1996-12-19T16:39:57-08:00")).fraction ≡ []
unfolding fields_in
no_fraction = refl

behind_utc : ahead_of_utc (codes "-08:30") ≡ Some (neg_ℤ (pos 510))
unfolding ahead_of_utc digits
behind_utc = refl

ahead_of_it : ahead_of_utc (codes "+05:45") ≡ Some (pos 345)
unfolding ahead_of_utc digits
ahead_of_it = refl

unknown_offset : ahead_of_utc (codes "-00:00") ≡ Some (pos 0)
unfolding ahead_of_utc digits
unknown_offset = refl

past_the_day : ahead_of_utc (codes "+24:00") ≡ None
unfolding ahead_of_utc digits
past_the_day = refl

lower_case : ahead_of_utc (codes "z") ≡ None
unfolding ahead_of_utc digits
lower_case = refl

half : thousandths_of (codes "52") ≡ 520
unfolding thousandths_of
half = refl

up : thousandths_of (codes "1230000001") ≡ 124
unfolding thousandths_of
up = refl

whole : thousandths_of (codes "9999") ≡ 1000
unfolding thousandths_of
whole = refl

nothing : thousandths_of [] ≡ 0
unfolding thousandths_of
nothing = refl

moment_of_rfc : moment_in (codes "1985-04-12T23:20:50.52Z") ≡ Some 482_196_050_520
unfolding moment_in fields_in text_of ahead_of_utc thousandths_of millis_of digits days_from_civil day_count days_of_years days_of_months
moment_of_rfc = refl

no_leap_day : moment_in (codes "2023-02-29T00:00:00Z") ≡ None
unfolding moment_in fields_in text_of ahead_of_utc thousandths_of millis_of digits days_from_civil day_count days_of_years days_of_months
no_leap_day = refl
