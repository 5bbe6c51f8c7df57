use Rattle.std.proofs.Common.{◌≡◌, ◌-◌, ◌^◌, ◌≤◌, min, drop}
use Rattle.std.specs.Str.{all_ascii_digits}
use Rattle.std.specs.Str.Parse.{digits_value_after}
use Rattle.leg_lex.proofs.number.followed_by.Given as goal

abbrev pub invariant-loop-digit : goal.invariant-loop-digit
invariant-loop-digit l = record {
  digits : all_ascii_digits (drop l.digit-index l.digits) ≡ all_ascii_digits l.digits;
  fits : l.number ≤ 2 ^ 64 - 1;
  number : min (digits_value_after 10 l.number (drop l.digit-index l.digits)) (2 ^ 64 - 1) ≡ min (digits_value_after 10 l.fn.number l.digits) (2 ^ 64 - 1);
}
