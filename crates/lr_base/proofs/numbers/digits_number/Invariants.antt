use Rattle.std.proofs.Common.{◌≡◌, ◌<◌, ◌^◌, take}
use Rattle.std.specs.Str.Parse.{AllDigits, digits_value}
use Rattle.lr_base.proofs.numbers.digits_number.Given as goal

-- the bytes so far are digits, and their value is the number, which fits
abbrev pub invariant-loop-digit : goal.invariant-loop-digit
invariant-loop-digit l =
    record {
      digits : AllDigits 10 (take l.digit-index l.text);
      value : digits_value 10 (take l.digit-index l.text) ≡ l.number;
      fits : l.number < 2 ^ 64;
    }
