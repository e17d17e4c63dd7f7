-- Hexadecimal digits: how large a few of them can be, and a raw word.
use Rattle.std.proofs.Common.{◌≡◌, ℕ, zero, suc, ◌^◌, ◌<◌, ◌≤◌, List, [], ◌∷◌, ◌++◌, length, get_or, drop, Some, None, codes, Option, arith, lit<, rules, refl, ap, sym, ◌∙◌}
use native.Mathlib.Nat.{pow-le-pow_right}
use Rattle.std.specs.Option.{SomeIff}
use Rattle.std.specs.Str.Pattern.{StripsPrefix, FindsTextPrefix}
use Rattle.std.specs.Str.Parse.{AllDigits, digits_value}
use Rattle.std.specs.Char.{digit_value}
use Rattle.std.proofs.lemmas.Int.Digits.{digits_value-lt}
use Rattle.schedule.specs.Numbers.{Hexadecimal, RawWord}

pub digit_at : (radix : ℕ) (text : List ℕ) (i : ℕ) → AllDigits radix text → i < length text → digit_value (get_or text i 0) < radix
digit_at radix [] i d h = absurd (search rules)
digit_at radix (b ∷ text) zero d h = d.0
digit_at radix (b ∷ text) (suc i) d h = digit_at radix text i d.1 (omega arith)

-- seven hexadecimal digits write a number below 2 ^ 28
pub seven_digits : (text : List ℕ) → AllDigits 16 text → length text ≤ 7 → digits_value 16 text < 2 ^ 28
seven_digits text d h =
    let p : 16 ^ length text ≤ 16 ^ 7 = pow-le-pow_right (lit< tt) h in omega (arith, digits_value-lt 16 text d)

after_prefix : (digits : List ℕ) (r : Option ℕ) → SomeIff r (Hexadecimal digits) (digits_value 16 digits) → SomeIff r (RawWord (codes "0x" ++ digits)) (digits_value 16 digits)
after_prefix digits None n = λ w. n w.1
after_prefix digits (Some x) y = ((refl, y.0), y.1)

-- past `0x` a raw word is read as its digits are
pub raw : (text digits : List ℕ) (r : Option ℕ) → StripsPrefix (FindsTextPrefix (codes "0x")) text digits → SomeIff r (Hexadecimal digits) (digits_value 16 digits) → SomeIff r (RawWord text) (digits_value 16 (drop 2 text))
raw text digits r p y =
    let e : text ≡ codes "0x" ++ digits = p.1.1 ∙ ap (λ d. codes "0x" ++ d) (sym p.2) in rw e (after_prefix digits r y)
