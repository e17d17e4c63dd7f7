-- A word that was put together is read as what it was put together from.
use Rattle.std.proofs.Common.{◌≡◌, ℕ, ◌+◌, ◌*◌, ◌/◌, ◌%◌, ◌^◌, ◌<◌, Ok, arith, rules}
use Rattle.machine.specs.Words.{parsed, session_of, place_of, spare_plain, spare_item}
use Rattle.schedule.specs.declared.word.WordKind.{WordKind}
use Rattle.schedule.specs.declared.word.WordKind.TheVariants.{Step, Insert, Delete, Contains, Push, Pop, Tidy}
use Rattle.schedule.specs.Words.{encoded, Fitting, meant}

-- the parts of a word whose session has five bits and whose place has sixteen
record Parts (n s p w : ℕ) : Type 0 where
  kind : w / 2 ^ 29 ≡ n
  session : session_of w ≡ s
  place : place_of w ≡ p
  item : spare_item w ≡ 0
  plain : spare_plain w ≡ p

parts : (n s p : ℕ) → s < 32 → p < 2 ^ 16 → Parts n s p (n * 2 ^ 29 + s % 2 ^ 5 * 2 ^ 24 + p)
parts n s p hs hp =
    record { kind = omega arith; session = omega arith; place = omega arith; item = omega arith; plain = omega arith }

pub parsed_encoded : (k : WordKind) (s p sessions items : ℕ) → Fitting k s p sessions items → parsed (encoded k s p) sessions items ≡ Ok (meant k s p)
unfolding parsed
parsed_encoded Step s p sessions items h = let q = parts 0 s p h.1 (omega arith) in search rules
parsed_encoded Insert s p sessions items h = let q = parts 1 s p h.1 h.3 in search rules
parsed_encoded Delete s p sessions items h = let q = parts 2 s p h.1 h.3 in search rules
parsed_encoded Contains s p sessions items h = let q = parts 3 s p h.1 h.3 in search rules
parsed_encoded Push s p sessions items h = let q = parts 4 s p h.1 h.3 in search rules
parsed_encoded Pop s p sessions items h = let q = parts 5 s p h.1 (omega arith) in search rules
parsed_encoded Tidy s p sessions items h = let e = h.0 in let f = h.1 in search rules
