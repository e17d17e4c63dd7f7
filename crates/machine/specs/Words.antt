-- Words: what each bit says, and the refusals in their order. Assumes nothing.
use Rattle.std.specs.Prelude.{ℕ, ◌/◌, ◌%◌, ◌^◌, cond, Ok, Err, Result, ◌==◌, nat_lt}
use Rattle.machine.specs.declared.answer.Reason.{Reason}
use Rattle.machine.specs.declared.answer.Reason.TheVariants as reason
use Rattle.machine.specs.declared.word.Op.{Op}
use Rattle.machine.specs.declared.word.Op.TheVariants.{Insert, Delete, Contains, Push, Pop}
use Rattle.machine.specs.declared.word.Kind.{Kind}
use Rattle.machine.specs.declared.word.Kind.TheVariants.{Step, Begin}
use Rattle.machine.specs.declared.word.Word.{Word}
use Rattle.machine.specs.declared.word.Word.TheVariants.{Tidy, Of}

-- the bits that have to be zero, as a number
abbrev pub spare_plain : ℕ → ℕ
spare_plain w = w % 2 ^ 24

abbrev pub spare_item : ℕ → ℕ
spare_item w = w / 2 ^ 16 % 2 ^ 8

abbrev pub spare_tidy : ℕ → ℕ
spare_tidy w = w % 2 ^ 29

abbrev pub session_of : ℕ → ℕ
session_of w = w / 2 ^ 24 % 2 ^ 5

abbrev pub place_of : ℕ → ℕ
place_of w = w % 2 ^ 16

abbrev pub for_session : ℕ → ℕ → ℕ → Kind → Result Word Reason
for_session spare s sessions k = cond (spare == 0) (cond (nat_lt s sessions) (Ok (Of s k)) (Err reason.NoSession)) (Err reason.SpareBits)

abbrev pub for_item : ℕ → ℕ → ℕ → ℕ → ℕ → Op → Result Word Reason
for_item spare s sessions p items op =
    cond (spare == 0)
    (cond (nat_lt s sessions) (cond (nat_lt p items) (Ok (Of s (Begin op))) (Err reason.NoPlace)) (Err reason.NoSession))
    (Err reason.SpareBits)

abbrev for_all : ℕ → Result Word Reason
for_all spare = cond (spare == 0) (Ok Tidy) (Err reason.SpareBits)

abbrev pub parsed_kind : ℕ → ℕ → ℕ → ℕ → Result Word Reason
parsed_kind n w sessions items =
    cond (n == 0) (for_session (spare_plain w) (session_of w) sessions Step)
    (cond (n == 1) (for_item (spare_item w) (session_of w) sessions (place_of w) items (Insert (place_of w)))
    (cond (n == 2) (for_item (spare_item w) (session_of w) sessions (place_of w) items (Delete (place_of w)))
    (cond (n == 3) (for_item (spare_item w) (session_of w) sessions (place_of w) items (Contains (place_of w)))
    (cond (n == 4) (for_item (spare_item w) (session_of w) sessions (place_of w) items (Push (place_of w)))
    (cond (n == 5) (for_session (spare_plain w) (session_of w) sessions (Begin Pop))
    (cond (n == 6) (for_all (spare_tidy w)) (Err reason.Kind)))))))

unfoldable pub parsed : ℕ → ℕ → ℕ → Result Word Reason
parsed w sessions items = parsed_kind (w / 2 ^ 29) w sessions items
