-- Taking a fresh cell: the top of the free stack, else what collect answers; and collecting to the end.
use Rattle.std.specs.Prelude.{◌≡◌, ℕ, List, [], ◌∷◌, Some, None, Option}
use Rattle.reclaim.specs.Model.{Model}
use Rattle.machine.specs.Machine.{Memory, as_memory, collected}

abbrev pub top_of : List ℕ → Option ℕ
top_of [] = None
top_of (c ∷ l) = Some c

abbrev pub under_top : List ℕ → List ℕ
under_top [] = []
under_top (c ∷ l) = l

abbrev pub took : {S : Type 0} → Model S → Memory S → Option ℕ → Memory S × Option ℕ
took M h None = (collected M h, M.picks h.reclaimer)
took M h (Some c) = (as_memory h.reclaimer h.head h.front (under_top h.free) h.link h.mark h.item, Some c)

abbrev pub takes : {S : Type 0} → Model S → Memory S → Memory S × Option ℕ
takes M h = took M h (top_of h.free)

-- the last collect answered none, and left the reclaimer so
abbrev pub EndedAtNone : {S : Type 0} → Model S → S → Type 0
EndedAtNone {S} M x = (before : S) × (M.picks before ≡ None) × (M.collects before ≡ x)
