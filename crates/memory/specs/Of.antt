-- The code's memory as the machine's: the array of cells as maps from cell numbers, the free stack with its top first.
use Rattle.std.specs.Prelude.{ℕ, min, Bool, false, List, None, Option, slice_index_or}
use Rattle.reclaim.specs.Model.{Model}
use Rattle.machine.specs.declared.cell.Cell.{Cell}
use Rattle.machine.specs.declared.cell.Link.{Link}
use Rattle.machine.specs.Machine.{as_memory, counting, put}
use Rattle.machine.specs.Machine as machine
use Rattle.memory.specs.declared.memory.Memory.{Memory}

abbrev pub no_cell : Cell
no_cell = record { place = 0; link = record { marked = false; to = None } }

unfoldable pub links : List Cell → ℕ → Option ℕ
links xs c = (slice_index_or xs c no_cell).link.to

unfoldable pub marks : List Cell → ℕ → Bool
marks xs c = (slice_index_or xs c no_cell).link.marked

unfoldable pub places : List Cell → ℕ → ℕ
places xs c = (slice_index_or xs c no_cell).place

abbrev pub memory_of : {R S : Type 0} → (R → S) → Memory R → machine.Memory S
memory_of st m =
    as_memory (st m.reclaimer) m.head m.front m.free (links m.cells) (marks m.cells) (places m.cells)

-- nothing linked, every cell free; there are 256 at most
abbrev pub all_free : {S : Type 0} → Model S → S → machine.Memory S
all_free M x = as_memory x None None (counting 0 (min (M.cells x) 256)) (λ c. None) (λ c. false) (λ c. 0)

-- one cell written: its link and mark, its mark alone, all of it
abbrev pub with_link : {S : Type 0} → machine.Memory S → ℕ → Link → machine.Memory S
with_link h c l = as_memory h.reclaimer h.head h.front h.free (put h.link c l.to) (put h.mark c l.marked) h.item

abbrev pub with_mark : {S : Type 0} → machine.Memory S → ℕ → Bool → machine.Memory S
with_mark h c m = as_memory h.reclaimer h.head h.front h.free h.link (put h.mark c m) h.item

abbrev pub with_cell : {S : Type 0} → machine.Memory S → ℕ → Cell → machine.Memory S
with_cell h c x =
    as_memory h.reclaimer h.head h.front h.free (put h.link c x.link.to) (put h.mark c x.link.marked) (put h.item c x.place)
