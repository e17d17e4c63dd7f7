-- The turn of a session: the memory that it is at, and what it has come to.
use Rattle.std.specs.Prelude.{◌≡◌}
use Rattle.machine.specs.declared.answer.Answer.{Answer}
use Rattle.machine.specs.Machine as machine
use Rattle.memory.specs.declared.turn.Turn.{Turn}
use Rattle.memory.specs.Of.{memory_of}

abbrev pub memory_at : {R S : Type 0} → (R → S) → Turn R → machine.Memory S
memory_at st turn = memory_of st turn.memory.now

-- the turn is of the same session, at the same memory and at the same stage's place
abbrev pub SameTurn : {R : Type 0} → Turn R → Turn R → Type 0
SameTurn before after =
    (after.session ≡ before.session) × (after.memory.ghost_name ≡ before.memory.ghost_name) × (after.stage.ghost_name ≡ before.stage.ghost_name)

-- the memory, the stage and the answer are those of an outcome
abbrev pub Comes : {R S : Type 0} → (R → S) → Turn R → Turn R → Answer → machine.Outcome S → Type 0
Comes st before after answer o =
    SameTurn before after × (memory_at st after ≡ o.memory) × (after.stage.now ≡ o.stage) × (answer ≡ o.answer)
