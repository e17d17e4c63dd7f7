-- What a reclaimer means, and the laws that make one lawful.
use Rattle.std.specs.Prelude.{◌≡◌, ℕ, zero, suc, ◌+◌, ◌<◌, Bool, true, false, cond, not, ◌&&◌, ◌||◌, ◌⊎◌, Some, None, Option, Result, ◌==◌, ◌≢◌, nat_lt}
use Rattle.reclaim.specs.declared.refusal.Refusal.{Refusal}
use Rattle.reclaim.specs.declared.unlinked.Unlinked.{Unlinked}
use Rattle.reclaim.specs.declared.unlinked.Unpaid.{Unpaid}
use Rattle.reclaim.specs.Checks.{check_outside, check_inside, check_protect, check_retire}

-- how many numbers below n pass the test
abbrev pub tally : (ℕ → Bool) → ℕ → ℕ
tally p zero = 0
tally p (suc n) = cond (p n) 1 0 + tally p n

-- A reclaimer's meaning in a state, and the state after each call that is not refused.
pub record Model (S : Type 0) : Type 1 where
  -- a state that calls can lead to
  pub good : S → Type 0
  pub sessions : S → ℕ
  pub cells : S → ℕ
  -- by session, and by cell
  pub inside : S → ℕ → Bool
  pub held : S → ℕ → Bool
  pub count : S → ℕ
  -- by session, slot and cell
  pub names : S → ℕ → ℕ → ℕ → Bool
  pub keeps : S → ℕ → ℕ → ℕ → Bool
  pub enters : S → ℕ → S
  pub leaves : S → ℕ → S
  pub protects : S → ℕ → ℕ → ℕ → S
  pub retires : S → ℕ → S
  -- what collect answers, and the state after it
  pub picks : S → Option ℕ
  pub collects : S → S

-- the answer of each call, by its checks
abbrev pub enter_answer : {S : Type 0} → Model S → S → ℕ → Result (Unit {0}) Refusal
enter_answer m st s = check_outside s (m.sessions st) (m.inside st s)

abbrev pub leave_answer : {S : Type 0} → Model S → S → ℕ → Result (Unit {0}) Refusal
leave_answer m st s = check_inside s (m.sessions st) (m.inside st s)

abbrev pub protect_answer : {S : Type 0} → Model S → S → ℕ → ℕ → ℕ → Result (Unit {0}) Refusal
protect_answer m st s i c = check_protect s (m.sessions st) (m.inside st s) i c (m.cells st)

abbrev pub retire_answer : {S : Type 0} → Model S → S → Unlinked → Result (Unit {0}) Unpaid
retire_answer m st d = check_retire tt d (m.cells st) (m.held st d.cell)

-- the token of a cell that may be retired
abbrev pub owed : {S : Type 0} → Model S → S → ℕ → Option Unlinked
owed m st c = cond (nat_lt c (m.cells st)) (cond (m.held st c) None (Some (record { cell = c }))) None

-- the state after each call: a refused one changes nothing
abbrev pub after_enter : {S : Type 0} → Model S → S → ℕ → S
after_enter m st s = cond (nat_lt s (m.sessions st)) (cond (m.inside st s) st (m.enters st s)) st

abbrev pub after_leave : {S : Type 0} → Model S → S → ℕ → S
after_leave m st s = cond (nat_lt s (m.sessions st)) (cond (m.inside st s) (m.leaves st s) st) st

abbrev pub after_protect : {S : Type 0} → Model S → S → ℕ → ℕ → ℕ → S
after_protect m st s i c =
    cond (nat_lt s (m.sessions st))
    (cond (m.inside st s) (cond (nat_lt i 3) (cond (nat_lt c (m.cells st)) (m.protects st s i c) st) st) st)
    st

abbrev pub after_retire : {S : Type 0} → Model S → S → ℕ → S
after_retire m st c = cond (nat_lt c (m.cells st)) (cond (m.held st c) st (m.retires st c)) st

-- nothing is held, or somebody is inside
abbrev pub IdleOrBusy : {S : Type 0} → Model S → S → Type 0
IdleOrBusy m st = ((c : ℕ) → m.held st c ≡ false) ⊎ ((s : ℕ) × (m.inside st s ≡ true))

-- the sizes stay, and the state is a good one again
pub record SameSizes {S : Type 0} (m : Model S) (st next : S) : Type 0 where
  pub good : m.good next
  pub sessions : m.sessions next ≡ m.sessions st
  pub cells : m.cells next ≡ m.cells st

-- what slot i of session t names or keeps of cell c it goes on naming or keeping
pub record GoesOn {S : Type 0} (m : Model S) (st next : S) (t i c : ℕ) : Type 0 where
  pub names : m.names st t i c ≡ true → m.names next t i c ≡ true
  pub keeps : m.keeps st t i c ≡ true → m.keeps next t i c ≡ true

-- session s has entered
pub record Entered {S : Type 0} (m : Model S) (st : S) (s : ℕ) (next : S) : Type 0 where
  pub sizes : SameSizes m st next
  pub inside : (t : ℕ) → m.inside next t ≡ (s == t || m.inside st t)
  pub held : (c : ℕ) → m.held next c ≡ m.held st c
  pub slots : (t i c : ℕ) → GoesOn m st next t i c

-- session s has left: the slots of the others go on
pub record Left {S : Type 0} (m : Model S) (st : S) (s : ℕ) (next : S) : Type 0 where
  pub sizes : SameSizes m st next
  pub inside : (t : ℕ) → m.inside next t ≡ (not (s == t) && m.inside st t)
  pub held : (c : ℕ) → m.held next c ≡ m.held st c
  pub slots : (t i c : ℕ) → (s ≢ t) → GoesOn m st next t i c

-- slot i of session s was given to protect with the cell c
pub record Protected {S : Type 0} (m : Model S) (st : S) (s i c : ℕ) (next : S) : Type 0 where
  pub sizes : SameSizes m st next
  pub inside : (t : ℕ) → m.inside next t ≡ m.inside st t
  pub held : (d : ℕ) → m.held next d ≡ m.held st d
  pub named : m.names next s i c ≡ true
  pub kept : (j : ℕ) → m.keeps st s j c ≡ true → m.keeps next s i c ≡ true
  pub slots : (t j d : ℕ) → ((s ≡ t) × (i ≡ j) → ⊥) → GoesOn m st next t j d

-- the cell c was retired: the slots that name it keep it
pub record Retired {S : Type 0} (m : Model S) (st : S) (c : ℕ) (next : S) : Type 0 where
  pub sizes : SameSizes m st next
  pub inside : (t : ℕ) → m.inside next t ≡ m.inside st t
  pub held : (d : ℕ) → m.held next d ≡ (c == d || m.held st d)
  pub kept : (t i : ℕ) → m.names st t i c ≡ true → m.keeps next t i c ≡ true
  pub slots : (t i d : ℕ) → GoesOn m st next t i d

-- collect that answered the cell c
pub record Gave {S : Type 0} (m : Model S) (st : S) (c : ℕ) (next : S) : Type 0 where
  pub sizes : SameSizes m st next
  pub inside : (t : ℕ) → m.inside next t ≡ m.inside st t
  pub was_held : m.held st c ≡ true
  pub not_kept : (t i : ℕ) → m.keeps st t i c ≡ false
  pub held : (d : ℕ) → m.held next d ≡ (not (c == d) && m.held st d)
  pub named : (t i d : ℕ) → m.names st t i d ≡ true → m.names next t i d ≡ true
  pub kept : (t i d : ℕ) → (c ≢ d) → m.keeps st t i d ≡ true → m.keeps next t i d ≡ true

-- collect that answered none
pub record GaveNone {S : Type 0} (m : Model S) (st next : S) : Type 0 where
  pub sizes : SameSizes m st next
  pub inside : (t : ℕ) → m.inside next t ≡ m.inside st t
  pub held : (d : ℕ) → m.held next d ≡ m.held st d
  pub slots : (t i d : ℕ) → GoesOn m st next t i d
  pub why : IdleOrBusy m st

abbrev pub Collected : {S : Type 0} → Model S → S → Option ℕ → S → Type 0
Collected m st None next = GaveNone m st next
Collected m st (Some c) next = Gave m st c next

-- what holds of every good state: whom and what the questions know, and the slots of a session outside
pub record Sound {S : Type 0} (m : Model S) (st : S) : Type 0 where
  pub inside_below : (s : ℕ) → m.inside st s ≡ true → s < m.sessions st
  pub held_below : (c : ℕ) → m.held st c ≡ true → c < m.cells st
  pub counted : m.count st ≡ tally (m.held st) (m.cells st)
  pub outside_names : (s i c : ℕ) → m.inside st s ≡ false → m.names st s i c ≡ false
  pub outside_keeps : (s i c : ℕ) → m.inside st s ≡ false → m.keeps st s i c ≡ false
  pub kept_held : (s i c : ℕ) → m.keeps st s i c ≡ true → m.held st c ≡ true

-- The laws, each of a call that is not refused.
pub record Lawful {S : Type 0} (m : Model S) : Type 0 where
  pub sound : (st : S) → m.good st → Sound m st
  pub enter : (st : S) (s : ℕ) → m.good st → s < m.sessions st → m.inside st s ≡ false → Entered m st s (m.enters st s)
  pub leave : (st : S) (s : ℕ) → m.good st → m.inside st s ≡ true → Left m st s (m.leaves st s)
  pub protect : (st : S) (s i c : ℕ) → m.good st → m.inside st s ≡ true → i < 3 → c < m.cells st → Protected m st s i c (m.protects st s i c)
  pub retire : (st : S) (c : ℕ) → m.good st → c < m.cells st → m.held st c ≡ false → Retired m st c (m.retires st c)
  pub collect : (st : S) → m.good st → Collected m st (m.picks st) (m.collects st)

-- a reclaimer with nobody inside that holds nothing
pub record New {S : Type 0} (m : Model S) (st : S) : Type 0 where
  pub nobody : (s : ℕ) → m.inside st s ≡ false
  pub nothing : (c : ℕ) → m.held st c ≡ false
