-- What the proof uses of a reclaimer and of an order, and a board with what has been seen.
use Rattle.std.proofs.Common.{◌≡◌, ℕ, ◌<◌, ◌≤◌, ◌⊎◌, ◌++◌, Some, None, Option, Ordering, Less, Equal, Greater, ap, ◌∙◌}
use Rattle.std.specs.Ordering.{ordering_reverse}
use Rattle.reclaim.specs.Model.{Model, after_enter, after_leave, after_protect, after_retire}
use Rattle.machine.specs.declared.stage.Stage.{Stage}
use Rattle.machine.specs.Machine.{put, Trace, Memory, Outcome}

pub record Meaning : Type 1 where
  pub inside : ℕ → Type 0
  pub held : ℕ → Type 0
  pub names : ℕ → ℕ → ℕ → Type 0
  pub keeps : ℕ → ℕ → ℕ → Type 0

-- who is inside stays
pub record SameInside (m n : Meaning) : Type 0 where
  pub on : (t : ℕ) → m.inside t → n.inside t
  pub back : (t : ℕ) → n.inside t → m.inside t

pub record SameHeld (m n : Meaning) : Type 0 where
  pub on : (c : ℕ) → m.held c → n.held c
  pub back : (c : ℕ) → n.held c → m.held c

-- what every slot names and keeps it goes on naming and keeping
pub record KeepsOn (m n : Meaning) : Type 0 where
  pub names : (t i c : ℕ) → m.names t i c → n.names t i c
  pub keeps : (t i c : ℕ) → m.keeps t i c → n.keeps t i c

pub record Entered (s : ℕ) (m n : Meaning) : Type 0 where
  pub self : n.inside s
  pub on : (t : ℕ) → m.inside t → n.inside t
  pub back : (t : ℕ) → n.inside t → (t ≡ s → ⊥) → m.inside t
  pub held : SameHeld m n
  pub slots : KeepsOn m n

pub record Left (s : ℕ) (m n : Meaning) : Type 0 where
  pub self : n.inside s → ⊥
  pub on : (t : ℕ) → (t ≡ s → ⊥) → m.inside t → n.inside t
  pub back : (t : ℕ) → n.inside t → m.inside t
  pub held : SameHeld m n
  pub names : (t i c : ℕ) → (t ≡ s → ⊥) → m.names t i c → n.names t i c
  pub keeps : (t i c : ℕ) → (t ≡ s → ⊥) → m.keeps t i c → n.keeps t i c

pub record Protected (s i c : ℕ) (m n : Meaning) : Type 0 where
  pub inside : SameInside m n
  pub held : SameHeld m n
  pub self : n.names s i c
  pub moved : (j : ℕ) → m.keeps s j c → n.keeps s i c
  pub names : (t j d : ℕ) → ((t ≡ s) × (j ≡ i) → ⊥) → m.names t j d → n.names t j d
  pub keeps : (t j d : ℕ) → ((t ≡ s) × (j ≡ i) → ⊥) → m.keeps t j d → n.keeps t j d

pub record Retired (c : ℕ) (m n : Meaning) : Type 0 where
  pub inside : SameInside m n
  pub self : n.held c
  pub on : (d : ℕ) → m.held d → n.held d
  pub back : (d : ℕ) → n.held d → (d ≡ c → ⊥) → m.held d
  pub slots : KeepsOn m n
  pub kept : (t i : ℕ) → m.names t i c → n.keeps t i c

pub record Given (c : ℕ) (m n : Meaning) : Type 0 where
  pub inside : SameInside m n
  pub was : m.held c
  pub unkept : (t i : ℕ) → m.keeps t i c → ⊥
  pub gone : n.held c → ⊥
  pub on : (d : ℕ) → (d ≡ c → ⊥) → m.held d → n.held d
  pub back : (d : ℕ) → n.held d → m.held d
  pub names : (t i d : ℕ) → m.names t i d → n.names t i d
  pub keeps : (t i d : ℕ) → (d ≡ c → ⊥) → m.keeps t i d → n.keeps t i d

pub record Withheld (m n : Meaning) : Type 0 where
  pub inside : SameInside m n
  pub held : SameHeld m n
  pub slots : KeepsOn m n
  pub why : ((c : ℕ) → m.held c → ⊥) ⊎ ((s : ℕ) × m.inside s)

abbrev pub Collected : Option ℕ → Meaning → Meaning → Type 0
Collected None m n = Withheld m n
Collected (Some c) m n = Given c m n

-- what is used of a lawful reclaimer with so many sessions and cells
pub record Rules {State : Type 0} (M : Model State) (sessions cells : ℕ) : Type 1 where
  pub few : cells ≤ 256
  pub meaning : State → Meaning
  pub fit : State → Type 0
  pub sized : (x : State) → fit x → M.cells x ≡ cells
  pub fits_enters : (x : State) (s : ℕ) → fit x → fit (after_enter M x s)
  pub fits_leaves : (x : State) (s : ℕ) → fit x → fit (after_leave M x s)
  pub fits_protects : (x : State) (s i c : ℕ) → fit x → fit (after_protect M x s i c)
  pub fits_retires : (x : State) (c : ℕ) → fit x → fit (after_retire M x c)
  pub fits_collects : (x : State) → fit x → fit (M.collects x)
  pub entering : (x : State) (s : ℕ) → fit x → s < sessions → ((meaning x).inside s → ⊥) → Entered s (meaning x) (meaning (after_enter M x s))
  pub leaving : (x : State) (s : ℕ) → fit x → s < sessions → (meaning x).inside s → Left s (meaning x) (meaning (after_leave M x s))
  pub protecting : (x : State) (s i c : ℕ) → fit x → s < sessions → (meaning x).inside s → i < 3 → c < cells
      → Protected s i c (meaning x) (meaning (after_protect M x s i c))
  pub retiring : (x : State) (c : ℕ) → fit x → c < cells → ((meaning x).held c → ⊥) → Retired c (meaning x) (meaning (after_retire M x c))
  pub collecting : (x : State) → fit x → Collected (M.picks x) (meaning x) (meaning (M.collects x))

pub record Order (V : Type 0) : Type 0 where
  pub cmp : V → V → Ordering
  pub same : (x y : V) → cmp x y ≡ Equal → x ≡ y
  pub self : (x : V) → cmp x x ≡ Equal
  pub sides : (x y : V) → cmp y x ≡ ordering_reverse (cmp x y)
  pub trans : (x y z : V) → cmp x y ≡ Less → cmp y z ≡ Less → cmp x z ≡ Less

pub turn : {V : Type 0} (O : Order V) (x y : V) → O.cmp x y ≡ Less → O.cmp y x ≡ Greater
turn O x y e = O.sides x y ∙ ap ordering_reverse e

pub back : {V : Type 0} (O : Order V) (x y : V) → O.cmp x y ≡ Greater → O.cmp y x ≡ Less
back O x y e = O.sides x y ∙ ap ordering_reverse e

abbrev pub cmp_of : {V : Type 0} → Order V → (ℕ → V) → ℕ → ℕ → Ordering
cmp_of O val a b = O.cmp (val a) (val b)

-- a board with what has been seen, newest first
pub record History (State : Type 0) : Type 0 where
  pub memory : Memory State
  pub stage : ℕ → Stage
  pub seen : Trace

abbrev pub settled : {State : Type 0} → History State → ℕ → Outcome State → History State
settled b s o = record { memory = o.memory; stage = put b.stage s o.stage; seen = o.seen ++ b.seen }
