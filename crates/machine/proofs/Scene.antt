-- The ghost parts of a board: where each cell is, the two chains, and what each stage may rely on.
use Rattle.std.proofs.Common.{◌≡◌, ℕ, zero, suc, ◌+◌, ◌<◌, ◌≤◌, Bool, true, cond, ◌⊎◌, List, [], ◌∷◌, map, length, Some, None, Option, Less, Greater, refl, ◌∙◌}
use Rattle.reclaim.specs.Model.{Model}
use Rattle.machine.proofs.Rules.{Meaning, Rules}
use Rattle.machine.proofs.Rules.{Order}
use Rattle.machine.specs.Machine.{Memory, Trace, sought}
use Rattle.machine.proofs.Rules.{History}
use Rattle.machine.proofs.Trace.{Status, outside, under, decided, status, Cleared, Orderly, deeds, played, Truthful}
use Rattle.machine.specs.declared.cell.Prev.{Prev}
use Rattle.machine.specs.declared.cell.Prev.TheVariants.{Front, At}
use Rattle.machine.specs.declared.stage.Goal.{Goal}
use Rattle.machine.specs.declared.stage.Goal.TheVariants.{Look, Add, Take, Finish}
use Rattle.machine.specs.declared.stage.Search.TheVariants.{ReadFront, ProtectFirst, CheckFront, ReadCell, ProtectNext, CheckPrev, ConfirmCell, ShiftPrev, ShiftCur, Unlink}
use Rattle.machine.specs.declared.stage.Stage.{Stage}
use Rattle.machine.specs.declared.stage.Stage.TheVariants.{Outside, PushReadHead, PushSwapHead, PopReadHead, PopProtectTop, PopCheckHead, PopReadTop, PopSwapHead, Find, LinkFresh, MarkCell, RemoveCell}
use Rattle.machine.specs.declared.word.Op.{Op}
use Rattle.machine.specs.declared.word.Op.TheVariants.{Insert, Delete, Contains, Push, Pop}
use Rattle.machine.specs.Answers.{yes}

pub data Place : Type 0 where
  nowhere : Place
  free_at : ℕ → Place
  held_now : Place
  link_at : ℕ → Place
  fresh_of : ℕ → Place
  on_list : Place

abbrev pub kind : Place → ℕ
kind nowhere = 0
kind (free_at k) = 1
kind held_now = 2
kind (link_at k) = 3
kind (fresh_of s) = 4
kind on_list = 5

unfoldable pub Stacked : (ℕ → Place) → List ℕ → Type 0
Stacked P [] = Unit {0}
Stacked P (c ∷ l) = (P c ≡ free_at (length l)) × Stacked P l

abbrev pub In : ℕ → List ℕ → Type 0
In c [] = ⊥
In c (d ∷ l) = (c ≡ d) ⊎ In c l

unfoldable pub Chain : (ℕ → Place) → (ℕ → Option ℕ) → Option ℕ → List ℕ → Type 0
Chain P k h [] = h ≡ None
Chain P k h (c ∷ l) = (h ≡ Some c) × (P c ≡ link_at (length l)) × Chain P k (k c) l

-- from h through the cells of l, all in the list, to e
unfoldable pub Seg : (ℕ → Place) → (ℕ → Option ℕ) → Option ℕ → List ℕ → Option ℕ → Type 0
Seg P k h [] e = h ≡ e
Seg P k h (c ∷ l) e = (h ≡ Some c) × (P c ≡ on_list) × Seg P k (k c) l e

abbrev pub is_link : Place → ℕ
is_link nowhere = 0
is_link (free_at k) = 0
is_link held_now = 0
is_link (link_at k) = 1
is_link (fresh_of s) = 0
is_link on_list = 1

unfoldable pub total : (ℕ → Place) → ℕ → ℕ
total P zero = 0
total P (suc n) = is_link (P n) + total P n

unfoldable pub live : {V : Type 0} → (ℕ → Bool) → (ℕ → V) → List ℕ → List V
live m key [] = []
live m key (c ∷ l) = cond (m c) (live m key l) (key c ∷ live m key l)

abbrev pub Below : {V : Type 0} → Order V → V → V → Type 0
Below O x y = O.cmp x y ≡ Less

abbrev pub Above : {V : Type 0} → Order V → (ℕ → V) → V → List ℕ → Type 0
Above O key v l = (d : ℕ) → In d l → Below O v (key d)

unfoldable pub Sorted : {V : Type 0} → Order V → (ℕ → V) → List ℕ → Type 0
Sorted O key [] = Unit {0}
Sorted O key (c ∷ l) = Above O key (key c) l × Sorted O key l

pub record Scene (State : Type 0) : Type 0 where
  pub memory : Memory State
  pub place : ℕ → Place
  pub chain : List ℕ
  pub line : List ℕ
  pub seen : Trace

abbrev pub OnStack : {State : Type 0} → Scene State → ℕ → Type 0
OnStack A c = ((k : ℕ) × (A.place c ≡ link_at k)) ⊎ (A.place c ≡ held_now)

abbrev pub OnList : {State : Type 0} → Scene State → ℕ → Type 0
OnList A c = (A.place c ≡ on_list) ⊎ ((A.place c ≡ held_now) × (A.memory.mark c ≡ true))

abbrev pub Dead : {State : Type 0} → Scene State → ℕ → Option ℕ → Type 0
Dead A c n = (A.memory.mark c ≡ true) × (A.memory.link c ≡ n)

abbrev pub goal_status : Goal → Status
goal_status (Look k) = under (Contains k)
goal_status (Add k f) = under (Insert k)
goal_status (Take k) = under (Delete k)
goal_status (Finish k) = decided (Delete k) (yes 0)

module _ {State : Type 0} {M : Model State} {sessions cells : ℕ} (L : Rules M sessions cells) where
  abbrev pub means : Scene State → Meaning
  means A = L.meaning A.memory.reclaimer

  abbrev pub There : Scene State → ℕ → ℕ → ℕ → Type 0
  There A s i c = ((k : ℕ) × (A.place c ≡ link_at k)) ⊎ ((A.place c ≡ on_list) ⊎ ((A.place c ≡ held_now) × (means A).keeps s i c))

  pub record Safe (A : Scene State) (s i c : ℕ) : Type 0 where
    pub named : (means A).names s i c
    pub there : There A s i c

  -- what a move of another session leaves to s
  pub record Calm (s : ℕ) (A B : Scene State) : Type 0 where
    pub in_on : (means A).inside s → (means B).inside s
    pub in_back : (means B).inside s → (means A).inside s
    pub status : status s B.seen ≡ status s A.seen
    pub fresh : (f : ℕ) → A.place f ≡ fresh_of s → B.place f ≡ fresh_of s
    pub fresh_link : (f : ℕ) → A.place f ≡ fresh_of s → B.memory.link f ≡ A.memory.link f
    pub fresh_item : (f : ℕ) → A.place f ≡ fresh_of s → B.memory.item f ≡ A.memory.item f
    pub fresh_back : (f : ℕ) → B.place f ≡ fresh_of s → A.place f ≡ fresh_of s
    pub names : (i c : ℕ) → (means A).names s i c → (means B).names s i c
    pub safe : (i c : ℕ) → Safe A s i c → Safe B s i c
    pub safe_item : (i c : ℕ) → Safe A s i c → B.memory.item c ≡ A.memory.item c
    pub safe_stack : (i c : ℕ) → Safe A s i c → OnStack A c → OnStack B c × (B.memory.link c ≡ A.memory.link c)
    pub safe_list : (i c : ℕ) → Safe A s i c → OnList A c → OnList B c
    pub safe_dead : (i c : ℕ) → Safe A s i c → OnList A c → A.memory.mark c ≡ true
        → (B.memory.mark c ≡ true) × (B.memory.link c ≡ A.memory.link c)
    pub cleared : (i c : ℕ) → Safe A s i c → Cleared s c A.seen → Cleared s c B.seen

  pub record Busy (A : Scene State) (s : ℕ) (op : Op) : Type 0 where
    pub inside : (means A).inside s
    pub under : status s A.seen ≡ under op

  abbrev pub Fresh : Scene State → ℕ → Goal → Type 0
  Fresh A s (Look k) = Unit {0}
  Fresh A s (Add k f) = (A.place f ≡ fresh_of s) × (A.memory.item f ≡ k)
  Fresh A s (Take k) = Unit {0}
  Fresh A s (Finish k) = Unit {0}

  pub record Hunt (A : Scene State) (s : ℕ) (g : Goal) : Type 0 where
    pub inside : (means A).inside s
    pub is : status s A.seen ≡ goal_status g
    pub fresh : Fresh A s g

  pub record Cur (A : Scene State) (s i c : ℕ) : Type 0 where
    pub safe : Safe A s i c
    pub list : OnList A c
    pub cleared : Cleared s c A.seen

  abbrev pub Named : Scene State → ℕ → Option ℕ → Type 0
  Named A s None = Unit {0}
  Named A s (Some n) = (means A).names s 0 n

  abbrev pub OwnsG : Goal → ℕ → Type 0
  OwnsG (Look k) d = ⊥
  OwnsG (Add k f) d = f ≡ d
  OwnsG (Take k) d = ⊥
  OwnsG (Finish k) d = ⊥

  -- the fresh cell that a stage has
  abbrev pub Owns : Stage → ℕ → Type 0
  Owns Outside c = ⊥
  Owns (PushReadHead f) c = f ≡ c
  Owns (PushSwapHead f l) c = f ≡ c
  Owns PopReadHead c = ⊥
  Owns (PopProtectTop d) c = ⊥
  Owns (PopCheckHead d) c = ⊥
  Owns (PopReadTop d) c = ⊥
  Owns (PopSwapHead d n v) c = ⊥
  Owns (Find g ReadFront) c = OwnsG g c
  Owns (Find g (ProtectFirst d)) c = OwnsG g c
  Owns (Find g (CheckFront d)) c = OwnsG g c
  Owns (Find g (ReadCell q d)) c = OwnsG g c
  Owns (Find g (ProtectNext q d m n v)) c = OwnsG g c
  Owns (Find g (CheckPrev q d m n v)) c = OwnsG g c
  Owns (Find g (ConfirmCell q d n v)) c = OwnsG g c
  Owns (Find g (ShiftPrev d n)) c = OwnsG g c
  Owns (Find g (ShiftCur q n)) c = OwnsG g c
  Owns (Find g (Unlink q d n)) c = OwnsG g c
  Owns (LinkFresh k f q d) c = f ≡ c
  Owns (MarkCell k q d n) c = ⊥
  Owns (RemoveCell k q d n) c = ⊥

  module _ {V : Type 0} (O : Order V) (val : ℕ → V) where
    abbrev pub key : Scene State → ℕ → V
    key A c = val (A.memory.item c)

    pub record Sound (A : Scene State) : Type 0 where
      pub fit : L.fit A.memory.reclaimer
      pub free : Stacked A.place A.memory.free
      pub free_back : (c k : ℕ) → A.place c ≡ free_at k → In c A.memory.free
      pub held_on : (c : ℕ) → (means A).held c → A.place c ≡ held_now
      pub held_back : (c : ℕ) → A.place c ≡ held_now → (means A).held c
      pub chain : Chain A.place A.memory.link A.memory.head A.chain
      pub line : Seg A.place A.memory.link A.memory.front A.line None
      pub line_back : (c : ℕ) → A.place c ≡ on_list → In c A.line
      pub linked : (c n : ℕ) → A.memory.link c ≡ Some n → n < cells
      pub sorted : Sorted O (key A) A.line
      pub stack : map A.memory.item A.chain ≡ (played O.cmp val (deeds A.seen)).stack
      pub set : live A.memory.mark (key A) A.line ≡ (played O.cmp val (deeds A.seen)).set
      pub bound : (c : ℕ) → cells ≤ c → A.place c ≡ nowhere
      pub within : (c : ℕ) → c < cells → A.place c ≡ nowhere → ⊥
      pub count : length A.chain + length A.line ≡ total A.place cells
      pub orderly : Orderly A.seen
      pub truthful : Truthful O.cmp val (deeds A.seen)

    -- prev is the front or a cell below k
    abbrev pub Clean : Scene State → ℕ → ℕ → ℕ → Prev → Type 0
    Clean A s i k Front = Unit {0}
    Clean A s i k (At p) = Cur A s i p × Below O (key A p) (val k)

    abbrev pub Beyond : Scene State → ℕ → ℕ → Option ℕ → Type 0
    Beyond A s k None = Unit {0}
    Beyond A s k (Some c) = Cur A s 1 c × Below O (val k) (key A c)

    abbrev pub Staged : Scene State → ℕ → Stage → Type 0
    Staged A s Outside = ((means A).inside s → ⊥) × (status s A.seen ≡ outside)
    Staged A s (PushReadHead f) = Busy A s (Push (A.memory.item f)) × (A.place f ≡ fresh_of s)
    Staged A s (PushSwapHead f l) = Busy A s (Push (A.memory.item f)) × (A.place f ≡ fresh_of s) × (A.memory.link f ≡ l)
    Staged A s PopReadHead = Busy A s Pop
    Staged A s (PopProtectTop c) = Busy A s Pop × (c < cells)
    Staged A s (PopCheckHead c) = Busy A s Pop × (means A).names s 0 c
    Staged A s (PopReadTop c) = Busy A s Pop × Safe A s 0 c × OnStack A c × Cleared s c A.seen
    Staged A s (PopSwapHead c n v) = Busy A s Pop × Safe A s 0 c × OnStack A c × (A.memory.link c ≡ n) × (A.memory.item c ≡ v)
    Staged A s (Find g ReadFront) = Hunt A s g
    Staged A s (Find g (ProtectFirst c)) = Hunt A s g × (c < cells)
    Staged A s (Find g (CheckFront c)) = Hunt A s g × (means A).names s 1 c
    Staged A s (Find g (ReadCell q c)) = Hunt A s g × Clean A s 2 (sought g) q × Cur A s 1 c
    Staged A s (Find g (ProtectNext q c m n v)) =
        Hunt A s g × Clean A s 2 (sought g) q × Cur A s 1 c × (A.memory.item c ≡ v) × (m ≡ true → Dead A c (Some n)) × (n < cells)
    Staged A s (Find g (CheckPrev q c m n v)) =
        Hunt A s g × Clean A s 2 (sought g) q × Cur A s 1 c × (A.memory.item c ≡ v) × (m ≡ true → Dead A c n) × Named A s n
    Staged A s (Find g (ConfirmCell q c n v)) =
        Hunt A s g × Clean A s 2 (sought g) q × Cur A s 1 c × (A.memory.item c ≡ v) × Named A s n × (O.cmp (val v) (val (sought g)) ≡ Greater → ⊥)
    Staged A s (Find g (ShiftPrev c n)) = Hunt A s g × Cur A s 1 c × Below O (key A c) (val (sought g)) × Cur A s 0 n
    Staged A s (Find g (ShiftCur q n)) = Hunt A s g × Clean A s 2 (sought g) q × Cur A s 0 n
    Staged A s (Find g (Unlink q c n)) = Hunt A s g × Clean A s 2 (sought g) q × Cur A s 1 c × Dead A c n × Named A s n
    Staged A s (LinkFresh k f q c) = Hunt A s (Add k f) × ((i : ℕ) × Clean A s i k q) × Beyond A s k c
    Staged A s (MarkCell k q c n) = Hunt A s (Take k) × Clean A s 2 k q × Cur A s 1 c × (key A c ≡ val k)
    Staged A s (RemoveCell k q c n) = Hunt A s (Finish k) × Clean A s 2 k q × Cur A s 1 c × Dead A c n × (key A c ≡ val k)

    abbrev pub ChasesG : Goal → V → Type 0
    ChasesG (Look k) v = ⊥
    ChasesG (Add k f) v = ⊥
    ChasesG (Take k) v = ⊥
    ChasesG (Finish k) v = val k ≡ v

    -- a decided delete that has still to see its cell out
    abbrev pub Chases : Stage → V → Type 0
    Chases Outside v = ⊥
    Chases (PushReadHead f) v = ⊥
    Chases (PushSwapHead f l) v = ⊥
    Chases PopReadHead v = ⊥
    Chases (PopProtectTop d) v = ⊥
    Chases (PopCheckHead d) v = ⊥
    Chases (PopReadTop d) v = ⊥
    Chases (PopSwapHead d n w) v = ⊥
    Chases (Find g ReadFront) v = ChasesG g v
    Chases (Find g (ProtectFirst d)) v = ChasesG g v
    Chases (Find g (CheckFront d)) v = ChasesG g v
    Chases (Find g (ReadCell q d)) v = ChasesG g v
    Chases (Find g (ProtectNext q d m n w)) v = ChasesG g v
    Chases (Find g (CheckPrev q d m n w)) v = ChasesG g v
    Chases (Find g (ConfirmCell q d n w)) v = ChasesG g v
    Chases (Find g (ShiftPrev d n)) v = ChasesG g v
    Chases (Find g (ShiftCur q n)) v = ChasesG g v
    Chases (Find g (Unlink q d n)) v = ChasesG g v
    Chases (LinkFresh k f q d) v = ⊥
    Chases (MarkCell k q d n) v = ⊥
    Chases (RemoveCell k q d n) v = val k ≡ v

    pub record Stands (A : Scene State) (s : ℕ) (g : Stage) : Type 0 where
      pub staged : Staged A s g
      pub owns : (c : ℕ) → A.place c ≡ fresh_of s → Owns g c

    abbrev pub scene_of : History State → (ℕ → Place) → List ℕ → List ℕ → Scene State
    scene_of b P l m = record { memory = b.memory; place = P; chain = l; line = m; seen = b.seen }

    -- a marked cell in the list: whose delete sees it out
    abbrev pub Debts : Scene State → (ℕ → Stage) → Type 0
    Debts A stage = (c : ℕ) → A.place c ≡ on_list → A.memory.mark c ≡ true → (s : ℕ) × Chases (stage s) (key A c)

    pub record Inv (b : History State) : Type 0 where
      pub place : ℕ → Place
      pub chain : List ℕ
      pub line : List ℕ
      pub sound : Sound (scene_of b place chain line)
      pub each : (s : ℕ) → Stands (scene_of b place chain line) s (b.stage s)
      pub debts : Debts (scene_of b place chain line) b.stage

  pub calm_refl : (s : ℕ) (A : Scene State) → Calm s A A
  calm_refl s A =
      record {
        in_on = λ h. h;
        in_back = λ h. h;
        status = refl;
        fresh = λ f h. h;
        fresh_link = λ f h. refl;
        fresh_item = λ f h. refl;
        fresh_back = λ f h. h;
        names = λ i c h. h;
        safe = λ i c h. h;
        safe_item = λ i c h. refl;
        safe_stack = λ i c h o. (o, refl);
        safe_list = λ i c h o. o;
        safe_dead = λ i c h o m. (m, refl);
        cleared = λ i c h k. k;
      }

  pub calm_trans : {s : ℕ} {A B C : Scene State} → Calm s A B → Calm s B C → Calm s A C
  calm_trans p q =
      record {
        in_on = λ h. q.in_on (p.in_on h);
        in_back = λ h. p.in_back (q.in_back h);
        status = q.status ∙ p.status;
        fresh = λ f h. q.fresh f (p.fresh f h);
        fresh_link = λ f h. q.fresh_link f (p.fresh f h) ∙ p.fresh_link f h;
        fresh_item = λ f h. q.fresh_item f (p.fresh f h) ∙ p.fresh_item f h;
        fresh_back = λ f h. p.fresh_back f (q.fresh_back f h);
        names = λ i c h. q.names i c (p.names i c h);
        safe = λ i c h. q.safe i c (p.safe i c h);
        safe_item = λ i c h. q.safe_item i c (p.safe i c h) ∙ p.safe_item i c h;
        safe_stack =
            λ i c h o.
            let a = p.safe_stack i c h o in
            let b = q.safe_stack i c (p.safe i c h) a.0 in
            (b.0, b.1 ∙ a.1);
        safe_list = λ i c h o. q.safe_list i c (p.safe i c h) (p.safe_list i c h o);
        safe_dead =
            λ i c h o m.
            let a = p.safe_dead i c h o m in
            let b = q.safe_dead i c (p.safe i c h) (p.safe_list i c h o) a.0 in
            (b.0, b.1 ∙ a.1);
        cleared = λ i c h k. q.cleared i c (p.safe i c h) (p.cleared i c h k);
      }

  module _ {s : ℕ} {A B : Scene State} (m : Calm s A B) where
    pub busy_calm : {op : Op} → Busy A s op → Busy B s op
    busy_calm b = record { inside = m.in_on b.inside; under = m.status ∙ b.under }

    push_calm : (f : ℕ) → A.place f ≡ fresh_of s → Busy A s (Push (A.memory.item f)) → Busy B s (Push (B.memory.item f))
    push_calm f p b = rw (m.fresh_item f p) (busy_calm b)

    fresh_calm : (g : Goal) → Fresh A s g → Fresh B s g
    fresh_calm (Look k) h = tt
    fresh_calm (Add k f) h = (m.fresh f h.0, m.fresh_item f h.0 ∙ h.1)
    fresh_calm (Take k) h = tt
    fresh_calm (Finish k) h = tt

    pub hunt_calm : {g : Goal} → Hunt A s g → Hunt B s g
    hunt_calm {g} h = record { inside = m.in_on h.inside; is = m.status ∙ h.is; fresh = fresh_calm g h.fresh }

    pub cur_calm : (i c : ℕ) → Cur A s i c → Cur B s i c
    cur_calm i c h =
        record { safe = m.safe i c h.safe; list = m.safe_list i c h.safe h.list; cleared = m.cleared i c h.safe h.cleared }

    pub dead_calm : (i c : ℕ) (n : Option ℕ) → Cur A s i c → Dead A c n → Dead B c n
    dead_calm i c n h d = let a = m.safe_dead i c h.safe h.list d.0 in (a.0, a.1 ∙ d.1)

    pub named_calm : (n : Option ℕ) → Named A s n → Named B s n
    named_calm None h = tt
    named_calm (Some n) h = m.names 0 n h

    module _ {V : Type 0} (O : Order V) (val : ℕ → V) where
      pub clean_calm : (i k : ℕ) (q : Prev) → Clean O val A s i k q → Clean O val B s i k q
      clean_calm i k Front h = tt
      clean_calm i k (At p) h = (cur_calm i p h.0, rw (m.safe_item i p h.0.safe) h.1)

      pub beyond_calm : (k : ℕ) (c : Option ℕ) → Beyond O val A s k c → Beyond O val B s k c
      beyond_calm k None h = tt
      beyond_calm k (Some c) h = (cur_calm 1 c h.0, rw (m.safe_item 1 c h.0.safe) h.1)

      item_calm : (i c v : ℕ) → Cur A s i c → A.memory.item c ≡ v → B.memory.item c ≡ v
      item_calm i c v h e = m.safe_item i c h.safe ∙ e

      pub staged_calm : (g : Stage) → Staged O val A s g → Staged O val B s g
      staged_calm Outside (p, q) = (λ h. p (m.in_back h), m.status ∙ q)
      staged_calm (PushReadHead f) (b, p) = (push_calm f p b, m.fresh f p)
      staged_calm (PushSwapHead f l) (b, p, e) = (push_calm f p b, m.fresh f p, m.fresh_link f p ∙ e)
      staged_calm PopReadHead b = busy_calm b
      staged_calm (PopProtectTop c) (b, p) = (busy_calm b, p)
      staged_calm (PopCheckHead c) (b, p) = (busy_calm b, m.names 0 c p)
      staged_calm (PopReadTop c) (b, p, o, k) = (busy_calm b, m.safe 0 c p, (m.safe_stack 0 c p o).0, m.cleared 0 c p k)
      staged_calm (PopSwapHead c n v) (b, p, o, e, d) =
          (busy_calm b, m.safe 0 c p, (m.safe_stack 0 c p o).0, (m.safe_stack 0 c p o).1 ∙ e, m.safe_item 0 c p ∙ d)
      staged_calm (Find g ReadFront) h = hunt_calm h
      staged_calm (Find g (ProtectFirst c)) (h, p) = (hunt_calm h, p)
      staged_calm (Find g (CheckFront c)) (h, p) = (hunt_calm h, m.names 1 c p)
      staged_calm (Find g (ReadCell q c)) (h, p, r) = (hunt_calm h, clean_calm 2 (sought g) q p, cur_calm 1 c r)
      staged_calm (Find g (ProtectNext q c mk n v)) (h, p, r, e, d, lt) =
          (hunt_calm h, clean_calm 2 (sought g) q p, cur_calm 1 c r, item_calm 1 c v r e, λ z. dead_calm 1 c (Some n) r (d z), lt)
      staged_calm (Find g (CheckPrev q c mk n v)) (h, p, r, e, d, y) =
          (hunt_calm h, clean_calm 2 (sought g) q p, cur_calm 1 c r, item_calm 1 c v r e, λ z. dead_calm 1 c n r (d z), named_calm n y)
      staged_calm (Find g (ConfirmCell q c n v)) (h, p, r, e, y, w) =
          (hunt_calm h, clean_calm 2 (sought g) q p, cur_calm 1 c r, item_calm 1 c v r e, named_calm n y, w)
      staged_calm (Find g (ShiftPrev c n)) (h, r, e, y) = (hunt_calm h, cur_calm 1 c r, rw (m.safe_item 1 c r.safe) e, cur_calm 0 n y)
      staged_calm (Find g (ShiftCur q n)) (h, p, r) = (hunt_calm h, clean_calm 2 (sought g) q p, cur_calm 0 n r)
      staged_calm (Find g (Unlink q c n)) (h, p, r, d, y) =
          (hunt_calm h, clean_calm 2 (sought g) q p, cur_calm 1 c r, dead_calm 1 c n r d, named_calm n y)
      staged_calm (LinkFresh k f q c) (h, p, r) = (hunt_calm h, (p.0, clean_calm p.0 k q p.1), beyond_calm k c r)
      staged_calm (MarkCell k q c n) (h, p, r, e) = (hunt_calm h, clean_calm 2 k q p, cur_calm 1 c r, rw (m.safe_item 1 c r.safe) e)
      staged_calm (RemoveCell k q c n) (h, p, r, d, e) =
          (hunt_calm h, clean_calm 2 k q p, cur_calm 1 c r, dead_calm 1 c n r d, rw (m.safe_item 1 c r.safe) e)

      pub stands_calm : (g : Stage) → Stands O val A s g → Stands O val B s g
      stands_calm g t = record { staged = staged_calm g t.staged; owns = λ c e. t.owns c (m.fresh_back c e) }
