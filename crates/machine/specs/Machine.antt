-- The board as a machine: its memory, every step with what the step lets be seen, words and runs.
-- Each step makes exactly the reclaimer's calls that stand in its line, in that order.
use Rattle.std.specs.Prelude.{ℕ, zero, suc, Bool, true, false, cond, not, ◌&&◌, List, [], ◌∷◌, ◌++◌, reverse, length, Some, None, Ok, Err, Option, Result, ◌==◌, nat_lt}
use Rattle.std.specs.declared.cmp.Ordering.TheVariants.{Less, Equal, Greater}
use Rattle.std.specs.declared.cmp.Ordering.{Ordering}
use Rattle.reclaim.specs.Model.{Model, after_enter, after_leave, after_protect, after_retire}
use Rattle.machine.specs.declared.cell.Prev.{Prev}
use Rattle.machine.specs.declared.cell.Prev.TheVariants.{Front, At}
use Rattle.machine.specs.declared.stage.Goal.{Goal}
use Rattle.machine.specs.declared.stage.Goal.TheVariants.{Look, Add, Take, Finish}
use Rattle.machine.specs.declared.stage.Search.TheVariants.{ReadFront, ProtectFirst, CheckFront, ReadCell, ProtectNext, CheckPrev, ConfirmCell, ShiftPrev, ShiftCur, Unlink}
use Rattle.machine.specs.declared.stage.Stage.{Stage}
use Rattle.machine.specs.declared.stage.Stage.TheVariants.{Outside, PushReadHead, PushSwapHead, PopReadHead, PopProtectTop, PopCheckHead, PopReadTop, PopSwapHead, Find, LinkFresh, MarkCell, RemoveCell}
use Rattle.machine.specs.declared.word.Op.{Op}
use Rattle.machine.specs.declared.word.Op.TheVariants.{Insert, Delete, Contains, Push, Pop}
use Rattle.machine.specs.declared.word.Kind.{Kind}
use Rattle.machine.specs.declared.word.Kind.TheVariants.{Step, Begin}
use Rattle.machine.specs.declared.word.Word.{Word}
use Rattle.machine.specs.declared.word.Word.TheVariants.{Tidy, Of}
use Rattle.machine.specs.declared.answer.Answer.{Answer}
use Rattle.machine.specs.declared.answer.Reason.{Reason}
use Rattle.machine.specs.declared.answer.Reason.TheVariants as reason
use Rattle.machine.specs.Answers.{under_way, yes, no, refused, tidied}
use Rattle.machine.specs.Words.{parsed}

-- what can be seen: sessions first, then cells or answers
pub data Event : Type 0 where
  begins : ℕ → Op → Event
  touches : ℕ → ℕ → Event
  clears : ℕ → ℕ → Event
  gives : ℕ → Event
  decides : ℕ → Answer → Event
  completes : ℕ → Answer → Event

-- what one step lets be seen, its last event first
abbrev pub Trace : Type 0
Trace = List Event

-- the shared memory: the reclaimer, the stack's head, the list's front, the free stack, and of each cell its link, its mark and its item's place
pub record Memory (State : Type 0) : Type 0 where
  pub reclaimer : State
  pub head : Option ℕ
  pub front : Option ℕ
  pub free : List ℕ
  pub link : ℕ → Option ℕ
  pub mark : ℕ → Bool
  pub item : ℕ → ℕ

-- a board: the memory, where each session stands, the number of sessions and of items
pub record Machine (State : Type 0) : Type 0 where
  pub memory : Memory State
  pub stage : ℕ → Stage
  pub sessions : ℕ
  pub items : ℕ

-- what a step of one session leads to
pub record Outcome (State : Type 0) : Type 0 where
  pub memory : Memory State
  pub stage : Stage
  pub seen : Trace
  pub answer : Answer

pub record Tidied (State : Type 0) : Type 0 where
  pub memory : Memory State
  pub seen : Trace
  pub given : ℕ

-- what a word does, what it lets be seen (from here on oldest first) and what it answers; likewise a list of words
pub record Did (State : Type 0) : Type 0 where
  pub after : Machine State
  pub seen : List Event
  pub answer : Answer

pub record Ran (State : Type 0) : Type 0 where
  pub after : Machine State
  pub seen : List Event
  pub answers : List Answer

-- a map with another value at one place
unfoldable pub put : {X : Type 0} → (ℕ → X) → ℕ → X → ℕ → X
put f k v q = cond (q == k) v (f q)

abbrev pub same : Option ℕ → Option ℕ → Bool
same None None = true
same None (Some b) = false
same (Some a) None = false
same (Some a) (Some b) = a == b

-- the mark and the cell of prev's link; the front's link is never marked
abbrev pub link_of : {State : Type 0} → Memory State → Prev → Option ℕ
link_of h Front = h.front
link_of h (At p) = h.link p

abbrev pub mark_of : {State : Type 0} → Memory State → Prev → Bool
mark_of h Front = false
mark_of h (At p) = h.mark p

-- the link is unmarked and to this cell or none
abbrev pub is : Bool → Option ℕ → Option ℕ → Bool
is m l c = not m && same l c

abbrev pub points : {State : Type 0} → Memory State → Prev → Option ℕ → Bool
points h q c = is (mark_of h q) (link_of h q) c

abbrev pub front_after : {State : Type 0} → Memory State → Prev → Option ℕ → Option ℕ
front_after h Front l = l
front_after h (At p) l = h.front

abbrev pub link_after : {State : Type 0} → Memory State → Prev → Option ℕ → ℕ → Option ℕ
link_after h Front l = h.link
link_after h (At p) l = put h.link p l

-- one cell more on the free stack, which has room for 256
unfoldable pub shelve : ℕ → List ℕ → List ℕ
shelve c fs = cond (nat_lt (length fs) 256) (c ∷ fs) fs

abbrev pub shelved : Option ℕ → List ℕ → List ℕ
shelved None f = f
shelved (Some c) f = shelve c f

-- n cells from k on
unfoldable pub counting : ℕ → ℕ → List ℕ
counting k zero = []
counting k (suc n) = k ∷ counting (suc k) n

abbrev pub sought : Goal → ℕ
sought (Look k) = k
sought (Add k f) = k
sought (Take k) = k
sought (Finish k) = k

-- the item at the place v against the sought one
abbrev pub weigh : (ℕ → ℕ → Ordering) → ℕ → Goal → Ordering
weigh cmp v g = cmp v (sought g)

-- using prev's link touches prev, if it is a cell
abbrev pub touch_prev : ℕ → Prev → Trace
touch_prev s Front = []
touch_prev s (At p) = touches s p ∷ []

abbrev pub clearing : ℕ → Option ℕ → Trace → Trace
clearing s None tr = tr
clearing s (Some n) tr = clears s n ∷ tr

abbrev pub given : Option ℕ → Trace
given None = []
given (Some c) = gives c ∷ []

-- the two operations that take a fresh cell
pub data Adding : Type 0 where
  pushing : Adding
  inserting : Adding

abbrev pub op_of : Adding → ℕ → Op
op_of pushing p = Push p
op_of inserting p = Insert p

abbrev pub first_stage : Adding → ℕ → ℕ → Stage
first_stage pushing p f = PushReadHead f
first_stage inserting p f = Find (Add p f) ReadFront

abbrev pub as_memory : {State : Type 0} → State → Option ℕ → Option ℕ → List ℕ → (ℕ → Option ℕ) → (ℕ → Bool) → (ℕ → ℕ) → Memory State
as_memory x head front free link mark item = record { reclaimer = x; head = head; front = front; free = free; link = link; mark = mark; item = item }

module _ {State : Type 0} (M : Model State) where
  -- the changes that steps are made of
  abbrev pub with_reclaimer : Memory State → State → Memory State
  with_reclaimer h x = as_memory x h.head h.front h.free h.link h.mark h.item

  abbrev pub entered : Memory State → ℕ → Memory State
  entered h s = with_reclaimer h (after_enter M h.reclaimer s)

  abbrev pub left : Memory State → ℕ → Memory State
  left h s = with_reclaimer h (after_leave M h.reclaimer s)

  abbrev pub protected : Memory State → ℕ → ℕ → ℕ → Memory State
  protected h s i c = with_reclaimer h (after_protect M h.reclaimer s i c)

  abbrev pub retired : Memory State → ℕ → Memory State
  retired h c = with_reclaimer h (after_retire M h.reclaimer c)

  abbrev pub collected : Memory State → Memory State
  collected h = with_reclaimer h (M.collects h.reclaimer)

  -- the head becomes a cell or none
  abbrev pub headed : Memory State → Option ℕ → Memory State
  headed h l = as_memory h.reclaimer l h.front h.free h.link h.mark h.item

  -- the link of a fresh cell becomes the unmarked one to l
  abbrev pub written : Memory State → ℕ → Option ℕ → Memory State
  written h f l = as_memory h.reclaimer h.head h.front h.free (put h.link f l) (put h.mark f false) h.item

  -- the unmarked link of prev goes to l
  abbrev pub relinked : Memory State → Prev → Option ℕ → Memory State
  relinked h q l = as_memory h.reclaimer h.head (front_after h q l) h.free (link_after h q l) h.mark h.item

  abbrev pub marked : Memory State → ℕ → Memory State
  marked h c = as_memory h.reclaimer h.head h.front h.free h.link (put h.mark c true) h.item

  abbrev pub put_back : Memory State → ℕ → Memory State
  put_back h f = as_memory h.reclaimer h.head h.front (shelve f h.free) h.link h.mark h.item

  -- collect, and a cell answered goes on the free stack
  abbrev pub collected_as : Option ℕ → Memory State → Memory State
  collected_as o h = as_memory (M.collects h.reclaimer) h.head h.front (shelved o h.free) h.link h.mark h.item

  -- the fresh cell f leaves the free stack and gets the item's place and an empty unmarked link
  abbrev pub taken : Memory State → ℕ → List ℕ → ℕ → Memory State
  taken h f rest p = as_memory h.reclaimer h.head h.front rest (put h.link f None) (put h.mark f false) (put h.item f p)

  -- how a step ends: under way; decided and complete; complete after an earlier decision
  abbrev pub on : Memory State → Stage → Trace → Outcome State
  on h g tr = record { memory = h; stage = g; seen = tr; answer = under_way }

  abbrev pub done : Memory State → ℕ → Answer → Trace → Outcome State
  done h s a tr = record { memory = left h s; stage = Outside; seen = completes s a ∷ decides s a ∷ tr; answer = a }

  abbrev pub over : Memory State → ℕ → Answer → Trace → Outcome State
  over h s a tr = record { memory = left h s; stage = Outside; seen = completes s a ∷ tr; answer = a }

  -- the begin of an operation: a fresh cell for a push or an insert, from the free stack, else from collect
  abbrev pub begun : Memory State → Trace → ℕ → Adding → ℕ → List ℕ → Outcome State
  begun h tr s k p [] = record { memory = h; stage = Outside; seen = tr; answer = refused reason.NoCell }
  begun h tr s k p (f ∷ rest) = on (entered (taken h f rest p) s) (first_stage k p f) (begins s (op_of k p) ∷ tr)

  abbrev pub refetched : Memory State → ℕ → Adding → ℕ → Option ℕ → Outcome State
  refetched h s k p None = begun (collected h) [] s k p []
  refetched h s k p (Some c) = begun (collected h) (gives c ∷ []) s k p (c ∷ [])

  abbrev pub fetched : Memory State → ℕ → Adding → ℕ → List ℕ → Outcome State
  fetched h s k p [] = refetched h s k p (M.picks h.reclaimer)
  fetched h s k p (f ∷ rest) = begun h [] s k p (f ∷ rest)

  abbrev pub beginning : Memory State → ℕ → Op → Outcome State
  beginning h s (Push p) = fetched h s pushing p h.free
  beginning h s Pop = on (entered h s) PopReadHead (begins s Pop ∷ [])
  beginning h s (Insert p) = fetched h s inserting p h.free
  beginning h s (Delete p) = on (entered h s) (Find (Take p) ReadFront) (begins s (Delete p) ∷ [])
  beginning h s (Contains p) = on (entered h s) (Find (Look p) ReadFront) (begins s (Contains p) ∷ [])

  -- the stack
  abbrev pub push_swap : Memory State → ℕ → ℕ → Bool → Outcome State
  push_swap h s f true = done (headed h (Some f)) s (yes 0) []
  push_swap h s f false = on h (PushReadHead f) []

  abbrev pub pop_read : Memory State → ℕ → Option ℕ → Outcome State
  pop_read h s None = done h s no []
  pop_read h s (Some c) = on h (PopProtectTop c) []

  abbrev pub pop_check : Memory State → ℕ → ℕ → Bool → Outcome State
  pop_check h s c true = on h (PopReadTop c) (clears s c ∷ [])
  pop_check h s c false = on h PopReadHead []

  abbrev pub pop_swap : Memory State → ℕ → ℕ → Option ℕ → ℕ → Bool → Outcome State
  pop_swap h s c n v true = done (retired (headed h n) c) s (yes v) []
  pop_swap h s c n v false = on h PopReadHead []

  -- the two ends of a search
  abbrev pub absent : Memory State → ℕ → Goal → Prev → Option ℕ → Trace → Outcome State
  absent h s (Look k) q c tr = done h s no tr
  absent h s (Add k f) q c tr = on h (LinkFresh k f q c) tr
  absent h s (Take k) q c tr = done h s no tr
  absent h s (Finish k) q c tr = over h s (yes 0) tr

  abbrev pub present : Memory State → ℕ → Goal → Prev → ℕ → Option ℕ → Trace → Outcome State
  present h s (Look k) q c n tr = done h s (yes 0) tr
  present h s (Add k f) q c n tr = done (put_back h f) s no tr
  present h s (Take k) q c n tr = on h (MarkCell k q c n) tr
  present h s (Finish k) q c n tr = over h s (yes 0) tr

  -- the search
  abbrev pub read_front : Memory State → ℕ → Goal → Option ℕ → Outcome State
  read_front h s g None = absent h s g Front None []
  read_front h s g (Some c) = on h (Find g (ProtectFirst c)) []

  abbrev pub check_front : Memory State → ℕ → Goal → ℕ → Bool → Outcome State
  check_front h s g c true = on h (Find g (ReadCell Front c)) (clears s c ∷ [])
  check_front h s g c false = on h (Find g ReadFront) []

  abbrev pub read_cell : Memory State → ℕ → Goal → Prev → ℕ → Option ℕ → Outcome State
  read_cell h s g q c None = on h (Find g (CheckPrev q c (h.mark c) None (h.item c))) (touches s c ∷ [])
  read_cell h s g q c (Some n) = on h (Find g (ProtectNext q c (h.mark c) n (h.item c))) (touches s c ∷ [])

  abbrev pub check_prev : Memory State → ℕ → Goal → Prev → ℕ → Bool → Option ℕ → ℕ → Bool → Ordering → Outcome State
  check_prev h s g q c m n v false o = on h (Find g ReadFront) (touch_prev s q)
  check_prev h s g q c true n v true o = on h (Find g (Unlink q c n)) (touch_prev s q)
  check_prev h s g q c false n v true Less = on h (Find g (ConfirmCell q c n v)) (touch_prev s q)
  check_prev h s g q c false n v true Equal = on h (Find g (ConfirmCell q c n v)) (touch_prev s q)
  check_prev h s g q c false n v true Greater = absent h s g q (Some c) (touch_prev s q)

  abbrev pub confirm_cell : Memory State → ℕ → Goal → Prev → ℕ → Option ℕ → Bool → Ordering → Outcome State
  confirm_cell h s g q c n false o = on h (Find g ReadFront) (touches s c ∷ [])
  confirm_cell h s g q c n true Equal = present h s g q c n (clearing s n (touches s c ∷ []))
  confirm_cell h s g q c None true Less = absent h s g (At c) None (touches s c ∷ [])
  confirm_cell h s g q c None true Greater = absent h s g (At c) None (touches s c ∷ [])
  confirm_cell h s g q c (Some n) true Less = on h (Find g (ShiftPrev c n)) (clears s n ∷ touches s c ∷ [])
  confirm_cell h s g q c (Some n) true Greater = on h (Find g (ShiftPrev c n)) (clears s n ∷ touches s c ∷ [])

  abbrev pub unlink_marked : Memory State → ℕ → Goal → Prev → ℕ → Option ℕ → Bool → Outcome State
  unlink_marked h s g q c n false = on h (Find g ReadFront) (touch_prev s q)
  unlink_marked h s g q c None true = absent (retired (relinked h q None) c) s g q None (touch_prev s q)
  unlink_marked h s g q c (Some n) true = on (retired (relinked h q (Some n)) c) (Find g (ShiftCur q n)) (clears s n ∷ touch_prev s q)

  -- the changes of the list; h has the fresh cell's link written
  abbrev pub link_fresh : Memory State → ℕ → ℕ → ℕ → Prev → Option ℕ → Bool → Outcome State
  link_fresh h s k f q c false = on h (Find (Add k f) ReadFront) (touch_prev s q)
  link_fresh h s k f q c true = done (relinked h q (Some f)) s (yes 0) (touch_prev s q)

  abbrev pub mark_cell : Memory State → ℕ → ℕ → Prev → ℕ → Option ℕ → Bool → Outcome State
  mark_cell h s k q c n false = on h (Find (Take k) ReadFront) (touches s c ∷ [])
  mark_cell h s k q c n true = on (marked h c) (RemoveCell k q c n) (decides s (yes 0) ∷ touches s c ∷ [])

  abbrev pub remove_cell : Memory State → ℕ → ℕ → Prev → ℕ → Option ℕ → Bool → Outcome State
  remove_cell h s k q c n false = on h (Find (Finish k) ReadFront) (touch_prev s q)
  remove_cell h s k q c n true = over (retired (relinked h q n) c) s (yes 0) (touch_prev s q)

  -- the table of all steps: what the session's stage makes of a step word
  abbrev pub stepping : (ℕ → ℕ → Ordering) → Memory State → ℕ → Stage → Outcome State
  stepping cmp h s Outside = record { memory = h; stage = Outside; seen = []; answer = refused reason.Outside }
  stepping cmp h s (PushReadHead f) = on (written h f h.head) (PushSwapHead f h.head) []
  stepping cmp h s (PushSwapHead f l) = push_swap h s f (same h.head l)
  stepping cmp h s PopReadHead = pop_read h s h.head
  stepping cmp h s (PopProtectTop c) = on (protected h s 0 c) (PopCheckHead c) []
  stepping cmp h s (PopCheckHead c) = pop_check h s c (same h.head (Some c))
  stepping cmp h s (PopReadTop c) = on h (PopSwapHead c (h.link c) (h.item c)) (touches s c ∷ [])
  stepping cmp h s (PopSwapHead c n v) = pop_swap h s c n v (same h.head (Some c))
  stepping cmp h s (Find g ReadFront) = read_front h s g h.front
  stepping cmp h s (Find g (ProtectFirst c)) = on (protected h s 1 c) (Find g (CheckFront c)) []
  stepping cmp h s (Find g (CheckFront c)) = check_front h s g c (points h Front (Some c))
  stepping cmp h s (Find g (ReadCell q c)) = read_cell h s g q c (h.link c)
  stepping cmp h s (Find g (ProtectNext q c m n v)) = on (protected h s 0 n) (Find g (CheckPrev q c m (Some n) v)) []
  stepping cmp h s (Find g (CheckPrev q c m n v)) = check_prev h s g q c m n v (points h q (Some c)) (weigh cmp v g)
  stepping cmp h s (Find g (ConfirmCell q c n v)) = confirm_cell h s g q c n (points h (At c) n) (weigh cmp v g)
  stepping cmp h s (Find g (ShiftPrev c n)) = on (protected h s 2 c) (Find g (ShiftCur (At c) n)) []
  stepping cmp h s (Find g (ShiftCur q n)) = on (protected h s 1 n) (Find g (ReadCell q n)) []
  stepping cmp h s (Find g (Unlink q c n)) = unlink_marked h s g q c n (points h q (Some c))
  stepping cmp h s (LinkFresh k f q c) = link_fresh (written h f c) s k f q c (points (written h f c) q c)
  stepping cmp h s (MarkCell k q c n) = mark_cell h s k q c n (points h (At c) n)
  stepping cmp h s (RemoveCell k q c n) = remove_cell h s k q c n (points h q (Some c))

  -- a begin is refused to a session inside
  abbrev pub busy : Memory State → Stage → Outcome State
  busy h g = record { memory = h; stage = g; seen = []; answer = refused reason.Inside }

  abbrev pub opening : Memory State → ℕ → Op → Stage → Outcome State
  opening h s op Outside = beginning h s op
  opening h s op (PushReadHead f) = busy h (PushReadHead f)
  opening h s op (PushSwapHead f l) = busy h (PushSwapHead f l)
  opening h s op PopReadHead = busy h PopReadHead
  opening h s op (PopProtectTop c) = busy h (PopProtectTop c)
  opening h s op (PopCheckHead c) = busy h (PopCheckHead c)
  opening h s op (PopReadTop c) = busy h (PopReadTop c)
  opening h s op (PopSwapHead c n v) = busy h (PopSwapHead c n v)
  opening h s op (Find g at) = busy h (Find g at)
  opening h s op (LinkFresh k f q c) = busy h (LinkFresh k f q c)
  opening h s op (MarkCell k q c n) = busy h (MarkCell k q c n)
  opening h s op (RemoveCell k q c n) = busy h (RemoveCell k q c n)

  -- the session's stage and the word's kind together decide what happens
  abbrev pub moving : (ℕ → ℕ → Ordering) → Memory State → ℕ → Stage → Kind → Outcome State
  moving cmp h s g Step = stepping cmp h s g
  moving cmp h s g (Begin op) = opening h s op g

  -- tidy: collect until none is answered, each cell answered goes on the free stack; at most so often
  abbrev pub stop : {X : Type 0} → Option ℕ → X → X → X
  stop None x y = x
  stop (Some c) x y = y

  abbrev pub gone : Tidied State → Option ℕ → Tidied State
  gone r o = record { memory = r.memory; seen = r.seen ++ given o; given = suc r.given }

  unfoldable pub tidying : ℕ → Memory State → Tidied State
  tidying zero h = record { memory = h; seen = []; given = 0 }
  tidying (suc k) h =
      stop (M.picks h.reclaimer)
      (record { memory = collected h; seen = []; given = 0 })
      (gone (tidying k (collected_as (M.picks h.reclaimer) h)) (M.picks h.reclaimer))

  -- once more than cells are held, which is often enough
  abbrev pub tidyings : Memory State → Tidied State
  tidyings h = tidying (suc (M.count h.reclaimer)) h

  -- words
  abbrev pub landed : Machine State → ℕ → Outcome State → Did State
  landed m s o =
      record {
        after = record { memory = o.memory; stage = put m.stage s o.stage; sessions = m.sessions; items = m.items };
        seen = reverse o.seen;
        answer = o.answer;
      }

  abbrev pub tidily : Machine State → Tidied State → Did State
  tidily m r =
      record {
        after = record { memory = r.memory; stage = m.stage; sessions = m.sessions; items = m.items };
        seen = reverse r.seen;
        answer = tidied r.given;
      }

  abbrev pub refusing : Machine State → Reason → Did State
  refusing m why = record { after = m; seen = []; answer = refused why }

  abbrev pub answering : (ℕ → ℕ → Ordering) → Machine State → Result Word Reason → Did State
  answering cmp m (Err why) = refusing m why
  answering cmp m (Ok Tidy) = tidily m (tidyings m.memory)
  answering cmp m (Ok (Of s k)) = landed m s (moving cmp m.memory s (m.stage s) k)

  -- one word, with a list of n items whose places cmp compares
  unfoldable pub worded : (ℕ → ℕ → Ordering) → ℕ → Machine State → ℕ → Did State
  worded cmp n m w =
      cond (n == m.items) (answering cmp m (parsed w m.sessions m.items)) (refusing m reason.OtherItems)

  -- words one after another
  abbrev pub follows : Did State → Ran State → Ran State
  follows d r = record { after = r.after; seen = d.seen ++ r.seen; answers = d.answer ∷ r.answers }

  unfoldable pub ran : (ℕ → ℕ → Ordering) → ℕ → Machine State → List ℕ → Ran State
  ran cmp n m [] = record { after = m; seen = []; answers = [] }
  ran cmp n m (w ∷ ws) = follows (worded cmp n m w) (ran cmp n (worded cmp n m w).after ws)

  -- a new board
  abbrev pub opened : State → ℕ → Machine State
  opened x items =
      record {
        memory = as_memory x None None (counting 0 (M.cells x)) (λ c. None) (λ c. false) (λ c. 0);
        stage = λ s. Outside;
        sessions = M.sessions x;
        items = items;
      }
