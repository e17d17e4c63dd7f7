-- A run straight after an opening.
use Rattle.std.proofs.Common.{◌≡◌, ℕ, false, ltb, List, [], length, Ordering, refl, ap, ◌∙◌, subst, inl}
use Rattle.reclaim.specs.Model.{Model}
use Rattle.machine.specs.declared.answer.Answer.{Answer}
use Rattle.machine.specs.Laws.{Openable, Came, Carries}
use Rattle.machine.specs.Machine.{Machine, ran, opened}
use Rattle.machine.specs.Serial.{compared}
use Rattle.board.specs.declared.board.Board.{Board}
use Rattle.board.specs.Opens.{Played, first_run}
use Rattle.board.specs.Runs.{Run, running}
use Rattle.board.specs.View.{view}

begins_so : {State I V : Type 0} (M : Model State) (cmp : V → V → Ordering) (value : I → V) (items : List I) (x : State) → Openable M x
    → Came M cmp value items (opened M x (length items)) []
unfolding ran
begins_so M cmp value items x o = record { first = x; words = []; openable = o; stands = refl; saw = refl }

pub played : {R S I V : Type 0} (M : Model S) (st : R → S) (cmp : V → V → Ordering) (value : I → V) (r : R) (items : List I) (words : List ℕ) (out next : List Answer)
    (m : Machine S) (b : Board R) → ltb (length out) (length words) ≡ false → m ≡ opened M (st r) (length items) → Openable M (st r)
    → view st b ≡ (running M (compared cmp value items) (length items) m words out).after
    → next ≡ (running M (compared cmp value items) (length items) m words out).written
    → Carries M cmp value items m (view st b) (running M (compared cmp value items) (length items) m words out).seen
    → Played M st cmp value r items words out b × (next ≡ (first_run M cmp value (st r) items words out).written)
played {S = S} M st cmp value r items words out next m b enough e o a w k =
    let run : Machine S → Run S = λ y. running M (compared cmp value items) (length items) y words out in
    let k₁ = subst (λ y. Carries M cmp value items y (view st b) (run y).seen) e k in
    let h = k₁ items [] (inl refl) (begins_so M cmp value items (st r) o) in
    (record { enough = enough; after = a ∙ ap (λ y. (run y).after) e; came = h.0; promise = h.1 }, w ∙ ap (λ y. (run y).written) e)
