use Rattle.std.proofs.Common.{◌≡◌, ℕ, List, rules, tests}
use Rattle.std.proofs.lemmas.Result.{IfOk-weaker}
use Rattle.loads.specs.Keys.{Made, Numbered}
use Rattle.loads.proofs.keys.numbers.Goals as goal

-- what is made of a number is the number itself
numbered : (makes : ℕ → ℕ → Type 0) (keys : ℕ) (items : List ℕ) → ((n item : ℕ) → makes n item → item ≡ n) → Made makes keys items → Numbered keys items
numbered makes keys items same made = record { all = made.all; each = λ place below. same _ _ (made.each place 0 below) }

pub returns : goal.returns
returns c = IfOk-weaker _ _ _ (λ v. numbered _ _ _ (λ n item made. search (rules, tests))) c.items.ensures
