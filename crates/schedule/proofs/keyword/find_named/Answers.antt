use Rattle.std.proofs.Common.{◌≡◌, ◌≢◌, rules, tests}
use Rattle.std.proofs.lemmas.Iterator.{YieldsList-from_slice, first_from_find}
use Rattle.std.proofs.lemmas.Iterator.Consumers.{YieldsList-from_copied, YieldsList-at}
use Rattle.schedule.proofs.Keywords.{searched}
use Rattle.schedule.proofs.keyword.find_named.Goals as goal

pub returns : goal.returns
returns g c =
    let text = c.args.text.now in
    let spelled = g.K.Keyword.spelled in
    searched c.all.result.now spelled text _ c.all.ensures.each
    (first_from_find _ _ _ (λ k. text ≡ spelled k) (λ k. text ≢ spelled k) c.find.ensures.ran
    (YieldsList-from_copied (YieldsList-at c.copied.ensures.source (YieldsList-from_slice c.all.result.now c.iter.ensures.rest)))
    (λ x q k. search (rules, tests))
    (λ x q k. search (rules, tests)))
