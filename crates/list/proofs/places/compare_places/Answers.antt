use Rattle.std.proofs.Common.{Some, sym, refl, ap, ◌∙◌}
use Rattle.std.proofs.lemmas.Bool.{ltb-true, ltb-false}
use Rattle.list.proofs.Placing.{at_place, past_place}
use Rattle.list.proofs.places.compare_places.Goals as goal

pub returns-in-Some-Some : goal.returns-in-Some-Some
returns-in-Some-Some g c =
    let v = g.T.ItemOrder.value in
    let f = c.in-Some-Some.ensures.lookup in
    let h = c.in-Some-Some.ensures'.lookup in
    let a = at_place v c.args.items.now c.args.a c.in-Some-Some.x.now (ltb-true _ _ (sym f.0)) ∙ ap (λ q. Some (v q)) (sym f.1) in
    let b = at_place v c.args.items.now c.args.b c.in-Some-Some.y.now (ltb-true _ _ (sym h.0)) ∙ ap (λ q. Some (v q)) (sym h.1) in
    rw (a, b) c.compare.ensures

pub returns-in-Some-None : goal.returns-in-Some-None
returns-in-Some-None g c =
    let v = g.T.ItemOrder.value in
    let f = c.in-Some-None.ensures.lookup in
    let h = c.in-Some-None.ensures'.lookup in
    let a = at_place v c.args.items.now c.args.a c.in-Some-None.field-0-0.now (ltb-true _ _ (sym f.0)) in
    let b = past_place v c.args.items.now c.args.b (ltb-false _ _ (sym h.0)) in
    rw (a, b) refl

pub returns-in-None-Some : goal.returns-in-None-Some
returns-in-None-Some g c =
    let v = g.T.ItemOrder.value in
    let f = c.in-None-Some.ensures.lookup in
    let h = c.in-None-Some.ensures'.lookup in
    let a = past_place v c.args.items.now c.args.a (ltb-false _ _ (sym f.0)) in
    let b = at_place v c.args.items.now c.args.b c.in-None-Some.field-0-1.now (ltb-true _ _ (sym h.0)) in
    rw (a, b) refl

pub returns-in-None-None : goal.returns-in-None-None
returns-in-None-None g c =
    let v = g.T.ItemOrder.value in
    let f = c.in-None-None.ensures.lookup in
    let h = c.in-None-None.ensures'.lookup in
    let a = past_place v c.args.items.now c.args.a (ltb-false _ _ (sym f.0)) in
    let b = past_place v c.args.items.now c.args.b (ltb-false _ _ (sym h.0)) in
    rw (a, b) refl
