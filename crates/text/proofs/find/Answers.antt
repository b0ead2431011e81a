-- std finds the stop where it stands, counted from where it looks.
use Rattle.std.proofs.Common.{rules, tests, arith, ◌∙◌, ◌-◌, length, length-drop, drop, eqb}
use Rattle.std.proofs.lemmas.Iterator.{YieldsList-from_slice}
use Rattle.std.proofs.lemmas.Iterator.Search.{position_from_yields_List}
use Rattle.std.proofs.lemmas.List.{take_all}
use Rattle.text.proofs.Places.{found_from, missed_from}
use Rattle.text.proofs.find.Goals as goal

pub returns-in-Some : goal.returns-in-Some
returns-in-Some c =
    let s = c.args.s.now in
    let start = c.min-start.result in
    let rest = YieldsList-from_slice (drop start s) (c.iter.ensures.rest ∙ take_all (length s - start) (drop start s) (omega (arith, length-drop start s))) in
    let e = position_from_yields_List (λ x. eqb x c.args.stop) _ _ _ c.position.ensures.ran rest (λ x b q k. search (rules, tests)) in
    found_from c.args.stop s c.args.from start c.position.result c.in-Some.n c.min-start.ensures e c.in-Some.is

pub returns-in-None : goal.returns-in-None
returns-in-None c =
    let s = c.args.s.now in
    let start = c.min-start.result in
    let rest = YieldsList-from_slice (drop start s) (c.iter.ensures.rest ∙ take_all (length s - start) (drop start s) (omega (arith, length-drop start s))) in
    let e = position_from_yields_List (λ x. eqb x c.args.stop) _ _ _ c.position.ensures.ran rest (λ x b q k. search (rules, tests)) in
    missed_from c.args.stop s c.args.from start c.position.result c.min-start.ensures e c.in-None.is
