-- The first byte that is not shared decides, or a key that has ended.
use Rattle.list.proofs.Shared.{all-shared, more_left, more-right}
use Rattle.list.proofs.ByStd.{first-less, first-greater}
use Rattle.list.proofs.key.ordered.Goals as goal

pub returns-in-Some-Some : goal.returns-in-Some-Some
returns-in-Some-Some c =
    let s = c.in-Some-Some in
    first-less _ _ _ c.requires s.x s.y s.ensures.lookup s.ensures'.lookup c.if-x-y.true

pub returns-in-Some-Some-2 : goal.returns-in-Some-Some-2
returns-in-Some-Some-2 c =
    let s = c.in-Some-Some in
    first-greater _ _ _ c.requires s.x s.y s.ensures.lookup s.ensures'.lookup c.if-x-y.false

pub returns-in-Some-None : goal.returns-in-Some-None
returns-in-Some-None c =
    let s = c.in-Some-None in
    more_left _ _ _ c.requires s.ensures'.lookup.3 s.ensures.lookup.3.0

pub returns-in-None-Some : goal.returns-in-None-Some
returns-in-None-Some c =
    let s = c.in-None-Some in
    more-right _ _ _ c.requires s.ensures.lookup.3 s.ensures'.lookup.3.0

pub returns-in-None-None : goal.returns-in-None-None
returns-in-None-None c =
    let s = c.in-None-None in
    all-shared _ _ _ c.requires s.ensures'.lookup.3 s.ensures.lookup.3
