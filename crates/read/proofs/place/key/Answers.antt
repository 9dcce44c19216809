-- `key` meets its contract: the part of a fit place, and an empty part at the bundle's start where it is unfit.
use native.Mathlib.Nat.{add-sub_cancel_left}
use native.Mathlib.Omega.{arith}
use Rattle.list.proofs.Parts.{part-begins}
use Rattle.read.proofs.Placing.{none-begins, fit_parts, unfit-parts}
use Rattle.read.proofs.place.key.Goals as goal

pub returns-in_default : goal.returns-in_default
returns-in_default c = let z = unfit-parts _ _ _ _ _ _ c.place_of.ensures c.in_default.is in
    record { part = z.no_key; begins = none-begins _ _ z.no-key-at }

pub overflow_add-result : goal.overflow_add-result
overflow_add-result c = omega (arith, (fit_parts _ _ _ _ _ _ c.place_of.ensures _ c.in-Some.is).key_in)

pub slice_bounds-result-end-2 : goal.slice_bounds-result-end-2
slice_bounds-result-end-2 c = (fit_parts _ _ _ _ _ _ c.place_of.ensures _ c.in-Some.is).key_in

pub returns : goal.returns
returns c = let z = fit_parts _ _ _ _ _ _ c.place_of.ensures _ c.in-Some.is in
    record { part = rw add-sub_cancel_left z.key-is; begins = part-begins _ _ _ z.key-at }
