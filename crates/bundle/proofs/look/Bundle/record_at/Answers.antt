-- The index entry names the place: one before the list's start is not in it, any other is read in the list's own part.
use native.Mathlib.Omega.{arith}
use Rattle.bundle.proofs.Looking.{place-before, place_here}
use Rattle.bundle.proofs.Looking.{words-most}
use Rattle.bundle.proofs.look.Bundle.record_at.Goals as goal

pub overflow_add-span : goal.overflow_add-span
overflow_add-span c = let w = words-most c.args.self.index.now in omega arith

pub returns-then-place-span : goal.returns-then-place-span
returns-then-place-span c = rw (← c.word_at-place.ensures.value) (place-before _ _ _ _ c.if-place-span.true)

pub returns : goal.returns
returns c = rw (← c.word_at-place.ensures.value) (place_here _ _ _ _ c.if-place-span.false _ c.read_whole.ensures)
