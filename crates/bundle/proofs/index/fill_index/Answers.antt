-- What is left to write, at its place, makes the same table as the whole.
use mathlib.Core.Path.{refl}
use Prim.Native.Nat.{◌+◌, ◌-◌}
use native.Mathlib.Omega.{arith}
use native.Mathlib.Nat.{sub-zero}
use Rattle.bundle.specs.Bundle.{start_at}
use Rattle.bundle.specs.Look.{base_at}
use Rattle.list.proofs.Parts.{part_length}
use Rattle.bundle.proofs.Starts.{start-next, base-next}
use Rattle.bundle.proofs.Looking.{words-most}
use Rattle.bundle.proofs.Fences.{Fenced, fenced-on}
use Rattle.bundle.proofs.Filling.{lists-end, list-turn, list-room, header-counts}
use Rattle.bundle.proofs.index.fill_index.Goals as goal
use Rattle.bundle.proofs.index.fill_index.Goals.{After-word_at}

pub loop-k-init : goal.loop-k-init
unfolding start_at base_at
loop-k-init c = (refl, refl, refl, rw sub-zero)

pub word_at-requires : goal.word_at-requires
word_at-requires c = omega (arith, c.words_in-k-end.ensures)

-- the list of this turn
here : (c : After-word_at) → Fenced c.args.bundle.now c.args.lengths.now c.args.index.now c.loop-k.k
    (record { start = c.loop-k.start; end = c.loop-k.start + c.word_at.result; base = c.loop-k.first; next = base_at c.args.bundle.now c.args.lengths.now (c.loop-k.k + 1) })
here c = fenced-on _ _ _ c.requires _ (omega (arith, c.words_in-k-end.ensures)) _ _ _ c.loop-k.invariant.1 c.word_at.ensures.value c.loop-k.invariant.2

pub overflow_add-end : goal.overflow_add-end
overflow_add-end c = let f = here (goal.at.overflow_add-end c).After-word_at in omega (arith, f.inside)

pub slice_bounds-s-end : goal.slice_bounds-s-end
slice_bounds-s-end c = (here (goal.at.slice_bounds-s-end c).After-word_at).inside

pub count_in-count-requires : goal.count_in-count-requires
count_in-count-requires c =
    let f = here (goal.at.count_in-count-requires c).After-word_at in
    omega (arith, f.headed, part_length c.args.bundle.now c.loop-k.start (c.loop-k.start + c.word_at.result - c.loop-k.start) (omega (arith, f.headed, f.inside)))

pub fill_list-requires : goal.fill_list-requires
fill_list-requires c =
    let f = here (goal.at.fill_list-requires c).After-word_at in
    let (p, q) = list-room _ _ _ _ _ _ _ _ f refl (header-counts _ _ _ _ f.list _ c.count_in-count.ensures.value) c.loop-k.invariant.0 (omega arith) in
    record { room = p; list_fits = q }

pub overflow_add-first : goal.overflow_add-first
overflow_add-first c =
    let f = here (goal.at.overflow_add-first c).After-word_at in
    omega (arith, header-counts _ _ _ _ f.list _ c.count_in-count.ensures.value, f.counted, f.room, words-most c.args.index.now)

pub loop-k-preserved : goal.loop-k-preserved
loop-k-preserved c =
    let i = c.loop-k.invariant in
    let f = here (goal.at.loop-k-preserved c).After-word_at in
    let n = header-counts _ _ _ _ f.list _ c.count_in-count.ensures.value in (
      omega (arith, i.0, c.fill_list.auto.index),
      omega (arith, i.1, c.word_at.ensures.value, start-next c.args.lengths.now c.loop-k.k),
      omega (arith, i.2, n, base-next c.args.bundle.now c.args.lengths.now c.loop-k.k),
      list-turn _ _ _ _ _ _ i.3 _ _ _ _ _ (omega (arith, c.words_in-k-end.ensures)) f.list i.1 i.2 n c.fill_list.ensures,
    )

pub returns : goal.returns
returns c = lists-end _ _ _ _ _ _ c.loop-k.invariant.3 (omega (arith, c.words_in-k-end.ensures))
