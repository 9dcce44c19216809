-- Compaction: the output, and the numbers of the records kept and reported.
use Rattle.std.specs.Prelude.{ℕ, suc, Bool}
use mathlib.Core.List.{List, [], ◌∷◌, map, filter_map}
use Rattle.list.specs.Pick.{pick}
use Rattle.list.specs.Version.{Version}
use Rattle.compaction.specs.declared.stream.Job.{Job}
use Rattle.compaction.specs.Fate.{Fate, is_kept, WithVerdict, fates}

-- The output: what leaves, in input order.
unfoldable pub compacted : Job → List WithVerdict → List Version
compacted j bs = filter_map (λ (f : Fate). f.leaves) (fates j bs)

-- The numbers, from n on, at which a row of tests says yes.
unfoldable pub numbers : ℕ → List Bool → List ℕ
numbers n [] = []
numbers n (b ∷ bs) = pick b (n ∷ numbers (suc n) bs) (numbers (suc n) bs)

-- The numbers of the kept records.
unfoldable pub kept : Job → List WithVerdict → List ℕ
kept j bs = numbers 0 (map is_kept (fates j bs))

-- The report: the numbers of the reported records, in input order.
unfoldable pub report : Job → List WithVerdict → List ℕ
report j bs = numbers 0 (map (λ (f : Fate). f.reported) (fates j bs))
