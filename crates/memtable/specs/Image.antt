-- A memtable's image, judged.
use Rattle.std.specs.Prelude.{ℕ, List, ltb, eqb, length, take, Result, Ok, Err}
use Rattle.list.specs.Pick.{pick, on_result}
use Rattle.list.specs.Refusal.{refuse}
use Rattle.list.specs.Check.{check_list}
use Rattle.list.specs.Version.{Version, versions_of}
use Rattle.list.specs.declared.refusal.Refusal.TheVariants.{Unfit}
use Rattle.list.specs.declared.refusal.Refused.{Refused}
use Rattle.memtable.specs.Figures.{size_of, highest_of}
use Rattle.memtable.specs.declared.Memtable.{Memtable}

-- An image holds versions; or a call is refused.
abbrev pub Image : Type 0
Image = Result (List Version) Refused

-- 11 if size or highest seqno isn't the image's.
unfoldable pub agrees : Memtable → List Version → Image
agrees m vs =
    pick (eqb m.size (size_of vs))
    (pick (eqb m.highest (highest_of vs)) (Ok vs) (refuse Unfit 0 0))
    (refuse Unfit 0 0)

-- The list's own refusal comes before that.
unfoldable pub judged : Memtable → List ℕ → Image
judged m s = on_result (check_list s) (λ _. agrees m (versions_of s)) Err

-- Used length past the buffer is 11, tested first; then the image is judged, which is the used part of the buffer.
unfoldable pub judge : Memtable → List ℕ → Image
judge m b = pick (ltb (length b) m.used) (refuse Unfit 0 0) (judged m (take m.used b))
