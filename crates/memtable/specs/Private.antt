-- Only private contracts cite these: the one pass over an image, and the move of its tail.
use Rattle.std.specs.Prelude.{ℕ, zero, suc, ◌+◌, ◌≤◌, ◌-◌, max, List, ◌++◌, ltb, eqb, length, take, drop, replicate, Result, Ok, Err, Option, Some, None}
use Rattle.std.proofs.lemmas.List.Edits.{sets}
use Rattle.list.specs.Pick.{pick, on_result}
use Rattle.list.specs.Limits.{Mark, ListVersion, Count, width, header_size}
use Rattle.list.specs.Field.{le_bytes}
use Rattle.list.specs.Order.{compare, versions, is_equal}
use Rattle.list.specs.Record.{read_at, key_of}
use Rattle.list.specs.Check.{Verdict, count_in, check_list}
use Rattle.list.specs.Refusal.{refuse}
use Rattle.list.specs.Version.{Version, version, record_of, versions_of}
use Rattle.list.specs.declared.refusal.Refusal.TheVariants.{Unfit}
use Rattle.list.specs.declared.record.Record.{Record}
use Rattle.list.specs.declared.refusal.Refused.{Refused}
use Rattle.std.specs.Option.{is_some}
use Rattle.std.specs.declared.cmp.Ordering.{Ordering}
use Rattle.memtable.specs.Change.{by_order, insert}
use Rattle.memtable.specs.Image.{Image}
use Rattle.memtable.specs.Insert.{in_room}
use Rattle.memtable.specs.declared.moves.Version as moves
use Rattle.memtable.specs.declared.Memtable.{Memtable}
use Rattle.memtable.specs.declared.Found.{Found}
use Rattle.memtable.specs.declared.image.Spot.{Spot}
use Rattle.memtable.specs.declared.image.Survey.{Survey}
use Rattle.memtable.specs.declared.image.Gap.{Gap}

-- A record is here, and the place stays.
unfoldable pub stop_at : Spot → Record → Spot
stop_at p e = record { rank = p.rank; start = p.start; here = Some e }

-- The place moves behind a record that stands before the version; any other record is here. The order is the version's to the record.
unfoldable pub move_to : Spot → Record → Ordering → Spot
move_to p e o = by_order o (stop_at p e) (stop_at p e) (record { rank = p.rank + 1; start = e.next; here = None })

-- Once a record is here the place stays.
unfoldable pub spot_of : List ℕ → List ℕ → ℕ → Spot → Record → Spot
spot_of s k n p e = pick (is_some p.here) p (move_to p e (versions k n (key_of s e) e.seqno))

-- One more record.
unfoldable pub pass : List ℕ → List ℕ → ℕ → Survey → Record → Survey
pass s k n u e =
    record {
      count = u.count + 1;
      size = u.size + e.klen + e.vlen;
      highest = max u.highest e.seqno;
      place = spot_of s k n u.place e;
    }

-- Before the first record.
unfoldable pub no_spot : Spot
no_spot = record { rank = 0; start = header_size; here = None }

unfoldable pub no_survey : Survey
no_survey = record { count = 0; size = 0; highest = 0; place = no_spot }

-- So many records from a place.
unfoldable pub survey_from : ℕ → List ℕ → ℕ → List ℕ → ℕ → Survey → Survey
survey_from zero s at k n u = u
survey_from (suc m) s at k n u = on_result (read_at s at) (λ e. survey_from m s e.next k n (pass s k n u e)) (λ _. u)

-- An image, judged, and what a pass over it tells.
abbrev pub Surveyed : Type 0
Surveyed = Result Survey Refused

-- Where a list is refused only the verdict matters.
unfoldable pub sound_if : Verdict → Survey → Surveyed
sound_if v u = on_result v (λ _. Ok u) Err

unfoldable pub surveyed : List ℕ → List ℕ → ℕ → Surveyed
surveyed s k n = sound_if (check_list s) (survey_from (count_in s) s header_size k n no_survey)

-- A memtable's image, surveyed.
unfoldable pub agreed_with : Memtable → Survey → Surveyed
agreed_with m u = pick (eqb m.size u.size) (pick (eqb m.highest u.highest) (Ok u) (refuse Unfit 0 0)) (refuse Unfit 0 0)

unfoldable pub examined : Memtable → List ℕ → List ℕ → ℕ → Surveyed
examined m b k n = pick (ltb (length b) m.used) (refuse Unfit 0 0) (on_result (surveyed (take m.used b) k n) (agreed_with m) Err)

-- A record's key, and what its value holds with it, lie inside so many bytes.
abbrev pub Lies : ℕ → Record → Type 0
Lies n e = (e.key + e.klen ≤ n) × (e.klen + e.vlen ≤ n)

-- What gives way to a version: the record that is here, if key and seqno are the same, or nothing.
unfoldable pub no_gap : ℕ → Gap
no_gap start = record { cut = start; bytes = 0; records = 0 }

unfoldable pub gap_of : List ℕ → List ℕ → ℕ → ℕ → Option Record → Gap
gap_of s k n start None = no_gap start
gap_of s k n start (Some e) =
    by_order (versions k n (key_of s e) e.seqno) (no_gap start) (record { cut = e.next; bytes = e.klen + e.vlen; records = 1 }) (no_gap start)

-- What a place finds: the record that is here, if it is of the key.
unfoldable pub found_at : List ℕ → List ℕ → ℕ → Option Record → Option Found
found_at s k rank None = None
found_at s k rank (Some e) = pick (is_equal (compare k (key_of s e))) (Some (record { at = rank; seqno = e.seqno; kind = e.kind; start = e.value; len = e.vlen })) None

-- A version as it is lent, and what it comes to where it is put into an image.
abbrev pub version_of : moves.Version → Version
version_of v = version v.key.now v.seqno v.kind v.value.now

abbrev pub put_in : Memtable → List ℕ → Version → Image
put_in m b v = in_room (length b) (insert v (versions_of (take m.used b)))

-- The bytes from a to e moved to another place.
unfoldable pub moved : List ℕ → ℕ → ℕ → ℕ → List ℕ
moved t a e to = take to t ++ (drop a (take e t) ++ drop (to + (e - a)) t)

-- A record written over the bytes from start to cut, the tail behind it moved, the count set, and what the old end leaves over cleared.
unfoldable pub spliced : List ℕ → ℕ → ℕ → ℕ → ℕ → Version → List ℕ
spliced t used start cut count v =
    sets
    (sets (sets (moved t cut used (start + length (record_of v))) start (record_of v)) (width Mark + width ListVersion) (le_bytes count (width Count)))
    (start + length (record_of v) + (used - cut))
    (replicate (used - (start + length (record_of v) + (used - cut))) 0)
