-- A place: list and record, its key and its value as parts of the bundle.
use Rattle.std.specs.Prelude.{ℕ, ◌+◌, List, [], Bool, true, false, ◌&&◌, ltb, Option, None, Some, Err}
use Rattle.list.specs.Pick.{pick, on_result}
use Rattle.list.specs.Record.{Read, key_of, value_of}
use Rattle.list.specs.declared.refusal.Refusal.TheVariants.{Unfit}
use Rattle.bundle.specs.Bundle.{start_at, list_at}
use Rattle.bundle.specs.Look.{covers, records_in, look_at}
use Rattle.read.specs.declared.place.Place.{Place}

-- A place is fit when lengths and index cover the bundle and its record is there and whole.
unfoldable pub fit_record : List ℕ → List ℕ → List ℕ → ℕ → ℕ → Read
fit_record b lens t k i = pick (covers b lens t && ltb i (records_in b lens k)) (look_at b lens t k i) (Err Unfit)

unfoldable pub fit_at : List ℕ → List ℕ → List ℕ → ℕ → ℕ → Bool
fit_at b lens t k i = on_result (fit_record b lens t k i) (λ e. true) (λ why. false)

-- The value as a part of the bundle; an unfit place gives an empty part. The key likewise.
unfoldable pub value_at : List ℕ → List ℕ → List ℕ → ℕ → ℕ → List ℕ
value_at b lens t k i = on_result (fit_record b lens t k i) (λ e. value_of (list_at b lens k) e) (λ why. [])

unfoldable pub key_at : List ℕ → List ℕ → List ℕ → ℕ → ℕ → List ℕ
key_at b lens t k i = on_result (fit_record b lens t k i) (λ e. key_of (list_at b lens k) e) (λ why. [])

-- The record: where its key and its value start, counted from the bundle's first byte, how long they are, its seqno and its kind.
unfoldable pub place_of : List ℕ → List ℕ → List ℕ → ℕ → ℕ → Option Place
place_of b lens t k i =
    on_result (fit_record b lens t k i)
    (λ e. Some (record { key = start_at lens k + e.key; klen = e.klen; seqno = e.seqno; kind = e.kind; value = start_at lens k + e.value; vlen = e.vlen }))
    (λ why. None)

-- Where the value begins, counted the same; for an unfit place 0. The key likewise.
unfoldable pub value_start : List ℕ → List ℕ → List ℕ → ℕ → ℕ → ℕ
value_start b lens t k i = on_result (fit_record b lens t k i) (λ e. start_at lens k + e.value) (λ why. 0)

unfoldable pub key_start : List ℕ → List ℕ → List ℕ → ℕ → ℕ → ℕ
key_start b lens t k i = on_result (fit_record b lens t k i) (λ e. start_at lens k + e.key) (λ why. 0)
