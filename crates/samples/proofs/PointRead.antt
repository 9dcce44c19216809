-- One list, one point read: what demand 3 lets a reader see of it, what `get` finds in a memtable that holds it and what a cursor over it alone has from the key to the key agree, because each is the point read of its versions.
use Rattle.std.specs.Prelude.{Result, Ok, Option}
use Prim.Native.Nat.{ℕ, ◌≤◌, ◌<◌}
use mathlib.Core.Path.{◌≡◌, refl, sym, ap, ◌∙◌}
use mathlib.Core.List.{List, [], ◌∷◌}
use mathlib.Core.Bool.{Bool, true, false}
use mathlib.Core.Option.{Option as Maybe, none, some}
use native.Mathlib.Omega.{arith}
use contract.Lifetimes.{Lfts}
use lib.ListN.{length}
use lib.Seq.{take_all}
use Rattle.list.specs.Pick.{pick}
use Rattle.list.specs.Limits.{key_limit}
use Rattle.list.specs.Field.{words_in, word_at}
use Rattle.list.specs.ValueType.{is_tombstone}
use Rattle.list.specs.Check.{check_list}
use Rattle.list.specs.Version.{Version, Bytes, versions_of}
use Rattle.list.specs.PointRead.{point_read}
use Rattle.list.specs.declared.value_type.ValueType.{ValueType}
use Rattle.list.specs.declared.refusal.Refused.{Refused}
use Rattle.list.proofs.Meaning.{accepted-fine}
use Rattle.bundle.specs.Bundle.{start_at, list_at}
use Rattle.bundle.specs.Lists.{lists_from, lists_of}
use Rattle.memtable.specs.Image.{judge}
use Rattle.memtable.specs.Get.{found, got}
use Rattle.memtable.specs.declared.Memtable.{Memtable}
use Rattle.memtable.specs.declared.Found.{Found}
use Rattle.memtable.proofs.Memtable.get.Reads as get-reads
use Rattle.memtable.proofs.Getting.{g-found}
use Rattle.compaction.specs.Read.{reads_as}
use Rattle.merge.specs.Placed.{Placed}
use Rattle.std.specs.declared.ops.Bound.TheVariants.{Included}
use Rattle.read.specs.Entries.{entries}
use Rattle.read.proofs.OneList.{here, entry_in, one_list}

-- What entries give the reader of one key: kind and value; nothing where the key is absent.
unfoldable pub heard : List Placed → Maybe (ValueType × List ℕ)
heard [] = none
heard (e ∷ es) = some (e.version.kind, e.version.value)

reads-heard : (x : Maybe (ℕ × Version)) → reads_as x ≡ heard (entry_in x)
unfolding reads_as heard entry_in pick
reads-heard none = refl
reads-heard (some (i, v)) = go (is_tombstone v.kind)
  where
    go : (b : Bool) → pick b none (some (v.kind, v.value)) ≡ heard (pick b [] (here i v ∷ []))
    go true = refl
    go false = refl

-- Every call of `get` is one of those that the theorem speaks of.
pub gets : (κs : Lfts 2) (a : _) (r : _) (x : _) → get-reads.Post κs a r x → r ≡ got a.1.1.0.now a.1.1.1.0 (judge a.0 a.1.0.now)
gets κs a r x p = p

-- An accepted list, and the table of lengths of the bundle that has this list alone.
module _ (s : List ℕ) (count : ℕ) (bytes : Bytes s) (accepted : check_list s ≡ Ok count) (lens : List ℕ) (alone : words_in lens ≡ 1) (whole : word_at lens 0 ≡ length s) where
  lists-are : lists_of s lens ≡ versions_of s ∷ []
  unfolding lists_of lists_from list_at start_at
  lists-are = rw (alone, whole) (ap (λ (l : List ℕ). versions_of l ∷ []) (take_all (length s) s (omega arith)))

  pub one-read : (m : Memtable) (buffer k : List ℕ) (n : ℕ) (r : Result (Option Found) Refused) → r ≡ got k n (judge m buffer) → judge m buffer ≡ Ok (versions_of s)
      → 0 < length k → length k ≤ key_limit → 0 < n
      → (r ≡ Ok (found (versions_of s) (point_read k n (versions_of s))))
      × (entries (lists_of s lens) (Included k) (Included k) n ≡ entry_in (point_read k n (versions_of s)))
      × (reads_as (point_read k n (versions_of s)) ≡ heard (entries (lists_of s lens) (Included k) (Included k) n))
  one-read m buffer k n r call held keyed fits high =
      let has : entries (lists_of s lens) (Included k) (Included k) n ≡ entry_in (point_read k n (versions_of s))
      = ap (λ lists. entries lists (Included k) (Included k) n) lists-are ∙ one_list k n (versions_of s) (accepted-fine s count bytes accepted).in_order in (
        call ∙ sym (g-found k n (judge m buffer) (versions_of s) held (λ e. omega arith) fits (λ e. omega arith) _ refl),
        has,
        reads-heard _ ∙ ap heard (sym has),
      )
