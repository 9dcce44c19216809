-- Over an opened, unaltered bundle the reader finds the versions that its lists hold, each list in strict order: so the list library states it. Then the plain search stands for them, and a cursor that stands on the bundle is steady.
use Rattle.std.specs.Prelude.{Ok}
use native.Mathlib.Omega.{arith}
use mathlib.Core.List.{List}
use mathlib.Core.Bool.{true}
use borrow.Author.Tests.{le-leb}
use lib.ListN.{length}
use mathlib.Core.Path.{refl, ap, sym, subst, ◌≡◌, ◌∙◌}
use Prim.Native.Nat.{ℕ, zero, suc, ◌≤◌, ◌<◌}
use Rattle.list.specs.Field.{words_in}
use Rattle.list.specs.Version.{Version, Bytes}
use Rattle.bundle.specs.Bundle.{bundle_limit}
use Rattle.bundle.specs.Index.{count_at, indexed, open_bundle}
use Rattle.bundle.specs.Lists.{lists_of}
use Rattle.bundle.specs.Look.{covers, records_in}
use Rattle.bundle.proofs.Finds.{opening, list-fine, list_count, opened-covers, finds, list-is, lists-number}
use Rattle.bundle.proofs.Looking.{few-lists}
use Rattle.merge.specs.Placed.{Placed}
use Rattle.merge.specs.Merged.{gather, sort}
use Rattle.merge.specs.Plain.{plain}
use Rattle.merge.specs.declared.ends.Ends.{Ends}
use Rattle.merge.specs.Reader.{reader}
use Rattle.merge.specs.Private.{Fitting}
use Rattle.merge.proofs.Turn as turn
use Rattle.merge.proofs.Turn.{window}
use Rattle.merge.proofs.Numbered.{no_version, version_in, placed_in, size_in, Ordered, Finds, opened-by, opened-sized}
use Rattle.merge.proofs.Gives.{Gives, plain-gives}
use Rattle.read.specs.Cursor.{stands, steady}
use Rattle.read.proofs.Standing.{records-there}
use Rattle.list.specs.Pick.{on_result}

module _ (b lens t : List ℕ) (c : ℕ) (bytes : Bytes b) (accepted : open_bundle b lens t ≡ Ok c) where
  -- the index after the opening
  abbrev pub index : List ℕ
  index = indexed (open_bundle b lens t) b lens t

  abbrev pub lists : List (List Version)
  lists = lists_of b lens

  there : (k : ℕ) → k < length lists → k < words_in lens
  there k l = omega (arith, lists-number b lens)

  pub size_is : (k : ℕ) → k < length lists → size_in lists k ≡ count_at b lens k
  unfolding size_in
  size_is k l = ap length (list-is b lens k (there k l)) ∙ list_count b lens c bytes (opening b lens t c accepted).judged k (there k l)

  pub lists-ordered : Ordered lists
  lists-ordered k l = rw (list-is b lens k (there k l)) (list-fine b lens c bytes (opening b lens t c accepted).judged k (there k l)).in_order

  pub reader-finds : Finds lists (reader b lens index)
  unfolding reader on_result placed_in version_in
  reader-finds k i l m =
      let f = finds b lens t c bytes accepted k (there k l) i (omega (arith, size_is k l)) no_version in
      rw (f.looks, f.holds, list-is b lens k (there k l))

  pub index-covers : covers b lens index ≡ true
  index-covers = opened-covers b lens t c bytes accepted

  pub lists-few : words_in lens ≤ bundle_limit
  lists-few = few-lists b lens index index-covers

  -- the versions between two ends, in order
  abbrev pub between : Ends → List Placed
  between d = sort (gather (words_in lens) (window (placed_in lists) d))

  opened : turn.Opened (words_in lens) (reader b lens index) (placed_in lists) (records_in b lens)
  opened =
      opened-sized (words_in lens) _ _ (size_in lists) (records_in b lens) (λ k l. records-there b lens k l ∙ sym (size_is k (omega (arith, lists-number b lens))))
      (subst (λ n. turn.Opened n (reader b lens index) (placed_in lists) (size_in lists)) (lists-number b lens) (opened-by lists lists-ordered (reader b lens index) reader-finds))

  pub bundle-gives : Gives (plain (words_in lens) (reader b lens index)) (Fitting bundle_limit (records_in b lens)) between
  bundle-gives = plain-gives (words_in lens) (reader b lens index) (placed_in lists) (records_in b lens) opened bundle_limit lists-few

  stands-true : (m : ℕ) (d : Ends) → Fitting m (records_in b lens) d → stands m b lens d ≡ true
  unfolding stands
  stands-true zero d f = refl
  stands-true (suc m) d f =
      rw (
        stands-true m d (record { front-room = omega (arith, f.front-room); back-room = omega (arith, f.back-room); uncrossed = λ k l. f.uncrossed k (omega arith); inside = λ k l. f.inside k (omega arith) }),
        le-leb _ _ (f.uncrossed m (omega arith)),
        le-leb _ _ (f.inside m (omega arith)),
      )

  -- ends that fit are steady
  pub fits-steady : (d : Ends) → Fitting bundle_limit (records_in b lens) d → steady b lens index d ≡ true
  unfolding steady
  fits-steady d f = rw (index-covers, stands-true bundle_limit d f)
