-- Each contract leaves one result and one content of what is lent, because it is an equation for both; of a layout its bundle and its table are told.
use Prim.Native.Nat.{ℕ, ◌≤◌}
use mathlib.Core.Path.{◌≡◌, sym, ap, ◌∙◌}
use lib.ListN.{get_or}
use contract.Lifetimes.{Lfts}
use Rattle.std.specs.Prelude.{Some, is_some}
use Rattle.list.specs.Field.{words_in}
use Rattle.bundle.specs.Private.{fence, first}
use Rattle.bundle.specs.declared.look.Bundle.{Bundle}
use Rattle.bundle.specs.declared.layout.Layout.{Layout}
use Rattle.bundle.proofs.judge.judge_bundle.Reads as judge-bundle-reads
use Rattle.bundle.proofs.index.open.Reads as open-reads
use Rattle.bundle.proofs.look.Bundle.lists.Reads as lists-reads
use Rattle.bundle.proofs.look.Bundle.find_list.Reads as find-list-reads
use Rattle.bundle.proofs.look.Bundle.record_at.Reads as record-at-reads
use Rattle.bundle.proofs.walk.count_of.Reads as count-of-reads
use Rattle.bundle.proofs.layout.lay_out.Reads as lay-out-reads
use Rattle.bundle.proofs.layout.Layout.of.Reads as layout-of-reads
use Rattle.bundle.proofs.layout.Layout.span.Reads as span-reads

pub judge-bundle : (κs : Lfts 2) (a : _) (r r' : _) (x x' : _) → judge-bundle-reads.Post κs a r x → judge-bundle-reads.Post κs a r' x' → r ≡ r'
judge-bundle κs a r r' x x' p q = p ∙ sym q

pub «open» : (κs : Lfts 3) (a : _) (r r' : _) (x x' : _) → open-reads.Post κs a r x → open-reads.Post κs a r' x'
    → (r ≡ r') × (x.1.1.0.now ≡ x'.1.1.0.now)
«open» κs a r r' x x' p q = (p.0 ∙ sym q.0, p.1.0 ∙ sym q.1.0)

pub count_of : (κs : Lfts 1) (a : _) (r r' : _) (x x' : _) → count-of-reads.Post κs a r x → count-of-reads.Post κs a r' x' → r ≡ r'
count_of κs a r r' x x' p q = p.0 ∙ sym q.0

pub lists : (κs : Lfts 1) (a : _) (r r' : _) (x x' : _) → lists-reads.Post κs a r x → lists-reads.Post κs a r' x' → r ≡ r'
lists κs a r r' x x' p q = p ∙ sym q

pub find-list : (κs : Lfts 1) (a : _) (r r' : _) (x x' : _) → find-list-reads.Post κs a r x → find-list-reads.Post κs a r' x' → r ≡ r'
find-list κs a r r' x x' p q = p ∙ sym q

pub record-at : (κs : Lfts 1) (a : _) (r r' : _) (x x' : _) → record-at-reads.Post κs a r x → record-at-reads.Post κs a r' x' → r ≡ r'
record-at κs a r r' x x' p q = p ∙ sym q

pub lay-out : (κs : Lfts 2) (a : _) (r r' : _) (x x' : _) → lay-out-reads.Post κs a r x → lay-out-reads.Post κs a r' x'
    → (r ≡ r') × (x.1.0.now ≡ x'.1.0.now)
lay-out κs a r r' x x' p q = (p.0 ∙ sym q.0, p.1.0 ∙ sym q.1.0)

-- two layouts of one bundle have one table
fences-of : (l l' : Layout) → l.bundle ≡ l'.bundle → (k : ℕ) → k ≤ words_in l.bundle.lengths.now → get_or l.fences.now k first ≡ get_or l'.fences.now k first
fences-of l l' e k h =
    let m : k ≤ words_in l'.bundle.lengths.now = rw e at h in
    l.laid.stands k h ∙ ap (λ (b : Bundle). fence b.bytes.now b.lengths.now k) e ∙ sym (l'.laid.stands k m)

pub layout-of : (κs : Lfts 1) (a : _) (r r' : _) (x x' : _) → layout-of-reads.Post κs a r x → layout-of-reads.Post κs a r' x'
    → (is_some r ≡ is_some r')
    × ((l l' : Layout) → r ≡ Some l → r' ≡ Some l' → (l.bundle ≡ l'.bundle) × ((k : ℕ) → k ≤ words_in l.bundle.lengths.now → get_or l.fences.now k first ≡ get_or l'.fences.now k first))
layout-of κs a r r' x x' p q = (
  p.0 ∙ sym q.0,
  λ l l' e f. let m : l.bundle ≡ l'.bundle = (rw e at p.1) ∙ sym (rw f at q.1) in (m, fences-of l l' m),
)

pub span : (κs : Lfts 2) (a : _) (r r' : _) (x x' : _) → span-reads.Post κs a r x → span-reads.Post κs a r' x' → r ≡ r'
span κs a r r' x x' p q = p ∙ sym q
