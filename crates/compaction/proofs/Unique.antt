-- The contracts of `compact` and `compact_filtered` leave one answer, one content of the output and one of the report's table: each is given by an equation.
use mathlib.Core.Path.{◌≡◌, sym, ap, ◌∙◌}
use contract.Lifetimes.{Lfts}
use Rattle.compaction.specs.Compaction.{Compaction, filtered, written, output_at, noted, report_at}
use Rattle.compaction.proofs.stream.compact.Reads as reads
use Rattle.compaction.proofs.stream.compact_filtered.Reads as filtered-reads

pub compact : (κs : Lfts 3) (a : _) (r r' : _) (x x' : _) → reads.Post κs a r x → reads.Post κs a r' x'
    → (r ≡ r') × (x.1.1.0.now ≡ x'.1.1.0.now) × (x.1.1.1.0.now ≡ x'.1.1.1.0.now)
compact κs a r r' x x' p q =
    let e : r ≡ r' = p.0 ∙ sym q.0 in (
      e,
      p.1.0 ∙ ap (λ (y : Compaction). output_at y a.1.0 a.0.now a.1.1.0.now) e ∙ sym q.1.0,
      p.1.1.0 ∙ ap (λ (y : Compaction). report_at y a.1.0 a.0.now a.1.1.1.0.now) e ∙ sym q.1.1.0,
    )

pub compact-filtered : (κs : Lfts 5) (a : _) (r r' : _) (x x' : _) → filtered-reads.Post κs a r x → filtered-reads.Post κs a r' x'
    → (r ≡ r') × (x.1.1.1.1.0.now ≡ x'.1.1.1.1.0.now) × (x.1.1.1.1.1.0.now ≡ x'.1.1.1.1.1.0.now)
compact-filtered κs a r r' x x' p q =
    let e : r ≡ r' = p.0 ∙ sym q.0 in (
      e,
      p.1.0 ∙ ap (λ (y : Compaction). written y a.1.0 (filtered a.1.1.0.now a.1.1.1.0.now a.0.now) a.1.1.1.1.0.now) e ∙ sym q.1.0,
      p.1.1.0 ∙ ap (λ (y : Compaction). noted y a.1.0 (filtered a.1.1.0.now a.1.1.1.0.now a.0.now) a.1.1.1.1.1.0.now) e ∙ sym q.1.1.0,
    )
