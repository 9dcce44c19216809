-- Each export's contract leaves one result and one content of what is lent, because it is an equation for both.
use mathlib.Core.Path.{◌≡◌, sym, ◌∙◌}
use contract.Lifetimes.{Lfts}
use Rattle.vls.proofs.lists.vls_check.Reads as check-reads
use Rattle.vls.proofs.lists.vls_open.Reads as open-reads
use Rattle.vls.proofs.compactions.vls_compact.Reads as compact-reads
use Rattle.vls.proofs.compactions.vls_compact_filtered.Reads as compact-filtered-reads
use Rattle.vls.proofs.tables.vls_memtable_new.Reads as new-reads
use Rattle.vls.proofs.tables.vls_memtable_insert.Reads as insert-reads
use Rattle.vls.proofs.tables.vls_get.Reads as get-reads
use Rattle.vls.proofs.figures.vls_memtable_size.Reads as size-reads
use Rattle.vls.proofs.figures.vls_memtable_len.Reads as len-reads
use Rattle.vls.proofs.figures.vls_memtable_is_empty.Reads as is-empty-reads
use Rattle.vls.proofs.figures.vls_memtable_highest_seqno.Reads as highest-seqno-reads
use Rattle.vls.proofs.figures.vls_memtable_flag_rotated.Reads as flag-rotated-reads
use Rattle.vls.proofs.figures.vls_memtable_is_flagged.Reads as is-flagged-reads
use Rattle.vls.proofs.figures.vls_memtable_id.Reads as id-reads
use Rattle.vls.proofs.reads.vls_start.Reads as start-reads
use Rattle.vls.proofs.reads.vls_front.Reads as front_reads
use Rattle.vls.proofs.reads.vls_back.Reads as back-reads
use Rattle.vls.proofs.reads.vls_front_in_place.Reads as front-onward
use Rattle.vls.proofs.reads.vls_back_in_place.Reads as back-onward
use Rattle.vls.proofs.reads.vls_value.Reads as value-reads
use Rattle.vls.proofs.reads.vls_key.Reads as key_reads
use Rattle.vls.proofs.reads.vls_record.Reads as record-reads
use Rattle.vls.proofs.reads.vls_prefix.Reads as prefix-reads
use Rattle.vls.proofs.version.vls_version.Reads as version-reads
use Rattle.vls.proofs.outcome.Outcome.of.Reads as outcome-of-reads
use Rattle.vls.proofs.lists.CheckedFromResultU64Refused.from.Reads as checked-from-reads
use Rattle.vls.proofs.compactions.CompactedFromResultCompactionCompactedRefused.from.Reads as compacted-from-reads
use Rattle.vls.proofs.tables.FoundFromResultOptionMemtableFoundRefused.from.Reads as found-from-reads
use Rattle.vls.proofs.figures.FigureFromResultOptionU64Refused.from.Reads as maybe-figure-from-reads
use Rattle.vls.proofs.figures.FigureFromResultU64Refused.from.Reads as figure-from-reads
use Rattle.vls.proofs.figures.ToldFromResultBoolRefused.from.Reads as told-from-reads
use Rattle.vls.proofs.reads.StartedFromReadStarted.from.Reads as started-from-reads
use Rattle.vls.proofs.reads.AnswerFromResultOptionEntryRefused.from.Reads as answer-from-reads
use Rattle.vls.proofs.reads.PlacedFromOptionPlace.from.Reads as placed-from-reads
use Rattle.vls.proofs.reads.PrefixedFromResultOptionU64Refusal.from.Reads as prefixed-from-reads

pub vls-check : (κs : Lfts 1) (a : _) (r r' : _) (x x' : _) → check-reads.Post κs a r x → check-reads.Post κs a r' x' → r ≡ r'
vls-check κs a r r' x x' p q = p ∙ sym q

pub vls-open : (κs : Lfts 3) (a : _) (r r' : _) (x x' : _) → open-reads.Post κs a r x → open-reads.Post κs a r' x'
    → (r ≡ r') × (x.1.1.0.now ≡ x'.1.1.0.now)
vls-open κs a r r' x x' p q = (p.0 ∙ sym q.0, p.1 ∙ sym q.1)

pub vls-compact : (κs : Lfts 3) (a : _) (r r' : _) (x x' : _) → compact-reads.Post κs a r x → compact-reads.Post κs a r' x'
    → (r ≡ r') × (x.1.1.1.1.0.now ≡ x'.1.1.1.1.0.now) × (x.1.1.1.1.1.0.now ≡ x'.1.1.1.1.1.0.now)
vls-compact κs a r r' x x' p q = (p.0 ∙ sym q.0, p.1.0 ∙ sym q.1.0, p.1.1 ∙ sym q.1.1)

pub vls-compact-filtered : (κs : Lfts 5) (a : _) (r r' : _) (x x' : _) → compact-filtered-reads.Post κs a r x → compact-filtered-reads.Post κs a r' x'
    → (r ≡ r') × (x.1.1.1.1.1.1.0.now ≡ x'.1.1.1.1.1.1.0.now) × (x.1.1.1.1.1.1.1.0.now ≡ x'.1.1.1.1.1.1.1.0.now)
vls-compact-filtered κs a r r' x x' p q = (p.0 ∙ sym q.0, p.1.0 ∙ sym q.1.0, p.1.1 ∙ sym q.1.1)

pub vls-memtable-new : (κs : Lfts 1) (a : _) (r r' : _) (x x' : _) → new-reads.Post κs a r x → new-reads.Post κs a r' x' → (r ≡ r') × (x.0.now ≡ x'.0.now)
vls-memtable-new κs a r r' x x' p q = (p.0 ∙ sym q.0, p.1 ∙ sym q.1)

pub vls-memtable-insert : (κs : Lfts 3) (a : _) (r r' : _) (x x' : _) → insert-reads.Post κs a r x → insert-reads.Post κs a r' x' → (r ≡ r') × (x.0.now ≡ x'.0.now)
vls-memtable-insert κs a r r' x x' p q = (p.0 ∙ sym q.0, p.1 ∙ sym q.1)

pub vls-get : (κs : Lfts 2) (a : _) (r r' : _) (x x' : _) → get-reads.Post κs a r x → get-reads.Post κs a r' x' → r ≡ r'
vls-get κs a r r' x x' p q = p ∙ sym q

pub vls-memtable-size : (κs : Lfts 1) (a : _) (r r' : _) (x x' : _) → size-reads.Post κs a r x → size-reads.Post κs a r' x' → r ≡ r'
vls-memtable-size κs a r r' x x' p q = p ∙ sym q

pub vls-memtable-len : (κs : Lfts 1) (a : _) (r r' : _) (x x' : _) → len-reads.Post κs a r x → len-reads.Post κs a r' x' → r ≡ r'
vls-memtable-len κs a r r' x x' p q = p ∙ sym q

pub vls-memtable-is-empty : (κs : Lfts 1) (a : _) (r r' : _) (x x' : _) → is-empty-reads.Post κs a r x → is-empty-reads.Post κs a r' x' → r ≡ r'
vls-memtable-is-empty κs a r r' x x' p q = p ∙ sym q

pub vls-memtable-highest-seqno : (κs : Lfts 1) (a : _) (r r' : _) (x x' : _) → highest-seqno-reads.Post κs a r x → highest-seqno-reads.Post κs a r' x' → r ≡ r'
vls-memtable-highest-seqno κs a r r' x x' p q = p ∙ sym q

pub vls-memtable-flag-rotated : (κs : Lfts 0) (a : _) (r r' : _) (x x' : _) → flag-rotated-reads.Post κs a r x → flag-rotated-reads.Post κs a r' x' → r ≡ r'
vls-memtable-flag-rotated κs a r r' x x' p q = p ∙ sym q

pub vls-memtable-is-flagged : (κs : Lfts 0) (a : _) (r r' : _) (x x' : _) → is-flagged-reads.Post κs a r x → is-flagged-reads.Post κs a r' x' → r ≡ r'
vls-memtable-is-flagged κs a r r' x x' p q = p ∙ sym q

pub vls-memtable-id : (κs : Lfts 0) (a : _) (r r' : _) (x x' : _) → id-reads.Post κs a r x → id-reads.Post κs a r' x' → r ≡ r'
vls-memtable-id κs a r r' x x' p q = p ∙ sym q

pub vls-start : (κs : Lfts 5) (a : _) (r r' : _) (x x' : _) → start-reads.Post κs a r x → start-reads.Post κs a r' x' → r ≡ r'
vls-start κs a r r' x x' p q = p ∙ sym q

pub vls-front : (κs : Lfts 3) (a : _) (r r' : _) (x x' : _) → front_reads.Post κs a r x → front_reads.Post κs a r' x' → r ≡ r'
vls-front κs a r r' x x' p q = p ∙ sym q

pub vls-back : (κs : Lfts 3) (a : _) (r r' : _) (x x' : _) → back-reads.Post κs a r x → back-reads.Post κs a r' x' → r ≡ r'
vls-back κs a r r' x x' p q = p ∙ sym q

pub vls-front-in-place : (κs : _) (a : _) (r r' : _) (x x' : _) → front-onward.Post κs a r x → front-onward.Post κs a r' x' → (r ≡ r') × (x.1.1.1.0.now ≡ x'.1.1.1.0.now)
vls-front-in-place κs a r r' x x' p q = (p.0 ∙ sym q.0, p.1 ∙ sym q.1)

pub vls-back-in-place : (κs : _) (a : _) (r r' : _) (x x' : _) → back-onward.Post κs a r x → back-onward.Post κs a r' x' → (r ≡ r') × (x.1.1.1.0.now ≡ x'.1.1.1.0.now)
vls-back-in-place κs a r r' x x' p q = (p.0 ∙ sym q.0, p.1 ∙ sym q.1)

pub vls-value : (κs : Lfts 3) (a : _) (r r' : _) (x x' : _) → value-reads.Post κs a r x → value-reads.Post κs a r' x' → r ≡ r'
vls-value κs a r r' x x' p q = p ∙ sym q

pub vls-key : (κs : Lfts 3) (a : _) (r r' : _) (x x' : _) → key_reads.Post κs a r x → key_reads.Post κs a r' x' → r ≡ r'
vls-key κs a r r' x x' p q = p ∙ sym q

pub vls-record : (κs : Lfts 3) (a : _) (r r' : _) (x x' : _) → record-reads.Post κs a r x → record-reads.Post κs a r' x' → r ≡ r'
vls-record κs a r r' x x' p q = p ∙ sym q

pub vls-prefix : (κs : Lfts 2) (a : _) (r r' : _) (x x' : _) → prefix-reads.Post κs a r x → prefix-reads.Post κs a r' x' → (r ≡ r') × (x.1.0.now ≡ x'.1.0.now)
vls-prefix κs a r r' x x' p q = (p.0 ∙ sym q.0, p.1 ∙ sym q.1)

pub vls-version : (κs : Lfts 0) (a : _) (r r' : _) (x x' : _) → version-reads.Post κs a r x → version-reads.Post κs a r' x' → r ≡ r'
vls-version κs a r r' x x' p q = p ∙ sym q

-- what a call answers, as it crosses
pub outcome-of : (t f : _) (κs : Lfts 2) (a : _) (r r' : _) (x x' : _) → outcome-of-reads.Post t f κs a r x → outcome-of-reads.Post t f κs a r' x' → r ≡ r'
outcome-of t f κs a r r' x x' p q = p ∙ sym q

pub checked-from : (κs : Lfts 0) (a : _) (r r' : _) (x x' : _) → checked-from-reads.Post κs a r x → checked-from-reads.Post κs a r' x' → r ≡ r'
checked-from κs a r r' x x' p q = p ∙ sym q

pub compacted-from : (κs : Lfts 0) (a : _) (r r' : _) (x x' : _) → compacted-from-reads.Post κs a r x → compacted-from-reads.Post κs a r' x' → r ≡ r'
compacted-from κs a r r' x x' p q = p ∙ sym q

pub found-from : (κs : Lfts 0) (a : _) (r r' : _) (x x' : _) → found-from-reads.Post κs a r x → found-from-reads.Post κs a r' x' → r ≡ r'
found-from κs a r r' x x' p q = p ∙ sym q

pub maybe-figure-from : (κs : Lfts 0) (a : _) (r r' : _) (x x' : _) → maybe-figure-from-reads.Post κs a r x → maybe-figure-from-reads.Post κs a r' x' → r ≡ r'
maybe-figure-from κs a r r' x x' p q = p ∙ sym q

pub figure-from : (κs : Lfts 0) (a : _) (r r' : _) (x x' : _) → figure-from-reads.Post κs a r x → figure-from-reads.Post κs a r' x' → r ≡ r'
figure-from κs a r r' x x' p q = p ∙ sym q

pub told-from : (κs : Lfts 0) (a : _) (r r' : _) (x x' : _) → told-from-reads.Post κs a r x → told-from-reads.Post κs a r' x' → r ≡ r'
told-from κs a r r' x x' p q = p ∙ sym q

pub started-from : (κs : Lfts 0) (a : _) (r r' : _) (x x' : _) → started-from-reads.Post κs a r x → started-from-reads.Post κs a r' x' → r ≡ r'
started-from κs a r r' x x' p q = p ∙ sym q

pub answer-from : (κs : Lfts 0) (a : _) (r r' : _) (x x' : _) → answer-from-reads.Post κs a r x → answer-from-reads.Post κs a r' x' → r ≡ r'
answer-from κs a r r' x x' p q = p ∙ sym q

pub placed-from : (κs : Lfts 0) (a : _) (r r' : _) (x x' : _) → placed-from-reads.Post κs a r x → placed-from-reads.Post κs a r' x' → r ≡ r'
placed-from κs a r r' x x' p q = p ∙ sym q

pub prefixed-from : (κs : Lfts 0) (a : _) (r r' : _) (x x' : _) → prefixed-from-reads.Post κs a r x → prefixed-from-reads.Post κs a r' x' → r ≡ r'
prefixed-from κs a r r' x x' p q = p ∙ sym q
