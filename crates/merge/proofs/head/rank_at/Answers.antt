-- `rank_at` meets its contract: the two ends read one order, and of one key are those whose keys compare so.
use mathlib.Core.Path.{◌∙◌}
use Rattle.merge.proofs.Merging.{equal-told, rank-front, rank-back}
use Rattle.merge.proofs.head.rank_at.Goals as goal

pub order_of-order-requires : goal.order_of-order-requires
order_of-order-requires c = c.compare_keys-keys.ensures ∙ rw (c.key.ensures, c.key-2.ensures)

pub returns-in-Front-clause-sooner : goal.returns-in-Front-clause-sooner
returns-in-Front-clause-sooner c = c.is_lt.ensures ∙ rank-front _ _ _ _ c.order_of-order.ensures c.in-Front.is

pub returns-in-Front-clause-same_key : goal.returns-in-Front-clause-same_key
returns-in-Front-clause-same_key c = c.is_eq-same_key.ensures ∙ equal-told _ _ _ (c.compare_keys-keys.ensures ∙ rw (c.key.ensures, c.key-2.ensures))

pub returns-in-Back-clause-sooner : goal.returns-in-Back-clause-sooner
returns-in-Back-clause-sooner c = c.is_gt.ensures ∙ rank-back _ _ _ _ c.order_of-order.ensures c.in-Back.is

pub returns-in-Back-clause-same_key : goal.returns-in-Back-clause-same_key
returns-in-Back-clause-same_key c = c.is_eq-same_key.ensures ∙ equal-told _ _ _ (c.compare_keys-keys.ensures ∙ rw (c.key.ensures, c.key-2.ensures))
