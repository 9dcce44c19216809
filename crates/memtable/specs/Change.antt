-- Insertion on versions.
use Rattle.std.specs.Prelude.{List, [], ◌∷◌}
use Rattle.list.specs.Version.{Version, ordered}
use Rattle.std.specs.declared.cmp.Ordering.{Ordering}
use Rattle.std.specs.declared.cmp.Ordering.TheVariants.{Less, Equal, Greater}

-- By cases on an order.
unfoldable pub by_order : {A : Type 0} → Ordering → A → A → A → A
by_order Less a b c = a
by_order Equal a b c = b
by_order Greater a b c = c

-- A version is put at its place; equal key and seqno replaces tag and value.
unfoldable pub insert : Version → List Version → List Version
insert v [] = v ∷ []
insert v (w ∷ ws) = by_order (ordered v w) (v ∷ w ∷ ws) (v ∷ ws) (w ∷ insert v ws)
