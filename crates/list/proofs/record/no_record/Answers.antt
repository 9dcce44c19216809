-- The record is the definition, field by field.
use mathlib.Core.Path.{refl}
use Rattle.list.specs.Record.{no_record}
use Rattle.list.proofs.record.no_record.Goals as goal

pub returns : goal.returns
unfolding no_record
returns c = refl
