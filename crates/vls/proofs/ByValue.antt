-- A step by value is one of those that DEMAND 2 speaks of: its answer crosses as numbers, and its cursor is the one that the step leaves.
use mathlib.Core.Path.{◌≡◌, refl, ap}
use Rattle.merge.specs.declared.ends.End.TheVariants.{Front, Back}
use Rattle.read.specs.Cursor.{Step, step_in}
use Rattle.read.specs.Calls.{OneStep}
use Rattle.vls.specs.Reads.{answer_of}
use Rattle.vls.specs.declared.reads.Stepped.{Stepped}
use Rattle.vls.proofs.reads.vls_front.Reads as front_reads
use Rattle.vls.proofs.reads.vls_back.Reads as back-reads

pub front : (κs : _) (a : _) (r : _) (x : _) → front_reads.Post κs a r x
    → (s : Step) × OneStep a.0.now a.1.0.now a.1.1.0.now Front a.1.1.1.0 s r.cursor × (r.answer ≡ answer_of s)
front κs a r x p =
    ((step_in Front a.0.now a.1.0.now a.1.1.0.now a.1.1.1.0).step, record { answers = refl; gives = ap (λ (y : Stepped). y.cursor) p }, ap (λ (y : Stepped). y.answer) p)

pub back : (κs : _) (a : _) (r : _) (x : _) → back-reads.Post κs a r x
    → (s : Step) × OneStep a.0.now a.1.0.now a.1.1.0.now Back a.1.1.1.0 s r.cursor × (r.answer ≡ answer_of s)
back κs a r x p =
    ((step_in Back a.0.now a.1.0.now a.1.1.0.now a.1.1.1.0).step, record { answers = refl; gives = ap (λ (y : Stepped). y.cursor) p }, ap (λ (y : Stepped). y.answer) p)
