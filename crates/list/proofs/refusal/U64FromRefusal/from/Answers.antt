-- Each name has its number: one arm a name.
use Rattle.list.specs.Refusal.{number_of}
use Rattle.list.proofs.refusal.U64FromRefusal.from.Goals as goal

pub returns-in-Truncated : goal.returns-in-Truncated
unfolding number_of
returns-in-Truncated c = rw c.in-Truncated.is

pub returns-in-BadMark : goal.returns-in-BadMark
unfolding number_of
returns-in-BadMark c = rw c.in-BadMark.is

pub returns-in-BadVersion : goal.returns-in-BadVersion
unfolding number_of
returns-in-BadVersion c = rw c.in-BadVersion.is

pub returns-in-EmptyKey : goal.returns-in-EmptyKey
unfolding number_of
returns-in-EmptyKey c = rw c.in-EmptyKey.is

pub returns-in-LongKey : goal.returns-in-LongKey
unfolding number_of
returns-in-LongKey c = rw c.in-LongKey.is

pub returns-in-BadTag : goal.returns-in-BadTag
unfolding number_of
returns-in-BadTag c = rw c.in-BadTag.is

pub returns-in-Disorder : goal.returns-in-Disorder
unfolding number_of
returns-in-Disorder c = rw c.in-Disorder.is

pub returns-in-Excess : goal.returns-in-Excess
unfolding number_of
returns-in-Excess c = rw c.in-Excess.is

pub returns-in-TooLarge : goal.returns-in-TooLarge
unfolding number_of
returns-in-TooLarge c = rw c.in-TooLarge.is

pub returns-in-NoRoom : goal.returns-in-NoRoom
unfolding number_of
returns-in-NoRoom c = rw c.in-NoRoom.is

pub returns-in-Unfit : goal.returns-in-Unfit
unfolding number_of
returns-in-Unfit c = rw c.in-Unfit.is

pub returns-in-BadVerdict : goal.returns-in-BadVerdict
unfolding number_of
returns-in-BadVerdict c = rw c.in-BadVerdict.is
