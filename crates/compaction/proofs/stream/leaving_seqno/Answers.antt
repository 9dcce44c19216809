-- Each return is a case of the test.
use Rattle.compaction.proofs.Writing.{l-plain, l-zero, l-high}
use Rattle.compaction.proofs.stream.leaving_seqno.Goals as goal
use Rattle.compaction.proofs.stream.leaving_seqno.Goals.{else-job-via-then-job+else-seqno-job, else-job-via-else-job}

pub returns-then-seqno-job : goal.returns-then-seqno-job
returns-then-seqno-job c = l-zero c.args.job c.args.seqno c.if-job.true c.if-seqno-job.true

pub returns : goal.returns
returns c =
    let a = c.args in
    elim c.else-job.branch [
      | else-job-via-then-job+else-seqno-job w ↦ l-high a.job a.seqno w.if-seqno-job.false
      | else-job-via-else-job w ↦ l-plain a.job a.seqno w.if-job.false
    ]
